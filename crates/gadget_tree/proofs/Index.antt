-- Numbers of variables by their names.
use Rattle.std.proofs.Common.{◌≡◌, ◌+◌, ℕ, suc, Bool, true, false, cond, not, ◌||◌, List, [], ◌∷◌, length, Option, Some, None, is_some, IfSome, refl, sym, ◌∙◌, arith, ltb}
use Rattle.std.specs.Prelude.{unwrap_or}
use Rattle.std.specs.List.{list_any, position_or_len}
use Rattle.std.specs.Str.{bytes_eq}
use Rattle.std.proofs.Math.Numerals.{one-add}
use Rattle.std.proofs.lemmas.List.Sums.{prefix_len-le-length}
use Rattle.std.proofs.lemmas.Bool.{lt-ltb, ltb-false}
use Rattle.std.proofs.lemmas.Bool.Decides.{nat_tests}
use Rattle.gadget_model.specs.Circuit.{Variable}
use Rattle.gadget_tree.specs.Variables.{names_of, is_among, place_of}
use Rattle.gadget_tree.proofs.Names.{length-names_of}

ltb-suc : (a b : ℕ) → ltb (suc a) (suc b) ≡ ltb a b
ltb-suc a b = grind (arith, nat_tests)

-- the first place is within the list exactly where some element passes
place-below : {X : Type 0} (p : X → Bool) (xs : List X) → ltb (position_or_len p xs) (length xs) ≡ list_any p xs
place-below p [] = refl
place-below p (x ∷ xs) = by_cases (p x) (place-below p xs) where
  by_cases : (b : Bool) → ltb (position_or_len p xs) (length xs) ≡ list_any p xs → ltb (cond (not b) (1 + position_or_len p xs) 0) (suc (length xs)) ≡ (b || list_any p xs)
  by_cases true e = lt-ltb 0 (suc (length xs)) (omega arith)
  by_cases false e = rw one-add (ltb-suc (position_or_len p xs) (length xs) ∙ e)

-- the place that was found, or how many variables there are
pub place-found : (now : List Variable) (name : List ℕ) (r : Option ℕ) (n : ℕ) → is_some r ≡ is_among (names_of now) name → IfSome r (λ k. k ≡ place_of (names_of now) name) → n ≡ length now →
    unwrap_or r n ≡ place_of (names_of now) name
place-found now name (Some k) n e f g = f
place-found now name None n e f g =
    let names = names_of now in
    let h = ltb-false (position_or_len (bytes_eq name) names) (length names) (place-below (bytes_eq name) names ∙ sym e) in
    let k = prefix_len-le-length (λ x. not (bytes_eq name x)) names in
    let m = length-names_of now in
    omega arith
