-- The names that a line makes are new, one after the other.
use Rattle.std.proofs.Common.{◌≡◌, ◌≤◌, ◌<◌, ◌+◌, ◌-◌, ℕ, suc, true, false, not, ◌||◌, List, [], ◌∷◌, ◌++◌, length, length-append, drop, get_or, drop-cons, refl, sym, ap, ◌∙◌, arith, eqb, ◌⊎◌, inl, inr}
use Rattle.std.specs.List.{list_any}
use Rattle.std.proofs.lemmas.Bool.{and_parts, not-true, or_parts, or_from, eq-eqb, ne_eqb, cond-true, cond-false, cases_eq}
use Rattle.std.proofs.lemmas.List.{get_or-append_right}
use Rattle.std.proofs.Math.ListN.{get_or-append}
use Rattle.std.proofs.lemmas.List.Folds.{list_any-append}
use Rattle.std.proofs.lemmas.List.FromFn.{length-map-range_with_len, get_or-map-range_with_len}
use Rattle.gadget_tree.specs.Variables.{is_among, are_distinct}
use Rattle.gadget_tree.specs.Operations.{inner_name}
use Rattle.gadget_tree.specs.Made.{inner_names, names_made, name_made}
use Rattle.gadget_tree.proofs.InnerNames.{names_apart}
use Rattle.gadget_tree.proofs.Names.{test_from_distinct}
use Rattle.gadget_tree.proofs.TakenNames.{swapped}

-- each name is new where those before it stand for something too
abbrev pub AreNew : List (List ℕ) → List (List ℕ) → Type 0
AreNew names [] = Unit {0}
AreNew names (n ∷ ns) = (is_among names n ≡ false) × AreNew (names ++ n ∷ []) ns

-- names that differ, of which none is taken, are new
new-from_distinct : (names ns : List (List ℕ)) → are_distinct ns ≡ true → list_any (is_among names) ns ≡ false → AreNew names ns
new-from_distinct names [] d e = tt
new-from_distinct names (n ∷ ns) d e =
    let p = or_parts (is_among names n) (list_any (is_among names) ns) e in
    let q = and_parts (not (is_among ns n)) (are_distinct ns) d in
    let apart = not-true (is_among ns n) q.0 in
    let more = swapped (names ++ n ∷ []) ns
    ∙ list_any-append (is_among ns) names (n ∷ [])
    ∙ or_from (list_any (is_among ns) names) (is_among ns n || false) (swapped ns names ∙ p.1) (or_from (is_among ns n) false apart refl) in
    (p.0, new-from_distinct (names ++ n ∷ []) ns q.1 more)

-- the names that a line makes are new where none is taken
pub made-new : (names : List (List ℕ)) (x : List ℕ) (count : ℕ) → count < 1000 → list_any (is_among names) (names_made x count) ≡ false → AreNew names (names_made x count)
made-new names x count few e = new-from_distinct names (names_made x count) (test_from_distinct (names_made x count) (names_apart x (count - 1) (omega arith))) e

-- how many they are
length-names_made : (x : List ℕ) (count : ℕ) → 1 ≤ count → length (names_made x count) ≡ count
length-names_made x count l = omega (arith, length-append (inner_names x count) (x ∷ []), length-map-range_with_len (inner_name x) 1 (count - 1))

-- the name at a place
names-at : (x : List ℕ) (count k : ℕ) → k < count → get_or (names_made x count) k [] ≡ name_made x count (k + 1)
names-at x count k l = by_cases (cases_eq (k + 1) count) where
  at-end : k + 1 ≡ count → get_or (names_made x count) k [] ≡ x
  at-end e =
      let z : k - (count - 1) ≡ 0 = omega (arith, e) in
      get_or-append_right (inner_names x count) (x ∷ []) (count - 1) k [] (length-map-range_with_len (inner_name x) 1 (count - 1)) (omega (arith, e)) ∙ ap (λ (i : ℕ). get_or (x ∷ []) i []) z

  before : (k + 1 ≡ count → ⊥) → get_or (names_made x count) k [] ≡ inner_name x (k + 1)
  before ne =
      get_or-append (inner_names x count) (x ∷ []) [] k (omega (arith, ne, l, length-map-range_with_len (inner_name x) 1 (count - 1)))
      ∙ get_or-map-range_with_len (inner_name x) 1 (count - 1) k (k + 1) [] (omega (arith, ne, l)) (omega arith)

  by_cases : ((k + 1 ≡ count) ⊎ (k + 1 ≡ count → ⊥)) → get_or (names_made x count) k [] ≡ name_made x count (k + 1)
  by_cases (inl e) = at-end e ∙ sym (cond-true (eqb (k + 1) count) x (inner_name x (k + 1)) (eq-eqb (k + 1) count e))
  by_cases (inr ne) = before ne ∙ sym (cond-false (eqb (k + 1) count) x (inner_name x (k + 1)) (ne_eqb (k + 1) count ne))

-- the next name
pub names-drop : (x : List ℕ) (count k : ℕ) → k < count → drop k (names_made x count) ≡ name_made x count (k + 1) ∷ drop (k + 1) (names_made x count)
names-drop x count k l =
    let more : suc k ≡ k + 1 = omega arith in
    drop-cons (names_made x count) k [] (omega (arith, l, length-names_made x count (omega arith)))
    ∙ ap (λ (n : List ℕ). n ∷ drop (suc k) (names_made x count)) (names-at x count k l) ∙ ap (λ (i : ℕ). name_made x count (k + 1) ∷ drop i (names_made x count)) more
