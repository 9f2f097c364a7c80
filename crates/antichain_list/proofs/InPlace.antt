-- A walk that moves the picked elements of a list to its start.
use Rattle.std.proofs.Common.{◌≡◌, ℕ, ◌+◌, ◌<◌, ◌≤◌, List, [], ◌∷◌, ◌++◌, length, take, drop, set, get_or, Some, ap, sym, ◌∙◌, arith, subst}
use Rattle.std.specs.List.{All, slice_get}
use Rattle.std.proofs.lemmas.List.{length-set, drop-set-lt, take_more_set, get_or-drop}
use Rattle.std.proofs.lemmas.Grind.{drop_more_same}
use Rattle.std.proofs.lemmas.Option.{slice_get-get_or}
use Rattle.tuple_model.specs.Minimal.{Picks}
use Rattle.tuple_model.proofs.Picking.{Picks-take_kept, Picks-take_skipped}

-- What is picked of the first elements stands in the first places, and from there on the list is as it was.
pub record PicksInPlace {X : Type 0} (P : X → Type 0) (xs ys : List X) (kept place : ℕ) : Type 0 where
  pub picked : Picks P (take place xs) (take kept ys)
  pub rest : drop place ys ≡ drop place xs
  pub within : kept ≤ place
  pub long : length ys ≡ length xs

-- the element at the place is as it was
same_there : {X : Type 0} (P : X → Type 0) (xs ys : List X) (kept place : ℕ) → PicksInPlace P xs ys kept place → (d : X) → get_or ys place d ≡ get_or xs place d
same_there {X} P xs ys kept place h d =
    let z : place + 0 ≡ place = omega arith in
    ap (λ (k : ℕ). get_or ys k d) (sym z)
    ∙ sym (get_or-drop place ys 0 d)
    ∙ ap (λ (zs : List X). get_or zs 0 d) h.rest
    ∙ get_or-drop place xs 0 d
    ∙ ap (λ (k : ℕ). get_or xs k d) z

-- so what holds of each element holds of it
pub All-in_place : {X : Type 0} (P Q : X → Type 0) (xs ys : List X) (kept place : ℕ) (d : X) → PicksInPlace P xs ys kept place → place < length ys → All Q xs → Q (get_or ys place d)
All-in_place P Q xs ys kept place d h l a = subst Q (sym (same_there P xs ys kept place h d)) (a place d (let n = h.long in omega arith))

module _ {X : Type 0} (P : X → Type 0) (xs ys : List X) (kept place : ℕ) (d : X) (h : PicksInPlace P xs ys kept place) (within : place < length ys) where
  element : slice_get xs place ≡ Some (get_or ys place d)
  element = slice_get-get_or xs place d (let l = h.long in omega arith) ∙ ap Some (sym (same_there P xs ys kept place h d))

  pub PicksInPlace-kept : P (get_or ys place d) → PicksInPlace P xs (set ys kept (get_or ys place d)) (kept + 1) (place + 1)
  PicksInPlace-kept p =
      let x = get_or ys place d in
      let e : take (kept + 1) (set ys kept x) ≡ take kept ys ++ x ∷ [] = take_more_set ys kept x (let l = h.within in omega arith) in
      let Q : List X → Type 0 = λ zs. Picks P (take (place + 1) xs) zs in
      record {
        picked = subst Q (sym e) (Picks-take_kept P xs (take kept ys) place x element h.picked p);
        rest = drop-set-lt (place + 1) ys kept x (let l = h.within in omega arith) ∙ drop_more_same ys xs place h.rest;
        within = let l = h.within in omega arith;
        long = length-set ys kept x ∙ h.long;
      }

  pub PicksInPlace-skipped : (P (get_or ys place d) → ⊥) → PicksInPlace P xs ys kept (place + 1)
  PicksInPlace-skipped n = record {
    picked = Picks-take_skipped P xs (take kept ys) place (get_or ys place d) element h.picked n;
    rest = drop_more_same ys xs place h.rest;
    within = let l = h.within in omega arith;
    long = h.long;
  }
