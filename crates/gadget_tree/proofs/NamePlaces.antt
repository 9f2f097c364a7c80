-- The places of names in a list that goes on, and in a list of names that differ.
use Rattle.std.proofs.Common.{◌≡◌, ◌<◌, ◌+◌, ℕ, true, false, cond, eqb, List, ◌++◌, length, get_or, ap, ◌∙◌, sym, inl, inr, arith}
use Rattle.std.specs.Prelude.{not}
use Rattle.std.specs.Str.{bytes_eq}
use Rattle.std.proofs.lemmas.Bool.{cases_lt, ne_eqb}
use Rattle.std.proofs.lemmas.List.Elements.{Contains-get_or}
use Rattle.std.proofs.lemmas.List.Folds.{prefix_len-append}
use Rattle.gadget_tree.specs.Variables.{is_among, place_of, AreDistinct}
use Rattle.gadget_tree.proofs.Names.{contains_among, place_below, name_at_place}
use Rattle.gadget_tree.proofs.Numbered.{AllFrom, AllFrom-from_get_or}

-- a name that stands keeps its place where more names come after
pub place_of-append_left : (names more : List (List ℕ)) (w : List ℕ) → is_among names w ≡ true → place_of (names ++ more) w ≡ place_of names w
place_of-append_left names more w e =
    let l = place_below names w e in
    let p = prefix_len-append (λ name. not (bytes_eq w name)) names more in
    let apart : eqb (place_of names w) (length names) ≡ false = ne_eqb (place_of names w) (length names) (λ same. absurd (omega arith)) in
    p ∙ ap (λ b. cond b (length names + place_of more w) (place_of names w)) apart

-- where names differ, each has the place at which it stands
pub place_of-get_or : (names : List (List ℕ)) (k : ℕ) (d : List ℕ) → AreDistinct names → k < length names → place_of names (get_or names k d) ≡ k
place_of-get_or names k d distinct l =
    let w = get_or names k d in
    let stands = contains_among names w (Contains-get_or names k d l) in
    let below = place_below names w stands in
    let at : get_or names (place_of names w) d ≡ get_or names k d = name_at_place names w d stands in
    elim (cases_lt (place_of names w) k) [
      | inl less ↦ absurd (distinct (place_of names w) k d less l at)
      | inr reached ↦ elim (cases_lt k (place_of names w)) [
        | inl more ↦ absurd (distinct k (place_of names w) d more below (sym at))
        | inr same ↦ omega arith
      ]
    ]

-- so each of them has its number for its place
pub distinct_places : (names : List (List ℕ)) → AreDistinct names → AllFrom (λ k w. place_of names w ≡ k) 0 names
distinct_places names distinct =
    AllFrom-from_get_or (λ k w. place_of names w ≡ k) 0 names
    (λ k d l. place_of-get_or names k d distinct l ∙ (let e : k ≡ 0 + k = omega arith in e))
