-- Names among others: the tests and the facts.
use Rattle.std.proofs.Common.{◌≡◌, ◌<◌, ◌+◌, ℕ, suc, Bool, true, false, cond, not, ◌||◌, List, [], ◌∷◌, ◌++◌, length, length-append, get_or, drop, drop-cons, refl, sym, ap, ◌∙◌, subst, inl, inr, arith, Contains}
use Rattle.std.specs.Str.{bytes_eq}
use Rattle.std.proofs.lemmas.Bool.{and_parts, and_from, or_cases, or_left, or_right, not-true, not_from_false, false_from_ne_true}
use Rattle.std.proofs.lemmas.List.{length-map, get_or_append_left, get_or_at}
use Rattle.std.proofs.lemmas.Slice.Eq.{bytes_eq-Decides}
use Rattle.gadget_model.specs.Circuit.{Variable}
use Rattle.list_laws.proofs.Members.{Contains-cons_head, Contains-cons_tail, Contains-cons_cases}
use Rattle.list_laws.proofs.Once.{Contains-nil, Once-nil, Once-cons, Once-head, Once-tail}
use Rattle.gadget_tree.specs.Variables.{names_of, name_at, is_among, place_of, are_distinct, AreDistinct}

-- a name that passes the test is among the names
pub among_contains : (names : List (List ℕ)) (w : List ℕ) → is_among names w ≡ true → Contains names w
among_contains [] w e = absurd cc
among_contains (name ∷ names) w e = elim (or_cases (bytes_eq w name) (is_among names w) e) [
  | inl same ↦ subst (Contains (name ∷ names)) (sym ((bytes_eq-Decides w name).0 same)) (Contains-cons_head name names)
  | inr f ↦ Contains-cons_tail name names w (among_contains names w f)
]

-- a name among the names passes the test
pub contains_among : (names : List (List ℕ)) (w : List ℕ) → Contains names w → is_among names w ≡ true
contains_among [] w h = absurd (Contains-nil w h)
contains_among (name ∷ names) w h = elim (Contains-cons_cases name names w h) [
  | inl same ↦ or_left (bytes_eq w name) (is_among names w) ((bytes_eq-Decides w name).1 (sym same))
  | inr k ↦ or_right (bytes_eq w name) (is_among names w) (contains_among names w k)
]

-- a name that is none of the names doesn't pass the test
pub is_among-false : (names : List (List ℕ)) (w : List ℕ) → (Contains names w → ⊥) → is_among names w ≡ false
is_among-false names w h = false_from_ne_true (is_among names w) (λ found. h (among_contains names w found))

-- names that pass the test differ
pub distinct_from_test : (names : List (List ℕ)) → are_distinct names ≡ true → AreDistinct names
distinct_from_test [] e = Once-nil
distinct_from_test (name ∷ names) e =
    let h = and_parts (not (is_among names name)) (are_distinct names) e in
    let new = not-true (is_among names name) h.0 in
    Once-cons name names (λ k. let found = contains_among names name k in absurd cc) (distinct_from_test names h.1)

-- names that differ pass the test
pub test_from_distinct : (names : List (List ℕ)) → AreDistinct names → are_distinct names ≡ true
test_from_distinct [] h = refl
test_from_distinct (name ∷ names) h =
    let new : is_among names name ≡ false = false_from_ne_true (is_among names name) (λ found. Once-head name names h (among_contains names name found)) in
    and_from (not (is_among names name)) (are_distinct names) (not_from_false (is_among names name) new) (test_from_distinct names (Once-tail name names h))

-- a name among the names has a place
pub place_below : (names : List (List ℕ)) (w : List ℕ) → is_among names w ≡ true → place_of names w < length names
place_below [] w e = absurd cc
place_below (name ∷ names) w e = by_cases (bytes_eq w name) e (place_below names w) where
  by_cases : (b : Bool) → b || is_among names w ≡ true → (is_among names w ≡ true → place_of names w < length names) → cond (not b) (1 + place_of names w) 0 < length (name ∷ names)
  by_cases true f ih = omega arith
  by_cases false f ih = let l = ih f in omega arith

-- at the place of a name stands the name
pub name_at_place : (names : List (List ℕ)) (w d : List ℕ) → is_among names w ≡ true → get_or names (place_of names w) d ≡ w
name_at_place [] w d e = absurd cc
name_at_place (name ∷ names) w d e = by_cases (bytes_eq w name) refl e (name_at_place names w d) where
  by_cases : (b : Bool) → bytes_eq w name ≡ b → b || is_among names w ≡ true → (is_among names w ≡ true → get_or names (place_of names w) d ≡ w) → get_or (name ∷ names) (cond (not b) (1 + place_of names w) 0) d ≡ w
  by_cases true same f ih = sym ((bytes_eq-Decides w name).0 same)
  by_cases false other f ih = ap (λ k. get_or (name ∷ names) k d) (let e : 1 + place_of names w ≡ suc (place_of names w) = omega arith in e) ∙ ih f

pub length-names_of : (vs : List Variable) → length (names_of vs) ≡ length vs
length-names_of vs = length-map vs (λ (v : Variable). v.name)

-- the same of variables
pub place_of_variable : (vs : List Variable) (w : List ℕ) → is_among (names_of vs) w ≡ true → place_of (names_of vs) w < length vs
place_of_variable vs w e = let l = place_below (names_of vs) w e in let n = length-names_of vs in omega arith

pub name_at-place_of : (vs : List Variable) (w : List ℕ) → is_among (names_of vs) w ≡ true → name_at vs (place_of (names_of vs) w) ≡ w
name_at-place_of vs w e = name_at_place (names_of vs) w [] e

-- names with different places
pub place_once : (names : List (List ℕ)) (v w : List ℕ) → is_among names v ≡ true → is_among names w ≡ true → place_of names v ≡ place_of names w → v ≡ w
place_once names v w e f same = sym (name_at_place names v [] e) ∙ ap (λ k. get_or names k []) same ∙ name_at_place names w [] f

-- a name that stands at a place is among those from there on
pub among_here : (names : List (List ℕ)) (k : ℕ) (w d : List ℕ) → k < length names → get_or names k d ≡ w → is_among (drop k names) w ≡ true
among_here names k w d l e =
    ap (λ (z : List (List ℕ)). is_among z w) (drop-cons names k d l)
    ∙ or_left (bytes_eq w (get_or names k d)) (is_among (drop (suc k) names) w) ((bytes_eq-Decides w (get_or names k d)).1 (sym e))

-- where another stands there, it is among those from there on exactly where it is among those after
pub among_behind : (names : List (List ℕ)) (k : ℕ) (w d : List ℕ) → k < length names → (get_or names k d ≡ w → ⊥) → is_among (drop (k + 1) names) w ≡ is_among (drop k names) w
among_behind names k w d l other =
    let differs : bytes_eq w (get_or names k d) ≡ false = false_from_ne_true (bytes_eq w (get_or names k d)) (λ same. other (sym ((bytes_eq-Decides w (get_or names k d)).0 same))) in
    let next : k + 1 ≡ suc k = omega arith in
    ap (λ (n : ℕ). is_among (drop n names) w) next
    ∙ sym (ap (λ (z : List (List ℕ)). is_among z w) (drop-cons names k d l) ∙ ap (λ (b : Bool). b || is_among (drop (suc k) names) w) differs)

-- a name in the middle of names that differ is none of those before it
pub AreDistinct-middle : (names : List (List ℕ)) (name : List ℕ) (others : List (List ℕ)) → AreDistinct (names ++ name ∷ others) → Contains names name → ⊥
AreDistinct-middle names name others h k =
    h k.0 (length names) name k.1 (omega (arith, length-append names (name ∷ others)))
    (get_or_append_left names (name ∷ others) name k.0 k.1 ∙ k.2 ∙ sym (get_or_at names name others name (length names) refl))

-- the same by the tests
pub fresh_between : (names others : List (List ℕ)) (w : List ℕ) → are_distinct (names ++ w ∷ others) ≡ true → is_among names w ≡ false
fresh_between names others w e =
    false_from_ne_true (is_among names w) (λ found. AreDistinct-middle names w others (distinct_from_test (names ++ w ∷ others) e) (among_contains names w found))
