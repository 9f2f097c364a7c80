-- Lists in which each element stands once.
use Rattle.std.proofs.Common.{◌≡◌, ◌≢◌, ◌↔◌, ◌⊎◌, Bool, List, [], ◌∷◌, ◌++◌, length, refl, ap, sym, inl, inr, arith, subst, Contains, length-append}
use Rattle.std.specs.List.{AllPairs, filter}
use Rattle.std.proofs.lemmas.List.Elements.{All-contains, All-contains_itself, All-filter, Contains-get_or}
use Rattle.std.proofs.lemmas.List.Kept.{AllPairs-cons}
use Rattle.list_laws.proofs.Members.{Contains-cons_head, Contains-cons_tail, Contains-cons_cases, AllPairs-head, AllPairs-tail}

-- each element stands once
abbrev pub Once : {X : Type 0} → List X → Type 0
Once {X} xs = AllPairs (λ (a b : X). a ≢ b) xs

-- nothing stands in the empty list
pub Contains-nil : {X : Type 0} (x : X) → Contains [] x → ⊥
Contains-nil x h = absurd (omega (arith, h.1))

-- what is kept of a list stood in it
pub Contains-from_filter : {X : Type 0} (p : X → Bool) (xs : List X) (x : X) → Contains (filter p xs) x → Contains xs x
Contains-from_filter p xs x h = All-contains (Contains xs) (filter p xs) x (All-filter p (Contains xs) xs (All-contains_itself xs)) h

-- the first element isn't among the others
pub Once-head : {X : Type 0} (x : X) (xs : List X) → Once (x ∷ xs) → Contains xs x → ⊥
Once-head {X} x xs once h = All-contains (λ z. x ≢ z) xs x (AllPairs-head (λ (a b : X). a ≢ b) x xs once) h refl

-- the others stand once
pub Once-tail : {X : Type 0} (x : X) (xs : List X) → Once (x ∷ xs) → Once xs
Once-tail {X} x xs once = AllPairs-tail (λ (a b : X). a ≢ b) x xs once

-- a new element may stand before the others
pub Once-cons : {X : Type 0} (x : X) (xs : List X) → (Contains xs x → ⊥) → Once xs → Once (x ∷ xs)
Once-cons {X} x xs new once =
    AllPairs-cons (λ (a b : X). a ≢ b) x xs (λ k d l e. new (subst (Contains xs) (sym e) (Contains-get_or xs k d l))) once

-- the empty list and a list of one element
pub Once-nil : {X : Type 0} → Once {X = X} []
Once-nil i j d l m = absurd (omega (arith, m))

pub Once-single : {X : Type 0} (x : X) → Once (x ∷ [])
Once-single x = Once-cons x [] (Contains-nil x) Once-nil

-- an element splits its list
pub Contains-split : {X : Type 0} (xs : List X) (x : X) → Contains xs x → (front : List X) × (back : List X) × (xs ≡ front ++ x ∷ back)
Contains-split [] x h = absurd (Contains-nil x h)
Contains-split {X} (y ∷ xs) x h = elim (Contains-cons_cases y xs x h) [
  | inl e ↦ ([], xs, ap (λ (w : X). w ∷ xs) e)
  | inr k ↦ let r = Contains-split xs x k in (y ∷ r.0, r.1, ap (λ (w : List X). y ∷ w) r.2)
]

-- an element more loses no member
pub Contains-middle : {X : Type 0} (front : List X) (x : X) (back : List X) (y : X) → Contains (front ++ back) y → Contains (front ++ x ∷ back) y
Contains-middle [] x back y h = Contains-cons_tail x back y h
Contains-middle {X} (z ∷ front) x back y h = elim (Contains-cons_cases z (front ++ back) y h) [
  | inl e ↦ subst (Contains (z ∷ front ++ x ∷ back)) e (Contains-cons_head z (front ++ x ∷ back))
  | inr k ↦ Contains-cons_tail z (front ++ x ∷ back) y (Contains-middle front x back y k)
]

-- the element in the middle is a member
pub Contains-middle_itself : {X : Type 0} (front : List X) (x : X) (back : List X) → Contains (front ++ x ∷ back) x
Contains-middle_itself [] x back = Contains-cons_head x back
Contains-middle_itself (z ∷ front) x back = Contains-cons_tail z (front ++ x ∷ back) x (Contains-middle_itself front x back)

-- a member is the element in the middle or one of the others
pub Contains-middle_cases : {X : Type 0} (front : List X) (x : X) (back : List X) (y : X) → Contains (front ++ x ∷ back) y → (x ≡ y) ⊎ Contains (front ++ back) y
Contains-middle_cases [] x back y h = Contains-cons_cases x back y h
Contains-middle_cases {X} (z ∷ front) x back y h = elim (Contains-cons_cases z (front ++ x ∷ back) y h) [
  | inl e ↦ inr (subst (Contains (z ∷ front ++ back)) e (Contains-cons_head z (front ++ back)))
  | inr k ↦ elim (Contains-middle_cases front x back y k) [ inl e ↦ inl e | inr m ↦ inr (Contains-cons_tail z (front ++ back) y m) ]
]

-- without one of its elements a list has the others once, and that one no more
pub Once-middle : {X : Type 0} (front : List X) (x : X) (back : List X) → Once (front ++ x ∷ back) → Once (front ++ back) × (Contains (front ++ back) x → ⊥)
Once-middle [] x back once = (Once-tail x back once, Once-head x back once)
Once-middle {X} (z ∷ front) x back once =
    let i = Once-middle front x back (Once-tail z (front ++ x ∷ back) once) in
    let new = Once-head z (front ++ x ∷ back) once in (
      Once-cons z (front ++ back) (λ h. new (Contains-middle front x back z h)) i.0,
      (λ h. elim (Contains-cons_cases z (front ++ back) x h) [
        | inl e ↦ new (subst (Contains (front ++ x ∷ back)) (sym e) (Contains-middle_itself front x back))
        | inr k ↦ i.1 k
      ]),
    )

-- two lists without repeats of the same elements are equally long
pub length-same : {X : Type 0} (xs ys : List X) → Once xs → Once ys → ((x : X) → Contains xs x ↔ Contains ys x) → length xs ≡ length ys
length-same [] [] once once' same = refl
length-same [] (y ∷ ys) once once' same = absurd (Contains-nil y ((same y).1 (Contains-cons_head y ys)))
length-same {X} (x ∷ xs) ys once once' same =
    let r = Contains-split ys x ((same x).0 (Contains-cons_head x xs)) in
    let m = Once-middle r.0 x r.1 (subst (λ (w : List X). Once w) r.2 once') in
    let new = Once-head x xs once in
    let to : (y : X) → Contains xs y → Contains (r.0 ++ r.1) y = λ y h.
    elim (Contains-middle_cases r.0 x r.1 y (subst (λ (w : List X). Contains w y) r.2 ((same y).0 (Contains-cons_tail x xs y h)))) [
      | inl e ↦ absurd (new (subst (Contains xs) (sym e) h))
      | inr k ↦ k
    ] in
    let back : (y : X) → Contains (r.0 ++ r.1) y → Contains xs y = λ y h.
    elim (Contains-cons_cases x xs y ((same y).1 (subst (λ (w : List X). Contains w y) (sym r.2) (Contains-middle r.0 x r.1 y h)))) [
      | inl e ↦ absurd (m.1 (subst (Contains (r.0 ++ r.1)) (sym e) h))
      | inr k ↦ k
    ] in
    let i = length-same xs (r.0 ++ r.1) (Once-tail x xs once) m.0 (λ y. (to y, back y)) in
    let l = ap length r.2 in
    let l' = length-append r.0 (x ∷ r.1) in
    let l'' = length-append r.0 r.1 in
    omega arith
