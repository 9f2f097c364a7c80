-- Which lists `sets_of_size` lists, and that it lists each once, for any elements.
use Rattle.std.proofs.Common.{◌≡◌, ℕ, zero, suc, List, [], ◌∷◌, map, length, Contains, refl, ap, sym, ◌∙◌, inl, inr, arith, subst}
use Rattle.std.specs.List.{AllPairs}
use Rattle.std.proofs.lemmas.List.Elements.{All-contains, All-contains_itself, All-weaker, Contains-append_left, Contains-append_right, Contains-append_cases}
use Rattle.std.proofs.lemmas.List.Kept.{AllPairs-cons}
use Rattle.list_laws.proofs.Members.{Contains-cons_head, Contains-cons_tail, Contains-cons_cases, Contains-map, Contains-from_map, AllPairs-head, AllPairs-tail, AllPairs-append, AllPairs-map}
use Rattle.list_laws.proofs.Once.{Once, Contains-nil, Once-head, Once-tail, Once-nil, Once-single}
use Rattle.wire_counts.specs.Coefficients.{sets_of_size}

-- a listed set has so many elements
pub length-set_of_size : {X : Type 0} (size : ℕ) (xs set : List X) → Contains (sets_of_size size xs) set → length set ≡ size
length-set_of_size {X} zero xs set k = elim (Contains-cons_cases [] [] set k) [
  | inl e ↦ subst (λ (s : List X). length s ≡ 0) e refl
  | inr n ↦ absurd (Contains-nil set n)
]
length-set_of_size (suc size) [] set k = absurd (Contains-nil set k)
length-set_of_size {X} (suc size) (x ∷ xs) set k = elim (Contains-append_cases (map (λ (s : List X). x ∷ s) (sets_of_size size xs)) (sets_of_size (suc size) xs) set k) [
  | inl m ↦
      let r = Contains-from_map (λ (s : List X). x ∷ s) (sets_of_size size xs) set m in
      subst (λ (s : List X). length s ≡ suc size) r.2 (ap suc (length-set_of_size size xs r.0 r.1))
  | inr m ↦ length-set_of_size (suc size) xs set m
]

-- and no others than those of the list
pub member-from_set : {X : Type 0} (size : ℕ) (xs set : List X) → Contains (sets_of_size size xs) set → (x : X) → Contains set x → Contains xs x
member-from_set {X} zero xs set k y h = elim (Contains-cons_cases [] [] set k) [
  | inl e ↦ absurd (Contains-nil y (subst (λ (s : List X). Contains s y) (sym e) h))
  | inr n ↦ absurd (Contains-nil set n)
]
member-from_set (suc size) [] set k y h = absurd (Contains-nil set k)
member-from_set {X} (suc size) (x ∷ xs) set k y h = elim (Contains-append_cases (map (λ (s : List X). x ∷ s) (sets_of_size size xs)) (sets_of_size (suc size) xs) set k) [
  | inl m ↦
      let r = Contains-from_map (λ (s : List X). x ∷ s) (sets_of_size size xs) set m in
      elim (Contains-cons_cases x r.0 y (subst (λ (s : List X). Contains s y) (sym r.2) h)) [
        | inl e ↦ subst (Contains (x ∷ xs)) e (Contains-cons_head x xs)
        | inr l ↦ Contains-cons_tail x xs y (member-from_set size xs r.0 r.1 y l)
      ]
  | inr m ↦ Contains-cons_tail x xs y (member-from_set (suc size) xs set m y h)
]

-- each once, where the elements stand once
pub Once-sets_of_size : {X : Type 0} (size : ℕ) (xs : List X) → Once xs → Once (sets_of_size size xs)
Once-sets_of_size zero xs once = Once-single []
Once-sets_of_size (suc size) [] once = Once-nil
Once-sets_of_size {X} (suc size) (x ∷ xs) once =
    AllPairs-append (λ (a b : List X). a ≡ b → ⊥) (map (λ (s : List X). x ∷ s) (sets_of_size size xs)) (sets_of_size (suc size) xs)
    (AllPairs-map (λ (a b : List X). a ≡ b → ⊥) (λ (a b : List X). a ≡ b → ⊥) (λ (s : List X). x ∷ s) (λ a b n e. n (tails a b e))
    (sets_of_size size xs) (Once-sets_of_size size xs (Once-tail x xs once)))
    (Once-sets_of_size (suc size) xs (Once-tail x xs once))
    (λ a b k l e.
    let r = Contains-from_map (λ (s : List X). x ∷ s) (sets_of_size size xs) a k in
    let has : Contains b x = subst (λ (s : List X). Contains s x) (r.2 ∙ e) (Contains-cons_head x r.0) in
    Once-head x xs once (member-from_set (suc size) xs b l x has)) where
      tails : (a b : List X) → x ∷ a ≡ x ∷ b → a ≡ b
      tails a b e = cc

-- lists whose elements are in the order of a relation, which holds in one direction only
module _ {X : Type 0} (R : X → X → Type 0) where
  -- a listed set is in the order of the list
  pub AllPairs-set_of_size : (size : ℕ) (xs set : List X) → AllPairs R xs → Contains (sets_of_size size xs) set → AllPairs R set
  AllPairs-set_of_size zero xs set a k = elim (Contains-cons_cases [] [] set k) [
    | inl e ↦ subst (AllPairs R) e (λ i j d l m. absurd (omega arith))
    | inr n ↦ absurd (Contains-nil set n)
  ]
  AllPairs-set_of_size (suc size) [] set a k = absurd (Contains-nil set k)
  AllPairs-set_of_size (suc size) (x ∷ xs) set a k = elim (Contains-append_cases (map (λ (s : List X). x ∷ s) (sets_of_size size xs)) (sets_of_size (suc size) xs) set k) [
    | inl m ↦
        let r = Contains-from_map (λ (s : List X). x ∷ s) (sets_of_size size xs) set m in
        subst (AllPairs R) r.2 (AllPairs-cons R x r.0
        (All-weaker (Contains r.0) (R x) (λ y h. All-contains (R x) xs y (AllPairs-head R x xs a) (member-from_set size xs r.0 r.1 y h)) r.0 (All-contains_itself r.0))
        (AllPairs-set_of_size size xs r.0 (AllPairs-tail R x xs a) r.1))
    | inr m ↦ AllPairs-set_of_size (suc size) xs set (AllPairs-tail R x xs a) m
  ]

  -- so many elements of the list in its order are listed
  pub set_of_size-from_members : ((x y : X) → R x y → R y x → ⊥) → (size : ℕ) (xs set : List X) → AllPairs R xs → AllPairs R set → length set ≡ size →
      ((x : X) → Contains set x → Contains xs x) → Contains (sets_of_size size xs) set
  set_of_size-from_members one_way zero xs [] a b e has = Contains-cons_head [] []
  set_of_size-from_members one_way zero xs (y ∷ set) a b e has = absurd (omega arith)
  set_of_size-from_members one_way (suc size) xs [] a b e has = absurd (omega arith)
  set_of_size-from_members one_way (suc size) [] (y ∷ set) a b e has = absurd (Contains-nil y (has y (Contains-cons_head y set)))
  set_of_size-from_members one_way (suc size) (x ∷ xs) (y ∷ set) a b e has = elim (Contains-cons_cases x xs y (has y (Contains-cons_head y set))) [
    | inl same ↦
        let later : (z : X) → Contains set z → Contains xs z = λ z h. elim (Contains-cons_cases x xs z (has z (Contains-cons_tail y set z h))) [
          | inl f ↦
              let r : R x x = subst (R x) (sym f) (subst (λ (w : X). R w z) (sym same) (All-contains (R y) set z (AllPairs-head R y set b) h)) in
              absurd (one_way x x r r)
          | inr l ↦ l
        ] in
        Contains-append_left (map (λ (s : List X). x ∷ s) (sets_of_size size xs)) (sets_of_size (suc size) xs) (y ∷ set)
        (subst (λ (w : X). Contains (map (λ (s : List X). x ∷ s) (sets_of_size size xs)) (w ∷ set)) same
        (Contains-map (λ (s : List X). x ∷ s) (sets_of_size size xs) set
        (set_of_size-from_members one_way size xs set (AllPairs-tail R x xs a) (AllPairs-tail R y set b) (omega arith) later)))
    | inr in_rest ↦
        let first : R x y = All-contains (R x) xs y (AllPairs-head R x xs a) in_rest in
        let later : (z : X) → Contains (y ∷ set) z → Contains xs z = λ z h. elim (Contains-cons_cases x xs z (has z h)) [
          | inl f ↦ elim (Contains-cons_cases y set z h) [
            | inl g ↦ absurd (let r : R x x = subst (R x) (g ∙ sym f) first in one_way x x r r)
            | inr l ↦ absurd (one_way x y first (subst (R y) (sym f) (All-contains (R y) set z (AllPairs-head R y set b) l)))
          ]
          | inr l ↦ l
        ] in
        Contains-append_right (map (λ (s : List X). x ∷ s) (sets_of_size size xs)) (sets_of_size (suc size) xs) (y ∷ set)
        (set_of_size-from_members one_way (suc size) xs (y ∷ set) (AllPairs-tail R x xs a) b e later)
  ]
