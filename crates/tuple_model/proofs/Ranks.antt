-- The rank of a tuple, its place in the list of all: each tuple has one, and of two tuples the one that comes before has the lower.
use Rattle.std.proofs.Common.{◌≡◌, ℕ, zero, suc, ◌+◌, ◌-◌, ◌<◌, ◌≤◌, ◌⊎◌, List, [], ◌∷◌, ◌++◌, length, Some, refl, ap, sym, ◌∙◌, inl, inr, arith, subst, Contains, get_or}
use Rattle.std.specs.List.{slice_get}
use Rattle.std.proofs.lemmas.Bool.{cases_lt}
use Rattle.std.proofs.lemmas.Option.{slice_get_within, get_or_from_slice_get, slice_get_read, slice_get-get_or}
use Rattle.tuple_model.specs.Tuples.{IsTuple, ComesFirst, IsBefore, rising, tuples}
use Rattle.tuple_model.proofs.Rising.{IsTuple-from_member, member-from_IsTuple, tuples-ordered}

pub member-from_slice_get : {X : Type 0} (xs : List X) (k : ℕ) (x : X) → slice_get xs k ≡ Some x → Contains xs x
member-from_slice_get xs k x e = (k, slice_get_within xs k x e, get_or_from_slice_get xs k x x e)

pub slice_get-from_member : {X : Type 0} (xs : List X) (x : X) → Contains xs x → (k : ℕ) × (slice_get xs k ≡ Some x)
slice_get-from_member xs x h = (h.0, slice_get_read xs (length xs) h.0 x refl h.1 (sym h.2))

pub IsTuple-from_rank : (items size rank : ℕ) (t : List ℕ) → slice_get (tuples items size) rank ≡ Some t → IsTuple items size t
IsTuple-from_rank items size rank t e = IsTuple-from_member items size t (member-from_slice_get (tuples items size) rank t e)

pub rank-from_IsTuple : (items size : ℕ) (t : List ℕ) → IsTuple items size t → (rank : ℕ) × (slice_get (tuples items size) rank ≡ Some t)
rank-from_IsTuple items size t h = slice_get-from_member (tuples items size) t (member-from_IsTuple items size t h)

ComesFirst-irreflexive : (t : List ℕ) → ComesFirst t t → ⊥
ComesFirst-irreflexive [] h = h
ComesFirst-irreflexive (x ∷ t) (inl l) = omega arith
ComesFirst-irreflexive (x ∷ t) (inr h) = ComesFirst-irreflexive t h.1

pub IsBefore-irreflexive : (t : List ℕ) → IsBefore t t → ⊥
IsBefore-irreflexive t (inl l) = omega arith
IsBefore-irreflexive t (inr h) = ComesFirst-irreflexive t h.1

ComesFirst-asymmetric : (s t : List ℕ) → ComesFirst s t → ComesFirst t s → ⊥
ComesFirst-asymmetric [] t h k = h
ComesFirst-asymmetric (x ∷ s) [] h k = h
ComesFirst-asymmetric (x ∷ s) (y ∷ t) (inl l) (inl m) = omega arith
ComesFirst-asymmetric (x ∷ s) (y ∷ t) (inl l) (inr k) = let e = k.0 in omega arith
ComesFirst-asymmetric (x ∷ s) (y ∷ t) (inr h) (inl m) = let e = h.0 in omega arith
ComesFirst-asymmetric (x ∷ s) (y ∷ t) (inr h) (inr k) = ComesFirst-asymmetric s t h.1 k.1

pub IsBefore-asymmetric : (s t : List ℕ) → IsBefore s t → IsBefore t s → ⊥
IsBefore-asymmetric s t (inl l) (inl m) = omega arith
IsBefore-asymmetric s t (inl l) (inr k) = let e = k.0 in omega arith
IsBefore-asymmetric s t (inr h) (inl m) = let e = h.0 in omega arith
IsBefore-asymmetric s t (inr h) (inr k) = ComesFirst-asymmetric s t h.1 k.1

-- tuples are ordered as their ranks
pub IsBefore-from_ranks : (items size i j : ℕ) (s t : List ℕ) → slice_get (tuples items size) i ≡ Some s → slice_get (tuples items size) j ≡ Some t →
    i < j → IsBefore s t
IsBefore-from_ranks items size i j s t e f l =
    let o = tuples-ordered items size i j s l (slice_get_within (tuples items size) j t f) in
    let P : List ℕ → Type 0 = λ u. IsBefore u (get_or (tuples items size) j s) in
    subst (IsBefore s) (get_or_from_slice_get (tuples items size) j t s f) (subst P (get_or_from_slice_get (tuples items size) i s s e) o)

-- a tuple has one rank
pub rank-unique : (items size i j : ℕ) (t : List ℕ) → slice_get (tuples items size) i ≡ Some t → slice_get (tuples items size) j ≡ Some t → i ≡ j
rank-unique items size i j t e f = elim (cases_lt i j) [
  | inl less ↦ absurd (IsBefore-irreflexive t (IsBefore-from_ranks items size i j t t e f less))
  | inr most ↦ elim (cases_lt j i) [
    | inl less ↦ absurd (IsBefore-irreflexive t (IsBefore-from_ranks items size j i t t f e less))
    | inr more ↦ omega arith
  ]
]

pub ranks-from_IsBefore : (items size i j : ℕ) (s t : List ℕ) → slice_get (tuples items size) i ≡ Some s → slice_get (tuples items size) j ≡ Some t →
    IsBefore s t → i < j
ranks-from_IsBefore items size i j s t e f h = elim (cases_lt i j) [
  | inl less ↦ less
  | inr most ↦ elim (cases_lt j i) [
    | inl less ↦ absurd (IsBefore-asymmetric s t h (IsBefore-from_ranks items size j i t s f e less))
    | inr more ↦
        let same : i ≡ j = omega arith in
        let equal : s ≡ t = cc in
        absurd (IsBefore-irreflexive t (subst (λ (u : List ℕ). IsBefore u t) equal h))
  ]
]

-- of two tuples one comes before the other, or they are equal
pub IsBefore-cases : (items size : ℕ) (s t : List ℕ) → IsTuple items size s → IsTuple items size t → IsBefore s t ⊎ ((s ≡ t) ⊎ IsBefore t s)
IsBefore-cases items size s t g h =
    let i = rank-from_IsTuple items size s g in
    let j = rank-from_IsTuple items size t h in
    elim (cases_lt i.0 j.0) [
      | inl less ↦ inl (IsBefore-from_ranks items size i.0 j.0 s t i.1 j.1 less)
      | inr most ↦ elim (cases_lt j.0 i.0) [
        | inl less ↦ inr (inr (IsBefore-from_ranks items size j.0 i.0 t s j.1 i.1 less))
        | inr more ↦
            let e : i.0 ≡ j.0 = omega arith in
            let same : s ≡ t = cc in
            inr (inl same)
      ]
    ]

pub slice_get-append_left : {X : Type 0} (xs ys : List X) (k : ℕ) → k < length xs → slice_get (xs ++ ys) k ≡ slice_get xs k
slice_get-append_left [] ys k l = absurd (omega arith)
slice_get-append_left (x ∷ xs) ys zero l = refl
slice_get-append_left (x ∷ xs) ys (suc k) l = slice_get-append_left xs ys k (omega arith)

pub slice_get-append_right : {X : Type 0} (xs ys : List X) (k : ℕ) → slice_get (xs ++ ys) (length xs + k) ≡ slice_get ys k
slice_get-append_right [] ys k = let z : 0 + k ≡ k = omega arith in ap (slice_get ys) z
slice_get-append_right (x ∷ xs) ys k =
    let z : suc (length xs) + k ≡ suc (length xs + k) = omega arith in
    ap (slice_get (x ∷ (xs ++ ys))) z ∙ slice_get-append_right xs ys k

-- the tuples of at most so many items come first among those of more items, with the same ranks
pub rank-larger_size : (items size more rank : ℕ) (t : List ℕ) → slice_get (tuples items size) rank ≡ Some t →
    slice_get (tuples items (more + size)) rank ≡ Some t
rank-larger_size items size zero rank t e =
    let z : size ≡ 0 + size = omega arith in
    let P : ℕ → Type 0 = λ n. slice_get (tuples items n) rank ≡ Some t in
    subst P z e
rank-larger_size items size (suc more) rank t e =
    let i = rank-larger_size items size more rank t e in
    let z : suc (more + size) ≡ suc more + size = omega arith in
    let P : ℕ → Type 0 = λ n. slice_get (tuples items n) rank ≡ Some t in
    subst P z (slice_get-append_left (tuples items (more + size)) (rising (suc (more + size)) items 0) rank (slice_get_within (tuples items (more + size)) rank t i) ∙ i)

-- a tuple with a rank below the number of tuples of at most so many items has at most so many
pub IsTuple-from_low_rank : (items size more rank : ℕ) (t : List ℕ) → rank < length (tuples items size) →
    slice_get (tuples items (more + size)) rank ≡ Some t → IsTuple items size t
IsTuple-from_low_rank items size more rank t l e =
    let u = get_or (tuples items size) rank t in
    let h : slice_get (tuples items size) rank ≡ Some u = slice_get-get_or (tuples items size) rank t l in
    let k : slice_get (tuples items (more + size)) rank ≡ Some u = rank-larger_size items size more rank u h in
    let same : u ≡ t = cc in
    subst (IsTuple items size) same (IsTuple-from_rank items size rank u h)

pub short-from_low_rank : (items size fewer rank : ℕ) (t : List ℕ) → slice_get (tuples items size) rank ≡ Some t → rank < length (tuples items fewer) →
    length t ≤ fewer
short-from_low_rank items size fewer rank t e l = elim (cases_lt size fewer) [
  | inl less ↦ let h = IsTuple-from_rank items size rank t e in omega (arith, h.short)
  | inr most ↦
      let z : size ≡ size - fewer + fewer = omega arith in
      let P : ℕ → Type 0 = λ n. slice_get (tuples items n) rank ≡ Some t in
      (IsTuple-from_low_rank items fewer (size - fewer) rank t l (subst P z e)).short
]
