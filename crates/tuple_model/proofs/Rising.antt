-- Which lists are tuples, and their order: `rising` and `tuples` have exactly the rising lists, in order.
use Rattle.std.proofs.Common.{◌≡◌, ℕ, zero, suc, ◌+◌, ◌<◌, ◌≤◌, List, [], ◌∷◌, map, length, refl, ap, sym, ◌∙◌, inl, inr, arith, subst, Contains}
use Rattle.std.specs.List.{AllPairs}
use Rattle.std.proofs.lemmas.Bool.{cases_lt}
use Rattle.std.proofs.lemmas.List.Elements.{Contains-append_left, Contains-append_right, Contains-append_cases}
use Rattle.tuple_model.specs.Tuples.{IsRising, IsTuple, ComesFirst, IsBefore, rising, tuples}
use Rattle.list_laws.proofs.Members.{Contains-cons_head, Contains-cons_cases, Contains-map, Contains-from_map, AllPairs-append, AllPairs-map, AllPairs-weaker}

pub IsRising-from_higher : (low more high : ℕ) (t : List ℕ) → low ≤ more → IsRising more high t → IsRising low high t
IsRising-from_higher low more high [] l h = tt
IsRising-from_higher low more high (x ∷ t) l h = (omega arith, h.1, h.2)

pub IsRising-to_higher : (low high more : ℕ) (t : List ℕ) → high ≤ more → IsRising low high t → IsRising low more t
IsRising-to_higher low high more [] l h = tt
IsRising-to_higher low high more (x ∷ t) l h = (h.0, omega arith, IsRising-to_higher (suc x) high more t l h.2)

pub IsRising-member : (low high : ℕ) (t : List ℕ) (i : ℕ) → IsRising low high t → Contains t i → (low ≤ i) × (i < high)
IsRising-member low high [] i h k = absurd (omega arith)
IsRising-member low high (x ∷ t) i h k = elim (Contains-cons_cases x t i k) [
  | inl e ↦ (omega arith, omega arith)
  | inr l ↦ let r = IsRising-member (suc x) high t i h.2 l in (omega arith, omega arith)
]

-- a rising list of so many numbers
abbrev pub IsRisingOfSize : ℕ → ℕ → ℕ → List ℕ → Type 0
IsRisingOfSize size low high t = (length t ≡ size) × IsRising low high t

pub IsRisingOfSize-from_member : (size room low : ℕ) (t : List ℕ) → Contains (rising size room low) t → IsRisingOfSize size low (low + room) t
IsRisingOfSize-from_member zero room low t h = elim (Contains-cons_cases [] [] t h) [
  | inl e ↦ subst (IsRisingOfSize 0 low (low + room)) e (refl, tt)
  | inr k ↦ absurd (omega arith)
]
IsRisingOfSize-from_member (suc size) zero low t h = absurd (omega arith)
IsRisingOfSize-from_member (suc size) (suc room) low t h =
    let z : suc low + room ≡ low + suc room = omega arith in
    elim (Contains-append_cases (map (λ s. low ∷ s) (rising size room (suc low))) (rising (suc size) room (suc low)) t h) [
      | inl k ↦
          let r = Contains-from_map (λ (s : List ℕ). low ∷ s) (rising size room (suc low)) t k in
          let i = IsRisingOfSize-from_member size room (suc low) r.0 r.1 in
          let P : ℕ → Type 0 = λ high. IsRising (suc low) high r.0 in
          subst (IsRisingOfSize (suc size) low (low + suc room)) r.2 (ap suc i.0, (omega arith, omega arith, subst P z i.1))
      | inr k ↦
          let i = IsRisingOfSize-from_member (suc size) room (suc low) t k in
          let P : ℕ → Type 0 = λ high. IsRising (suc low) high t in
          (i.0, IsRising-from_higher low (suc low) (low + suc room) t (omega arith) (subst P z i.1))
    ]

pub member-from_IsRisingOfSize : (size room low : ℕ) (t : List ℕ) → IsRisingOfSize size low (low + room) t → Contains (rising size room low) t
member-from_IsRisingOfSize zero room low [] h = Contains-cons_head [] []
member-from_IsRisingOfSize zero room low (x ∷ t) h = absurd (omega arith)
member-from_IsRisingOfSize (suc size) zero low [] h = absurd (omega arith)
member-from_IsRisingOfSize (suc size) zero low (x ∷ t) h = absurd (omega arith)
member-from_IsRisingOfSize (suc size) (suc room) low [] h = absurd (omega arith)
member-from_IsRisingOfSize (suc size) (suc room) low (x ∷ t) h =
    let z : low + suc room ≡ suc low + room = omega arith in
    elim (cases_lt low x) [
      | inl less ↦
          let P : ℕ → Type 0 = λ high. IsRising (suc low) high (x ∷ t) in
          Contains-append_right (map (λ s. low ∷ s) (rising size room (suc low))) (rising (suc size) room (suc low)) (x ∷ t)
          (member-from_IsRisingOfSize (suc size) room (suc low) (x ∷ t) (h.0, subst P z (omega arith, h.1.1, h.1.2)))
      | inr most ↦
          let e : low ≡ x = omega arith in
          let P : ℕ → Type 0 = λ high. IsRising (suc low) high t in
          let Q : ℕ → Type 0 = λ y. IsRising (suc y) (low + suc room) t in
          let R : ℕ → Type 0 = λ y. Contains (rising (suc size) (suc room) low) (y ∷ t) in
          subst R e (Contains-append_left (map (λ s. low ∷ s) (rising size room (suc low))) (rising (suc size) room (suc low)) (low ∷ t)
          (Contains-map (λ (s : List ℕ). low ∷ s) (rising size room (suc low)) t
          (member-from_IsRisingOfSize size room (suc low) t (omega arith, subst P z (subst Q (sym e) h.1.2)))))
    ]

above_head : (low high size : ℕ) (s t : List ℕ) → IsRisingOfSize (suc size) (suc low) high t → ComesFirst (low ∷ s) t
above_head low high size s [] h = absurd (omega arith)
above_head low high size s (x ∷ t) h = inl (omega arith)

pub rising-ordered : (size room low : ℕ) → AllPairs ComesFirst (rising size room low)
rising-ordered zero room low = λ i j d l m. absurd (omega arith)
rising-ordered (suc size) zero low = λ i j d l m. absurd (omega arith)
rising-ordered (suc size) (suc room) low =
    AllPairs-append ComesFirst (map (λ s. low ∷ s) (rising size room (suc low))) (rising (suc size) room (suc low))
    (AllPairs-map ComesFirst ComesFirst (λ (s : List ℕ). low ∷ s) (λ s t h. inr (refl, h)) (rising size room (suc low)) (rising-ordered size room (suc low)))
    (rising-ordered (suc size) room (suc low))
    (λ s t h k.
    let r = Contains-from_map (λ (s : List ℕ). low ∷ s) (rising size room (suc low)) s h in
    let P : List ℕ → Type 0 = λ s. ComesFirst s t in
    subst P r.2 (above_head low (suc low + room) size r.0 t (IsRisingOfSize-from_member (suc size) room (suc low) t k)))

at_zero : (items : ℕ) (P : ℕ → Type 0) → P (0 + items) → P items
at_zero items P h = let z : 0 + items ≡ items = omega arith in subst P z h

from_zero : (items : ℕ) (P : ℕ → Type 0) → P items → P (0 + items)
from_zero items P h = let z : items ≡ 0 + items = omega arith in subst P z h

pub IsTuple-from_member : (items size : ℕ) (t : List ℕ) → Contains (tuples items size) t → IsTuple items size t
IsTuple-from_member items zero t h =
    let i = IsRisingOfSize-from_member 0 items 0 t h in
    record { short = omega arith; rising = at_zero items (λ high. IsRising 0 high t) i.1 }
IsTuple-from_member items (suc size) t h = elim (Contains-append_cases (tuples items size) (rising (suc size) items 0) t h) [
  | inl k ↦ let i = IsTuple-from_member items size t k in record { short = omega arith; rising = i.rising }
  | inr k ↦ let i = IsRisingOfSize-from_member (suc size) items 0 t k in record { short = omega arith; rising = at_zero items (λ high. IsRising 0 high t) i.1 }
]

pub member-from_IsTuple : (items size : ℕ) (t : List ℕ) → IsTuple items size t → Contains (tuples items size) t
member-from_IsTuple items zero t h = member-from_IsRisingOfSize 0 items 0 t (omega arith, from_zero items (λ high. IsRising 0 high t) h.rising)
member-from_IsTuple items (suc size) t h = elim (cases_lt (length t) (suc size)) [
  | inl less ↦ Contains-append_left (tuples items size) (rising (suc size) items 0) t
      (member-from_IsTuple items size t (record { short = omega arith; rising = h.rising }))
  | inr most ↦ Contains-append_right (tuples items size) (rising (suc size) items 0) t
      (member-from_IsRisingOfSize (suc size) items 0 t (omega arith, from_zero items (λ high. IsRising 0 high t) h.rising))
]

-- lists of one length are ordered as tuples where they are ordered lexicographically
same_size : (size room low : ℕ) → AllPairs IsBefore (rising size room low)
same_size size room low = AllPairs-weaker ComesFirst IsBefore (rising size room low)
    (λ s t h k l. inr ((IsRisingOfSize-from_member size room low s h).0 ∙ sym (IsRisingOfSize-from_member size room low t k).0, l))
    (rising-ordered size room low)

pub tuples-ordered : (items size : ℕ) → AllPairs IsBefore (tuples items size)
tuples-ordered items zero = same_size 0 items 0
tuples-ordered items (suc size) =
    AllPairs-append IsBefore (tuples items size) (rising (suc size) items 0) (tuples-ordered items size) (same_size (suc size) items 0)
    (λ s t h k.
    let i = IsTuple-from_member items size s h in
    let j = IsRisingOfSize-from_member (suc size) items 0 t k in
    inl (omega arith))
