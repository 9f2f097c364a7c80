-- The list of all assignments has each list of that many bits, once.
use Rattle.std.proofs.Common.{◌≡◌, ◌≢◌, ℕ, zero, suc, ◌<◌, Bool, true, false, List, [], ◌∷◌, map, length, ap, sym, ◌∙◌, inl, inr, arith, Contains, ◌↔◌, length-append}
use Rattle.std.proofs.lemmas.List.{length-map}
use Rattle.std.proofs.lemmas.List.Elements.{Contains-append_left, Contains-append_right, Contains-append_cases}
use Rattle.list_laws.proofs.Members.{Contains-cons_head, Contains-cons_cases, Contains-map, Contains-from_map, AllPairs-append, AllPairs-map}
use Rattle.list_laws.proofs.Once.{Once, Once-single, Contains-nil}
use Rattle.gadget_model.specs.Bits.{assignments}

-- there is some assignment
pub length-assignments : (n : ℕ) → 0 < length (assignments n)
length-assignments zero = omega arith
length-assignments (suc n) =
    let i = length-assignments n in
    let e = length-append (map (λ r. false ∷ r) (assignments n)) (map (λ r. true ∷ r) (assignments n)) in
    let e' = length-map (assignments n) (λ (r : List Bool). false ∷ r) in
    omega arith

Contains-assignments : (n : ℕ) (r : List Bool) → length r ≡ n → Contains (assignments n) r
Contains-assignments zero [] e = Contains-cons_head [] []
Contains-assignments zero (b ∷ r) e = absurd (omega arith)
Contains-assignments (suc n) [] e = absurd (omega arith)
Contains-assignments (suc n) (false ∷ r) e =
    Contains-append_left (map (λ s. false ∷ s) (assignments n)) (map (λ s. true ∷ s) (assignments n)) (false ∷ r)
    (Contains-map (λ s. false ∷ s) (assignments n) r (Contains-assignments n r (omega arith)))
Contains-assignments (suc n) (true ∷ r) e =
    Contains-append_right (map (λ s. false ∷ s) (assignments n)) (map (λ s. true ∷ s) (assignments n)) (true ∷ r)
    (Contains-map (λ s. true ∷ s) (assignments n) r (Contains-assignments n r (omega arith)))

-- with a first bit in front, members have one bit more
length-with_first : (b : Bool) (n : ℕ) (r : List Bool) → ((s : List Bool) → Contains (assignments n) s → length s ≡ n) →
    Contains (map (λ s. b ∷ s) (assignments n)) r → length r ≡ suc n
length-with_first b n r each h =
    let found = Contains-from_map (λ s. b ∷ s) (assignments n) r h in
    ap (λ (z : List Bool). length z) (sym found.2) ∙ ap suc (each found.0 found.1)

length-assignment : (n : ℕ) (r : List Bool) → Contains (assignments n) r → length r ≡ n
length-assignment zero r h = elim (Contains-cons_cases [] [] r h) [
  | inl e ↦ ap (λ (z : List Bool). length z) (sym e)
  | inr none ↦ absurd (Contains-nil r none)
]
length-assignment (suc n) r h = elim (Contains-append_cases (map (λ s. false ∷ s) (assignments n)) (map (λ s. true ∷ s) (assignments n)) r h) [
  | inl off ↦ length-with_first false n r (length-assignment n) off
  | inr on ↦ length-with_first true n r (length-assignment n) on
]

pub Contains-assignments_exactly : (n : ℕ) (r : List Bool) → Contains (assignments n) r ↔ (length r ≡ n)
Contains-assignments_exactly n r = (length-assignment n r, Contains-assignments n r)

-- a list with the first bit false is none with the first bit true
first_differs : (n : ℕ) (r s : List Bool) → Contains (map (λ s. false ∷ s) (assignments n)) r → Contains (map (λ s. true ∷ s) (assignments n)) s → r ≢ s
first_differs n r s off on e =
    let a = Contains-from_map (λ s. false ∷ s) (assignments n) r off in
    let b = Contains-from_map (λ s. true ∷ s) (assignments n) s on in
    let f = a.2 in
    let g = b.2 in
    absurd (cc)

pub once-assignments : (n : ℕ) → Once (assignments n)
once-assignments zero = Once-single []
once-assignments (suc n) =
    AllPairs-append (λ a b. a ≢ b) (map (λ s. false ∷ s) (assignments n)) (map (λ s. true ∷ s) (assignments n))
    (AllPairs-map (λ a b. a ≢ b) (λ a b. a ≢ b) (λ s. false ∷ s) (λ r s other e. other (cc)) (assignments n) (once-assignments n))
    (AllPairs-map (λ a b. a ≢ b) (λ a b. a ≢ b) (λ s. true ∷ s) (λ r s other e. other (cc)) (assignments n) (once-assignments n))
    (first_differs n)
