-- The list of all assignments of the randoms, and what is computed from each of them.
use Rattle.std.proofs.Common.{◌≡◌, ℕ, zero, suc, ◌+◌, Bool, true, false, List, [], ◌∷◌, ◌++◌, map, length, refl, ap, sym, ◌∙◌, arith}
use Rattle.std.specs.Prelude.{count_by}
use Rattle.std.proofs.lemmas.List.{map-append}
use Rattle.std.proofs.lemmas.List.Sums.{sum_by-append}
use Rattle.list_laws.proofs.Counts.{one_if, count_by-map, count_by-all, count_by-none, map-map}
use Rattle.gadget_model.specs.Bits.{same_bits, assignments}
use Rattle.gadget_model.specs.Simulation.{SameDistribution}
use Rattle.gadget_model.proofs.AllAssignments.{length-assignments}
use Rattle.bit_lists.specs.BitLists.{add_bits}

-- the assignments whose first bit is false, and then those whose first bit is true
pub map-assignments_suc : {X : Type 0} (f : List Bool → X) (n : ℕ) →
    map f (assignments (suc n)) ≡ map (λ r. f (false ∷ r)) (assignments n) ++ map (λ r. f (true ∷ r)) (assignments n)
map-assignments_suc {X} f n =
    let e = map-append f (map (λ r. false ∷ r) (assignments n)) (map (λ r. true ∷ r) (assignments n)) in
    let off = map-map f (λ r. false ∷ r) (λ r. f (false ∷ r)) (λ r. refl) (assignments n) in
    let on = map-map f (λ r. true ∷ r) (λ r. f (true ∷ r)) (λ r. refl) (assignments n) in
    e ∙ ap (λ (xs : List X). xs ++ map f (map (λ r. true ∷ r) (assignments n))) off ∙ ap (λ (xs : List X). map (λ r. f (false ∷ r)) (assignments n) ++ xs) on

-- functions that agree on lists of n bits agree along the assignments
pub map-assignments : {X : Type 0} (f g : List Bool → X) (n : ℕ) → ((r : List Bool) → length r ≡ n → f r ≡ g r) →
    map f (assignments n) ≡ map g (assignments n)
map-assignments {X} f g zero same = ap (λ (x : X). x ∷ []) (same [] refl)
map-assignments {X} f g (suc n) same =
    let off = map-assignments (λ r. f (false ∷ r)) (λ r. g (false ∷ r)) n (λ r e. same (false ∷ r) (ap suc e)) in
    let on = map-assignments (λ r. f (true ∷ r)) (λ r. g (true ∷ r)) n (λ r e. same (true ∷ r) (ap suc e)) in
    map-assignments_suc f n
    ∙ ap (λ (xs : List X). xs ++ map (λ r. f (true ∷ r)) (assignments n)) off
    ∙ ap (λ (xs : List X). map (λ r. g (false ∷ r)) (assignments n) ++ xs) on
    ∙ sym (map-assignments_suc g n)

-- those that pass with a first bit of false, and those that pass with a first bit of true
pub count_by-assignments_suc : (p : List Bool → Bool) (n : ℕ) →
    count_by p (assignments (suc n)) ≡ count_by (λ r. p (false ∷ r)) (assignments n) + count_by (λ r. p (true ∷ r)) (assignments n)
count_by-assignments_suc p n =
    let e = sum_by-append (λ r. one_if (p r)) (map (λ r. false ∷ r) (assignments n)) (map (λ r. true ∷ r) (assignments n)) in
    let off = count_by-map (λ (r : List Bool). false ∷ r) p (assignments n) in
    let on = count_by-map (λ (r : List Bool). true ∷ r) p (assignments n) in
    omega arith

-- to add a fixed assignment to all of them only reorders their list: each test passes as often
pub count_by-translate : (p : List Bool → Bool) (n : ℕ) (s : List Bool) → length s ≡ n →
    count_by (λ r. p (add_bits s r)) (assignments n) ≡ count_by p (assignments n)
count_by-translate p zero [] e = refl
count_by-translate p zero (b ∷ s) e = absurd (omega arith)
count_by-translate p (suc n) [] e = absurd (omega arith)
count_by-translate p (suc n) (false ∷ s) e =
    let off = count_by-translate (λ r. p (false ∷ r)) n s (omega arith) in
    let on = count_by-translate (λ r. p (true ∷ r)) n s (omega arith) in
    let left = count_by-assignments_suc (λ r. p (add_bits (false ∷ s) r)) n in
    let right = count_by-assignments_suc p n in
    omega arith
count_by-translate p (suc n) (true ∷ s) e =
    let off = count_by-translate (λ r. p (false ∷ r)) n s (omega arith) in
    let on = count_by-translate (λ r. p (true ∷ r)) n s (omega arith) in
    let left = count_by-assignments_suc (λ r. p (add_bits (true ∷ s) r)) n in
    let right = count_by-assignments_suc p n in
    omega arith

-- So whatever is computed from the assignments keeps its distribution when a fixed assignment is added to them.
pub SameDistribution-translate : (f : List Bool → List Bool) (n : ℕ) (s : List Bool) → length s ≡ n →
    SameDistribution (map (λ r. f (add_bits s r)) (assignments n)) (map f (assignments n))
SameDistribution-translate f n s e y =
    count_by-map (λ r. f (add_bits s r)) (same_bits y) (assignments n)
    ∙ count_by-translate (λ r. same_bits y (f r)) n s e
    ∙ sym (count_by-map f (same_bits y) (assignments n))

-- of two bits that the assignments leave alone, both are true equally often only where they are the same
pub count_by-constant : (n : ℕ) (a b : Bool) → count_by (λ r. a) (assignments n) ≡ count_by (λ r. b) (assignments n) → a ≡ b
count_by-constant n true true e = refl
count_by-constant n false false e = refl
count_by-constant n true false e =
    let all = count_by-all (λ (r : List Bool). true) (λ r. refl) (assignments n) in
    let none = count_by-none (λ (r : List Bool). false) (λ r. refl) (assignments n) in
    let some = length-assignments n in
    absurd (omega arith)
count_by-constant n false true e =
    let all = count_by-all (λ (r : List Bool). true) (λ r. refl) (assignments n) in
    let none = count_by-none (λ (r : List Bool). false) (λ r. refl) (assignments n) in
    let some = length-assignments n in
    absurd (omega arith)
