-- The odd ones of two polynomials together are their symmetric difference.
use Rattle.std.proofs.Common.{◌≡◌, ℕ, ◌+◌, ◌%◌, Bool, true, false, eqb, List, ◌++◌, length, refl, ap, sym, ◌∙◌}
use Rattle.std.specs.Prelude.{count_by}
use Rattle.std.proofs.lemmas.List.Sums.{sum_by-append}
use Rattle.list_laws.proofs.Counts.{one_if}
use Rattle.list_laws.proofs.Once.{Once}
use Rattle.gadget_model.specs.Bits.{add}
use Rattle.gadget_model.specs.Polynomials.{stands_in, symmetric_difference, odd_ones}
use Rattle.gadget_model.proofs.Polynomials.{stands_in-same, stands_in-symmetric_difference, once-symmetric_difference, once-odd_ones, stands_in-odd_ones}
use Rattle.anf.specs.Polynomials.{IsSetOf}
use Rattle.anf.proofs.OddOnes.{count_by-once, IsSetOf-from_stands_in, IsSetOf-itself, length-IsSetOf}

-- two tests count an odd number of times together where exactly one passes
odd-both : (a b : Bool) → eqb ((one_if a + one_if b) % 2) 1 ≡ add a b
odd-both true true = refl
odd-both true false = refl
odd-both false true = refl
odd-both false false = refl

-- the odd ones of both are what stands in exactly one
stands_in-odd_both : (p q : List ℕ) (m : ℕ) → Once p → Once q → stands_in m (odd_ones (p ++ q)) ≡ stands_in m (symmetric_difference p q)
stands_in-odd_both p q m once once' =
    stands_in-odd_ones (p ++ q) m
    ∙ ap (λ (n : ℕ). eqb (n % 2) 1) (sum_by-append (λ w. one_if (eqb w m)) p q)
    ∙ ap (λ (n : ℕ). eqb ((n + count_by (λ w. eqb w m) q) % 2) 1) (count_by-once p m once)
    ∙ ap (λ (n : ℕ). eqb ((one_if (stands_in m p) + n) % 2) 1) (count_by-once q m once')
    ∙ odd-both (stands_in m p) (stands_in m q)
    ∙ sym (stands_in-symmetric_difference p q m)

-- a set of the odd ones of both is one of the symmetric difference
pub IsSetOf-symmetric_difference : (p q all r : List ℕ) → all ≡ p ++ q → Once p → Once q → IsSetOf (odd_ones all) r → IsSetOf (symmetric_difference p q) r
IsSetOf-symmetric_difference p q all r e once once' h =
    IsSetOf-from_stands_in (symmetric_difference p q) r h.once
    (λ m. stands_in-same r (odd_ones all) h.same m ∙ ap (λ (w : List ℕ). stands_in m (odd_ones w)) e ∙ stands_in-odd_both p q m once once')

-- the symmetric difference has as many monomials as there are odd ones of both
pub length-symmetric_difference : (p q all : List ℕ) → all ≡ p ++ q → Once p → Once q → length (symmetric_difference p q) ≡ length (odd_ones all)
length-symmetric_difference p q all e once once' =
    length-IsSetOf (symmetric_difference p q) (odd_ones all) (once-symmetric_difference p q once once')
    (IsSetOf-symmetric_difference p q all (odd_ones all) e once once' (IsSetOf-itself (odd_ones all) (once-odd_ones all)))
