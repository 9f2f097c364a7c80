-- A sum of monomials has those that arise an odd number of times.
use Rattle.std.proofs.Common.{◌≡◌, ℕ, ◌+◌, ◌%◌, Bool, true, false, ◌||◌, eqb, List, [], ◌∷◌, map, length, refl, ap, sym, ◌∙◌, subst, inl, inr, arith, Contains}
use Rattle.std.specs.Prelude.{count_by}
use Rattle.std.specs.List.Sorted.{IsPermutation}
use Rattle.std.proofs.lemmas.Bool.Decides.{eqb_tells}
use Rattle.std.proofs.lemmas.List.{length-map}
use Rattle.std.proofs.lemmas.List.Sorted.{sum_by-IsPermutation}
use Rattle.list_laws.proofs.Counts.{one_if, count_by-cons, count_by-map}
use Rattle.list_laws.proofs.Once.{Once, Once-head, Once-tail, length-same}
use Rattle.gadget_model.specs.Polynomials.{stands_in, odd_ones}
use Rattle.gadget_model.proofs.Polynomials.{stands_in-from_Contains, Contains-from_stands_in, stands_in-from_not_Contains, once-odd_ones, stands_in-odd_ones}
use Rattle.anf.specs.Polynomials.{IsSetOf, set_of}
use Rattle.anf.specs.Reduction.{times, HaveSameParities}

-- what stands once in a list is counted once, and what doesn't stand in it not at all
pub count_by-once : (p : List ℕ) (m : ℕ) → Once p → count_by (λ w. eqb w m) p ≡ one_if (stands_in m p)
count_by-once [] m once = refl
count_by-once (w ∷ p) m once =
    let e = count_by-cons (λ v. eqb v m) w p in
    let i = count_by-once p m (Once-tail w p once) in
    elim (eqb_tells w m) [
      | inl same ↦
          let none = stands_in-from_not_Contains p m (λ k. Once-head w p once (subst (Contains p) (sym same.1) k)) in
          e ∙ ap (λ (b : Bool). one_if b + count_by (λ v. eqb v m) p) same.0 ∙ ap (λ (n : ℕ). 1 + n) (i ∙ ap one_if none)
          ∙ sym (ap (λ (b : Bool). one_if (b || stands_in m p)) same.0)
      | inr other ↦ omega (arith, ap (λ (b : Bool). one_if (b || stands_in m p)) other.0, ap one_if other.0)
    ]

-- a test counts an odd number of times where it passes
one_if-odd : (b : Bool) → eqb (one_if b % 2) 1 ≡ b
one_if-odd true = refl
one_if-odd false = refl

-- what stands in distinct monomials, by how often it arises
stands_in-times : (kept : List (List ℕ)) (m : ℕ) → Once (map set_of kept) → stands_in m (map set_of kept) ≡ eqb (times m kept % 2) 1
stands_in-times kept m once =
    sym (one_if-odd (stands_in m (map set_of kept)))
    ∙ ap (λ (n : ℕ). eqb (n % 2) 1) (sym (count_by-once (map set_of kept) m once) ∙ count_by-map set_of (λ w. eqb w m) kept)

-- what stands among the odd ones, by how often it arises
stands_in-odd_sets : (all : List (List ℕ)) (m : ℕ) → stands_in m (odd_ones (map set_of all)) ≡ eqb (times m all % 2) 1
stands_in-odd_sets all m =
    stands_in-odd_ones (map set_of all) m ∙ ap (λ (n : ℕ). eqb (n % 2) 1) (count_by-map set_of (λ w. eqb w m) all)

-- a list with the same tests is the set of the other
pub IsSetOf-from_stands_in : (ms p : List ℕ) → Once p → ((m : ℕ) → stands_in m p ≡ stands_in m ms) → IsSetOf ms p
IsSetOf-from_stands_in ms p once same = record {
  same = λ m. (
    (λ h. Contains-from_stands_in ms m (sym (same m) ∙ stands_in-from_Contains p m h)),
    (λ h. Contains-from_stands_in p m (same m ∙ stands_in-from_Contains ms m h)),
  );
  once = once;
}

-- distinct monomials are a set of themselves
pub IsSetOf-itself : (p : List ℕ) → Once p → IsSetOf p p
IsSetOf-itself p once = IsSetOf-from_stands_in p p once (λ m. refl)

-- a set of distinct monomials is as long as they are
pub length-IsSetOf : (ms p : List ℕ) → Once ms → IsSetOf ms p → length ms ≡ length p
length-IsSetOf ms p once h = length-same ms p once h.once (λ m. let s = h.same m in (s.1, s.0))

-- the sum of monomials that were put in order is that of those that were given
pub IsSetOf-from_sorted : (given all kept : List (List ℕ)) → IsPermutation given all → Once (map set_of kept) → HaveSameParities kept all →
    IsSetOf (odd_ones (map set_of given)) (map set_of kept)
IsSetOf-from_sorted given all kept moves once same =
    IsSetOf-from_stands_in (odd_ones (map set_of given)) (map set_of kept) once (λ m.
    stands_in-times kept m once
    ∙ ap (λ (n : ℕ). eqb n 1) (same m)
    ∙ ap (λ (n : ℕ). eqb (n % 2) 1) (sum_by-IsPermutation (λ (v : List ℕ). one_if (eqb (set_of v) m)) given all moves)
    ∙ sym (stands_in-odd_sets given m))

-- the sum has as many monomials as there are odd ones
pub length-from_sorted : (given all kept : List (List ℕ)) → IsPermutation given all → Once (map set_of kept) → HaveSameParities kept all →
    length (odd_ones (map set_of given)) ≡ length kept
length-from_sorted given all kept moves once same =
    length-IsSetOf (odd_ones (map set_of given)) (map set_of kept) (once-odd_ones (map set_of given)) (IsSetOf-from_sorted given all kept moves once same)
    ∙ length-map kept set_of
