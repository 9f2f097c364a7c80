-- The product of the bits in a set: it depends on these bits alone, and is true exactly where all of them are.
use Rattle.std.proofs.Common.{◌≡◌, ℕ, zero, suc, ◌<◌, Bool, true, false, not, ◌&&◌, ◌||◌, eqb, refl, ap, sym, ◌∙◌, inl, inr, arith}
use Rattle.std.specs.Int.{bit_at}
use Rattle.std.proofs.lemmas.Bool.{cases_Bool, cases_eq, and_parts, and_from, false≢true}
use Rattle.gadget_model.specs.Polynomials.{set_product}
use Rattle.bit_lists.proofs.NumberBits.{bit_cases}

-- bits that agree in the set have the same product
pub set_product-agree : (n set : ℕ) (x x' : ℕ → Bool) → ((k : ℕ) → bit_at set k ≡ 1 → x k ≡ x' k) → set_product n set x ≡ set_product n set x'
set_product-agree zero set x x' agree = refl
set_product-agree (suc n) set x x' agree =
    ap (λ (z : Bool). z && (not (eqb (bit_at set n) 1) || x n)) (set_product-agree n set x x' agree)
    ∙ ap (λ (z : Bool). set_product n set x' && z) (elim (bit_cases set n) [
      | inl none ↦ ap (λ (b : ℕ). not (eqb b 1) || x n) none ∙ sym (ap (λ (b : ℕ). not (eqb b 1) || x' n) none)
      | inr one ↦ ap (λ (b : Bool). not (eqb (bit_at set n) 1) || b) (agree n one)
    ])

-- where the product is true, each bit in the set is
pub true_from_set_product : (n set : ℕ) (x : ℕ → Bool) → set_product n set x ≡ true → (k : ℕ) → k < n → bit_at set k ≡ 1 → x k ≡ true
true_from_set_product zero set x holds k l one = absurd (omega arith)
true_from_set_product (suc n) set x holds k l one =
    let parts = and_parts (set_product n set x) (not (eqb (bit_at set n) 1) || x n) holds in
    elim (cases_eq k n) [
      | inl e ↦ ap x e ∙ sym (ap (λ (b : ℕ). not (eqb b 1) || x n) (ap (bit_at set) (sym e) ∙ one)) ∙ parts.1
      | inr other ↦ true_from_set_product n set x parts.0 k (omega arith) one
    ]

-- where each bit in the set is true, the product is
pub set_product-true : (n set : ℕ) (x : ℕ → Bool) → ((k : ℕ) → bit_at set k ≡ 1 → x k ≡ true) → set_product n set x ≡ true
set_product-true zero set x all = refl
set_product-true (suc n) set x all =
    and_from (set_product n set x) (not (eqb (bit_at set n) 1) || x n) (set_product-true n set x all) (elim (bit_cases set n) [
      | inl none ↦ ap (λ (b : ℕ). not (eqb b 1) || x n) none
      | inr one ↦ ap (λ (b : ℕ). not (eqb b 1) || x n) one ∙ all n one
    ])

-- where some bit in the set is false, the product is
pub set_product-false : (n set k : ℕ) (x : ℕ → Bool) → k < n → bit_at set k ≡ 1 → x k ≡ false → set_product n set x ≡ false
set_product-false n set k x l one off = elim (cases_Bool (set_product n set x)) [
  | inl holds ↦ absurd (false≢true (sym off ∙ true_from_set_product n set x holds k l one))
  | inr fails ↦ fails
]
