-- The values of polynomials, and that a wire's value is that of its polynomial.
use Rattle.std.proofs.Common.{◌≡◌, ◌↔◌, ℕ, zero, suc, ◌<◌, ◌^◌, max, Bool, true, false, eqb, not, ◌&&◌, ◌||◌, List, [], ◌∷◌, ◌++◌, refl, ap, sym, ◌∙◌, inl, inr, arith, Contains, bit_or, Some, length}
use Rattle.std.specs.Prelude.{slice_get}
use Rattle.std.specs.Int.{bit_at}
use Rattle.std.proofs.Math.Bool.{and-true}
use Rattle.std.proofs.lemmas.Bool.{cases_eq}
use Rattle.std.proofs.lemmas.Nat.Bits.{bit_at_or, bit_at-lt, bit_at-pow_same, bit_at-pow_other}
use Rattle.std.proofs.lemmas.List.{length-map}
use Rattle.std.proofs.lemmas.Option.{slice_get_cases}
use Rattle.list_laws.proofs.Once.{Once}
use Rattle.gadget_model.specs.Bits.{add}
use Rattle.gadget_model.specs.Circuit.{Node, share, random, copy, sum_of, product_of, Circuit, nodes, value, NamesEarlier, IsInOrder}
use Rattle.gadget_model.specs.Polynomials.{symmetric_difference, odd_ones, unions, polynomial_of, polynomial, set_product, polynomial_value}
use Rattle.gadget_model.proofs.Sums.{add-false}
use Rattle.gadget_model.proofs.Values.{value-node}
use Rattle.gadget_model.proofs.Polynomials.{stands_in-symmetric_difference, once-symmetric_difference}
use Rattle.gadget_model.proofs.SumsOver.{sum_over, sum_over-agree, sum_over-append, sum_over-alike, sum_over-once, sum_over-same, sum_over-odd_ones, sum_over-unions, sum_over-and_left, sum_over-and_right}
use Rattle.gadget_model.proofs.WirePolynomials.{polynomial-node, once-polynomial}

-- a set that has none of the first n bits has the empty product
set_product-none : (n set : ℕ) (bits : ℕ → Bool) → ((k : ℕ) → k < n → bit_at set k ≡ 0) → set_product n set bits ≡ true
set_product-none zero set bits none = refl
set_product-none (suc n) set bits none =
    ap (λ (b : Bool). b && (not (eqb (bit_at set n) 1) || bits n)) (set_product-none n set bits (λ k less. none k (omega arith)))
    ∙ ap (λ (u : ℕ). not (eqb u 1) || bits n) (none n (omega arith))

-- the product over one variable is its value
pub set_product-single : (n v : ℕ) (bits : ℕ → Bool) → v < n → set_product n (2 ^ v) bits ≡ bits v
set_product-single zero v bits less = absurd (omega arith)
set_product-single (suc n) v bits less = elim (cases_eq n v) [
  | inl e ↦
      let set = 2 ^ v in
      let same : bit_at set n ≡ 1 = ap (bit_at set) e ∙ bit_at-pow_same v in
      ap (λ (b : Bool). b && (not (eqb (bit_at set n) 1) || bits n))
      (set_product-none n set bits (λ k below. bit_at-pow_other v k (λ f. absurd (omega arith))))
      ∙ ap (λ (u : ℕ). not (eqb u 1) || bits n) same
      ∙ ap bits e
  | inr other ↦
      let set = 2 ^ v in
      let i = set_product-single n v bits (omega arith) in
      ap (λ (u : ℕ). set_product n set bits && (not (eqb u 1) || bits n)) (bit_at-pow_other v n other)
      ∙ ap (λ (b : Bool). b && true) i
      ∙ and-true (bits v)
]

-- of two bits the larger is 1 where one of them is
has_max : (u v : ℕ) → u < 2 → v < 2 → eqb (max u v) 1 ≡ (eqb u 1 || eqb v 1)
has_max zero zero l l' = refl
has_max zero (suc zero) l l' = refl
has_max (suc zero) zero l l' = refl
has_max (suc zero) (suc zero) l l' = refl
has_max (suc (suc u)) v l l' = absurd (omega arith)
has_max u (suc (suc v)) l l' = absurd (omega arith)

-- a union has a bit where one of the two has it
has_bit-or : (a b i : ℕ) → eqb (bit_at (bit_or a b) i) 1 ≡ (eqb (bit_at a i) 1 || eqb (bit_at b i) 1)
has_bit-or a b i =
    let l = bit_at-lt a i in
    let l' = bit_at-lt b i in
    ap (λ (u : ℕ). eqb u 1) (bit_at_or a b i) ∙ has_max (bit_at a i) (bit_at b i) l l'

-- one bit more of the product over a union
product-step : (p q a b x : Bool) → ((p && q) && (not (a || b) || x)) ≡ ((p && (not a || x)) && (q && (not b || x)))
product-step false q a b x = refl
product-step true false false b x = refl
product-step true false true b true = refl
product-step true false true b false = refl
product-step true true false false x = refl
product-step true true false true x = refl
product-step true true true false true = refl
product-step true true true false false = refl
product-step true true true true true = refl
product-step true true true true false = refl

-- the product over a union is that of the products
pub set_product-or : (n a b : ℕ) (bits : ℕ → Bool) → set_product n (bit_or a b) bits ≡ (set_product n a bits && set_product n b bits)
set_product-or zero a b bits = refl
set_product-or (suc n) a b bits =
    ap (λ (t : Bool). t && (not (eqb (bit_at (bit_or a b) n) 1) || bits n)) (set_product-or n a b bits)
    ∙ ap (λ (t : Bool). (set_product n a bits && set_product n b bits) && (not t || bits n)) (has_bit-or a b n)
    ∙ product-step (set_product n a bits) (set_product n b bits) (eqb (bit_at a n) 1) (eqb (bit_at b n) 1) (bits n)

-- the value of a polynomial is the sum of its monomials' products
pub polynomial_value-sum : (n : ℕ) (p : List ℕ) (bits : ℕ → Bool) → polynomial_value n p bits ≡ sum_over (λ m. set_product n m bits) p
polynomial_value-sum n [] bits = refl
polynomial_value-sum n (m ∷ p) bits = ap (add (set_product n m bits)) (polynomial_value-sum n p bits)

-- the value of a polynomial depends on its members alone
pub polynomial_value-same : (n : ℕ) (p q : List ℕ) (bits : ℕ → Bool) → Once p → Once q → ((m : ℕ) → Contains p m ↔ Contains q m) →
    polynomial_value n p bits ≡ polynomial_value n q bits
polynomial_value-same n p q bits once once' same =
    polynomial_value-sum n p bits ∙ sum_over-same p q once once' same (λ m. set_product n m bits) ∙ sym (polynomial_value-sum n q bits)

-- the value of a symmetric difference is the sum of the values
pub polynomial_value-symmetric_difference : (n : ℕ) (p q : List ℕ) (bits : ℕ → Bool) → Once p → Once q →
    polynomial_value n (symmetric_difference p q) bits ≡ add (polynomial_value n p bits) (polynomial_value n q bits)
polynomial_value-symmetric_difference n p q bits once once' =
    let f : ℕ → Bool = λ m. set_product n m bits in
    let alike : (m : ℕ) → sum_over (λ w. eqb w m) (symmetric_difference p q) ≡ sum_over (λ w. eqb w m) (p ++ q) = λ m.
    let test : ℕ → Bool = λ w. eqb w m in
    sum_over-once (symmetric_difference p q) (once-symmetric_difference p q once once') m
    ∙ stands_in-symmetric_difference p q m
    ∙ sym (ap (λ (b : Bool). add b (sum_over test q)) (sum_over-once p once m) ∙ ap (add _) (sum_over-once q once' m))
    ∙ sym (sum_over-append test p q) in
    polynomial_value-sum n (symmetric_difference p q) bits
    ∙ sum_over-alike (symmetric_difference p q) (p ++ q) alike f
    ∙ sum_over-append f p q
    ∙ ap (λ (b : Bool). add b (sum_over f q)) (sym (polynomial_value-sum n p bits))
    ∙ ap (add (polynomial_value n p bits)) (sym (polynomial_value-sum n q bits))

-- the value of the unions that arise an odd number of times is the product of the values
pub polynomial_value-odd_unions : (n : ℕ) (p q : List ℕ) (bits : ℕ → Bool) →
    polynomial_value n (odd_ones (unions p q)) bits ≡ (polynomial_value n p bits && polynomial_value n q bits)
polynomial_value-odd_unions n p q bits =
    let f : ℕ → Bool = λ m. set_product n m bits in
    polynomial_value-sum n (odd_ones (unions p q)) bits
    ∙ sum_over-odd_ones (unions p q) f
    ∙ sum_over-unions f p q
    ∙ sum_over-agree (λ a. sum_over (λ b. f (bit_or a b)) q) (λ a. f a && sum_over f q)
    (λ a. sum_over-agree (λ b. f (bit_or a b)) (λ b. f a && f b) (λ b. set_product-or n a b bits) q ∙ sum_over-and_left (f a) f q) p
    ∙ sum_over-and_right f (sum_over f q) p
    ∙ ap (λ (b : Bool). b && sum_over f q) (sym (polynomial_value-sum n p bits))
    ∙ ap (λ (b : Bool). polynomial_value n p bits && b) (sym (polynomial_value-sum n q bits))

-- a wire's value is that of its polynomial where this holds of the earlier wires
value-polynomial_of : (g : Circuit) → IsInOrder g → (x : ℕ → Bool) (r : List Bool) (v : ℕ) (node : Node) → v < length g.variables →
    slice_get (nodes g) v ≡ Some node → NamesEarlier g.randoms v node →
    ((u : ℕ) → u < v → value g x r u ≡ polynomial_value (length g.variables) (polynomial g u) (value g x r)) →
    value g x r v ≡ polynomial_value (length g.variables) (polynomial_of (polynomial g) v node) (value g x r)
value-polynomial_of g ordered x r v (share k) there at names earlier =
    let s = set_product (length g.variables) (2 ^ v) (value g x r) in
    sym (set_product-single (length g.variables) v (value g x r) there) ∙ sym (add-false s)
value-polynomial_of g ordered x r v (random k) there at names earlier =
    let s = set_product (length g.variables) (2 ^ v) (value g x r) in
    sym (set_product-single (length g.variables) v (value g x r) there) ∙ sym (add-false s)
value-polynomial_of g ordered x r v (copy a) there at names earlier = value-node g ordered x r v (copy a) at ∙ earlier a names
value-polynomial_of g ordered x r v (sum_of a b) there at names earlier =
    let bits = value g x r in
    let n = length g.variables in
    value-node g ordered x r v (sum_of a b) at
    ∙ ap (λ (t : Bool). add t (bits b)) (earlier a names.0)
    ∙ ap (add (polynomial_value n (polynomial g a) bits)) (earlier b names.1)
    ∙ sym (polynomial_value-symmetric_difference n (polynomial g a) (polynomial g b) bits (once-polynomial g a) (once-polynomial g b))
value-polynomial_of g ordered x r v (product_of a b) there at names earlier =
    let bits = value g x r in
    let n = length g.variables in
    value-node g ordered x r v (product_of a b) at
    ∙ ap (λ (t : Bool). t && bits b) (earlier a names.0)
    ∙ ap (λ (t : Bool). polynomial_value n (polynomial g a) bits && t) (earlier b names.1)
    ∙ sym (polynomial_value-odd_unions n (polynomial g a) (polynomial g b) bits)

-- `value-polynomial` for the wires before n
value-below : (g : Circuit) → IsInOrder g → (x : ℕ → Bool) (r : List Bool) (n v : ℕ) → v < n → v < length g.variables →
    value g x r v ≡ polynomial_value (length g.variables) (polynomial g v) (value g x r)
value-below g ordered x r zero v less there = absurd (omega arith)
value-below g ordered x r (suc n) v less there = elim ((slice_get_cases (nodes g) v).1) [
  | inl at ↦
      value-polynomial_of g ordered x r v at.0 there at.2 (ordered v at.0 at.2)
      (λ u below. value-below g ordered x r n u (omega arith) (omega arith))
      ∙ ap (λ (p : List ℕ). polynomial_value (length g.variables) p (value g x r)) (sym (polynomial-node g ordered v at.0 at.2))
  | inr past ↦ let l = length-map g.variables (λ v. v.node) in let h = past.0 in absurd (omega arith)
]

-- a wire's value is that of its polynomial at the values of the input shares and randoms
pub value-polynomial : (g : Circuit) → IsInOrder g → (x : ℕ → Bool) (r : List Bool) (v : ℕ) → v < length g.variables →
    value g x r v ≡ polynomial_value (length g.variables) (polynomial g v) (value g x r)
value-polynomial g ordered x r v there = value-below g ordered x r (suc v) v (omega arith) there
