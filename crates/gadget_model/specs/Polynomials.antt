-- The polynomial of a wire over GF(2) in the input shares and randoms, its algebraic normal form: a sum of monomials,
-- each of which is a product of variables.
--
-- A monomial is the set of its variables, as a number: variable v is in it where its bit v is 1. A polynomial is the
-- set of its monomials, as a list in which each of them stands once; their order means nothing.
use Rattle.std.specs.Prelude.{◌≡◌, ℕ, zero, suc, ◌^◌, ◌==◌, Bool, true, false, not, ◌&&◌, ◌||◌, List, [], ◌∷◌, ◌++◌, map, flat_map, bit_or, slice_index_or}
use Rattle.std.specs.List.{filter, list_any}
use Rattle.std.specs.Int.{bit_at}
use Rattle.gadget_model.specs.Bits.{add}
use Rattle.gadget_model.specs.Circuit.{Node, share, random, copy, sum_of, product_of, Circuit, nodes, wires_from}

-- a variable is in a monomial
abbrev pub HasVariable : ℕ → ℕ → Type 0
HasVariable monomial v = bit_at monomial v ≡ 1

-- whether a monomial stands in a polynomial
abbrev pub stands_in : ℕ → List ℕ → Bool
stands_in m p = list_any (λ w. w == m) p

-- the monomials that stand in exactly one of two polynomials
abbrev pub symmetric_difference : List ℕ → List ℕ → List ℕ
symmetric_difference p q = filter (λ m. not (stands_in m q)) p ++ filter (λ m. not (stands_in m p)) q

-- the monomials that arise an odd number of times: the symmetric difference of them all
abbrev pub odd_ones : List ℕ → List ℕ
odd_ones [] = []
odd_ones (m ∷ ms) = symmetric_difference (m ∷ []) (odd_ones ms)

-- the union of each monomial of the one and each of the other, as often as it arises
abbrev pub unions : List ℕ → List ℕ → List ℕ
unions p q = flat_map (λ m. map (bit_or m) q) p

-- A share and a random have the one monomial of themselves, a copy has the polynomial of its operand. A sum has the
-- monomials that stand in exactly one of its operands' polynomials, a product the unions that arise an odd number of
-- times.
abbrev pub polynomial_of : (ℕ → List ℕ) → ℕ → Node → List ℕ
polynomial_of earlier number (share k) = 2 ^ number ∷ []
polynomial_of earlier number (random k) = 2 ^ number ∷ []
polynomial_of earlier number (copy a) = earlier a
polynomial_of earlier number (sum_of a b) = symmetric_difference (earlier a) (earlier b)
polynomial_of earlier number (product_of a b) = odd_ones (unions (earlier a) (earlier b))

-- the polynomial of a wire
unfoldable pub polynomial : Circuit → ℕ → List ℕ
polynomial g v = slice_index_or (wires_from [] polynomial_of [] (nodes g)) v []

-- the product of those of the first n bits that are in a set: whether all of them are true
abbrev pub set_product : ℕ → ℕ → (ℕ → Bool) → Bool
set_product zero set bits = true
set_product (suc n) set bits = set_product n set bits && (not (bit_at set n == 1) || bits n)

-- the value of a polynomial where the n variables have these values: the sum of its monomials' products
abbrev pub polynomial_value : ℕ → List ℕ → (ℕ → Bool) → Bool
polynomial_value n [] bits = false
polynomial_value n (m ∷ ms) bits = add (set_product n m bits) (polynomial_value n ms bits)
