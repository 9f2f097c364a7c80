-- The definitions at a small gadget and small numbers, by computing.
use Rattle.std.proofs.Common.{◌≡◌, ℕ, Bool, true, false, eqb, ◌||◌, [], ◌∷◌, refl}
use Rattle.gadget_model.specs.Bits.{add, same_bits, assignments}
use Rattle.gadget_model.specs.Circuit.{share, random, copy, sum_of, product_of, Circuit, value}
use Rattle.gadget_model.specs.Simulation.{observation, distribution}
use Rattle.gadget_model.specs.Polynomials.{symmetric_difference, odd_ones, unions, polynomial, set_product, polynomial_value}

add-both : add true true ≡ false
add-both = refl

add-one : add false true ≡ true
add-one = refl

same_bits-shorter : same_bits (true ∷ []) (true ∷ false ∷ []) ≡ false
same_bits-shorter = refl

same_bits-equal : same_bits (true ∷ false ∷ []) (true ∷ false ∷ []) ≡ true
same_bits-equal = refl

assignments-of_two : assignments 2 ≡ (false ∷ false ∷ []) ∷ (false ∷ true ∷ []) ∷ (true ∷ false ∷ []) ∷ (true ∷ true ∷ []) ∷ []
assignments-of_two = refl

-- One input of two shares and one random: a0, a1, r, s = a0 + r, p = s * a1, c = p.
masked : Circuit
masked = record {
  shares = 2;
  inputs = [] ∷ [];
  randoms = 1;
  outputs = [];
  output_shares = [];
  variables =
      record { name = []; node = share 0; line = 0 }
      ∷ record { name = []; node = share 1; line = 0 }
      ∷ record { name = []; node = random 0; line = 0 }
      ∷ record { name = []; node = sum_of 0 2; line = 1 }
      ∷ record { name = []; node = product_of 3 1; line = 2 }
      ∷ record { name = []; node = copy 4; line = 3 }
      ∷ [];
}

-- the input with a0 = 0 and a1 = 1
input : ℕ → Bool
input k = eqb k 1

value-sum : value masked input (true ∷ []) 3 ≡ true
unfolding value masked input
value-sum = refl

value-sum_without_random : value masked input (false ∷ []) 3 ≡ false
unfolding value masked input
value-sum_without_random = refl

value-product : value masked input (true ∷ []) 4 ≡ true
unfolding value masked input
value-product = refl

value-copy : value masked input (false ∷ []) 5 ≡ false
unfolding value masked input
value-copy = refl

value-past_the_last : value masked input (true ∷ []) 6 ≡ false
unfolding value masked input
value-past_the_last = refl

-- probes on a1 and s
observation-in_order : observation masked (1 ∷ 3 ∷ []) input (false ∷ []) ≡ true ∷ false ∷ []
unfolding value masked input
observation-in_order = refl

distribution-of_two : distribution masked (1 ∷ 3 ∷ []) input ≡ (true ∷ false ∷ []) ∷ (true ∷ true ∷ []) ∷ []
unfolding value masked input
distribution-of_two = refl

symmetric_difference-common : symmetric_difference (1 ∷ 2 ∷ []) (2 ∷ 4 ∷ []) ≡ 1 ∷ 4 ∷ []
symmetric_difference-common = refl

odd_ones-three_times : odd_ones (5 ∷ 3 ∷ 5 ∷ 3 ∷ 5 ∷ 6 ∷ []) ≡ 5 ∷ 6 ∷ []
odd_ones-three_times = refl

-- {0}, {1} and {0, 2}, each with {0}
unions-of_sets : unions (1 ∷ 2 ∷ 5 ∷ []) (1 ∷ []) ≡ 1 ∷ 3 ∷ 5 ∷ []
unions-of_sets = refl

-- p is a0 * a1 + r * a1, of the variables 0, 1 and 2
polynomial-product : polynomial masked 4 ≡ 3 ∷ 6 ∷ []
unfolding polynomial masked
polynomial-product = refl

polynomial-copy : polynomial masked 5 ≡ 3 ∷ 6 ∷ []
unfolding polynomial masked
polynomial-copy = refl

set_product-of_two : set_product 3 6 (λ v. eqb v 1) ≡ false
set_product-of_two = refl

set_product-empty : set_product 3 0 (λ v. false) ≡ true
set_product-empty = refl

polynomial_value-one_of_two : polynomial_value 3 (3 ∷ 6 ∷ []) (λ v. eqb v 1 || eqb v 2) ≡ true
polynomial_value-one_of_two = refl

polynomial_value-cancels : polynomial_value 3 (3 ∷ 6 ∷ []) (λ v. true) ≡ false
polynomial_value-cancels = refl
