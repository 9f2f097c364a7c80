-- Values to which a linear map of the randoms is added: their distribution, and the choices in which the randoms
-- cancel.
use Rattle.std.specs.Prelude.{◌≡◌, ℕ, Bool, false, List, map, length}
use Rattle.gadget_model.specs.Bits.{assignments}
use Rattle.bit_lists.specs.BitLists.{add_bits, chosen_sum}

-- M is a linear map over GF(2): it takes an assignment of the randoms to a bit for each value, and a sum of two
-- assignments to the sum of what it takes them to.
pub record IsLinear (randoms values : ℕ) (M : List Bool → List Bool) : Type 0 where
  pub lengths : (r : List Bool) → length r ≡ randoms → length (M r) ≡ values
  pub sums : (r s : List Bool) → length r ≡ randoms → length s ≡ randoms → M (add_bits r s) ≡ add_bits (M r) (M s)

-- The distribution of the values v + M r for independent uniform randoms r: the values for each assignment, with
-- repeats.
abbrev pub linear_distribution : ℕ → (List Bool → List Bool) → List Bool → List (List Bool)
linear_distribution randoms M v = map (λ r. add_bits v (M r)) (assignments randoms)

-- All randoms cancel in the sum of the chosen values: whatever they are, they add nothing to it. A choice is a list of
-- bits too, which takes the values at the places where it is true.
abbrev pub RandomsCancel : ℕ → (List Bool → List Bool) → List Bool → Type 0
RandomsCancel randoms M choice = (r : List Bool) → length r ≡ randoms → chosen_sum choice (M r) ≡ false
