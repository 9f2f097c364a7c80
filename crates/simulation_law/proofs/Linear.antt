-- Linear maps: what one random adds to the values, and choices in which the randoms cancel.
use Rattle.std.proofs.Common.{◌≡◌, ℕ, zero, suc, Bool, true, false, List, [], ◌∷◌, length, refl, ap, sym, ◌∙◌, arith}
use Rattle.gadget_model.specs.Bits.{add}
use Rattle.gadget_model.proofs.Sums.{add-false, add-same}
use Rattle.bit_lists.specs.BitLists.{add_bits, chosen_sum}
use Rattle.bit_lists.proofs.BitLists.{chosen_sum-add_bits, chosen_sum-add_choice}
use Rattle.simulation_law.specs.Linear.{IsLinear, RandomsCancel}
use Rattle.simulation_law.proofs.Choices.{resized, chosen_sum-resized}

-- the assignment in which all randoms are false
abbrev pub zeros : ℕ → List Bool
zeros zero = []
zeros (suc n) = false ∷ zeros n

pub length-zeros : (n : ℕ) → length (zeros n) ≡ n
length-zeros zero = refl
length-zeros (suc n) = ap suc (length-zeros n)

pub add_bits-zeros : (n : ℕ) (r : List Bool) → length r ≡ n → add_bits (zeros n) r ≡ r
add_bits-zeros zero r e = refl
add_bits-zeros (suc n) [] e = absurd (omega arith)
add_bits-zeros (suc n) (b ∷ r) e = ap (λ (z : List Bool). b ∷ z) (add_bits-zeros n r (omega arith))

-- what the first of the randoms adds to the values: the first column of the matrix
abbrev pub first_column : ℕ → (List Bool → List Bool) → List Bool
first_column n M = M (true ∷ zeros n)

pub length-first_column : (n m : ℕ) (M : List Bool → List Bool) → IsLinear (suc n) m M → length (first_column n M) ≡ m
length-first_column n m M h = h.lengths (true ∷ zeros n) (ap suc (length-zeros n))

-- what the other randoms add: the matrix without its first column
abbrev pub other_randoms : (List Bool → List Bool) → List Bool → List Bool
other_randoms M r = M (false ∷ r)

pub IsLinear-other_randoms : (n m : ℕ) (M : List Bool → List Bool) → IsLinear (suc n) m M → IsLinear n m (other_randoms M)
IsLinear-other_randoms n m M h = record {
  lengths = λ r e. h.lengths (false ∷ r) (ap suc e);
  sums = λ r s e e'. h.sums (false ∷ r) (false ∷ s) (ap suc e) (ap suc e');
}

-- where the first random is true, it adds its column to what the others give
pub linear-first_true : (n m : ℕ) (M : List Bool → List Bool) → IsLinear (suc n) m M → (r : List Bool) → length r ≡ n →
    M (true ∷ r) ≡ add_bits (first_column n M) (other_randoms M r)
linear-first_true n m M h r e =
    ap (λ (z : List Bool). M (true ∷ z)) (sym (add_bits-zeros n r e))
    ∙ h.sums (true ∷ zeros n) (false ∷ r) (ap suc (length-zeros n)) (ap suc e)

-- all randoms cancel in a choice in which the others do and the first one does
pub RandomsCancel-suc : (n m : ℕ) (M : List Bool → List Bool) → IsLinear (suc n) m M → (c : List Bool) →
    RandomsCancel n (other_randoms M) c → chosen_sum c (first_column n M) ≡ false → RandomsCancel (suc n) M c
RandomsCancel-suc n m M h c others first [] e = absurd (omega arith)
RandomsCancel-suc n m M h c others first (false ∷ r) e = others r (omega arith)
RandomsCancel-suc n m M h c others first (true ∷ r) e =
    let e' : length r ≡ n = omega arith in
    ap (chosen_sum c) (linear-first_true n m M h r e')
    ∙ chosen_sum-add_bits c (first_column n M) (other_randoms M r)
    ∙ ap (λ (b : Bool). add b (chosen_sum c (other_randoms M r))) first
    ∙ others r e'

-- where there is no random, each choice sums to false
pub RandomsCancel-zero : (m : ℕ) (M : List Bool → List Bool) → IsLinear 0 m M → (c : List Bool) → RandomsCancel 0 M c
RandomsCancel-zero m M h c [] e =
    ap (chosen_sum c) (h.sums [] [] refl refl) ∙ chosen_sum-add_bits c (M []) (M []) ∙ add-same (chosen_sum c (M []))
RandomsCancel-zero m M h c (b ∷ r) e = absurd (omega arith)

-- the randoms cancel in the sum of two choices in which they cancel
pub RandomsCancel-add_bits : (n : ℕ) (M : List Bool → List Bool) (c d : List Bool) → RandomsCancel n M c → RandomsCancel n M d →
    RandomsCancel n M (add_bits c d)
RandomsCancel-add_bits n M c d hc hd r e =
    chosen_sum-add_choice c d (M r) ∙ ap (λ (b : Bool). add b (chosen_sum d (M r))) (hc r e) ∙ hd r e

-- where the randoms cancel in a choice, they cancel in it resized to a bit for each value
pub RandomsCancel-resized : (n m : ℕ) (M : List Bool → List Bool) → IsLinear n m M → (c : List Bool) → RandomsCancel n M c →
    RandomsCancel n M (resized m c)
RandomsCancel-resized n m M h c cancels r e = chosen_sum-resized m c (M r) (h.lengths r e) ∙ cancels r e

-- a choice in which the randoms cancel sums the values as if there were none
pub chosen_sum-cancelling : (n : ℕ) (M : List Bool → List Bool) (c : List Bool) → RandomsCancel n M c → (v r : List Bool) → length r ≡ n →
    chosen_sum c (add_bits v (M r)) ≡ chosen_sum c v
chosen_sum-cancelling n M c cancels v r e = chosen_sum-add_bits c v (M r) ∙ ap (add (chosen_sum c v)) (cancels r e) ∙ add-false (chosen_sum c v)
