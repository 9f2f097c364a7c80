-- Choices with a bit for each value.
use Rattle.std.proofs.Common.{◌≡◌, ℕ, zero, suc, ◌&&◌, Bool, false, List, [], ◌∷◌, length, refl, ap, sym, ◌∙◌, arith}
use Rattle.gadget_model.specs.Bits.{add}
use Rattle.bit_lists.specs.BitLists.{chosen_sum}
use Rattle.bit_lists.proofs.BitLists.{chosen_sum-nil}

-- a choice cut or filled with false to n bits
abbrev pub resized : ℕ → List Bool → List Bool
resized zero c = []
resized (suc n) [] = false ∷ resized n []
resized (suc n) (b ∷ c) = b ∷ resized n c

pub length-resized : (n : ℕ) (c : List Bool) → length (resized n c) ≡ n
length-resized zero c = refl
length-resized (suc n) [] = ap suc (length-resized n [])
length-resized (suc n) (b ∷ c) = ap suc (length-resized n c)

-- resized to a bit for each value, a choice has the same sum
pub chosen_sum-resized : (n : ℕ) (c v : List Bool) → length v ≡ n → chosen_sum (resized n c) v ≡ chosen_sum c v
chosen_sum-resized n c [] e = chosen_sum-nil (resized n c) ∙ sym (chosen_sum-nil c)
chosen_sum-resized zero c (a ∷ v) e = absurd (omega arith)
chosen_sum-resized (suc n) [] (a ∷ v) e = chosen_sum-resized n [] v (omega arith)
chosen_sum-resized (suc n) (b ∷ c) (a ∷ v) e = ap (add (b && a)) (chosen_sum-resized n c v (omega arith))
