-- What cancels with one row more, from a combination that cancels newly.
use Rattle.std.proofs.Common.{ℕ, suc, ◌^◌, ◌<◌, List, [], ◌∷◌, ◌++◌, length, ap, sym, ◌∙◌, inl, inr, subst, add-one}
use Rattle.std.specs.Prelude.{bit_xor}
use Rattle.gf2_rows.specs.Combinations.{masked_sum, Cancels}
use Rattle.gf2_rows.specs.Newest.{IsNewlyCancelling}
use Rattle.gf2_rows.proofs.Combinations.{xor-below_top, top_bit, masked_sum-xor, masked_sum-push_below}

-- A combination that cancels either lacks the newest row, or its sum with the newly cancelling one does and cancels.
pub IsNewlyCancelling-without : (rows : List ℕ) (r mask m : ℕ) → IsNewlyCancelling rows r mask → m < 2 ^ suc (length rows) → Cancels (rows ++ r ∷ []) m →
    (m < 2 ^ length rows → Cancels rows m) × ((m < 2 ^ length rows → ⊥) → (bit_xor m mask < 2 ^ length rows) × Cancels rows (bit_xor m mask))
IsNewlyCancelling-without rows r mask m new small cancels = (
  (λ low. sym (masked_sum-push_below rows r m low) ∙ cancels),
  (λ high.
      let small' : mask < 2 ^ suc (length rows) = subst (λ (k : ℕ). mask < 2 ^ k) (add-one (length rows)) new.below in
      let below : bit_xor m mask < 2 ^ length rows = elim (top_bit (length rows) m small) [
        | inl low ↦ absurd (high low)
        | inr top ↦ xor-below_top (length rows) m mask small small' top new.newest
      ] in (
        below,
        sym (masked_sum-push_below rows r (bit_xor m mask) below) ∙ masked_sum-xor m mask (rows ++ r ∷ []) ∙ ap (λ (z : ℕ). bit_xor z (masked_sum mask (rows ++ r ∷ []))) cancels
            ∙ ap (bit_xor 0) new.cancels,
      )),
)
