-- A basis of what cancels, and that it stays one with each row more.
use Rattle.std.proofs.Common.{◌≡◌, ℕ, suc, ◌+◌, ◌^◌, ◌<◌, List, [], ◌∷◌, ◌++◌, true, false, length, take, get_or, refl, ap, sym, ◌∙◌, inl, inr, arith, subst, add-one}
use Rattle.std.specs.Prelude.{bit_xor, None}
use Rattle.std.specs.List.{All}
use Rattle.std.specs.Int.Bits.{xor_zero_r}
use Rattle.std.proofs.lemmas.List.{take_more}
use Rattle.std.proofs.lemmas.List.Elements.{All-nil, All-push}
use Rattle.gf2_rows.specs.Combinations.{combine, Cancels, AreIndependent, SpanCancelling}
use Rattle.gf2_rows.specs.Newest.{IsNewlyCancelling, NewlyCancels}
use Rattle.gf2_rows.proofs.Combinations.{xor-cancel, top_bit, bit_at-top, combine-push, masked_sum-push_below}
use Rattle.gf2_rows.proofs.Newest.{IsNewlyCancelling-without}
use Rattle.gf2_rows.proofs.Eliminated.{AreIndependent-push, takes_any-empty, length-push_both, below_pushed, below-from_pushed, below-push_row, Cancels-push_row}

-- independent masks of combinations of the rows that sum to zero, which span all of those
pub record IsBasis (rows masks : List ℕ) : Type 0 where
  pub below : All (λ m. m < 2 ^ length rows) masks
  pub cancel : All (Cancels rows) masks
  pub independent : AreIndependent masks
  pub whole : SpanCancelling rows masks

pub IsBasis-nil : IsBasis [] []
IsBasis-nil = record {
  below = All-nil (λ (m : ℕ). m < 2 ^ 0);
  cancel = All-nil (Cancels []);
  independent = λ c l h. takes_any-empty c l;
  whole = λ m l cancels. ([], refl, omega arith);
}

-- a row that makes nothing cancel
pub IsBasis-push_none : (rows masks : List ℕ) (r : ℕ) → IsBasis rows masks → NewlyCancels rows r None → IsBasis (rows ++ r ∷ []) masks
IsBasis-push_none rows masks r b none = record {
  below = below-push_row rows r masks b.below;
  cancel = Cancels-push_row rows r masks b.below b.cancel;
  independent = b.independent;
  whole = λ m small cancels.
      let low = none m (subst (λ (k : ℕ). m < 2 ^ k) (sym (add-one (length rows))) (below-from_pushed rows r m small)) cancels in
      b.whole m low (sym (masked_sum-push_below rows r m low) ∙ cancels);
}

-- a row that makes a combination cancel
pub IsBasis-push_some : (rows masks : List ℕ) (r mask : ℕ) → IsBasis rows masks → IsNewlyCancelling rows r mask → IsBasis (rows ++ r ∷ []) (masks ++ mask ∷ [])
IsBasis-push_some rows masks r mask b new =
    let n = length rows in
    let small' : mask < 2 ^ suc n = subst (λ (k : ℕ). mask < 2 ^ k) (add-one n) new.below in
    record {
      below = All-push (λ m. m < 2 ^ length (rows ++ r ∷ [])) masks mask (below-push_row rows r masks b.below) (below_pushed rows r mask small');
      cancel = All-push (Cancels (rows ++ r ∷ [])) masks mask (Cancels-push_row rows r masks b.below b.cancel) new.cancels;
      independent = AreIndependent-push n masks mask b.below new.newest b.independent;
      whole = λ m small cancels.
          let parts = IsNewlyCancelling-without rows r mask m new (below-from_pushed rows r m small) cancels in
          elim (top_bit n m (below-from_pushed rows r m small)) [
            | inl low ↦
                let i = b.whole m low (parts.0 low) in
                (i.0 ++ false ∷ [], length-push_both i.0 masks false mask i.1, i.2 ∙ sym (combine-push i.0 masks false mask i.1 ∙ xor_zero_r (combine i.0 masks)))
            | inr high ↦
                let rest = parts.1 (λ low. absurd (let z = bit_at-top n m low in omega arith)) in
                let i = b.whole (bit_xor m mask) rest.0 rest.1 in (
                  i.0 ++ true ∷ [],
                  length-push_both i.0 masks true mask i.1,
                  sym (xor-cancel m mask) ∙ ap (λ (z : ℕ). bit_xor z mask) i.2 ∙ sym (combine-push i.0 masks true mask i.1),
                )
          ];
    }

-- the basis once the row at place i is on the stack, where it makes nothing cancel, and where it does
module _ (rows stack masks : List ℕ) (i : ℕ) (l : i < length rows) (e : stack ≡ take i rows) (b : IsBasis (take i rows) masks) where
  pub IsBasis-more_none : NewlyCancels stack (get_or rows i 0) None → IsBasis (take (i + 1) rows) masks
  IsBasis-more_none none =
      subst (λ (rs : List ℕ). IsBasis rs masks) (sym (take_more rows i 0 l))
      (IsBasis-push_none (take i rows) masks (get_or rows i 0) b (subst (λ (rs : List ℕ). NewlyCancels rs (get_or rows i 0) None) e none))

  pub IsBasis-more_some : (mask : ℕ) → IsNewlyCancelling stack (get_or rows i 0) mask → IsBasis (take (i + 1) rows) (masks ++ mask ∷ [])
  IsBasis-more_some mask new =
      subst (λ (rs : List ℕ). IsBasis rs (masks ++ mask ∷ [])) (sym (take_more rows i 0 l))
      (IsBasis-push_some (take i rows) masks (get_or rows i 0) mask b (subst (λ (rs : List ℕ). IsNewlyCancelling rs (get_or rows i 0) mask) e new))
