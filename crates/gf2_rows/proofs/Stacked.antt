-- One row more on a stack: what it makes cancel, and that the stack stays one.
use Rattle.std.proofs.Common.{◌≡◌, ℕ, ◌+◌, ◌^◌, ◌<◌, ◌≤◌, List, [], ◌∷◌, ◌++◌, length, take, refl, sym, ◌∙◌, inl, inr, arith, subst, add-one}
use Rattle.std.specs.Prelude.{slice_index, slice_set, None}
use Rattle.std.specs.Int.{trailing_zeros}
use mir.Syntax.{w128}
use Rattle.std.proofs.lemmas.Bool.{cases_eq}
use Rattle.std.proofs.lemmas.Nat.Bits.{bit_at-trailing_zeros}
use Rattle.std.proofs.lemmas.List.{length_push, length-take-le, take_more_set, take-set-le, get_or-set_other, get_or-set_same, length-set}
use Rattle.std.proofs.lemmas.List.Elements.{All-nil, All-push}
use Rattle.gf2_rows.specs.declared.pivots.Combination.{Combination}
use Rattle.gf2_rows.specs.declared.pivots.Pivot.{Pivot}
use Rattle.gf2_rows.specs.Newest.{IsNewlyCancelling, NewlyCancels}
use Rattle.gf2_rows.specs.Reduction.{reduced_by}
use Rattle.gf2_rows.specs.Stacked.{IsEliminated, ArePivotsOf, IsStack}
use Rattle.gf2_rows.proofs.Combinations.{combine-below}
use Rattle.gf2_rows.proofs.Reduction.{IsReduction, IsClear, reduced_by-is_reduction, reduced_by-clear}
use Rattle.gf2_rows.proofs.Eliminated.{IsEliminated-nil, IsEliminated-push_mask, IsEliminated-push_pivot, IsEliminated-whole, IsNewest-reduced}

-- one row alone, as the next one after n others
abbrev pub alone : ℕ → ℕ → Combination
alone n r = record { mask = 2 ^ n; total = r }

-- a pivot at the lowest bit of a combination
abbrev pub pivot_of : Combination → Pivot
pivot_of c = record { row = c; bit = trailing_zeros w128 c.total }

-- one row more, and its reduction by the pivots of those before it
module _ (rows : List ℕ) (ps : List Pivot) (r : ℕ) (c : Combination) (f : ArePivotsOf rows ps) (e : c ≡ reduced_by ps (alone (length rows) r)) where
  reduction : IsReduction ps (alone (length rows) r) c
  reduction = subst (λ (k : Combination). IsReduction ps (alone (length rows) r) k) (sym e) (reduced_by-is_reduction ps (alone (length rows) r))

  pub ArePivotsOf-push_mask : c.total ≡ 0 → ArePivotsOf (rows ++ r ∷ []) ps
  ArePivotsOf-push_mask z = record { masks = f.masks ++ c.mask ∷ []; state = IsEliminated-push_mask rows ps f.masks r c f.state reduction z; bits = f.bits }

  pub NewlyCancels-mask : c.total ≡ 0 → IsNewlyCancelling rows r c.mask
  NewlyCancels-mask z =
      let state = f.state in
      let newest = IsNewest-reduced rows ps r c state.combinations reduction in
      record { below = subst (λ (k : ℕ). c.mask < 2 ^ k) (sym (add-one (length rows))) newest.small; newest = newest.top; cancels = newest.sum ∙ z }

  module _ (fits : c.total < 2 ^ 128) (some : c.total ≡ 0 → ⊥) where
    pushed : IsEliminated (rows ++ r ∷ []) (ps ++ pivot_of c ∷ []) f.masks
    pushed =
        let state = f.state in
        let first = bit_at-trailing_zeros w128 c.total (omega arith) fits in
        IsEliminated-push_pivot rows ps f.masks r (pivot_of c) state reduction
        (subst (λ (k : Combination). IsClear ps k.total) (sym e) (reduced_by-clear ps (alone (length rows) r) state.echelon)) first.1

    pub ArePivotsOf-push_pivot : ArePivotsOf (rows ++ r ∷ []) (ps ++ pivot_of c ∷ [])
    ArePivotsOf-push_pivot = record {
      masks = f.masks;
      state = pushed;
      bits = All-push (λ p. p.bit < 128) ps (pivot_of c) f.bits (bit_at-trailing_zeros w128 c.total (omega arith) fits).0;
    }

    pub NewlyCancels-pivot : NewlyCancels rows r None
    NewlyCancels-pivot mask small cancels =
        let state = f.state in
        let n = length_push rows r in
        let size : length (rows ++ r ∷ []) ≡ length rows + 1 = omega arith in
        let spanned = IsEliminated-whole (rows ++ r ∷ []) (ps ++ pivot_of c ∷ []) f.masks pushed mask (subst (λ (k : ℕ). mask < 2 ^ k) (sym size) small) cancels in
        subst (λ (m : ℕ). m < 2 ^ length rows) (sym spanned.2) (combine-below (length rows) spanned.0 f.masks state.below)

-- the empty stack
pub IsStack-zero : (rows : List ℕ) (pivots : List Pivot) (ranks : List ℕ) → length pivots ≡ 64 → slice_index ranks 0 ≡ 0 → IsStack rows pivots ranks 0
IsStack-zero rows pivots ranks e z = record {
  size = e;
  few = omega arith;
  ranks_small = λ i l. let e' : i ≡ 0 = omega arith in subst (λ (k : ℕ). slice_index ranks k ≤ k) (sym e') (omega arith);
  ranks_rise = λ i j l m. let e' : i ≡ j = omega arith in subst (λ (k : ℕ). slice_index ranks k ≤ slice_index ranks j) (sym e') (omega arith);
  prefixes = λ i l.
      let e' : i ≡ 0 = omega arith in
      let P : ℕ → Type 0 = λ k. ArePivotsOf (take k rows) (take (slice_index ranks k) pivots) in
      let Q : ℕ → Type 0 = λ k. ArePivotsOf [] (take k pivots) in
      subst P (sym e') (subst Q (sym z) (record { masks = []; state = IsEliminated-nil; bits = All-nil (λ (p : Pivot). p.bit < 128) }));
}

-- one row more on a stack
module _ (rows : List ℕ) (pivots pivots' : List Pivot) (ranks : List ℕ) (count r rank : ℕ) (s : IsStack rows pivots ranks count) (less : count < 64)
    (size : length rows ≡ 64) (size' : length ranks ≡ 65) (wide : length pivots' ≡ 64) (low : slice_index ranks count ≤ rank) (high : rank ≤ count + 1)
    (kept : (m : ℕ) → m ≤ slice_index ranks count → take m pivots' ≡ take m pivots) (found : ArePivotsOf (take count rows ++ r ∷ []) (take rank pivots')) where
  earlier : (i : ℕ) → i ≤ count → slice_index (slice_set ranks (count + 1) rank) i ≡ slice_index ranks i
  earlier i l = get_or-set_other ranks (count + 1) i rank 0 (λ e. absurd (omega arith))

  last : slice_index (slice_set ranks (count + 1) rank) (count + 1) ≡ rank
  last = get_or-set_same ranks (count + 1) rank 0 (omega arith)

  IsStack-push : IsStack (slice_set rows count r) pivots' (slice_set ranks (count + 1) rank) (count + 1)
  IsStack-push = record {
    size = wide;
    few = omega arith;
    ranks_small = λ i l. elim (cases_eq i (count + 1)) [
      | inl e ↦ subst (λ (k : ℕ). slice_index (slice_set ranks (count + 1) rank) k ≤ k) (sym e) (omega (arith, last))
      | inr ne ↦ omega (arith, earlier i (omega arith), s.ranks_small i (omega arith))
    ];
    ranks_rise = λ i j l m. elim (cases_eq j (count + 1)) [
      | inl e ↦ elim (cases_eq i (count + 1)) [
        | inl e' ↦ let same : i ≡ j = omega arith in subst (λ (k : ℕ). slice_index (slice_set ranks (count + 1) rank) k ≤ slice_index (slice_set ranks (count + 1) rank) j) (sym same) (omega arith)
        | inr ne ↦ subst (λ (k : ℕ). slice_index (slice_set ranks (count + 1) rank) i ≤ slice_index (slice_set ranks (count + 1) rank) k) (sym e)
            (omega (arith, last, earlier i (omega arith), s.ranks_rise i count (omega arith) (omega arith)))
      ]
      | inr ne ↦ omega (arith, earlier i (omega arith), earlier j (omega arith), s.ranks_rise i j l (omega arith))
    ];
    prefixes = λ i l. elim (cases_eq i (count + 1)) [
      | inl e ↦
          let P : ℕ → Type 0 = λ k. ArePivotsOf (take k (slice_set rows count r)) (take (slice_index (slice_set ranks (count + 1) rank) k) pivots') in
          let Q : ℕ → Type 0 = λ k. ArePivotsOf (take (count + 1) (slice_set rows count r)) (take k pivots') in
          let R : List ℕ → Type 0 = λ k. ArePivotsOf k (take rank pivots') in
          subst P (sym e) (subst Q (sym last) (subst R (sym (take_more_set rows count r (omega arith))) found))
      | inr ne ↦
          let Q : ℕ → Type 0 = λ k. ArePivotsOf (take i (slice_set rows count r)) (take k pivots') in
          let R : List ℕ → Type 0 = λ k. ArePivotsOf k (take (slice_index ranks i) pivots') in
          let S : List Pivot → Type 0 = λ k. ArePivotsOf (take i rows) k in
          subst Q (sym (earlier i (omega arith)))
          (subst R (sym (take-set-le i rows count r (omega arith))) (subst S (sym (kept (slice_index ranks i) (s.ranks_rise i count (omega arith) (omega arith)))) (s.prefixes i (omega arith))))
    ];
  }

-- the reduction of a row by the pivots of those on the stack
module _ (rows : List ℕ) (pivots : List Pivot) (ranks : List ℕ) (count r : ℕ) (c : Combination) (s : IsStack rows pivots ranks count) (less : count < 64)
    (size : length rows ≡ 64) (size' : length ranks ≡ 65)
    (e : c ≡ reduced_by (take (slice_index ranks count) pivots) (alone count r)) where
  found : ArePivotsOf (take count rows) (take (slice_index ranks count) pivots)
  found = s.prefixes count (omega arith)

  reduced : c ≡ reduced_by (take (slice_index ranks count) pivots) (alone (length (take count rows)) r)
  reduced = subst (λ (k : ℕ). c ≡ reduced_by (take (slice_index ranks count) pivots) (alone k r)) (sym (length-take-le count rows (omega arith))) e

  pub IsStack-push_mask : c.total ≡ 0 → IsStack (slice_set rows count r) pivots (slice_set ranks (count + 1) (slice_index ranks count)) (count + 1)
  IsStack-push_mask z =
      let small = s.ranks_small count (omega arith) in
      IsStack-push rows pivots pivots ranks count r (slice_index ranks count) s less size size' s.size (omega arith) (omega arith) (λ m l. refl)
      (ArePivotsOf-push_mask (take count rows) (take (slice_index ranks count) pivots) r c found reduced z)

  pub NewlyCancels-stack_mask : c.total ≡ 0 → IsNewlyCancelling (take count rows) r c.mask
  NewlyCancels-stack_mask z = NewlyCancels-mask (take count rows) (take (slice_index ranks count) pivots) r c found reduced z

  module _ (fits : c.total < 2 ^ 128) (some : c.total ≡ 0 → ⊥) where
    pub IsStack-push_pivot : IsStack (slice_set rows count r) (slice_set pivots (slice_index ranks count) (pivot_of c)) (slice_set ranks (count + 1) (slice_index ranks count + 1)) (count + 1)
    IsStack-push_pivot =
        let small = s.ranks_small count (omega arith) in
        let rank = slice_index ranks count in
        let wide = s.size in
        let P : List Pivot → Type 0 = λ k. ArePivotsOf (take count rows ++ r ∷ []) k in
        IsStack-push rows pivots (slice_set pivots rank (pivot_of c)) ranks count r (rank + 1) s less size size' (length-set pivots rank (pivot_of c) ∙ s.size) (omega arith) (omega arith)
        (λ m l. take-set-le m pivots rank (pivot_of c) l)
        (subst P (sym (take_more_set pivots rank (pivot_of c) (omega arith)))
        (ArePivotsOf-push_pivot (take count rows) (take rank pivots) r c found reduced fits some))

    pub NewlyCancels-stack_pivot : NewlyCancels (take count rows) r None
    NewlyCancels-stack_pivot = NewlyCancels-pivot (take count rows) (take (slice_index ranks count) pivots) r c found reduced fits some
