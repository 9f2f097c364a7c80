-- The least set of variables, one variable after the other.
use Rattle.std.proofs.Common.{◌≡◌, ◌↔◌, ℕ, suc, ◌/◌, ◌%◌, ◌^◌, ◌<◌, List, [], ◌∷◌, ◌++◌, length, ap, sym, ◌∙◌, inl, inr, arith, subst, add-one}
use Rattle.std.specs.Prelude.{bit_xor, bit_or, slice_index}
use Rattle.std.specs.Int.{bit_at}
use Rattle.std.proofs.lemmas.Bool.{eqb-true}
use Rattle.std.proofs.lemmas.List.{map_push}
use Rattle.gadget_model.specs.Circuit.{Circuit}
use Rattle.gadget_model.specs.Simulation.{IsSimulatable, IsWithin}
use Rattle.bit_lists.proofs.NumberBits.{bit_cases, bit_at-xor_zero}
use Rattle.gf2_rows.specs.Combinations.{combine, choice_of, masked_sum, Cancels}
use Rattle.gf2_rows.specs.Newest.{IsNewlyCancelling, NoneIsNewlyCancelling}
use Rattle.gf2_rows.proofs.Combinations.{xor-cancel, top_bit, bit_at-top, masked_sum-xor, masked_sum-push_below}
use Rattle.gf2_rows.proofs.Eliminated.{below_suc, below_pushed, below-from_pushed}
use Rattle.gf2_rows.proofs.Newest.{IsNewlyCancelling-without}
use Rattle.wire_table.specs.Tables.{Table, StandsFor, IsTable}
use Rattle.needed.specs.Sums.{random_rows_of, words_of, LeavesWithin}
use Rattle.needed.specs.LeastSets.{LeaveWithin, IsLeastSet}
use Rattle.needed.proofs.Choices.{mask_of}
use Rattle.needed.proofs.Words.{word_of, length-words_of}
use Rattle.needed.proofs.Unions.{IsWithin-or}
use Rattle.needed.proofs.Least.{AreThere, IsSimulatable-table, LeavesWithin-cancelling, length-random_rows_of, bit_along}

-- what a sum of two masks leaves is within a set where what both leave is
LeavesWithin-xor : (t : Table) (vars : List ℕ) (a b set : ℕ) → LeavesWithin t vars a set → LeavesWithin t vars b set → LeavesWithin t vars (bit_xor a b) set
LeavesWithin-xor t vars a b set ha hb j l one =
    let words = words_of t vars (j / 64) in
    let one' : bit_at (bit_xor (masked_sum a words) (masked_sum b words)) (j % 64) ≡ 1 = ap (λ (w : ℕ). bit_at w (j % 64)) (sym (masked_sum-xor a b words)) ∙ one in
    elim (bit_cases (masked_sum b words) (j % 64)) [
      | inr has ↦ hb j l has
      | inl none ↦ ha j l (sym (bit_at-xor_zero (masked_sum a words) (masked_sum b words) (j % 64) none) ∙ one')
    ]

-- one variable more
module _ (t : Table) (vars : List ℕ) (v : ℕ) where
  -- a mask without it leaves what it left
  LeavesWithin-push : (mask set : ℕ) → mask < 2 ^ length vars → LeavesWithin t (vars ++ v ∷ []) mask set ↔ LeavesWithin t vars mask set
  LeavesWithin-push mask set small =
      let e : (k : ℕ) → masked_sum mask (words_of t (vars ++ v ∷ []) k) ≡ masked_sum mask (words_of t vars k) =
      λ k. ap (masked_sum mask) (map_push (word_of t k) vars v)
      ∙ masked_sum-push_below (words_of t vars k) (word_of t k v) mask (subst (λ (n : ℕ). mask < 2 ^ n) (sym (length-words_of t vars k)) small) in
      ((λ h j l one. h j l (bit_along (j % 64) (e (j / 64)) one)), (λ h j l one. h j l (bit_along (j % 64) (sym (e (j / 64))) one)))

  rows_pushed : random_rows_of t (vars ++ v ∷ []) ≡ random_rows_of t vars ++ slice_index t.random_rows v ∷ []
  rows_pushed = map_push (slice_index t.random_rows) vars v

  -- a mask of variables is one of their rows
  row_mask : (mask : ℕ) → mask < 2 ^ length vars → mask < 2 ^ length (random_rows_of t vars)
  row_mask mask small = subst (λ (n : ℕ). mask < 2 ^ n) (sym (length-random_rows_of t vars)) small

  variable_mask : (mask : ℕ) → mask < 2 ^ length (random_rows_of t vars) → mask < 2 ^ length vars
  variable_mask mask small = subst (λ (n : ℕ). mask < 2 ^ n) (length-random_rows_of t vars) small

  pushed_mask : (mask : ℕ) → mask < 2 ^ length (vars ++ v ∷ []) → mask < 2 ^ suc (length (random_rows_of t vars))
  pushed_mask mask small = subst (λ (n : ℕ). mask < 2 ^ suc n) (sym (length-random_rows_of t vars)) (below-from_pushed vars v mask small)

  -- what cancels with the variable, and what cancels without it
  Cancels-pushed : (mask : ℕ) → mask < 2 ^ length vars → Cancels (random_rows_of t vars) mask → Cancels (random_rows_of t (vars ++ v ∷ [])) mask
  Cancels-pushed mask small cancels =
      subst (λ (rows : List ℕ). Cancels rows mask) (sym rows_pushed) (masked_sum-push_below (random_rows_of t vars) (slice_index t.random_rows v) mask (row_mask mask small) ∙ cancels)

  Cancels-from_pushed : (mask : ℕ) → mask < 2 ^ length (random_rows_of t vars) → Cancels (random_rows_of t vars ++ slice_index t.random_rows v ∷ []) mask → Cancels (random_rows_of t vars) mask
  Cancels-from_pushed mask small cancels = sym (masked_sum-push_below (random_rows_of t vars) (slice_index t.random_rows v) mask small) ∙ cancels

  -- masks without the variable are among those with it
  LeaveWithin-fewer : (set : ℕ) → LeaveWithin t (vars ++ v ∷ []) set → LeaveWithin t vars set
  LeaveWithin-fewer set leaves mask small cancels =
      (LeavesWithin-push mask set small).0 (leaves mask (below_pushed vars v mask (below_suc (length vars) mask small)) (Cancels-pushed mask small cancels))

  module _ (least : ℕ) (h : IsLeastSet t vars least) where
    -- the variable makes nothing cancel
    pub IsLeastSet-push_none : NoneIsNewlyCancelling (random_rows_of t vars) (slice_index t.random_rows v) → IsLeastSet t (vars ++ v ∷ []) least
    IsLeastSet-push_none none set = (
      (λ within mask small cancels.
          let cancels' = subst (λ (rows : List ℕ). Cancels rows mask) rows_pushed cancels in
          let low = none mask (subst (λ (n : ℕ). mask < 2 ^ n) (sym (add-one (length (random_rows_of t vars)))) (pushed_mask mask small)) cancels' in
          (LeavesWithin-push mask set (variable_mask mask low)).1 ((h set).0 within mask (variable_mask mask low) (Cancels-from_pushed mask low cancels'))),
      (λ leaves. (h set).1 (LeaveWithin-fewer set leaves)),
    )

    -- the variable makes a sum cancel, and these are the shares that it leaves
    pub IsLeastSet-push_some : (newest shares : ℕ) → IsNewlyCancelling (random_rows_of t vars) (slice_index t.random_rows v) newest →
        ((set : ℕ) → IsWithin shares set ↔ LeavesWithin t (vars ++ v ∷ []) newest set) → IsLeastSet t (vars ++ v ∷ []) (bit_or least shares)
    IsLeastSet-push_some newest shares new left set =
        let parts = IsWithin-or least shares set in
        let rows = random_rows_of t vars in
        let row = slice_index t.random_rows v in (
          (λ within mask small cancels.
              let cancels' = subst (λ (rs : List ℕ). Cancels rs mask) rows_pushed cancels in
              let without = IsNewlyCancelling-without rows row newest mask new (pushed_mask mask small) cancels' in
              let old : (m : ℕ) → m < 2 ^ length rows → Cancels rows m → LeavesWithin t (vars ++ v ∷ []) m set =
              λ m low c. (LeavesWithin-push m set (variable_mask m low)).1 ((h set).0 (parts.0 within).0 m (variable_mask m low) c) in
              elim (top_bit (length rows) mask (pushed_mask mask small)) [
                | inl low ↦ old mask low (without.0 low)
                | inr high ↦
                    let rest = without.1 (λ low. absurd (let z = bit_at-top (length rows) mask low in omega arith)) in
                    subst (λ (m : ℕ). LeavesWithin t (vars ++ v ∷ []) m set) (xor-cancel mask newest)
                    (LeavesWithin-xor t (vars ++ v ∷ []) (bit_xor mask newest) newest set (old (bit_xor mask newest) rest.0 rest.1) ((left set).0 (parts.0 within).1))
              ]),
          (λ leaves. parts.1 (
            (h set).1 (LeaveWithin-fewer set leaves),
            (left set).1 (leaves newest (below_pushed vars v newest (subst (λ (n : ℕ). newest < 2 ^ suc n) (length-random_rows_of t vars) (subst (λ (n : ℕ). newest < 2 ^ n) (add-one (length rows)) new.below)))
                (subst (λ (rs : List ℕ). Cancels rs newest) (sym rows_pushed) new.cancels)),
          )),
        )

-- variables are simulatable from a set exactly where the least set is within it
pub IsSimulatable-least : (t : Table) (g : Circuit) (vars : List ℕ) (least set : ℕ) → StandsFor t g → IsTable t → AreThere t vars → IsLeastSet t vars least →
    IsSimulatable g vars set ↔ IsWithin least set
IsSimulatable-least t g vars least set stand table there h =
    let law = IsSimulatable-table t g vars set stand table there in (
      (λ simulatable. (h set).1 (λ mask small cancels. LeavesWithin-cancelling t vars set (law.0 simulatable) mask cancels)),
      (λ within. law.1 (λ c e none j l left.
          let m = mask_of (length vars) c e in
          let words = words_of t vars (j / 64) in
          let rows = random_rows_of t vars in
          let cancels : Cancels rows m.0 =
          ap (λ (n : ℕ). combine (choice_of n m.0) rows) (length-random_rows_of t vars) ∙ ap (λ b. combine b rows) m.1.1 ∙ none in
          let same : masked_sum m.0 words ≡ combine c words = ap (λ (n : ℕ). combine (choice_of n m.0) words) (length-words_of t vars (j / 64)) ∙ ap (λ b. combine b words) m.1.1 in
          (h set).0 within m.0 m.1.0 cancels j l (bit_along (j % 64) same (eqb-true (bit_at (combine c words) (j % 64)) 1 left)))),
    )
