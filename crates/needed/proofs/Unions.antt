-- Unions of sets: a union is within a set exactly where each of its parts is.
use Rattle.std.proofs.Common.{◌≡◌, ◌↔◌, ℕ, ◌+◌, ◌-◌, ◌*◌, ◌/◌, ◌%◌, ◌<◌, ◌≤◌, true, eqb, List, length, get_or, ap, sym, ◌∙◌, inl, inr, arith, subst}
use Rattle.std.specs.Prelude.{bit_and, bit_or, slice_index}
use Rattle.std.specs.Int.{bit_at}
use Rattle.std.proofs.lemmas.Bool.{cases_lt, cases_eq, eq-eqb, eqb-true, false≢true}
use Rattle.std.proofs.lemmas.List.{get_or_past}
use Rattle.std.proofs.lemmas.Nat.Bits.{bit_at-lt, bit_at_or, bit_at-zero}
use Rattle.gadget_model.specs.Simulation.{IsWithin}
use Rattle.bit_lists.proofs.NumberBits.{bit_cases}
use Rattle.wire_table.specs.Tables.{has_bit}
use Rattle.needed.specs.Sums.{RowIsWithin, WordIsWithin}
use Rattle.needed.proofs.LowestBits.{IsLowest, bit_at-without_lowest, bit_from_rest}

-- a union of two sets is within a set exactly where both are
pub IsWithin-or : (a b set : ℕ) → IsWithin (bit_or a b) set ↔ (IsWithin a set × IsWithin b set)
IsWithin-or a b set = (
  (λ h. (
    (λ k one. h k (bit_at_or a b k ∙ (let l = bit_at-lt b k in omega arith))),
    (λ k one. h k (bit_at_or a b k ∙ (let l = bit_at-lt a k in omega arith))),
  )),
  (λ h k one. elim (bit_cases a k) [
    | inr has ↦ h.0 k has
    | inl none ↦ h.1 k (let e = bit_at_or a b k in omega arith)
  ]),
)

-- the shares of the product of a word's lowest one, and the word without it, in place of the word
pub WordIsWithin-lowest : (products : List ℕ) (first word low union set : ℕ) → IsLowest word low → low < 64 → first + low < length products →
    (IsWithin (bit_or union (slice_index products (first + low))) set × WordIsWithin products first (bit_and word (word - 1)) set)
    ↔ (IsWithin union set × WordIsWithin products first word set)
WordIsWithin-lowest products first word low union set h less there =
    let parts = IsWithin-or union (slice_index products (first + low)) set in (
      (λ within. (
        (parts.0 within.0).0,
        (λ bit l m has. elim (cases_eq bit low) [
          | inl e ↦ subst (λ (b : ℕ). IsWithin (slice_index products (first + b)) set) (sym e) (parts.0 within.0).1
          | inr other ↦ within.1 bit l m (bit_at-without_lowest word low bit h other ∙ has)
        ]),
      )),
      (λ within. (parts.1 (within.0, within.1 low less there h.one), (λ bit l m has. within.1 bit l m (bit_from_rest word low bit h has)))),
    )

-- a lowest one that stands for no product
pub WordIsWithin-past : (products : List ℕ) (first word low set : ℕ) → IsLowest word low → length products ≤ first + low →
    WordIsWithin products first (bit_and word (word - 1)) set ↔ WordIsWithin products first word set
WordIsWithin-past products first word low set h past = (
  (λ within bit l m has. elim (cases_eq bit low) [
    | inl e ↦ absurd (omega arith)
    | inr other ↦ within bit l m (bit_at-without_lowest word low bit h other ∙ has)
  ]),
  (λ within bit l m has. within bit l m (bit_from_rest word low bit h has)),
)

-- each product that one of the first n words of a row has is within a set
abbrev pub WordsAreWithin : List ℕ → List ℕ → ℕ → ℕ → Type 0
WordsAreWithin products row n set = (j : ℕ) → j < length products → j < 64 * n → has_bit row j ≡ true → IsWithin (slice_index products j) set

-- all words have those of the row
pub WordsAreWithin-all : (products row : List ℕ) (n set : ℕ) → length row ≤ n → WordsAreWithin products row n set ↔ RowIsWithin products row set
WordsAreWithin-all products row n set past = (
  (λ h j l has. h j l (elim (cases_lt (j / 64) (length row)) [
    | inl inside ↦ omega arith
    | inr outside ↦ absurd (false≢true (sym (ap (λ (word : ℕ). eqb (bit_at word (j % 64)) 1) (get_or_past row (j / 64) 0 outside)
        ∙ ap (λ (b : ℕ). eqb b 1) (bit_at-zero (j % 64))) ∙ has))
  ]) has),
  (λ h j l m has. h j l has),
)

-- the union with that of one word more
pub WordsAreWithin-more : (products row : List ℕ) (place union shares : ℕ) →
    ((set : ℕ) → IsWithin union set ↔ WordsAreWithin products row place set) →
    ((set : ℕ) → IsWithin shares set ↔ WordIsWithin products (64 * place) (get_or row place 0) set) →
    (set : ℕ) → IsWithin (bit_or union shares) set ↔ WordsAreWithin products row (place + 1) set
WordsAreWithin-more products row place union shares h one set =
    let parts = IsWithin-or union shares set in (
      (λ within j l m has. elim (cases_lt j (64 * place)) [
        | inl earlier ↦ (h set).0 (parts.0 within).0 j l earlier has
        | inr here ↦
            let e : j / 64 ≡ place = omega arith in
            let e' : 64 * place + j % 64 ≡ j = omega arith in
            let bit : bit_at (get_or row place 0) (j % 64) ≡ 1 =
            ap (λ (k : ℕ). bit_at (get_or row k 0) (j % 64)) (sym e) ∙ eqb-true (bit_at (get_or row (j / 64) 0) (j % 64)) 1 has in
            subst (λ (i : ℕ). IsWithin (slice_index products i) set) e' ((one set).0 (parts.0 within).1 (j % 64) (omega arith) (omega arith) bit)
      ]),
      (λ each. parts.1 (
        (h set).1 (λ j l m has. each j l (omega arith) has),
        (one set).1 (λ bit low l has.
            let e : (64 * place + bit) / 64 ≡ place = omega arith in
            let e' : (64 * place + bit) % 64 ≡ bit = omega arith in
            each (64 * place + bit) l (omega arith)
            (eq-eqb (bit_at (get_or row ((64 * place + bit) / 64) 0) ((64 * place + bit) % 64)) 1
            (ap (λ (k : ℕ). bit_at (get_or row k 0) ((64 * place + bit) % 64)) e ∙ ap (bit_at (get_or row place 0)) e' ∙ has))),
      )),
    )
