-- What cancels once a row is added.
use Rattle.std.specs.Prelude.{◌≡◌, ℕ, ◌+◌, ◌<◌, ◌^◌, List, [], ◌∷◌, ◌++◌, length, Option, Some, None}
use Rattle.std.specs.Int.{bit_at}
use Rattle.gf2_rows.specs.Combinations.{Cancels}

-- a combination of the rows and one row more that has that one and sums to zero
pub record IsNewlyCancelling (rows : List ℕ) (row mask : ℕ) : Type 0 where
  pub below : mask < 2 ^ (length rows + 1)
  pub newest : bit_at mask (length rows) ≡ 1
  pub cancels : Cancels (rows ++ row ∷ []) mask

-- no combination of the rows and one row more that has that one sums to zero
abbrev pub NoneIsNewlyCancelling : List ℕ → ℕ → Type 0
NoneIsNewlyCancelling rows row =
    (mask : ℕ) → mask < 2 ^ (length rows + 1) → Cancels (rows ++ row ∷ []) mask → mask < 2 ^ length rows

-- the answer for one row more: a combination that has it and sums to zero, or none where there is none
abbrev pub NewlyCancels : List ℕ → ℕ → Option ℕ → Type 0
NewlyCancels rows row (Some mask) = IsNewlyCancelling rows row mask
NewlyCancels rows row None = NoneIsNewlyCancelling rows row
