-- What elimination of rows has found, and what a stack of rows holds for each prefix of them.
use Rattle.std.specs.Prelude.{◌≡◌, ℕ, ◌<◌, ◌≤◌, ◌^◌, Bool, List, [], ◌∷◌, length, take, map, slice_index, bit_xor}
use Rattle.std.specs.List.{All}
use Rattle.std.specs.Int.{bit_at}
use Rattle.gf2_rows.specs.declared.pivots.Combination.{Combination}
use Rattle.gf2_rows.specs.declared.pivots.Pivot.{Pivot}
use Rattle.gf2_rows.specs.Combinations.{most_rows, combine, masked_sum, Cancels, AreIndependent}

-- the masks of pivots, in order
abbrev pub masks_of : List Pivot → List ℕ
masks_of ps = map (λ p. p.row.mask) ps

-- no pivot has the bit
abbrev pub NoneHas : ℕ → List Pivot → Type 0
NoneHas bit ps = All (λ p. bit_at p.row.total bit ≡ 0) ps

-- echelon form: each pivot has its bit, and no later one has it
abbrev pub IsEchelon : List Pivot → Type 0
IsEchelon [] = Unit {0}
IsEchelon (p ∷ ps) = (bit_at p.row.total p.bit ≡ 1) × NoneHas p.bit ps × IsEchelon ps

-- the combination is one of the rows, with their sum
abbrev pub IsCombination : List ℕ → Combination → Type 0
IsCombination rows c = (c.mask < 2 ^ length rows) × (masked_sum c.mask rows ≡ c.total)

-- each pivot is a combination of the rows
abbrev pub AreCombinations : List ℕ → List Pivot → Type 0
AreCombinations rows ps = All (λ p. IsCombination rows p.row) ps

-- a mask is the sum of some masks and of the masks of some pivots
abbrev pub IsSpanned : List Pivot → List ℕ → ℕ → Type 0
IsSpanned ps masks mask = (some taken : List Bool) × (length some ≡ length masks) × (length taken ≡ length ps) ×
    (mask ≡ bit_xor (combine some masks) (combine taken (masks_of ps)))

-- What elimination of these rows has found: pivots in echelon form and independent masks that cancel, which together
-- span all combinations.
pub record IsEliminated (rows : List ℕ) (ps : List Pivot) (masks : List ℕ) : Type 0 where
  pub combinations : AreCombinations rows ps
  pub echelon : IsEchelon ps
  pub below : All (λ m. m < 2 ^ length rows) masks
  pub cancel : All (Cancels rows) masks
  pub independent : AreIndependent masks
  pub spans : (m : ℕ) → m < 2 ^ length rows → IsSpanned ps masks m

-- pivots that elimination of these rows has found, beside some masks
pub record ArePivotsOf (rows : List ℕ) (ps : List Pivot) : Type 0 where
  pub masks : List ℕ
  pub state : IsEliminated rows ps masks
  pub bits : All (λ p. p.bit < 128) ps

-- A stack of rows: elimination of each prefix of them has found as many of the pivots as its rank says. Ranks never
-- fall, so a pivot that is written after those of one prefix leaves those of each shorter one.
pub record IsStack (rows : List ℕ) (pivots : List Pivot) (ranks : List ℕ) (count : ℕ) : Type 0 where
  pub size : length pivots ≡ most_rows
  pub few : count ≤ most_rows
  pub ranks_small : (i : ℕ) → i ≤ count → slice_index ranks i ≤ i
  pub ranks_rise : (i j : ℕ) → i ≤ j → j ≤ count → slice_index ranks i ≤ slice_index ranks j
  pub prefixes : (i : ℕ) → i ≤ count → ArePivotsOf (take i rows) (take (slice_index ranks i) pivots)
