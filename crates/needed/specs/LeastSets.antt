-- The least set of variables in terms of the table, and what is held for each prefix of them.
use Rattle.std.specs.Prelude.{◌≡◌, ◌↔◌, ℕ, ◌+◌, ◌<◌, ◌≤◌, ◌^◌, List, length, take, slice_index, All}
use Rattle.gadget_model.specs.Simulation.{IsWithin}
use Rattle.gf2_rows.specs.Combinations.{most_rows, Cancels}
use Rattle.wire_table.specs.Tables.{Table, IsTable}
use Rattle.needed.specs.declared.prefixes.Prefixes.{Prefixes}
use Rattle.needed.specs.Sums.{random_rows_of, LeavesWithin}

-- in each sum of the variables in which all randoms cancel, the products that are left are within a set
abbrev pub LeaveWithin : Table → List ℕ → ℕ → Type 0
LeaveWithin t vars set =
    (mask : ℕ) → mask < 2 ^ length vars → Cancels (random_rows_of t vars) mask → LeavesWithin t vars mask set

-- the set within which they all are, and which is within each other such set
abbrev pub IsLeastSet : Table → List ℕ → ℕ → Type 0
IsLeastSet t vars least = (set : ℕ) → IsWithin least set ↔ LeaveWithin t vars set

-- What is held of variables for a table: the stack of their randoms, and the least set of each prefix of them by its
-- length. The room for sums is for so many monomials.
pub record HoldsLeastSets (t : Table) (monomials : ℕ) (p : Prefixes) : Type 0 where
  pub table : IsTable t
  pub monomials_are : monomials ≡ length t.products
  pub places : length p.vars ≡ most_rows
  pub sets : length p.leasts ≡ most_rows + 1
  pub few : p.count ≤ most_rows
  pub there : All (λ v. v < length t.random_rows) (take p.count p.vars)
  pub rows : p.stack ≡ random_rows_of t (take p.count p.vars)
  pub least_sets : (i : ℕ) → i ≤ p.count → IsLeastSet t (take i p.vars) (slice_index p.leasts i)
