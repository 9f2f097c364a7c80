-- What the headers of each file keep that is read.
use Rattle.std.specs.Prelude.{ℕ, ◌≤◌, IsTrue, List, [], length, All, Option, Some, None}
use Rattle.gadget_text.specs.Names.{is_stem}
use Rattle.gadget_limits.specs.Limits.{most_shares, most_inputs, most_outputs, most_randoms}
use Rattle.gadget_headers.specs.Headers.{Listed, Preamble}

-- the words that a header lists; none where it is missing
abbrev pub stems_of : Option Listed → List (List ℕ)
stems_of None = []
stems_of (Some listed) = listed.stems

-- the numbers are within the limits, and all words are stems
pub record KeepsLimits (h : Preamble) : Type 0 where
  pub some_shares : 1 ≤ h.shares
  pub few_shares : h.shares ≤ most_shares
  pub some_inputs : 1 ≤ length h.inputs.stems
  pub few_inputs : length h.inputs.stems ≤ most_inputs
  pub few_randoms : length (stems_of h.randoms) ≤ most_randoms
  pub some_outputs : 1 ≤ length h.outputs.stems
  pub few_outputs : length h.outputs.stems ≤ most_outputs
  pub input_stems : All (λ w. IsTrue (is_stem w)) h.inputs.stems
  pub random_stems : All (λ w. IsTrue (is_stem w)) (stems_of h.randoms)
  pub output_stems : All (λ w. IsTrue (is_stem w)) h.outputs.stems
