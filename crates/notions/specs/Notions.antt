-- The notions: from which input shares each grants that a set of probes is simulated, and which sets fail.
use Rattle.std.specs.Prelude.{◌≡◌, ℕ, ◌+◌, ◌*◌, ◌<◌, ◌≤◌, ◌⊎◌, Bool, true, false, List, length, count_by, map, Contains, slice_index_or}
use Rattle.gadget_model.specs.Circuit.{Circuit}
use Rattle.gadget_model.specs.Simulation.{HasShare, IsSimulatable}
use Rattle.needed.specs.ShareCounts.{shares_of}
use Rattle.wire_table.specs.Items.{Item, variables_in}
use Rattle.wire_table.specs.declared.item.ItemKind.{ItemKind}
use Rattle.wire_table.specs.declared.item.ItemKind.TheVariants.{Internal, Output}
use Rattle.notions.specs.declared.notion.Notion.{Notion}
use Rattle.notions.specs.declared.notion.Notion.TheVariants.{Ni, Tni, Sni, Pini}

-- the kind of an item, by its number
abbrev pub kind_at : List Item → ℕ → ItemKind
kind_at items i = slice_index_or (map (λ item. item.kind) items) i Internal

abbrev pub is_internal : ItemKind → Bool
is_internal Internal = true
is_internal (Output index) = false

-- how many items of a tuple are no shares of outputs
abbrev pub internal_count : List Item → List ℕ → ℕ
internal_count items t = count_by (λ i. is_internal (kind_at items i)) t

-- some item of a tuple is a share of an output with this index
abbrev pub HasOutput : List Item → List ℕ → ℕ → Type 0
HasOutput items t index = (i : ℕ) × Contains t i × (kind_at items i ≡ Output index)

-- a set has at most so many shares of each input
abbrev pub HasAtMost : Circuit → ℕ → ℕ → Type 0
HasAtMost g most set = (input : ℕ) → input < length g.inputs → shares_of input set ≤ most

-- each share in a set has an index of one of the tuple's outputs, or one that a list has
abbrev pub HasIndicesIn : Circuit → List Item → List ℕ → List ℕ → ℕ → Type 0
HasIndicesIn g items t others set =
    (input index : ℕ) → input < length g.inputs → index < 16 → HasShare set (16 * input + index) →
    HasOutput items t index ⊎ Contains others index

-- The input shares that a notion of order t grants the simulator of a tuple's probes.
abbrev pub Grants : Notion → Circuit → ℕ → List Item → List ℕ → ℕ → Type 0
-- at most t of each input (non-interference: Barthe et al., CCS 2016)
Grants Ni g t items tuple set = HasAtMost g t set
-- at most as many of each input as there are probes (the same, by the number of probes)
Grants Tni g t items tuple set = HasAtMost g (length tuple) set
-- at most as many of each input as there are probes inside (strong non-interference: Barthe et al., CCS 2016)
Grants Sni g t items tuple set = HasAtMost g (internal_count items tuple) set
-- those with an index of a probed output, and with as many more indices, the same for all inputs, as there are probes
-- inside (probe-isolating non-interference: Cassiers and Standaert, IEEE TIFS 2020)
Grants Pini g t items tuple set =
    (others : List ℕ) × (length others ≤ internal_count items tuple) × HasIndicesIn g items tuple others set

-- A tuple fails for a notion of order t: it has at most t items, and no set that the notion grants simulates its
-- variables.
pub record Fails (notion : Notion) (g : Circuit) (t : ℕ) (items : List Item) (tuple : List ℕ) : Type 0 where
  pub few : length tuple ≤ t
  pub not_simulatable :
      (set : ℕ) → Grants notion g t items tuple set → IsSimulatable g (variables_in items tuple) set → ⊥

-- Strong non-interference speaks of gadgets with one output.
abbrev pub HasTooManyOutputs : Notion → Circuit → Type 0
HasTooManyOutputs notion g = (notion ≡ Sni) × (1 < length g.outputs)
