-- What a notion grants passes to smaller sets, so that the least set of input shares decides whether a tuple fails.
use Rattle.std.proofs.Common.{◌↔◌, ◌+◌, ◌*◌, ◌≤◌, ℕ, List, length, inl, inr, arith}
use Rattle.gadget_model.specs.Circuit.{Circuit}
use Rattle.gadget_model.specs.Simulation.{IsWithin, IsSimulatable}
use Rattle.wire_table.specs.Items.{Item, variables_in}
use Rattle.notions.specs.declared.notion.Notion.{Notion}
use Rattle.notions.specs.declared.notion.Notion.TheVariants.{Ni, Tni, Sni, Pini}
use Rattle.notions.specs.Notions.{HasAtMost, Grants, Fails, internal_count}
use Rattle.notions.specs.Questions.{Passes}
use Rattle.needed.proofs.ShareCounts.{shares_of-within}

HasAtMost-within : (g : Circuit) (most small large : ℕ) → IsWithin small large → HasAtMost g most large → HasAtMost g most small
HasAtMost-within g most small large within few input l = let a = shares_of-within input small large within in let b = few input l in omega arith

-- what is granted passes to smaller sets
Grants-within : (notion : Notion) (g : Circuit) (t : ℕ) (items : List Item) (tuple : List ℕ) (small large : ℕ) → IsWithin small large →
    Grants notion g t items tuple large → Grants notion g t items tuple small
Grants-within Ni g t items tuple small large within granted = HasAtMost-within g t small large within granted
Grants-within Tni g t items tuple small large within granted = HasAtMost-within g (length tuple) small large within granted
Grants-within Sni g t items tuple small large within granted = HasAtMost-within g (internal_count items tuple) small large within granted
Grants-within Pini g t items tuple small large within granted =
    (granted.0, granted.1, λ input index l m h. granted.2 input index l m (within (16 * input + index) h))

-- what passes doesn't fail
pub not_Fails-from_Passes : (notion : Notion) (g : Circuit) (t : ℕ) (items : List Item) (tuple : List ℕ) → Passes notion g t items tuple →
    Fails notion g t items tuple → ⊥
not_Fails-from_Passes notion g t items tuple (inl more) f = let few = f.few in absurd (omega arith)
not_Fails-from_Passes notion g t items tuple (inr (set, granted, simulated)) f = f.not_simulatable set granted simulated

module _ (notion : Notion) (g : Circuit) (t : ℕ) (items : List Item) (tuple : List ℕ) (least : ℕ)
    (is_least : (set : ℕ) → IsSimulatable g (variables_in items tuple) set ↔ IsWithin least set) where
  -- where the least set is granted a tuple passes, and where it isn't a tuple of few items fails
  pub Passes-least : Grants notion g t items tuple least → Passes notion g t items tuple
  Passes-least granted = inr (least, granted, (is_least least).1 (λ k h. h))

  pub Fails-least : length tuple ≤ t → (Grants notion g t items tuple least → ⊥) → Fails notion g t items tuple
  Fails-least few large = record {
    few = few;
    not_simulatable = λ set granted sim. large (Grants-within notion g t items tuple least set ((is_least set).0 sim) granted);
  }
