-- What is given of an output, as the code has it.
use Rattle.std.specs.Prelude.{◌≡◌, ℕ, ◌+◌, ◌*◌, ◌^◌, ◌≤◌, List, [], ◌∷◌, All, flat_map, length, map, replicate}
use Rattle.std.specs.List.{sum}
use Rattle.gadget_limits.specs.Limits.{most_shares}
use Rattle.gadget_model.specs.Circuit.{Circuit}
use Rattle.tuple_model.specs.Tuples.{IsRising}
use Rattle.wire_table.specs.declared.which.Which.{Which}
use Rattle.wire_table.specs.declared.which.Which.TheVariants.{Any}
use Rattle.rp_events.specs.declared.rp.Rp.{Rp}
use Rattle.rp_events.specs.declared.rp.Rp.TheVariants.{Rpc, Rpe}
use Rattle.rp_events.specs.declared.choices.Choice.{Choice}
use Rattle.rp_events.specs.declared.choices.Choice.TheVariants.{Exactly, AllButOne}
use Rattle.rp_events.specs.Events.{Event, Given, exactly, all_but_one, chosen, selections, event_with, whiches}

-- what a choice of the code's gives
abbrev pub given_of : Choice → Given
given_of (Exactly indices) = exactly indices.now
given_of (AllButOne sets) = all_but_one

-- the sets of indices that a choice of the code's lists
abbrev pub indices_meant : Choice → List (List ℕ)
indices_meant (Exactly indices) = indices.now ∷ []
indices_meant (AllButOne sets) = map (λ set. set.items) sets.now

-- the indices may be those of shares
abbrev pub AreIndices : Choice → Type 0
AreIndices choice = All (IsRising 0 most_shares) (indices_meant choice)

-- a choice for an output of n shares: it lists the sets of indices that are meant by what it gives
pub record IsChoice (n : ℕ) (choice : Choice) : Type 0 where
  pub few : n ≤ most_shares
  pub meant : indices_meant choice ≡ chosen n (given_of choice)
  pub below : All (IsRising 0 n) (indices_meant choice)

-- the shares of an output with these indices, as bits of a set
abbrev pub shares_at : ℕ → List ℕ → ℕ
shares_at output indices = sum (map (λ index. 2 ^ (16 * output + index)) indices)

-- the events that give these of the outputs, one for each of these inputs
abbrev pub each_which : Circuit → Rp → List Which → List Given → List Event
each_which g rp asked given = map (event_with g rp given) asked

-- the events of one mode of each output, each with what it may give
abbrev pub events_by : Circuit → Rp → List Which → List (List Given) → List Event
events_by g rp asked modes = flat_map (each_which g rp asked) (selections modes)

-- the modes that a task has, where these may be given: composability has one, expandability both
abbrev pub modes_of : {X : Type 0} → Rp → X → X → List X
modes_of Rpc exact free = exact ∷ []
modes_of Rpe exact free = exact ∷ free ∷ []

-- over which inputs a task asks
abbrev pub whiches_of : Rp → Circuit → List Which
whiches_of Rpc g = Any ∷ []
whiches_of Rpe g = whiches g

-- the events of a task, where these may be given of each output
abbrev pub events_from : Rp → Circuit → List Given → List Given → List Event
events_from rp g exact free =
    flat_map (events_by g rp (whiches_of rp g)) (selections (replicate (length g.outputs) (modes_of rp exact free)))
