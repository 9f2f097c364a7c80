-- The events of random probing: what of the outputs has to be simulated beside the leaking wires, and from which input
-- shares it may not be (after Belaïd, Coron, Prouff, Rivain and Taleb, CRYPTO 2020; the events that are counted, and
-- how the simulator chooses, are this project's own).
use Rattle.std.specs.Prelude.{ℕ, ◌+◌, ◌*◌, ◌-◌, ◌^◌, ◌==◌, Bool, false, List, [], ◌∷◌, ◌++◌, length, map, flat_map, codes, if◌then◌else◌, nat_lt, nat_le, slice_index_or, replicate, Option, Some, None}
use Rattle.std.specs.List.{sum}
use Rattle.gadget_model.specs.Circuit.{Circuit}
use Rattle.gadget_tree.specs.Variables.{name_at}
use Rattle.tuple_model.specs.Tuples.{rising}
use Rattle.wire_table.specs.Whiches.{which_word}
use Rattle.wire_table.specs.declared.which.Which.{Which}
use Rattle.wire_table.specs.declared.which.Which.TheVariants.{Any, Input, Both}
use Rattle.rp_events.specs.declared.rp.Rp.{Rp}
use Rattle.rp_events.specs.declared.rp.Rp.TheVariants.{Rpc, Rpe}
use Rattle.rp_events.specs.declared.rp.RpError.{RpError}
use Rattle.rp_events.specs.declared.rp.RpError.TheVariants.{ManyInputs, OrderTooLarge, ManyEvents}

-- An event: its name in reports; the sets of output shares of which one has to be simulated beside the leaking wires,
-- each with bit 16 * output + index for a share; and of which inputs too many shares may not be needed.
pub record Event : Type 0 where
  pub name : List ℕ
  pub sets : List ℕ
  pub which : Which

-- what is given of an output: exactly the shares with these indices, or all but one, which the simulator chooses
pub data Given : Type 0 where
  exactly : List ℕ → Given
  all_but_one : Given

-- the sets of k of n indices, in lexicographic order
abbrev pub index_sets : ℕ → ℕ → List (List ℕ)
index_sets n k = rising k n 0

-- the sets of indices that are meant by what is given of an output of n shares
abbrev pub chosen : ℕ → Given → List (List ℕ)
chosen n (exactly indices) = indices ∷ []
chosen n all_but_one = index_sets n (n - 1)

-- one of each list, in all ways; the choice from the first list varies slowest
abbrev pub selections : {X : Type 0} → List (List X) → List (List X)
selections [] = [] ∷ []
selections (xs ∷ rest) = flat_map (λ x. map (λ others. x ∷ others) (selections rest)) xs

-- the number of a set of output shares, given by the indices of each output's, from this output on
abbrev pub set_from : ℕ → List (List ℕ) → ℕ
set_from output [] = 0
set_from output (indices ∷ others) =
    sum (map (λ index. 2 ^ (16 * output + index)) indices) + set_from (output + 1) others

-- the sets of an event that gives this of each output, by the shares of the first output and then by those of the
-- second
abbrev pub event_sets : ℕ → List Given → List ℕ
event_sets n given = map (set_from 0) (selections (map (chosen n) given))

-- the indices that are given of an output
abbrev pub indices_given : Given → List ℕ
indices_given (exactly indices) = indices
indices_given all_but_one = []

-- the name of a share of an output, after a space
abbrev pub share_word : Circuit → ℕ → ℕ → List ℕ
share_word g output index =
    codes " " ++ name_at g.variables (slice_index_or g.output_shares (g.shares * output + index) 0)

-- the names of the given shares, from this output on
abbrev pub given_words : Circuit → ℕ → List Given → List ℕ
given_words g output [] = []
given_words g output (given ∷ others) =
    flat_map (share_word g output) (indices_given given) ++ given_words g (output + 1) others

-- the digit of a mode: 1 where shares are given, 2 where the simulator chooses
abbrev pub mode_digit : Given → List ℕ
mode_digit (exactly indices) = codes "1"
mode_digit all_but_one = codes "2"

-- the first word of an event's name
abbrev pub event_word : Rp → List Given → Which → List ℕ
event_word Rpc given which = codes "rpc"
event_word Rpe given which = codes "rpe" ++ flat_map mode_digit given ++ codes "." ++ which_word which

abbrev pub event_with : Circuit → Rp → List Given → Which → Event
event_with g rp given which = record {
  name = event_word rp given which ++ given_words g 0 given;
  sets = event_sets g.shares given;
  which = which;
}

-- exactly t shares of an output, in all ways
abbrev pub exact_choices : Circuit → ℕ → List Given
exact_choices g t = map exactly (index_sets g.shares t)

-- what an output may give to expandability, by mode: exactly t shares in all ways, or the simulator's choice
abbrev pub mode_choices : Circuit → ℕ → List (List Given)
mode_choices g t = exact_choices g t ∷ (all_but_one ∷ []) ∷ []

-- over which inputs expandability asks
abbrev pub whiches : Circuit → List Which
whiches g = if length g.inputs == 1 then Input 0 ∷ [] else Input 0 ∷ Input 1 ∷ Both ∷ []

-- The events of a task at order t, in order: of composability one for each choice of exactly t shares of each output;
-- of expandability by the modes of the outputs, then by the given shares, then by the inputs.
unfoldable pub events_of : Rp → Circuit → ℕ → List Event
events_of Rpc g t =
    map (λ given. event_with g Rpc given Any) (selections (replicate (length g.outputs) (exact_choices g t)))
events_of Rpe g t =
    flat_map (λ modes. flat_map (λ given. map (event_with g Rpe given) (whiches g)) (selections modes))
    (selections (replicate (length g.outputs) (mode_choices g t)))

-- There may be at most this many events.
abbrev pub most_events : ℕ
most_events = 65536

-- how many events there are
abbrev pub event_count : Rp → Circuit → ℕ → ℕ
event_count rp g t = length (events_of rp g t)

-- expandability asks over at most two inputs
abbrev pub has_many_inputs : Rp → Circuit → Bool
has_many_inputs Rpc g = false
has_many_inputs Rpe g = nat_lt 2 (length g.inputs)

-- composability asks of at most all shares of an output, expandability of fewer
abbrev pub has_large_order : Rp → Circuit → ℕ → Bool
has_large_order Rpc g t = nat_lt g.shares t
has_large_order Rpe g t = nat_le g.shares t

-- Why there are no events: the first of these, or nothing.
abbrev pub refusal : Rp → Circuit → ℕ → Option RpError
refusal rp g t =
    if has_many_inputs rp g then Some ManyInputs
    else if has_large_order rp g t then Some OrderTooLarge
    else if nat_lt most_events (event_count rp g t) then Some (ManyEvents (event_count rp g t))
    else None
