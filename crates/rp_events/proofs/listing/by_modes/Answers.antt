use Rattle.std.proofs.Common.{[], ◌∷◌, List, Bor, map, length, take, ap, ◌∙◌, arith}
use Rattle.std.specs.Prelude.{flat_map, replicate}
use Rattle.std.specs.List.{All}
use Rattle.rp_events.specs.declared.choices.Choice.{Choice}
use Rattle.rp_events.specs.Events.{Given, selections}
use Rattle.rp_events.specs.Choices.{IsChoice, events_by, given_of}
use Rattle.rp_events.proofs.SelectedEvents.{one_long, one_all, all_made, All-two, length-two, map-two}
use Rattle.rp_events.proofs.listing.by_modes.Goals as goal

pub extend_events-requires-clause-modes : goal.extend_events-requires-clause-modes
extend_events-requires-clause-modes c =
    let k = length c.outputs-outputs.result.now in
    one_long (λ list. list.now) (take k (c.args.modes ∷ c.args.modes ∷ [])) c.deref-one_each-items.result.now c.in_ok-selections.field-0.items c.deref-one_each-items.ensures.value c.in_ok-selections.ensures
    c.loop-one_each.one_each-index c.one_each-item.result c.deref.result.now (omega arith) c.one_each-item.is c.deref.ensures.value
    ∙ length-two c.args.modes k c.outputs-outputs.ensures.few ∙ ap length c.outputs-outputs.ensures.outputs

pub extend_events-requires-clause-few : goal.extend_events-requires-clause-few
extend_events-requires-clause-few c =
    let k = length c.outputs-outputs.result.now in
    let long =
    one_long (λ list. list.now) (take k (c.args.modes ∷ c.args.modes ∷ [])) c.deref-one_each-items.result.now c.in_ok-selections.field-0.items c.deref-one_each-items.ensures.value c.in_ok-selections.ensures
    c.loop-one_each.one_each-index c.one_each-item.result c.deref.result.now (omega arith) c.one_each-item.is c.deref.ensures.value
    ∙ length-two c.args.modes k c.outputs-outputs.ensures.few in
    omega (arith, long)

pub extend_events-requires-clause-choices : goal.extend_events-requires-clause-choices
extend_events-requires-clause-choices c =
    let k = length c.outputs-outputs.result.now in
    let R = λ (choices : Bor (List Choice)). All (IsChoice c.args.gadget.now.shares) choices.now in
    one_all (λ list. list.now) (take k (c.args.modes ∷ c.args.modes ∷ [])) c.deref-one_each-items.result.now c.in_ok-selections.field-0.items c.deref-one_each-items.ensures.value c.in_ok-selections.ensures
    R (All-two (λ (list : Bor (List (Bor (List Choice)))). All R list.now) c.args.modes k c.requires)
    c.loop-one_each.one_each-index c.one_each-item.result c.deref.result.now (omega arith) c.one_each-item.is c.deref.ensures.value

pub returns : goal.returns
returns c =
    let k = length c.outputs-outputs.result.now in
    let f = λ (choices : Bor (List Choice)). map given_of choices.now in
    let E = events_by c.args.gadget.now c.args.rp c.args.whiches.now in
    let made =
    all_made (λ list. list.now) (take k (c.args.modes ∷ c.args.modes ∷ [])) c.deref-one_each-items.result.now c.in_ok-selections.field-0.items c.deref-one_each-items.ensures.value c.in_ok-selections.ensures
    f E c.loop-one_each.one_each-index (omega arith) in
    let two = map-two (λ (list : Bor (List (Bor (List Choice)))). map f list.now) c.args.modes k c.outputs-outputs.ensures.few in
    let outputs = ap length c.outputs-outputs.ensures.outputs in
    c.loop-one_each.invariant ∙ made
    ∙ ap (λ (lists : List (List (List Given))). flat_map E (selections lists)) two
    ∙ ap (λ n. flat_map E (selections (replicate n (map f c.args.modes.now)))) outputs
