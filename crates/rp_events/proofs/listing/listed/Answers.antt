use Rattle.std.proofs.Common.{◌≡◌, List, Bor, map, length, refl, ap, subst, sym, ◌∙◌}
use Rattle.std.specs.Prelude.{IfOk, flat_map, replicate}
use Rattle.std.specs.List.{All}
use Rattle.list_laws.proofs.Counts.{map-map}
use Rattle.gadget_tree.proofs.StepsMake.{All-from_map}
use Rattle.rp_events.specs.declared.choices.Choice.{Choice}
use Rattle.rp_events.specs.Events.{Given, selections}
use Rattle.rp_events.specs.Questions.{event_of}
use Rattle.rp_events.specs.Choices.{IsChoice, given_of, events_by, whiches_of}
use Rattle.rp_events.proofs.ListedEvents.{map-modes_of, All-modes_of}
use Rattle.rp_events.proofs.listing.listed.Goals as goal

pub by_modes-requires : goal.by_modes-requires
by_modes-requires c =
    let P = All (IsChoice c.args.gadget.now.shares) in
    let now = λ (mode : Bor (List Choice)). mode.now in
    let all = All-modes_of P c.args.rp c.args.exact.now c.args.free.now c.requires.exact c.requires.free in
    let held = All-from_map P now c.in_ok-modes.modes.items (subst (All P) (sym c.in_ok-modes.ensures) all) in
    subst (All (λ (mode : Bor (List Choice)). P mode.now)) (sym c.deref.ensures.value) held

pub returns : goal.returns
returns c =
    let g = c.args.gadget.now in
    let rp = c.args.rp in
    let now = λ (mode : Bor (List Choice)). mode.now in
    let given = λ (mode : Bor (List Choice)). map given_of mode.now in
    let modes =
    ap (map given) c.deref.ensures.value
    ∙ sym (map-map (map given_of) now given (λ mode. refl) c.in_ok-modes.modes.items)
    ∙ ap (map (map given_of)) c.in_ok-modes.ensures ∙ map-modes_of (map given_of) rp c.args.exact.now c.args.free.now in
    let from =
    ap (λ asked. flat_map (events_by g rp asked) (selections (replicate (length g.outputs) (map given c.deref.result.now)))) c.whiches_of.ensures.whiches
    ∙ ap (λ (modes : List (List Given)). flat_map (events_by g rp (whiches_of rp g)) (selections (replicate (length g.outputs) modes))) modes in
    subst (λ listed. IfOk c.by_modes.result (λ events. map event_of events.items ≡ listed)) from c.by_modes.ensures
