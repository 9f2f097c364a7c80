use Rattle.std.proofs.Common.{◌++◌, map, ap, ◌∙◌, arith}
use Rattle.rp_events.specs.Questions.{event_of}
use Rattle.rp_events.specs.Choices.{IsChoice, each_which, given_of}
use Rattle.rp_events.proofs.SelectedEvents.{one_long, one_all, all_made}
use Rattle.rp_events.proofs.listing.extend_events.Goals as goal

pub push_each_which-requires-clause-outputs : goal.push_each_which-requires-clause-outputs
push_each_which-requires-clause-outputs c =
    one_long (λ list. list.now) c.args.modes.now c.deref-given-items.result.now c.in_ok-selections.field-0.items c.deref-given-items.ensures.value c.in_ok-selections.ensures
    c.loop-given.given-index c.given-item.result c.deref.result.now (omega arith) c.given-item.is c.deref.ensures.value
    ∙ c.requires.modes

pub push_each_which-requires-clause-few : goal.push_each_which-requires-clause-few
push_each_which-requires-clause-few c =
    let long =
    one_long (λ list. list.now) c.args.modes.now c.deref-given-items.result.now c.in_ok-selections.field-0.items c.deref-given-items.ensures.value c.in_ok-selections.ensures
    c.loop-given.given-index c.given-item.result c.deref.result.now (omega arith) c.given-item.is c.deref.ensures.value in
    omega (arith, long)

pub push_each_which-requires-clause-choices : goal.push_each_which-requires-clause-choices
push_each_which-requires-clause-choices c =
    one_all (λ list. list.now) c.args.modes.now c.deref-given-items.result.now c.in_ok-selections.field-0.items c.deref-given-items.ensures.value c.in_ok-selections.ensures
    (IsChoice c.args.gadget.now.shares) c.requires.choices
    c.loop-given.given-index c.given-item.result c.deref.result.now (omega arith) c.given-item.is c.deref.ensures.value

pub returns : goal.returns
returns c =
    let made =
    all_made (λ list. list.now) c.args.modes.now c.deref-given-items.result.now c.in_ok-selections.field-0.items c.deref-given-items.ensures.value c.in_ok-selections.ensures
    given_of (each_which c.args.gadget.now c.args.rp c.args.whiches.now) c.loop-given.given-index (omega arith) in
    c.loop-given.invariant ∙ ap (λ events. map event_of c.args.events.now.items ++ events) made
