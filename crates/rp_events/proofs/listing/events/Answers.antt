use Rattle.std.proofs.Common.{List, [], ◌∷◌, map, ap, subst, sym, ◌∙◌, arith}
use Rattle.std.specs.List.{All}
use Rattle.rp_events.specs.declared.choices.Choice.TheVariants.{AllButOne}
use Rattle.rp_events.specs.Events.{Given, all_but_one}
use Rattle.rp_events.specs.Questions.{AreOutputSets, event_of}
use Rattle.rp_events.specs.Choices.{events_from, given_of}
use Rattle.rp_events.proofs.OutputBits.{IsSmall, of_events_from}
use Rattle.rp_events.proofs.GadgetEvents.{all_of_gadget}
use Rattle.rp_events.proofs.ListedEvents.{exact_held, free_held, all_have_shares, events_from-are}
use Rattle.rp_events.proofs.listing.events.Goals as goal

pub listed-requires-clause-exact : goal.listed-requires-clause-exact
listed-requires-clause-exact c =
    (exact_held c.args.gadget.now.shares c.shares.result c.args.t c.in_ok-given.given.items c.deref.result.now c.in_ok-exact.exact.items c.deref-2.result.now
    (omega arith) c.shares.ensures.shares c.deref.ensures.value c.in_ok-given.ensures c.in_ok-exact.ensures c.deref-2.ensures.value).0

pub listed-requires-clause-free : goal.listed-requires-clause-free
listed-requires-clause-free c =
    free_held c.args.gadget.now.shares c.shares-2.result c.shares-3.result c.in_ok-all_but_one.all_but_one.items c.deref-3.result
    (omega arith) c.shares-2.ensures.shares c.shares-3.ensures.shares c.deref-3.ensures.value c.in_ok-all_but_one.ensures

pub returns-clause-events : goal.returns-clause-events
returns-clause-events c =
    let exact =
    (exact_held c.args.gadget.now.shares c.shares.result c.args.t c.in_ok-given.given.items c.deref.result.now c.in_ok-exact.exact.items c.deref-2.result.now
    (omega arith) c.shares.ensures.shares c.deref.ensures.value c.in_ok-given.ensures c.in_ok-exact.ensures c.deref-2.ensures.value).1 in (
      c.in_ok-refuse.ensures,
      c.in_ok-listed.ensures
          ∙ ap (λ (exact : List Given). events_from c.args.rp c.args.gadget.now exact (all_but_one ∷ [])) exact
          ∙ events_from-are c.args.rp c.args.gadget.now c.args.t,
    )

pub returns-clause-of_gadget : goal.returns-clause-of_gadget
returns-clause-of_gadget c =
    let g = c.args.gadget.now in
    let exact =
    (exact_held g.shares c.shares.result c.args.t c.in_ok-given.given.items c.deref.result.now c.in_ok-exact.exact.items c.deref-2.result.now
    (omega arith) c.shares.ensures.shares c.deref.ensures.value c.in_ok-given.ensures c.in_ok-exact.ensures c.deref-2.ensures.value).0 in
    let free =
    free_held g.shares c.shares-2.result c.shares-3.result c.in_ok-all_but_one.all_but_one.items c.deref-3.result
    (omega arith) c.shares-2.ensures.shares c.shares-3.ensures.shares c.deref-3.ensures.value c.in_ok-all_but_one.ensures in
    let gadget = c.vars-vars.ensures.gadget in
    let small : IsSmall g = record { shares = gadget.few_shares; some = gadget.some_outputs; outputs = gadget.few_outputs } in
    let outputs : All (AreOutputSets g) (map event_of c.in_ok-listed.field-0.items) =
    subst (All (AreOutputSets g)) (sym c.in_ok-listed.ensures)
    (of_events_from g small c.args.rp (map given_of c.deref-2.result.now) (map given_of (AllButOne c.deref-3.result ∷ []))
    (all_have_shares g.shares c.deref-2.result.now exact) (all_have_shares g.shares (AllButOne c.deref-3.result ∷ []) free)) in
    all_of_gadget c.args.rp g c.args.t (map event_of c.in_ok-listed.field-0.items) (returns-clause-events c).1 outputs
