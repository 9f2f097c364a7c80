use Rattle.rp_events.proofs.Judged.{tuple_observed, tuple_short, few_shares_held, shares_held, FailsAsked-all, PassesEvent-asked, not_FailsAsked-some}
use Rattle.rp_events.proofs.query.EventQueryQuery.judge.Goals as goal

pub all_exceed-requires-clause-there : goal.all_exceed-requires-clause-there
all_exceed-requires-clause-there g c =
    tuple_observed c.args.self.now c.self.inside c.self.view_is c.self.invariant c.args.scratch.now c.requires.scratch c.args.t.now c.requires.tuple
    c.items.result.now c.items.ensures.items

pub all_exceed-requires-clause-short : goal.all_exceed-requires-clause-short
all_exceed-requires-clause-short g c =
    tuple_short c.args.self.now c.self.inside c.self.view_is c.self.invariant c.args.scratch.now c.requires.scratch c.args.t.now c.requires.tuple
    c.items.result.now c.items.ensures.items

pub all_exceed-requires-clause-few_others : goal.all_exceed-requires-clause-few_others
all_exceed-requires-clause-few_others g c =
    few_shares_held c.args.self.now c.self.inside c.self.view_is c.self.invariant c.args.scratch.now c.requires.scratch c.deref.result.now
    c.deref.ensures.value

pub all_exceed-requires-clause-others : goal.all_exceed-requires-clause-others
all_exceed-requires-clause-others g c =
    shares_held c.args.self.now c.self.inside c.self.view_is c.self.invariant c.args.scratch.now c.requires.scratch c.deref.result.now
    c.deref.ensures.value

pub returns-clause-fails : goal.returns-clause-fails
returns-clause-fails g c h =
    FailsAsked-all c.args.self.now c.self.inside c.self.view_is c.self.invariant c.args.scratch.now c.requires.scratch c.deref.result.now
    c.deref.ensures.value c.args.t.now c.items.result.now c.items.ensures.items c.inputs.result.now c.inputs.ensures.inputs (c.all_exceed.ensures.all h)

pub returns-clause-passes : goal.returns-clause-passes
returns-clause-passes g c h =
    not_FailsAsked-some c.args.self.now c.self.inside c.self.view_is c.self.invariant c.args.scratch.now c.requires.scratch c.deref.result.now
    c.deref.ensures.value c.args.t.now c.items.result.now c.items.ensures.items c.inputs.result.now c.inputs.ensures.inputs (c.all_exceed.ensures.some h)

pub returns-clause-simulated : goal.returns-clause-simulated
returns-clause-simulated g c h =
    PassesEvent-asked c.args.self.now c.self.inside c.self.view_is c.self.invariant c.args.scratch.now c.requires.scratch c.deref.result.now
    c.deref.ensures.value c.args.t.now c.items.result.now c.items.ensures.items c.inputs.result.now c.inputs.ensures.inputs (c.all_exceed.ensures.some h)
