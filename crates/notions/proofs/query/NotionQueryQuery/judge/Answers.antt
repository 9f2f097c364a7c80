use Rattle.notions.proofs.Asked.{tuple_there, tuple_observed, tuple_short, small_indices_asked, FailsFor-not_granted, not_FailsFor-granted, Passes-granted}
use Rattle.notions.proofs.query.NotionQueryQuery.judge.Goals as goal

pub needed-least-requires-clause-there : goal.needed-least-requires-clause-there
needed-least-requires-clause-there g c =
    tuple_observed c.args.self.now c.self.inside c.self.view_is c.self.invariant c.args.t.now c.requires.tuple c.args.scratch.now c.requires.scratch
    c.items.result.now c.items.ensures.items

pub needed-least-requires-clause-short : goal.needed-least-requires-clause-short
needed-least-requires-clause-short g c =
    tuple_short c.args.self.now c.self.inside c.self.view_is c.self.invariant c.args.t.now c.requires.tuple c.items.result.now c.items.ensures.items

pub is_granted-requires-clause-there : goal.is_granted-requires-clause-there
is_granted-requires-clause-there g c =
    tuple_there c.args.self.now c.self.inside c.self.view_is c.self.invariant c.args.t.now c.requires.tuple c.deref.result.now c.deref.ensures.value
    c.items-2.result.now c.items-2.ensures.items

pub is_granted-requires-clause-few : goal.is_granted-requires-clause-few
is_granted-requires-clause-few g c =
    tuple_short c.args.self.now c.self.inside c.self.view_is c.self.invariant c.args.t.now c.requires.tuple c.items-2.result.now c.items-2.ensures.items

pub is_granted-requires-clause-small : goal.is_granted-requires-clause-small
is_granted-requires-clause-small g c =
    small_indices_asked c.args.self.now c.self.inside c.self.view_is c.self.invariant c.deref.result.now c.deref.ensures.value

pub returns-clause-fails : goal.returns-clause-fails
returns-clause-fails g c =
    FailsFor-not_granted c.args.self.now c.self.inside c.self.view_is c.self.invariant c.args.t.now c.requires.tuple c.args.scratch.now c.requires.scratch
    c.deref.result.now c.deref.ensures.value c.items.result.now c.items-2.result.now c.items.ensures.items c.items-2.ensures.items c.inputs.result.now
    c.inputs.ensures.inputs c.is_granted.result c.needed-least.result c.needed-least.ensures.least c.is_granted.ensures

pub returns-clause-passes : goal.returns-clause-passes
returns-clause-passes g c =
    not_FailsFor-granted c.args.self.now c.self.inside c.self.view_is c.self.invariant c.args.t.now c.requires.tuple c.args.scratch.now c.requires.scratch
    c.deref.result.now c.deref.ensures.value c.items.result.now c.items-2.result.now c.items.ensures.items c.items-2.ensures.items c.inputs.result.now
    c.inputs.ensures.inputs c.is_granted.result c.needed-least.result c.needed-least.ensures.least c.is_granted.ensures

pub returns-clause-simulated : goal.returns-clause-simulated
returns-clause-simulated g c =
    Passes-granted c.args.self.now c.self.inside c.self.view_is c.self.invariant c.args.t.now c.requires.tuple c.args.scratch.now c.requires.scratch
    c.deref.result.now c.deref.ensures.value c.items.result.now c.items-2.result.now c.items.ensures.items c.items-2.ensures.items c.inputs.result.now
    c.inputs.ensures.inputs c.is_granted.result c.needed-least.result c.needed-least.ensures.least c.is_granted.ensures
