use Rattle.std.proofs.Common.{ℕ, ◌+◌, List, map, ap, refl, subst, ◌∙◌}
use Rattle.list_laws.proofs.Counts.{map-map}
use Rattle.tuple_model.specs.Tuples.{IsRising}
use Rattle.rp_events.specs.Choices.{AreIndices, indices_meant, shares_at}
use Rattle.gadget_tree.proofs.StepsMake.{All-from_map}
use Rattle.rp_events.proofs.output_sets.push_with.Goals as goal

pub push_each-requires-clause-sets : goal.push_each-requires-clause-sets
push_each-requires-clause-sets c =
    All-from_map (IsRising 0 16) (λ set. set.items) c.in-AllButOne.sets.now (subst AreIndices c.in-AllButOne.is c.requires.choice)

pub returns-in-AllButOne : goal.returns-in-AllButOne
returns-in-AllButOne c =
    let f = λ (indices : List ℕ). c.args.set + shares_at c.args.output indices in
    let e =
    ap (λ choice. map f (indices_meant choice)) c.in-AllButOne.is
    ∙ map-map f (λ set. set.items) (λ set. c.args.set + shares_at c.args.output set.items) (λ set. refl) c.in-AllButOne.sets.now in
    rw e c.push_each.ensures
