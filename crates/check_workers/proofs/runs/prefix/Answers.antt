use Rattle.std.proofs.Common.{sym, subst, ap, ◌∙◌}
use Rattle.tuple_model.specs.Limits.{most_items, most_size}
use Rattle.tuple_model.specs.Tuples.{IsTuple}
use Rattle.check_workers.specs.Works.{prefix_of}
use Rattle.check_workers.proofs.Prefixes.{IsTuple-prefix}
use Rattle.check_workers.proofs.runs.prefix.Goals as goal

pub returns-in-None : goal.returns-in-None
returns-in-None c =
    let fits = IsTuple-prefix most_items most_size c.args.t.now c.items-items.ensures.tuple in
    let same = c.prefix_of-chosen.ensures ∙ ap prefix_of c.items-items.ensures.items in
    absurd (c.in-None.ensures.none (subst (IsTuple most_items most_size) (sym same) fits))
