use Rattle.std.proofs.Common.{◌∙◌}
use Rattle.anf.proofs.Keys.{each_once-places}
use Rattle.anf.proofs.key.Key.make.Goals as goal

pub returns-clause-variables : goal.returns-clause-variables
returns-clause-variables c =
    c.from_four.ensures.variables
    ∙ each_once-places c.args.variables.now c.min.result c.min-2.result c.requires.rising c.requires.some c.requires.few c.min.ensures c.min-2.ensures
