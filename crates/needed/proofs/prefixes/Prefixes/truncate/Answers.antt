use Rattle.std.proofs.Common.{take, sym, arith}
use Rattle.std.proofs.lemmas.List.{take_all, take-take, length-take}
use Rattle.needed.proofs.Held.{HoldsLeastSets-truncate}
use Rattle.needed.proofs.prefixes.Prefixes.truncate.Goals as goal

pub returns-then-count-self-clause-held : goal.returns-then-count-self-clause-held
returns-then-count-self-clause-held c t monomials held =
    HoldsLeastSets-truncate t monomials monomials c.args.self.now c.truncate.new.self held c.args.count (let less = c.if-count-self.true in omega arith) c.truncate.ensures

pub returns-then-count-self-clause-vars : goal.returns-then-count-self-clause-vars
returns-then-count-self-clause-vars c =
    sym (take-take c.args.count c.args.self.now.count c.args.self.now.vars (let less = c.if-count-self.true in omega arith))

pub returns-else-count-self-clause-vars : goal.returns-else-count-self-clause-vars
returns-else-count-self-clause-vars c =
    let all = take c.args.self.now.count c.args.self.now.vars in
    let more = c.if-count-self.false in
    let few = length-take c.args.self.now.count c.args.self.now.vars in
    sym (take_all c.args.count all (omega arith))
