use Rattle.std.proofs.Common.{◌≡◌, [], ◌∷◌, ap, sym, ◌∙◌, subst, arith}
use Rattle.anf.specs.Keys.{each_once, variables_of_key, IsKey, HaveKey}
use Rattle.anf.proofs.Keys.{variables_of_key-key_of, IsKey-of}
use Rattle.anf.proofs.Unions.{HaveKey-each_once}
use Rattle.anf.proofs.key.Key.from_four.Goals as goal

has : (c : goal.After-packed) → HaveKey (each_once (c.args.a ∷ c.args.b ∷ c.args.c ∷ c.args.d ∷ []))
has c = HaveKey-each_once c.args.a c.args.b c.args.c c.args.d c.requires (let r = c.ranges.d in omega arith)

given_back : (c : goal.After-packed) → variables_of_key c.packed.result ≡ each_once (c.args.a ∷ c.args.b ∷ c.args.c ∷ c.args.d ∷ [])
given_back c = ap variables_of_key c.packed.ensures ∙ variables_of_key-key_of _ (has c)

pub invariant_of-result : goal.invariant_of-result
invariant_of-result c = subst IsKey (sym c.packed.ensures) (IsKey-of _ (has c))

pub returns-clause-variables : goal.returns-clause-variables
returns-clause-variables c = given_back c

pub returns-clause-key : goal.returns-clause-key
returns-clause-key c = subst HaveKey (sym (given_back c)) (has c)
