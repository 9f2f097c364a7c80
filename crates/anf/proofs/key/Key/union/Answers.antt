use Rattle.std.proofs.Common.{ℕ, ◌-◌, [], ◌∷◌, length, ap, sym, ◌∙◌}
use Rattle.std.specs.Prelude.{bit_or, slice_index}
use Rattle.anf.specs.Polynomials.{set_of}
use Rattle.anf.proofs.Unions.{set_of-each_once, set_of-in_order, set_of-ends}
use Rattle.anf.proofs.key.Key.union.Goals as goal

pub returns-clause-union : goal.returns-clause-union
returns-clause-union c =
    let one = c.args.one.now in
    let other = c.args.other.now in
    let last_one = slice_index one (length one - 1) in
    let last_other = slice_index other (length other - 1) in
    ap set_of c.from_four.ensures.variables
    ∙ set_of-each_once (c.min.result ∷ c.min-2.result ∷ c.max.result ∷ c.max-2.result ∷ [])
    ∙ set_of-in_order (slice_index one 0) last_one (slice_index other 0) last_other _ _ c.min.result c.min-2.result c.max.result c.max-2.result
    c.max-x.ensures c.min-y.ensures c.min.ensures c.min-2.ensures c.max.ensures c.max-2.ensures
    ∙ sym (ap (λ (n : ℕ). bit_or n (set_of other)) (set_of-ends one c.requires.one) ∙ ap (bit_or _) (set_of-ends other c.requires.other))
