use Rattle.std.proofs.Common.{◌≡◌, ◌<◌, ◌/◌, ◌^◌, ℕ, ap, sym, ◌∙◌, arith, subst, refl}
use Rattle.cover_core.proofs.Storing.{homed, home-is}
use Rattle.cover_core.proofs.conditions.home.Goals as goal

pub returns-clause-home : goal.returns-clause-home
returns-clause-home c = home-is c.args.code c.args.width c.from.result _ c.from.ensures (ap (λ (n : ℕ). 2 ^ 64 / n) c.from-2.ensures)

pub returns-clause-within : goal.returns-clause-within
returns-clause-within c =
    let P : ℕ → Type 0 = λ n. n < c.args.width in
    subst P (sym (home-is c.args.code c.args.width c.from.result _ c.from.ensures (ap (λ (n : ℕ). 2 ^ 64 / n) c.from-2.ensures))) (homed c.args.code c.args.width c.requires.0 c.requires.1 (omega arith))
