use Rattle.std.proofs.Common.{◌≡◌, ◌≤◌, ◌<◌, ℕ, List, length, map, get_or, rules, ap, sym, ◌∙◌, arith, subst}
use Rattle.cover_core.specs.Core.{Has}
use Rattle.cover_core.proofs.Standing.{read_pair}
use Rattle.cover_core.proofs.Having.{read-has, has-onward, has-past}
use Rattle.cover_core.proofs.conditions.has_rank.Goals as goal
use Rattle.cover_core.proofs.conditions.has_rank.Goals.{else-range-rank-via-then-range-rank+else-rank-range, else-range-rank-via-else-range-rank}

pub returns-then-rank-range : goal.returns-then-rank-range
returns-then-rank-range g c =
    let f = g.P.Pair.pair in
    let here = c.pair-range.result in
    let r = read_pair f c.args.ranges.now c.loop-i.i c.index-ranges-i.result here c.loop-i-test.true c.index-ranges-i.is c.pair-range.ensures in
    let P : ℕ × ℕ → Type 0 = λ x. Has x (map f c.args.ranges.now) in
    (λ _. (here, subst P (sym r.1) (read-has (map f c.args.ranges.now) c.loop-i.i here r.0), c.if-range-rank.true, c.if-rank-range.true), λ _. search rules)

outside : (x y : ℕ × ℕ) (rank : ℕ) → y ≡ x → x.0 ≤ rank → rank < x.1 → (y.0 ≤ rank) × (rank < y.1)
outside x y rank e low high = let P : ℕ × ℕ → Type 0 = λ z. (z.0 ≤ rank) × (rank < z.1) in subst P (sym e) (low, high)

pub loop-i-preserved : goal.loop-i-preserved
loop-i-preserved g c = λ x h low high.
    let f = g.P.Pair.pair in
    let here = c.pair-range.result in
    let r = read_pair f c.args.ranges.now c.loop-i.i c.index-ranges-i.result here c.loop-i-test.true c.index-ranges-i.is c.pair-range.ensures in
    has-onward x (map f c.args.ranges.now) c.loop-i.i here r.0
    (λ q. let o = outside x here c.args.rank (r.1 ∙ q) low high in elim c.else-range-rank.branch [
      | else-range-rank-via-then-range-rank+else-rank-range w ↦ omega (arith, o.1, w.if-rank-range.false)
      | else-range-rank-via-else-range-rank w ↦ omega (arith, o.0, w.if-range-rank.false)
    ])
    (c.loop-i.invariant x h low high)
