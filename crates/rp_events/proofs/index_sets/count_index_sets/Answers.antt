use Rattle.std.proofs.Common.{◌≡◌, ℕ, ◌+◌, ◌*◌, ◌/◌, ◌≤◌, ap, sym, ◌∙◌, arith}
use Rattle.tuple_order.proofs.Counting.{ways, length-rising}
use Rattle.rp_events.proofs.Binomials.{ways-few, product-few, ways-step}
use Rattle.rp_events.proofs.index_sets.count_index_sets.Goals as goal

pub overflow_mul-count : goal.overflow_mul-count
overflow_mul-count c =
    let n = c.args.n in
    let i = c.loop-chosen.invariant in
    let e = ap (λ (m : ℕ). m * c.from.result) i in
    let l : n ≤ 16 = omega arith in
    let m : c.from.result ≤ n = omega arith in
    let p = product-few c.loop-chosen.chosen n c.from.result l m in
    omega arith

pub loop-chosen-preserved : goal.loop-chosen-preserved
loop-chosen-preserved c =
    let n = c.args.n in
    let chosen = c.loop-chosen.chosen in
    let e = ap (λ (m : ℕ). m * c.from.result / (c.from-in-loop-chosen.result + 1)) c.loop-chosen.invariant in
    let d : c.from-in-loop-chosen.result ≡ chosen = omega arith in
    let f = ap (λ (m : ℕ). ways chosen n * c.from.result / (m + 1)) d in
    e ∙ f ∙ ways-step chosen n c.from.result (omega arith)

pub returns-clause-count : goal.returns-clause-count
returns-clause-count c =
    let e : c.loop-chosen.chosen ≡ c.args.size = omega arith in
    c.loop-chosen.invariant ∙ ap (λ (m : ℕ). ways m c.args.n) e ∙ sym (length-rising c.args.size c.args.n 0)

pub returns-clause-few : goal.returns-clause-few
returns-clause-few c =
    let i = c.loop-chosen.invariant in
    let b = ways-few c.loop-chosen.chosen c.args.n (omega arith) in
    omega arith
