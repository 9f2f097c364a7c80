use Rattle.std.proofs.Common.{ℕ, List, ◌^◌, ◌<◌, ◌≤◌, length, arith, ap}
use Rattle.std.proofs.Math.Nat.{pow-le-pow_right}
use Rattle.tuple_model.specs.Limits.{most_items, most_size}
use Rattle.tuple_model.specs.Tuples.{IsTuple}
use Rattle.cover_core.proofs.conditions.subset_count.Goals as goal

few : (t : List ℕ) → IsTuple most_items most_size t → 2 ^ length t ≤ 64
few t h = let p : 0 < 2 = omega arith in let q : 2 ^ length t ≤ 2 ^ 6 = pow-le-pow_right {n = 2} p h.short in q

pub returns-clause-count : goal.returns-clause-count
returns-clause-count c =
    let l = few c.args.t.now c.items.ensures.tuple in
    let e = ap (λ (t : List ℕ). 2 ^ length t) c.items.ensures.items in
    omega arith

pub returns-clause-few : goal.returns-clause-few
returns-clause-few c =
    let l = few c.args.t.now c.items.ensures.tuple in
    let e = ap (λ (t : List ℕ). 2 ^ length t) c.items.ensures.items in
    omega arith
