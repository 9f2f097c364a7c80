use Rattle.std.proofs.Common.{◌+◌, ◌*◌, ◌≤◌, length, ap, ◌∙◌, arith, mul-le-mul}
use Rattle.rp_events.specs.Choices.{whiches_of}
use Rattle.rp_events.proofs.Counts.{event_count-Rpc, event_count-Rpe, power-few}
use Rattle.rp_events.proofs.refusals.event_count.Goals as goal

pub pow-requires : goal.pow-requires
pow-requires c =
    let p = power-few c.count_index_sets-exact.result (length c.outputs.result.now) (omega arith) (omega arith) in
    omega arith

pub pow-requires-in-Rpe : goal.pow-requires-in-Rpe
pow-requires-in-Rpe c =
    let p = power-few (c.count_index_sets-exact.result + 1) (length c.outputs.result.now) (omega arith) (omega arith) in
    omega arith

pub overflow_mul-result : goal.overflow_mul-result
overflow_mul-result c =
    let p = power-few (c.count_index_sets-exact.result + 1) (length c.outputs.result.now) (omega arith) (omega arith) in
    let r : c.pow-in-Rpe.result ≤ 4295098369 = omega arith in
    let m : c.pow-in-Rpe.result * length c.whiches_of.result.now ≤ 4295098369 * 3 = mul-le-mul r c.whiches_of.ensures.few in
    omega arith

pub returns-in-Rpc : goal.returns-in-Rpc
returns-in-Rpc c =
    let g = c.args.gadget.now in
    let e = event_count-Rpc g c.args.t in
    let f = c.pow.ensures in
    let k = ap length c.outputs.ensures.outputs in
    let s = c.count_index_sets-exact.ensures.count in
    let n = c.shares.ensures.shares in
    let i = c.in-Rpc.is in
    rw i (cc)

pub returns-in-Rpe : goal.returns-in-Rpe
returns-in-Rpe c =
    let g = c.args.gadget.now in
    let e = event_count-Rpe g c.args.t in
    let f = c.pow-in-Rpe.ensures in
    let k = ap length c.outputs.ensures.outputs in
    let s = c.count_index_sets-exact.ensures.count in
    let n = c.shares.ensures.shares in
    let i = c.in-Rpe.is in
    let w = ap length c.whiches_of.ensures.whiches ∙ ap (λ rp. length (whiches_of rp g)) i in
    rw i (cc)
