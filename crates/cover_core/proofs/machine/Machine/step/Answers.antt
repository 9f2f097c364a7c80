use Rattle.std.proofs.Common.{◌≡◌, ◌≤◌, ◌<◌, ◌^◌, ℕ, length, arith}
use Rattle.cover_core.specs.Core.{question_of}
use Rattle.cover_core.specs.Machines.{state_of}
use Rattle.cover_core.proofs.Stepping.{takes_not, few_read, ranges_read, spent_not, outside_not}
use Rattle.cover_core.proofs.machine.Machine.step.Goals as goal

pub returns-then-len-seat-clause-takes : goal.returns-then-len-seat-clause-takes
returns-then-len-seat-clause-takes g c =
    let q = g.Q.Question in
    let a = question_of (q.items c.args.query.now) (q.size c.args.query.now) (q.Fails c.args.query.now) in
    let s = state_of c.args.self.now in
    takes_not a s c.args.number c.args.kind.now _ (outside_not a s c.args.number c.args.kind.now (omega (arith, c.if-len-seat.true, c.len.ensures, c.args.self.now.views.ok.0)))

pub returns-then-index-eq0-clause-takes : goal.returns-then-index-eq0-clause-takes
returns-then-index-eq0-clause-takes g c =
    let q = g.Q.Question in
    let a = question_of (q.items c.args.query.now) (q.size c.args.query.now) (q.Fails c.args.query.now) in
    let s = state_of c.args.self.now in
    let inside : c.args.number < length s.views = omega (arith, c.if-len-seat.false, c.len.ensures, c.args.self.now.views.ok.0) in
    takes_not a s c.args.number c.args.kind.now _ (spent_not a s c.args.number c.args.kind.now c.index.result.now inside c.index.ensures c.if-index-eq0.true)

pub split_step-requires-clause-few : goal.split_step-requires-clause-few
split_step-requires-clause-few g c κs bounds =
    let s = state_of c.args.self.now in
    let inside : c.args.number < length s.views = omega (arith, c.if-len-seat.false, c.len.ensures, c.args.self.now.views.ok.0) in
    few_read (2 ^ 63) s.views c.args.number inside c.requires.few

pub join_step-requires-clause-few : goal.join_step-requires-clause-few
join_step-requires-clause-few g c κs bounds =
    let s = state_of c.args.self.now in
    let inside : c.args.number < length s.views = omega (arith, c.if-len-seat.false, c.len.ensures, c.args.self.now.views.ok.0) in
    few_read (2 ^ 63) s.views c.args.number inside c.requires.few

pub claim_step-requires-clause-few : goal.claim_step-requires-clause-few
claim_step-requires-clause-few g c κs bounds =
    let s = state_of c.args.self.now in
    let inside : c.args.number < length s.views = omega (arith, c.if-len-seat.false, c.len.ensures, c.args.self.now.views.ok.0) in
    few_read (2 ^ 63) s.views c.args.number inside c.requires.few

pub look_step-requires-clause-few : goal.look_step-requires-clause-few
look_step-requires-clause-few g c κs bounds =
    let s = state_of c.args.self.now in
    let inside : c.args.number < length s.views = omega (arith, c.if-len-seat.false, c.len.ensures, c.args.self.now.views.ok.0) in
    few_read (2 ^ 63) s.views c.args.number inside c.requires.few

pub publish_step-requires-clause-few : goal.publish_step-requires-clause-few
publish_step-requires-clause-few g c κs bounds =
    let s = state_of c.args.self.now in
    let inside : c.args.number < length s.views = omega (arith, c.if-len-seat.false, c.len.ensures, c.args.self.now.views.ok.0) in
    few_read (2 ^ 63) s.views c.args.number inside c.requires.few

pub settle_step-requires-clause-few : goal.settle_step-requires-clause-few
settle_step-requires-clause-few g c κs bounds =
    let s = state_of c.args.self.now in
    let inside : c.args.number < length s.views = omega (arith, c.if-len-seat.false, c.len.ensures, c.args.self.now.views.ok.0) in
    few_read (2 ^ 63) s.views c.args.number inside c.requires.few

pub settle_step-requires-clause-ranks : goal.settle_step-requires-clause-ranks
settle_step-requires-clause-ranks g c κs bounds =
    let q = g.Q.Question in
    let a = question_of (q.items c.args.query.now) (q.size c.args.query.now) (q.Fails c.args.query.now) in
    let s = state_of c.args.self.now in
    let inside : c.args.number < length s.views = omega (arith, c.if-len-seat.false, c.len.ensures, c.args.self.now.views.ok.0) in
    ranges_read a s c.args.number inside c.requires.ok
