use Rattle.std.proofs.Common.{◌≡◌, ◌↔◌, ◌≤◌, ℕ, List, arith, Result, Ok, Err, IfOk}
use Rattle.tuple_model.specs.Limits.{most_items, most_size}
use Rattle.tuple_model.specs.Tuples.{IsTuple}
use Rattle.tuple_model.specs.Minimal.{IsMinimal}
use Rattle.cover_core.specs.declared.state.State.{State}
use Rattle.cover_core.specs.Core.{Asked, CoreOk, IsLeast, Quiet, question_of}
use Rattle.cover_core.proofs.Law.{quiet-least}
use Rattle.cover_core.proofs.replaying.replay.Goals as goal

quiet-end : {E : Type 0} (a : Asked) (r : Result State E) → a.items ≤ most_items → a.size ≤ most_size → IfOk r (CoreOk a) → IfOk r (λ end. Quiet a end → (t : List ℕ) → IsTuple a.items a.size t → IsLeast end.words t ↔ IsMinimal a.Fails t)
quiet-end a (Ok end) few small ok = quiet-least a end few small ok
quiet-end a (Err e) few small ok = ok

pub returns-clause-answer : goal.returns-clause-answer
returns-clause-answer g c =
    let q = g.Q.Question in
    let a = question_of (q.items c.args.query.now) (q.size c.args.query.now) (q.Fails c.args.query.now) in
    quiet-end a c.replay_counted.result (omega (arith, c.items-items.ensures.few, c.items-items.ensures.items)) (omega (arith, c.size-size.ensures.small, c.size-size.ensures.size)) c.replay_counted.ensures.ok
