use Rattle.std.proofs.Common.{◌≡◌, ◌<◌, ◌+◌, ℕ, suc, length, vec_len, arith, ap, sym, ◌∙◌, subst, refl, take}
use Rattle.cover_core.specs.declared.state.State.{State}
use Rattle.cover_core.specs.Core.{CoreOk, question_of}
use Rattle.cover_core.specs.Machine.{after, opening}
use Rattle.cover_core.specs.Machines.{FewMoves, state_of}
use Rattle.cover_core.proofs.Ends.{opening_ok}
use Rattle.cover_core.proofs.Runs.{step-keeps}
use Rattle.cover_core.proofs.Longer.{run-more, get-read, few-after, few-opening, words-after, words-opening}
use Rattle.cover_core.proofs.replaying.replay_counted.Goals as goal

pub loop-index-init : goal.loop-index-init
loop-index-init g c =
    let q = g.Q.Question in
    let a = question_of (q.items c.args.query.now) (q.size c.args.query.now) (q.Fails c.args.query.now) in
    let e = c.in_ok-machine.ensures in
    let w : length c.in_ok-machine.machine.words.items ≡ c.args.words = ap (λ (s : State). length s.words) e ∙ words-opening c.args.words in
    record {
      scratch = c.in_ok-scratch.ensures;
      run = sym e;
      ok = subst (CoreOk a) (sym e) (opening_ok a c.args.words);
      moves = subst (FewMoves 1) (sym e) (few-opening c.args.words);
      width = c.in_ok-machine.machine.words.ok.0 ∙ w;
    }

pub returns-then-not-branch-clause-replays : goal.returns-then-not-branch-clause-replays
returns-then-not-branch-clause-replays g c =
    let x = c.index-kinds-index.result in
    let t = c.in_ok-step.ensures.takes in
    record {
      reached = state_of c.loop-index.machine;
      run = c.loop-index.invariant.run;
      step = x;
      next = get-read c.args.kinds.now c.loop-index.index x c.loop-index-test.true c.index-kinds-index.is;
      not = t.1 c.if-not-branch.true;
    }

pub loop-index-preserved : goal.loop-index-preserved
loop-index-preserved g c =
    let q = g.Q.Question in
    let a = question_of (q.items c.args.query.now) (q.size c.args.query.now) (q.Fails c.args.query.now) in
    let i = c.loop-index.invariant in
    let x = c.index-kinds-index.result in
    let s = state_of c.loop-index.machine in
    let k = c.loop-index.index in
    let t = c.in_ok-step.ensures.takes.0 c.if-not-branch.false in
    let one : suc (suc k) ≡ suc (k + 1) = omega arith in
    let end = state_of c.step.new.self in
    let F : ℕ → Type 0 = λ n. FewMoves n end in
    let w : length c.step.new.self.words.items ≡ length s.words = ap (λ (y : State). length y.words) t.1 ∙ words-after a s x.0 x.1 t.0 in
    record {
      scratch = c.in_ok-step.ensures.scratch;
      run = run-more a c.args.kinds.now k x (opening c.args.words) s end c.loop-index-test.true c.index-kinds-index.is i.run t.0 t.1;
      ok = subst (CoreOk a) (sym t.1) (step-keeps a s x.0 x.1 i.ok t.0);
      moves = subst F one (subst (FewMoves (suc (suc k))) (sym t.1) (few-after a (suc k) s x.0 x.1 t.0 i.moves));
      width = c.step.new.self.words.ok.0 ∙ w ∙ sym c.loop-index.machine.words.ok.0 ∙ i.width;
    }
