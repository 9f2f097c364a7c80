use Rattle.std.proofs.Common.{◌≡◌, ◌≤◌, ◌<◌, ℕ}
use Rattle.cover_core.specs.Core.{path, Saw}
use Rattle.cover_core.specs.Effects.{PassedBy, Further}
use Rattle.claim_store.specs.Seen.{IsPassOf}
use Rattle.claim_store.proofs.store.Store.look_code.Given as goal

abbrev pub invariant-loop-step : goal.invariant-loop-step
invariant-loop-step g l =
    let width = l.self.facts.width in
    record {
      kept : IsPassOf g.Q.Question.items g.Q.Question.size g.Q.Question.Fails l.self l.pass;
      further : Further width l.fn.pass.view l.pass.view;
      place : l.place ≡ path width l.code l._step;
      within : l.place < width;
      passed : PassedBy width l.code l._step l.pass.view;
      unseen : (k : ℕ) → k < width → Saw (path width l.code k) l.code l.fn.pass.view → l._step ≤ k;
      inside : (p : ℕ) → 0 < l._step → Saw p l.code l.fn.pass.view → p < width;
    }
