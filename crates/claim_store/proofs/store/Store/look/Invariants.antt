use Rattle.std.proofs.Common.{◌<◌, ℕ}
use Rattle.tuple_model.specs.Tuples.{subset}
use Rattle.tuple_order.specs.Codes.{code_of}
use Rattle.cover_core.specs.Effects.{Further, ShowsAbsent, Unseen}
use Rattle.claim_store.specs.Seen.{IsPassOf}
use Rattle.claim_store.proofs.store.Store.look.Given as goal

abbrev pub invariant-loop-k : goal.invariant-loop-k
invariant-loop-k g l =
    let width = l.self.facts.width in
    record {
      kept : IsPassOf g.Q.Question.items g.Q.Question.size g.Q.Question.Fails l.self l.pass;
      further : Further width l.fn.pass.view l.pass.view;
      none : (j : ℕ) → j < l.k → ShowsAbsent width (code_of (subset j l.t)) l.fn.pass.view.moves l.pass.view × Unseen (code_of (subset j l.t)) l.fn.pass.view;
    }
