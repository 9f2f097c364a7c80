use Rattle.std.proofs.Common.{◌≡◌, ◌<◌}
use Rattle.cover_core.specs.Core.{path}
use Rattle.cover_core.specs.Effects.{PassedBy, Further}
use Rattle.claim_store.specs.Seen.{IsPassOf}
use Rattle.claim_store.specs.Rule.{asked, Tight}
use Rattle.claim_store.proofs.store.Store.insert_code.Given as goal

abbrev pub invariant-loop-step : goal.invariant-loop-step
invariant-loop-step g l =
    let q = g.Q.Question in
    let width = l.self.facts.width in
    record {
      kept : IsPassOf g.Q.Question.items g.Q.Question.size g.Q.Question.Fails l.self l.pass;
      further : Further width l.fn.pass.view l.pass.view;
      place : l.place ≡ path width l.code l.step;
      within : l.place < width;
      passed : PassedBy width l.code l.step l.pass.view;
      tight : 0 < l.step → Tight (asked q.items q.size q.Fails l.self.facts) width l.pass.view l.code;
    }
