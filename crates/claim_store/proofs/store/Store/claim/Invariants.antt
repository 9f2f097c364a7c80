use Rattle.std.proofs.Common.{◌≡◌, ◌<◌, ◌≤◌, ◌-◌}
use Rattle.claim_store.specs.Seen.{IsPassOf, OnlyCursor}
use Rattle.claim_store.proofs.store.Store.claim.Given as goal

abbrev pub invariant-loop-cursor : goal.invariant-loop-cursor
invariant-loop-cursor g l = record {
  kept : IsPassOf g.Q.Question.items g.Q.Question.size g.Q.Question.Fails l.self l.pass;
  at : l.pass.view.cursor ≡ l.cursor;
  most : l.cursor ≤ l.self-inside.total;
  only : OnlyCursor l.fn.pass.view l.pass.view;
  moved : l.fn.pass.view.moves < l.pass.view.moves;
}

abbrev pub decreases-loop-cursor : goal.decreases-loop-cursor
decreases-loop-cursor g l = l.self-inside.total - l.cursor
