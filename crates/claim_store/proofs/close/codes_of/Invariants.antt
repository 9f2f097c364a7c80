use Rattle.std.specs.Slots.{slots_items}
use Rattle.claim_store.specs.Closing.{HasWords}
use Rattle.claim_store.proofs.close.codes_of.Given as goal

abbrev pub invariant-loop-place : goal.invariant-loop-place
invariant-loop-place l = HasWords (slots_items l.closed.words) l.place l.codes.items
