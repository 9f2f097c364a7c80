use Rattle.std.proofs.Common.{◌≡◌, ◌++◌, take}
use Rattle.std.specs.Prelude.{flat_map}
use Rattle.rp_events.specs.Events.{share_word}
use Rattle.rp_events.proofs.names.extend_share_words.Given as goal

abbrev pub invariant-loop-index : goal.invariant-loop-index
invariant-loop-index l = l.name.items ≡ l.fn.name.items ++ flat_map (share_word l.gadget l.output) (take l.index-index l.indices)
