use Rattle.std.proofs.Common.{◌≡◌, map, drop}
use Rattle.rp_events.specs.Events.{selections}
use Rattle.rp_events.proofs.LongerSelections.{from_here}
use Rattle.rp_events.proofs.selections.selections.Given as goal

abbrev pub invariant-loop-list : goal.invariant-loop-list
invariant-loop-list g l =
    from_here (map (λ one. one.items) l.found.items) (drop l.list-index (map (λ list. list.now) l.lists)) ≡ selections (map (λ list. list.now) l.lists)
