use Rattle.std.proofs.Common.{◌≡◌, ◌++◌, ◌∷◌, [], map, take}
use Rattle.std.specs.Prelude.{flat_map}
use Rattle.rp_events.proofs.selections.longer.Given as goal

abbrev pub invariant-loop-list : goal.invariant-loop-list
invariant-loop-list g l = map (λ one. one.items) l.found.items ≡ flat_map (λ list. map (λ x. list.items ++ x ∷ []) l.more) (take l.list-index l.lists)
