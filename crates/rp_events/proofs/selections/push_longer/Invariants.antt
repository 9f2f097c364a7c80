use Rattle.std.proofs.Common.{◌≡◌, ◌++◌, ◌∷◌, [], map, take}
use Rattle.rp_events.proofs.selections.push_longer.Given as goal

abbrev pub invariant-loop-x : goal.invariant-loop-x
invariant-loop-x g l = map (λ one. one.items) l.found.items ≡ map (λ one. one.items) l.fn.found.items ++ map (λ x. l.list ++ x ∷ []) (take l.x-index l.more)
