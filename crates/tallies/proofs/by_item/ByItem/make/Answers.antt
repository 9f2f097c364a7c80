use Rattle.std.proofs.Common.{◌≡◌, ℕ, replicate, ap, ◌∙◌}
use Rattle.tallies.proofs.by_item.ByItem.make.Goals as goal

pub returns-clause-counts : goal.returns-clause-counts
returns-clause-counts c = c.in_ok-counts.ensures.items_if_clones_equal (λ y h. h) ∙ ap (λ (n : ℕ). replicate n 0) c.from.ensures
