use Rattle.std.proofs.Common.{◌≡◌, ℕ, length, map, ap, sym, ◌∙◌, subst}
use Rattle.wire_table.specs.CodeItems.{item_of}
use Rattle.needed.specs.Eliminated.{Eliminated}
use Rattle.needed.specs.HeldItems.{AreObserved, observed_of}
use Rattle.needed.specs.TestedItems.{observed_by}
use Rattle.needed.proofs.HeldItems.{AreObserved-items}
use Rattle.needed.proofs.item_scratch.ItemScratch.make.Goals as goal

pub invariant_of-result : goal.invariant_of-result
invariant_of-result c =
    let stored = c.in_ok-observed.observed.items in
    let items = map item_of c.args.list.now in
    let same : observed_of stored ≡ observed_by items = c.in_ok-observed.ensures in
    let rows : Eliminated → ℕ = λ e. length e.table.random_rows in
    let bound : rows c.new.result.elimination ≡ length c.args.table.now.random_rows = ap rows (c.new.ensures.elimination ∙ c.in_ok-elimination.ensures) in
    record {
      observed = subst (λ (n : ℕ). AreObserved n (observed_of stored)) (sym bound)
          (subst (AreObserved (length c.args.table.now.random_rows)) (sym same)
          (AreObserved-items (length c.args.table.now.random_rows) items c.requires.few c.requires.variables));
      held = c.new.ensures.held (observed_of stored);
    }
