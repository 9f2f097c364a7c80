use Rattle.std.proofs.Common.{◌↔◌, ℕ, take, sym, subst, arith}
use Rattle.std.specs.Prelude.{slice_index}
use Rattle.gadget_model.specs.Simulation.{IsSimulatable, IsWithin}
use Rattle.wire_table.specs.Tables.{StandsFor}
use Rattle.needed.specs.Eliminated.{Eliminated}
use Rattle.needed.proofs.LeastSets.{IsSimulatable-least}
use Rattle.needed.proofs.elimination.Elimination.least.Goals as goal

pub returns : goal.returns
returns c g set =
    let t = c.self.inside.table.now in
    let p = c.self.inside.prefixes in
    let held = c.self.invariant in
    let P : Eliminated → Type 0 = λ e. StandsFor e.table g → IsSimulatable g e.vars set ↔ IsWithin c.least.result set in
    subst P c.self.view_is (λ stand.
    subst (λ (least : ℕ). IsSimulatable g (take p.count p.vars) set ↔ IsWithin least set) (sym c.least.ensures)
    (IsSimulatable-least t g (take p.count p.vars) (slice_index p.leasts p.count) set stand held.table held.there (held.least_sets p.count (omega arith))))
