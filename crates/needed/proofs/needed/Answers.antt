use Rattle.std.proofs.Common.{◌≡◌, ◌↔◌, ◌++◌, ℕ, List, take, ap, sym, ◌∙◌, subst, arith}
use Rattle.std.specs.Prelude.{slice_index}
use Rattle.gadget_model.specs.Simulation.{IsSimulatable, IsWithin}
use Rattle.needed.proofs.LeastSets.{IsSimulatable-least}
use Rattle.needed.proofs.needed.Goals as goal

pub returns-clause-least : goal.returns-clause-least
returns-clause-least c g set stand =
    let t = c.args.table.now in
    let p = c.extend.new.self in
    let held = c.extend.ensures.held in
    let vars = c.args.vars.now in
    let are : take p.count p.vars ≡ vars = c.extend.ensures.vars ∙ ap (λ (vs : List ℕ). vs ++ vars) c.new-prefixes.ensures.none in
    subst (λ (vs : List ℕ). IsSimulatable g vs set ↔ IsWithin c.least.result set) are
    (subst (λ (least : ℕ). IsSimulatable g (take p.count p.vars) set ↔ IsWithin least set) (sym c.least.ensures)
    (IsSimulatable-least t g (take p.count p.vars) (slice_index p.leasts p.count) set stand held.table held.there (held.least_sets p.count (omega arith))))
