use Rattle.std.proofs.Common.{◌≡◌, ◌↔◌, ◌++◌, List, ℕ, length, ap, ◌∙◌, subst, arith}
use Rattle.gadget_model.specs.Simulation.{IsSimulatable, IsWithin}
use Rattle.wire_table.specs.Tables.{Table, StandsFor}
use Rattle.needed.specs.Eliminated.{Eliminated}
use Rattle.needed.specs.HeldItems.{observed_of}
use Rattle.needed.specs.TestedItems.{variables_at}
use Rattle.needed.proofs.HeldItems.{variables_at-few, within_observed}
use Rattle.needed.proofs.held_items.HeldItems.needed.Goals as goal

pub extend-requires-clause-few : goal.extend-requires-clause-few
extend-requires-clause-few c =
    let stored = c.args.observed.now in
    let tuple = c.args.tuple.now in
    let held = c.hold.ensures.held in
    let few = variables_at-few (observed_of stored) (length c.args.self.now.elimination.table.random_rows) tuple c.requires.observed
    (within_observed stored tuple c.requires.there) in
    let same = ap length (held.variables ∙ ap (variables_at (observed_of stored)) c.hold.ensures.items) in
    let short = c.requires.short in
    let others = c.requires.few_others in
    omega arith

pub returns-clause-least : goal.returns-clause-least
returns-clause-least c g set =
    let observed = observed_of c.args.observed.now in
    let tuple = c.args.tuple.now in
    let others = c.args.others.now in
    let table = c.args.self.now.elimination.table in
    let e = c.hold.new.self.elimination in
    let held = c.hold.ensures.held in
    let whole : c.extend.new.self ≡ record { table = table; vars = variables_at observed tuple ++ others } =
    c.extend.ensures
    ∙ ap (λ (t : Table). record { table = t; vars = e.vars ++ others }) c.hold.ensures.table
    ∙ ap (λ (vars : List ℕ). record { table = table; vars = vars ++ others }) (held.variables ∙ ap (variables_at observed) c.hold.ensures.items) in
    let P : Eliminated → Type 0 = λ x. StandsFor x.table g → IsSimulatable g x.vars set ↔ IsWithin c.least.result set in
    subst P whole (c.least.ensures g set)
