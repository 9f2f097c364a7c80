use Rattle.std.proofs.Common.{◌≡◌, ◌<◌, ℕ, [], get_or, length, ap, sym, ◌∙◌, subst, arith}
use Rattle.std.specs.List.{All}
use Rattle.std.proofs.Math.ListN.{length-map}
use Rattle.std.proofs.lemmas.List.{length-take}
use Rattle.arrayvec.specs.ArrayVec.{ArrayVec}
use Rattle.needed.specs.HeldItems.{held_by, observed_of}
use Rattle.needed.proofs.HeldItems.{observed_at, variables_at-few}
use Rattle.needed.proofs.held_items.HeldItems.push.Goals as goal

pub extend-requires-clause-few : goal.extend-requires-clause-few
extend-requires-clause-few c =
    let h = c.args.self.now in
    let before = c.requires.held in
    let held = variables_at-few (observed_of c.args.observed.now) (length h.elimination.table.random_rows) (held_by h) c.requires.observed before.there in
    let same = ap length before.variables in
    let items = length-take h.count h.items in
    let few = c.requires.few in
    let fits = c.as_slice.ensures.fits in
    omega arith

pub extend-requires-clause-there : goal.extend-requires-clause-there
extend-requires-clause-there c =
    let stored = c.args.observed.now in
    let item = c.args.item in
    let vars = c.index-observed-from.result in
    let bound = length c.args.self.now.elimination.table.random_rows in
    let there = c.requires.there in
    let read : vars ≡ get_or stored item vars = c.index-observed-from.is ∙ ap (λ (i : ℕ). get_or stored i vars) c.from.ensures in
    let at : get_or (observed_of stored) item [] ≡ c.as_slice.result.now =
    observed_at stored item vars there ∙ ap (λ (vs : ArrayVec ℕ). vs.items) (sym read) ∙ sym c.as_slice.ensures.value in
    subst (All (λ v. v < bound)) at (c.requires.observed item [] (omega (arith, length-map stored (λ (vs : ArrayVec ℕ). vs.items)))).1
