use Rattle.std.proofs.Common.{◌≡◌, ◌+◌, ◌-◌, ◌/◌, ◌%◌, ◌<◌, ℕ, length, take, drop, refl, ap, sym, ◌∙◌, subst}
use Rattle.std.specs.Prelude.{slice_set}
use Rattle.std.specs.List.{All}
use Rattle.std.proofs.lemmas.List.Elements.{All-drop, All-take}
use Rattle.wire_table.specs.Tables.{Table}
use Rattle.needed.specs.Eliminated.{Eliminated}
use Rattle.check_examples.proofs.least_sets.agrees_with_new_ones.Goals as goal

pub extend-requires-clause-there : goal.extend-requires-clause-there
extend-requires-clause-there c =
    let kept = c.shuffled-number.result / 281474976710656 % c.min.result in
    let asked = take (kept + 1) (slice_set c.loop.vars kept (c.shuffled-number.result / 4294967296 % 85)) in
    let rows : Table → ℕ = λ t. length t.random_rows in
    let bound = ap rows (sym (ap (λ (e : Eliminated). e.table) c.truncate.ensures ∙ c.loop.invariant.elimination)) in
    let P : ℕ → Type 0 = λ v. v < rows c.truncate.new.self.table in
    let all = subst (λ (n : ℕ). All (λ v. v < n) asked) bound (c.if-not-are_variables.ensures refl) in
    All-take P (length asked - kept) (drop kept asked) (All-drop P kept asked all)
