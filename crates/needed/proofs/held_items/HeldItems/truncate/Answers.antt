use Rattle.std.proofs.Common.{◌≡◌, ◌<◌, ℕ, List, length, take, ap, ◌∙◌, subst, arith}
use Rattle.std.specs.List.{All}
use Rattle.std.proofs.lemmas.List.{take-take}
use Rattle.std.proofs.lemmas.List.Elements.{All-take}
use Rattle.needed.specs.Eliminated.{Eliminated}
use Rattle.needed.specs.HeldItems.{held_by, observed_of}
use Rattle.needed.specs.TestedItems.{variables_at}
use Rattle.needed.proofs.HeldItems.{variables_at-take}
use Rattle.needed.proofs.held_items.HeldItems.truncate.Goals as goal

pub returns-clause-held : goal.returns-clause-held
returns-clause-held c =
    let observed = observed_of c.args.observed.now in
    let h = c.args.self.now in
    let count = c.args.count in
    let fewer = c.requires.fewer in
    let held = c.requires.held in
    let vars = h.elimination.vars in
    let kept = take-take count h.count h.items fewer in
    record {
      places = held.places;
      few = let few = held.few in omega arith;
      there = subst (All (λ i. i < length observed)) kept (All-take (λ i. i < length observed) count (held_by h) held.there);
      variables =
          ap (λ (e : Eliminated). e.vars) c.truncate.ensures
          ∙ ap (λ (n : ℕ). take n vars) c.variable_count-vars.ensures
          ∙ subst (λ (items : List ℕ). take (length (variables_at observed items)) vars ≡ variables_at observed items) kept
          (variables_at-take observed (held_by h) vars count held.variables);
    }
