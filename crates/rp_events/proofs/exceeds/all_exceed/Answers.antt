use Rattle.std.proofs.Common.{◌↔◌, ◌++◌, ℕ, List, Vec, Global, ◌∙◌, map, subst, arith}
use Rattle.std.proofs.lemmas.List.{take_all}
use Rattle.gadget_model.specs.Simulation.{IsSimulatable, IsWithin}
use Rattle.wire_table.specs.Tables.{StandsFor}
use Rattle.needed.specs.TestedItems.{TestedItems, variables_at}
use Rattle.rp_events.specs.Inside.{AllExceed}
use Rattle.rp_events.proofs.Exceeding.{numbers_held, AllExceed-more}
use Rattle.rp_events.proofs.exceeds.all_exceed.Goals as goal

pub loop-others-preserved : goal.loop-others-preserved
loop-others-preserved c =
    let before = c.loop-others.invariant in
    let scratch = c.args.scratch.now in
    let least = c.needed-least.result in
    record {
      scratch = c.needed-least.ensures.scratch ∙ before.scratch;
      all = λ g stands inputs.
          let P : TestedItems → Type 0 = λ s. StandsFor s.table g → (set : ℕ) → IsSimulatable g (variables_at s.observed c.args.tuple.now ++ c.deref.result.now) set ↔ IsWithin least set in
          AllExceed-more g c.args.t c.args.which (variables_at scratch.observed c.args.tuple.now) c.args.lists.now c.loop-others.others-index
          c.others-item.result c.deref.result.now least c.loop-others-test.true c.others-item.is c.deref.ensures.value
          (subst P before.scratch (λ stand set. c.needed-least.ensures.least g set stand) stands)
          ((c.exceeds.ensures g inputs).0 c.if-not-exceeds.false) (before.all g stands inputs);
    }

pub returns-clause-all : goal.returns-clause-all
returns-clause-all c h g stands inputs =
    subst (λ (lists : List (Vec ℕ Global)). AllExceed g c.args.t c.args.which (variables_at c.args.scratch.now.observed c.args.tuple.now) (map numbers_held lists))
    (take_all c.loop-others.others-index c.args.lists.now (let past = c.loop-others-test.false in omega arith)) (c.loop-others.invariant.all g stands inputs)
