-- One more symbol after a unit.
use Rattle.std.proofs.Common.{◌≡◌, ℕ, Bool, true, false, cond, List, [], ◌∷◌, reverse, Some, Result, Ok, Err, sym, ap, ◌∙◌}
use Rattle.std.specs.Prelude.{OnOk}
use Rattle.std.specs.declared.alloc.AllocError.{AllocError}
use Rattle.gadget_grammar.specs.declared.level.Level.{Level}
use Rattle.gadget_grammar.specs.declared.step.Step.{Step}
use Rattle.gadget_grammar.specs.Symbols.{Symbol, plus, times, closing}
use Rattle.gadget_grammar.specs.Steps.{NamedStep, sum, product}
use Rattle.gadget_grammar.specs.Machine.{State, with_waiting, with_level, next_before_unit, next_behind_unit, after_closing, next_state, final_steps, final_steps_at}
use Rattle.gadget_grammar.specs.Seen.{steps_in}

-- a product, and then a sum, are put out
pub level_ended : (old mid new : List Step) (level : Level) (r : Result (Unit {0}) AllocError) →
    ((bytes : List ℕ) → steps_in bytes mid ≡ with_waiting level.product product (steps_in bytes old)) →
    OnOk r ((bytes : List ℕ) → steps_in bytes new ≡ with_waiting level.sum sum (steps_in bytes mid)) →
    OnOk r ((bytes : List ℕ) → steps_in bytes new ≡ with_level level (steps_in bytes old))
level_ended old mid new level (Ok u) h k = λ bytes. k bytes ∙ ap (with_waiting level.sum sum) (h bytes)
level_ended old mid new level (Err e) h k = tt

module _ (steps : List NamedStep) (outer : List Level) (here : Level) (has_unit : Bool) (symbol : Symbol) (unit : has_unit ≡ true) where
  -- a unit stands last
  abbrev s : State
  s = record { steps = steps; outer = outer; here = here; has_unit = has_unit }

  -- what follows a unit decides
  unit_advances : next_state s symbol ≡ next_behind_unit steps outer here symbol
  unit_advances = ap (λ (b : Bool). cond b (next_behind_unit steps outer here symbol) (next_before_unit steps outer here symbol)) unit

  -- `+` puts out all that waits, and a sum waits then
  pub plus_advances : (new : List NamedStep) → symbol ≡ plus → new ≡ with_level here steps →
      next_state s symbol ≡ Some (record { steps = new; outer = outer; here = record { sum = true; product = false }; has_unit = false })
  plus_advances new e f =
      unit_advances ∙ ap (next_behind_unit steps outer here) e
      ∙ ap (λ (z : List NamedStep). Some (record { steps = z; outer = outer; here = record { sum = true; product = false }; has_unit = false })) (sym f)

  -- `*` puts out a product that waits, and a product waits then
  pub times_advances : (new : List NamedStep) → symbol ≡ times → new ≡ with_waiting here.product product steps →
      next_state s symbol ≡ Some (record { steps = new; outer = outer; here = record { sum = here.sum; product = true }; has_unit = false })
  times_advances new e f =
      unit_advances ∙ ap (next_behind_unit steps outer here) e
      ∙ ap (λ (z : List NamedStep). Some (record { steps = z; outer = outer; here = record { sum = here.sum; product = true }; has_unit = false })) (sym f)

  -- `)` puts out all that waits, and the level around goes on
  pub closing_advances : (new : List NamedStep) (level : Level) (around : List Level) → symbol ≡ closing → new ≡ with_level here steps → outer ≡ level ∷ around →
      next_state s symbol ≡ Some (record { steps = new; outer = around; here = level; has_unit = has_unit })
  closing_advances new level around e f g =
      unit_advances ∙ ap (next_behind_unit steps outer here) e ∙ ap (after_closing (with_level here steps)) g
      ∙ ap (λ (z : List NamedStep). Some (record { steps = z; outer = around; here = level; has_unit = true })) (sym f)
      ∙ ap (λ (b : Bool). Some (record { steps = new; outer = around; here = level; has_unit = b })) (sym unit)

-- the steps at the end, where no parenthesis is open and a unit stands last
pub level_finished : (steps new : List NamedStep) (outer : List Level) (here : Level) (has_unit : Bool) → outer ≡ [] → has_unit ≡ true → new ≡ with_level here steps →
    final_steps (record { steps = steps; outer = reverse outer; here = here; has_unit = has_unit }) ≡ Some new
level_finished steps new outer here has_unit e f g =
    ap (λ (z : List Level). final_steps_at steps (reverse z) here has_unit) e ∙ ap (final_steps_at steps [] here) f ∙ ap Some (sym g)
