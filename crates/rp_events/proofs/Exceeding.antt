-- What exceeds passes to larger sets of input shares, so that the least set decides.
use Rattle.std.proofs.Common.{◌≡◌, ◌↔◌, ◌+◌, ◌<◌, ℕ, List, [], ◌∷◌, ◌++◌, Vec, Global, length, map, take, get_or, ap, sym, ◌∙◌, subst, arith}
use Rattle.std.specs.List.{All}
use Rattle.std.proofs.lemmas.List.{map_more}
use Rattle.std.proofs.lemmas.List.Elements.{All-append, All-cons, All-nil, All-contains}
use Rattle.list_laws.proofs.Members.{Contains-map, Contains-from_map}
use Rattle.gadget_model.specs.Circuit.{Circuit}
use Rattle.gadget_model.specs.Simulation.{IsWithin, IsSimulatable}
use Rattle.wire_table.specs.Items.{Item, variables_in}
use Rattle.wire_table.specs.declared.which.Which.{Which}
use Rattle.wire_table.specs.declared.which.Which.TheVariants.{Any, Input, Both}
use Rattle.needed.specs.ShareCounts.{shares_of}
use Rattle.needed.proofs.ShareCounts.{shares_of-within}
use Rattle.rp_events.specs.Events.{Event}
use Rattle.rp_events.specs.Failing.{Exceeds, FailsEvent, shares_in}
use Rattle.rp_events.specs.Questions.{PassesEvent}
use Rattle.rp_events.specs.Inside.{AllExceed, SomeDoNotExceed}

-- a larger set has more shares of an input, too
more-within : (t input small large : ℕ) → IsWithin small large → t < shares_of input small → t < shares_of input large
more-within t input small large within more = let a = shares_of-within input small large within in omega arith

pub Exceeds-within : (g : Circuit) (t : ℕ) (which : Which) (small large : ℕ) → IsWithin small large →
    Exceeds g t which small → Exceeds g t which large
Exceeds-within g t Any small large within (input, l, more) = (input, l, more-within t input small large within more)
Exceeds-within g t (Input k) small large within more = more-within t k small large within more
Exceeds-within g t Both small large within (first, second) =
    (more-within t 0 small large within first, more-within t 1 small large within second)

-- the numbers that a `Vec` holds
abbrev pub numbers_held : Vec ℕ Global → List ℕ
numbers_held v = v.items

-- one list more, of which the least set exceeds
pub AllExceed-more : (g : Circuit) (t : ℕ) (which : Which) (variables : List ℕ) (lists : List (Vec ℕ Global)) (i : ℕ) (next : Vec ℕ Global) (others : List ℕ) (least : ℕ) →
    i < length lists → next ≡ get_or lists i next → others ≡ next.items → ((set : ℕ) → IsSimulatable g (variables ++ others) set ↔ IsWithin least set) →
    Exceeds g t which least → AllExceed g t which variables (map numbers_held (take i lists)) → AllExceed g t which variables (map numbers_held (take (i + 1) lists))
AllExceed-more g t which variables lists i next others least l read held is_least exceeds before =
    let P : List ℕ → Type 0 = λ xs. (set : ℕ) → IsSimulatable g (variables ++ xs) set → Exceeds g t which set in
    let at : P others = λ set sim. Exceeds-within g t which least set ((is_least set).0 sim) exceeds in
    let same : others ≡ numbers_held (get_or lists i next) = held ∙ ap numbers_held read in
    subst (All P) (sym (map_more numbers_held lists i next l))
    (All-append P (map numbers_held (take i lists)) (numbers_held (get_or lists i next) ∷ []) before
    (All-cons P (numbers_held (get_or lists i next)) [] (subst P same at) (All-nil P)))

module _ (g : Circuit) (t : ℕ) (event : Event) (items : List Item) (tuple : List ℕ) where
  -- where all sets of output shares exceed the tuple fails, and where some doesn't it passes
  pub FailsEvent-all : AllExceed g t event.which (variables_in items tuple) (map (shares_in g) event.sets) → FailsEvent g t event items tuple
  FailsEvent-all all outputs c set simulated =
      All-contains (λ others. (s : ℕ) → IsSimulatable g (variables_in items tuple ++ others) s → Exceeds g t event.which s)
      (map (shares_in g) event.sets) (shares_in g outputs) all (Contains-map (shares_in g) event.sets outputs c) set simulated

  pub PassesEvent-some : SomeDoNotExceed g t event.which (variables_in items tuple) (map (shares_in g) event.sets) → PassesEvent g t event items tuple
  PassesEvent-some (others, c, set, simulated, small) =
      let m = Contains-from_map (shares_in g) event.sets others c in
      (m.0, m.1, set, subst (λ (xs : List ℕ). IsSimulatable g (variables_in items tuple ++ xs) set) (sym m.2) simulated, small)

  -- what passes doesn't fail
  pub not_FailsEvent-from_PassesEvent : PassesEvent g t event items tuple → FailsEvent g t event items tuple → ⊥
  not_FailsEvent-from_PassesEvent (outputs, c, set, simulated, small) fails = small (fails outputs c set simulated)
