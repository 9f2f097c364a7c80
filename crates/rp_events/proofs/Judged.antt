-- What a query knows of its items and of the output shares that it keeps, and what the answer of its test says.
use Rattle.std.proofs.Common.{◌≡◌, ℕ, ◌<◌, ◌≤◌, List, Vec, Global, length, map, get_or, ap, sym, ◌∙◌, subst, arith}
use Rattle.std.specs.Prelude.{All}
use Rattle.std.proofs.lemmas.List.Elements.{All-map, All-weaker}
use Rattle.gadget_model.specs.Circuit.{Circuit}
use Rattle.tuple_model.specs.Limits.{most_size}
use Rattle.tuple_model.specs.Tuples.{IsTuple}
use Rattle.gadget_tree.proofs.StepsMake.{All-from_map}
use Rattle.wire_table.specs.Tables.{StandsFor}
use Rattle.wire_table.specs.Items.{Item, variables_in}
use Rattle.needed.specs.Others.{most_others}
use Rattle.needed.specs.TestedItems.{TestedItems, tested_items, variables_at}
use Rattle.rp_events.specs.declared.query.EventQuery.TheInside.{Inside}
use Rattle.rp_events.specs.Failing.{shares_in}
use Rattle.rp_events.specs.Questions.{EventQuestion, FailsAsked, leaking_items, IsOutputSet, PassesEvent}
use Rattle.rp_events.specs.Inside.{event_asked, IsPreparedEvent, AllExceed, SomeDoNotExceed}
use Rattle.needed.proofs.TestedItems.{IsTuple-observed}
use Rattle.rp_events.proofs.Exceeding.{numbers_held, FailsEvent-all, PassesEvent-some, not_FailsEvent-from_PassesEvent}
use Rattle.rp_events.proofs.OutputShares.{length-shares_in-le, shares_in-below}

-- a query, its fields, and a scratch that fits it
module _ (q : EventQuestion) (i : Inside) (seen : event_asked i ≡ q) (ready : IsPreparedEvent i) (scratch : TestedItems) (fits : scratch ≡ tested_items q.table (leaking_items q)) where
  stands : StandsFor scratch.table q.gadget
  stands =
      let P : EventQuestion → Type 0 = λ c. StandsFor c.table c.gadget in
      subst (λ (s : TestedItems). StandsFor s.table q.gadget) (sym fits) (subst P seen ready.table)

  all_variables : length i.gadget.now.variables ≡ length scratch.table.random_rows
  all_variables = let s = stands in ap (λ (c : EventQuestion). length c.gadget.variables) seen ∙ sym s.every_random_row

  -- a tuple of its items
  module _ (t : List ℕ) (tuple : IsTuple (length (leaking_items q)) q.size t) (ts : List ℕ) (are : ts ≡ t) where
    pub tuple_observed : All (λ k. k < length scratch.observed) ts
    tuple_observed = IsTuple-observed q.size t ts are scratch q.table (leaking_items q) fits tuple

    pub tuple_short : length ts ≤ most_size
    tuple_short =
        let a = tuple.short in
        let b = ready.small in
        let c = ap (λ (c : EventQuestion). c.size) seen in
        let d = ap length are in
        omega arith

  -- the lists of output shares
  module _ (lists : List (Vec ℕ Global)) (same : lists ≡ i.outputs.items) where
    held_lists : map numbers_held lists ≡ map (shares_in i.gadget.now) i.event.now.sets.items
    held_lists = ap (map numbers_held) same ∙ ready.lists

    pub few_shares_held : All (λ others. length others.items ≤ most_others) lists
    few_shares_held =
        let P : List ℕ → Type 0 = λ others. length others ≤ most_others in
        let sets = i.event.now.sets.items in
        All-from_map P numbers_held lists
        (subst (All P) (sym held_lists)
        (All-map P (shares_in i.gadget.now) sets (λ k d l. length-shares_in-le i.gadget.now (get_or sets k d))))

    pub shares_held : All (λ others. All (λ v. v < length scratch.table.random_rows) others.items) lists
    shares_held =
        let g = i.gadget.now in
        let sets = i.event.now.sets.items in
        let P : ℕ → List ℕ → Type 0 = λ n others. All (λ v. v < n) others in
        let below : All (P (length g.variables)) (map (shares_in g) sets) =
        All-map (P (length g.variables)) (shares_in g) sets
        (All-weaker (IsOutputSet g) (λ set. P (length g.variables) (shares_in g set)) (λ set is. shares_in-below g ready.gadget set is) sets ready.event.outputs) in
        All-from_map (P (length scratch.table.random_rows)) numbers_held lists
        (subst (λ (n : ℕ). All (P n) (map numbers_held lists)) all_variables (subst (All (P (length g.variables))) (sym held_lists) below))

    -- what the test answers of a tuple of the items
    module _ (t ts : List ℕ) (are : ts ≡ t) (names : List (List ℕ)) (inputs : names ≡ i.gadget.now.inputs) where
      count_inputs : length q.gadget.inputs ≡ length names
      count_inputs = sym (ap (λ (c : EventQuestion). length c.gadget.inputs) seen) ∙ sym (ap (λ (xs : List (List ℕ)). length xs) inputs)

      variables_asked : variables_at scratch.observed ts ≡ variables_in (leaking_items q) t
      variables_asked = ap (λ (s : TestedItems). variables_at s.observed ts) fits ∙ ap (variables_in (leaking_items q)) are

      lists_asked : map numbers_held lists ≡ map (shares_in q.gadget) q.event.sets
      lists_asked = held_lists ∙ ap (λ (c : EventQuestion). map (shares_in c.gadget) c.event.sets) seen

      pub FailsAsked-all : ((g : Circuit) → StandsFor scratch.table g → length g.inputs ≡ length names →
          AllExceed g i.t i.event.now.which (variables_at scratch.observed ts) (map numbers_held lists)) → FailsAsked q t
      FailsAsked-all all =
          let P : EventQuestion → Type 0 = λ c. AllExceed q.gadget c.t c.event.which (variables_at scratch.observed ts) (map numbers_held lists) in
          let Q : List ℕ → Type 0 = λ vs. AllExceed q.gadget q.t q.event.which vs (map numbers_held lists) in
          let R : List (List ℕ) → Type 0 = λ xs. AllExceed q.gadget q.t q.event.which (variables_in (leaking_items q) t) xs in
          FailsEvent-all q.gadget q.t q.event (leaking_items q) t
          (subst R lists_asked (subst Q variables_asked (subst P seen (all q.gadget stands count_inputs))))

      -- some set doesn't exceed
      module _ (some : (g : Circuit) → StandsFor scratch.table g → length g.inputs ≡ length names →
          SomeDoNotExceed g i.t i.event.now.which (variables_at scratch.observed ts) (map numbers_held lists)) where
        pub PassesEvent-asked : PassesEvent q.gadget q.t q.event (leaking_items q) t
        PassesEvent-asked =
            let P : EventQuestion → Type 0 = λ c. SomeDoNotExceed q.gadget c.t c.event.which (variables_at scratch.observed ts) (map numbers_held lists) in
            let Q : List ℕ → Type 0 = λ vs. SomeDoNotExceed q.gadget q.t q.event.which vs (map numbers_held lists) in
            let R : List (List ℕ) → Type 0 = λ xs. SomeDoNotExceed q.gadget q.t q.event.which (variables_in (leaking_items q) t) xs in
            PassesEvent-some q.gadget q.t q.event (leaking_items q) t
            (subst R lists_asked (subst Q variables_asked (subst P seen (some q.gadget stands count_inputs))))

        pub not_FailsAsked-some : FailsAsked q t → ⊥
        not_FailsAsked-some = not_FailsEvent-from_PassesEvent q.gadget q.t q.event (leaking_items q) t PassesEvent-asked
