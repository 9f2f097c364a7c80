-- The items of a notion are few, and each fits what the test works in.
use Rattle.std.proofs.Common.{◌≡◌, ◌≢◌, ◌+◌, ◌*◌, ◌<◌, ◌≤◌, ℕ, Bool, true, false, if◌then◌else◌, List, [], ◌++◌, map, length, get_or, refl, ap, sym, ◌∙◌, subst, inl, inr, arith, Contains, Option, Some, None, length-append}
use Rattle.std.specs.Prelude.{is_none}
use Rattle.std.specs.List.{All, range_with_len}
use Rattle.std.proofs.Math.ListN.{length-map}
use Rattle.std.proofs.Math.Nat.{mul_comm, le-mul_of_pos_right}
use Rattle.std.proofs.lemmas.List.FromFn.{length-range_with_len}
use Rattle.std.proofs.lemmas.List.Elements.{All-append, All-cons, All-nil, All-map, All-contains, All-contains_itself, All-weaker, All-filter, Contains-append_cases}
use Rattle.std.proofs.lemmas.List.Kept.{AllPairs-filter}
use Rattle.gadget_model.specs.Circuit.{Circuit}
use Rattle.gadget_tree.specs.Gadgets.{IsGadget}
use Rattle.list_laws.proofs.Members.{AllPairs-append}
use Rattle.list_laws.proofs.Once.{Once, Contains-from_filter}
use Rattle.tuple_model.specs.Limits.{most_items}
use Rattle.wire_table.specs.Items.{Item, numbers, output_index, kind_of}
use Rattle.wire_table.specs.CodeItems.{ObservesFew, HasVariablesBelow}
use Rattle.wire_table.proofs.Pigeonhole.{length-le}
use Rattle.notions.specs.declared.notion.Notion.{Notion}
use Rattle.notions.specs.Inside.{HasSmallIndex, IsSmallKind}
use Rattle.notions.specs.Items.{items_of, has_columns, items_with_columns, variable_item, column_item, inner_numbers}
use Rattle.wire_table.proofs.Ranges.{All-range, Contains-range, lt-from_range, Once-range, passes-from_filter}
use Rattle.wire_table.proofs.OutputPlaces.{not_output-from_None, index-lt, place-lt}

-- none is what has no answer
None-from_is_none : {X : Type 0} (o : Option X) → is_none o ≡ true → o ≡ None
None-from_is_none None h = refl
None-from_is_none (Some x) h = cc

-- what fits of an item
record Fits (variables : ℕ) (item : Item) : Type 0 where
  pub few : ObservesFew item
  pub there : HasVariablesBelow variables item
  pub index : HasSmallIndex item

module _ (g : Circuit) (is : IsGadget g) where
  -- each kind of a variable is small
  small_kind : (o : Option ℕ) → ((index : ℕ) → o ≡ Some index → index < g.shares) → IsSmallKind (kind_of o)
  small_kind None h = tt
  small_kind (Some index) h = let l = h index refl in let m = is.few_shares in omega arith

  Fits-variable : (v : ℕ) → v < length g.variables → Fits (length g.variables) (variable_item g v)
  Fits-variable v l = record {
    few = omega arith;
    there = All-cons (λ w. w < length g.variables) v [] l (All-nil (λ w. w < length g.variables));
    index = small_kind (output_index g v) (λ index e. index-lt g v index is.some_shares e);
  }

  Fits-column : (index : ℕ) → index < g.shares → Fits (length g.variables) (column_item g index)
  Fits-column index l =
      let outputs = range_with_len 0 (length g.outputs) in
      let at : ℕ → ℕ = λ output. get_or g.output_shares (g.shares * output + index) 0 in
      record {
        few = let a = length-map outputs at in let b = length-range_with_len 0 (length g.outputs) in let c = is.few_outputs in omega arith;
        there = All-map (λ v. v < length g.variables) at outputs
            (All-weaker (Contains outputs) (λ output. at output < length g.variables)
            (λ output c. is.outputs_exist (g.shares * output + index) 0
            (place-lt g.shares (length g.outputs) output index (length g.output_shares) is.all_outputs (lt-from_range (length g.outputs) output c) l))
            outputs (All-contains_itself outputs));
        index = let m = is.few_shares in omega arith;
      }

  Fits-variables : All (Fits (length g.variables)) (map (variable_item g) (numbers g))
  Fits-variables =
      All-map (Fits (length g.variables)) (variable_item g) (numbers g)
      (All-range (length g.variables) (λ v. Fits (length g.variables) (variable_item g v)) Fits-variable)

  Fits-with_columns : All (Fits (length g.variables)) (items_with_columns g)
  Fits-with_columns =
      let P : ℕ → Type 0 = λ v. Fits (length g.variables) (variable_item g v) in
      All-append (Fits (length g.variables)) (map (variable_item g) (inner_numbers g)) (map (column_item g) (range_with_len 0 g.shares))
      (All-map (Fits (length g.variables)) (variable_item g) (inner_numbers g)
      (All-filter (λ v. is_none (output_index g v)) P (numbers g) (All-range (length g.variables) P Fits-variable)))
      (All-map (Fits (length g.variables)) (column_item g) (range_with_len 0 g.shares)
      (All-range g.shares (λ index. Fits (length g.variables) (column_item g index)) Fits-column))

  Fits-by : (columns : Bool) → All (Fits (length g.variables)) (if columns then items_with_columns g else map (variable_item g) (numbers g))
  Fits-by true = Fits-with_columns
  Fits-by false = Fits-variables

  Fits-items : (notion : Notion) → All (Fits (length g.variables)) (items_of notion g)
  unfolding items_of
  Fits-items notion = Fits-by (has_columns notion)

  pub few_variables : (notion : Notion) → All ObservesFew (items_of notion g)
  few_variables notion = All-weaker (Fits (length g.variables)) ObservesFew (λ item f. f.few) (items_of notion g) (Fits-items notion)

  pub variables_below : (notion : Notion) → All (HasVariablesBelow (length g.variables)) (items_of notion g)
  variables_below notion =
      All-weaker (Fits (length g.variables)) (HasVariablesBelow (length g.variables)) (λ item f. f.there) (items_of notion g) (Fits-items notion)

  pub small_indices : (notion : Notion) → All HasSmallIndex (items_of notion g)
  small_indices notion = All-weaker (Fits (length g.variables)) HasSmallIndex (λ item f. f.index) (items_of notion g) (Fits-items notion)

  -- the inner variables and the shares of the outputs are different variables
  inner_and_outputs : length (inner_numbers g) + length g.output_shares ≤ length g.variables
  inner_and_outputs =
      let n = length g.variables in
      let R : ℕ → ℕ → Type 0 = λ a b. a ≢ b in
      let p : ℕ → Bool = λ v. is_none (output_index g v) in
      let apart : (x y : ℕ) → Contains (inner_numbers g) x → Contains g.output_shares y → x ≢ y = λ x y c d e.
      not_output-from_None g x (None-from_is_none (output_index g x) (passes-from_filter p (numbers g) x c)) (subst (Contains g.output_shares) (sym e) d) in
      let once : Once (inner_numbers g ++ g.output_shares) =
      AllPairs-append R (inner_numbers g) g.output_shares (AllPairs-filter R p (numbers g) (Once-range n)) is.distinct_outputs apart in
      let each : (x : ℕ) → Contains (inner_numbers g ++ g.output_shares) x → Contains (numbers g) x = λ x c.
      elim (Contains-append_cases (inner_numbers g) g.output_shares x c) [
        | inl inner ↦ Contains-from_filter p (numbers g) x inner
        | inr out ↦ Contains-range n x (All-contains (λ v. v < n) g.output_shares x is.outputs_exist out)
      ] in
      let l = length-le (inner_numbers g ++ g.output_shares) (numbers g) once each in
      let a = length-append (inner_numbers g) g.output_shares in
      let b = length-range_with_len 0 n in
      omega arith

  few_all : length (map (variable_item g) (numbers g)) ≤ most_items
  few_all =
      let a = length-map (numbers g) (variable_item g) in
      let b = length-range_with_len 0 (length g.variables) in
      let c = is.few_variables in
      omega arith

  few_with_columns : length (items_with_columns g) ≤ most_items
  few_with_columns =
      let a = length-append (map (variable_item g) (inner_numbers g)) (map (column_item g) (range_with_len 0 g.shares)) in
      let b = length-map (inner_numbers g) (variable_item g) in
      let c = length-map (range_with_len 0 g.shares) (column_item g) in
      let d = length-range_with_len 0 g.shares in
      let e = inner_and_outputs in
      let f = is.few_variables in
      let h = is.all_outputs in
      let s = is.some_outputs in
      let k = le-mul_of_pos_right {m = length g.outputs} g.shares (omega arith) in
      let o = mul_comm g.shares (length g.outputs) in
      omega arith

  few_by : (columns : Bool) → length (if columns then items_with_columns g else map (variable_item g) (numbers g)) ≤ most_items
  few_by true = few_with_columns
  few_by false = few_all

  pub few_items : (notion : Notion) → length (items_of notion g) ≤ most_items
  unfolding items_of
  few_items notion = few_by (has_columns notion)

-- what the two kinds of lists are
pub items_of-with_columns : (notion : Notion) (g : Circuit) (items : List Item) → has_columns notion ≡ true →
    items ≡ ([] ++ map (variable_item g) (inner_numbers g)) ++ map (column_item g) (range_with_len 0 g.shares) → items ≡ items_of notion g
unfolding items_of
items_of-with_columns notion g items is e =
    e ∙ ap (λ (columns : Bool). if columns then items_with_columns g else map (variable_item g) (numbers g)) (sym is)

pub items_of-all : (notion : Notion) (g : Circuit) (items : List Item) → has_columns notion ≡ false →
    items ≡ [] ++ map (variable_item g) (numbers g) → items ≡ items_of notion g
unfolding items_of
items_of-all notion g items is e =
    e ∙ ap (λ (columns : Bool). if columns then items_with_columns g else map (variable_item g) (numbers g)) (sym is)
