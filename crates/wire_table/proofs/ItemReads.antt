-- What an item of the code's list is among the items that it stands for.
use Rattle.std.proofs.Common.{◌≡◌, ◌+◌, ◌<◌, ℕ, List, [], ◌∷◌, ◌++◌, map, length, get_or, take, ap, sym, ◌∙◌, subst, arith, append-nil}
use Rattle.std.specs.Prelude.{flat_map}
use Rattle.std.specs.List.{All}
use Rattle.std.proofs.Math.ListN.{length-map}
use Rattle.std.proofs.lemmas.List.{get_or-map, take_more}
use Rattle.std.proofs.lemmas.List.Concat.{flat_map-append}
use Rattle.std.proofs.lemmas.List.Elements.{All-nil, All-head, All-tail, All-append}
use Rattle.gadget_model.specs.Circuit.{Circuit, Variable}
use Rattle.gadget_tree.specs.declared.var.Var.{Var}
use Rattle.gadget_tree.specs.Seen.{variable_of, variables_of}
use Rattle.gadget_tree.specs.Variables.{name_at}
use Rattle.wire_table.specs.declared.item.Item as code
use Rattle.wire_table.specs.declared.item.ItemKind.TheVariants.{Internal}
use Rattle.wire_table.specs.Items.{Item, kind_of, output_index, variables_in, weighted_item}
use Rattle.wire_table.specs.CodeItems.{item_of, HasVariablesBelow}

module _ (list : List code.Item) (i : ℕ) (item : code.Item) (l : i < length list) (is : item ≡ get_or list i item) where
  pub item_at : get_or (map item_of list) i (item_of item) ≡ item_of item
  item_at = get_or-map item_of list i item (item_of item) l ∙ ap item_of (sym is)

  pub within_items : i < length (map item_of list)
  within_items = omega (arith, length-map list item_of)

  pub fact_at : (P : Item → Type 0) → All P (map item_of list) → P (item_of item)
  fact_at P all = subst P item_at (all i (item_of item) within_items)

  pub variables_at-list : get_or (map (λ (x : Item). x.variables) (map item_of list)) i [] ≡ item.vars.items
  variables_at-list =
      get_or-map (λ (x : Item). x.variables) (map item_of list) i (item_of item) [] within_items ∙ ap (λ (x : Item). x.variables) item_at

-- an item to read where there is none
none : Item
none = record { name = []; variables = []; kind = Internal; weight = 0 }

-- the variables of one item more
pub variables_in-more : (items : List Item) (t : List ℕ) (k : ℕ) (bound : List ℕ) (vars : List ℕ) → k < length t → bound ≡ variables_in items (take k t) →
    get_or (map (λ (x : Item). x.variables) items) (get_or t k 0) [] ≡ vars → bound ++ vars ≡ variables_in items (take (k + 1) t)
variables_in-more items t k bound vars l e f =
    let at : ℕ → List ℕ = λ i. get_or (map (λ (x : Item). x.variables) items) i [] in
    let v = get_or t k 0 in
    sym (ap (λ (u : List ℕ). flat_map at u) (take_more t k 0 l) ∙ flat_map-append at (take k t) (v ∷ []) ∙ ap (λ (u : List ℕ). flat_map at (take k t) ++ u) (append-nil (at v) ∙ f)
    ∙ ap (λ (u : List ℕ). u ++ vars) (sym e))

-- the variables of a tuple's items are below a bound that holds for each item
pub variables_in-below : (bound : ℕ) (items : List Item) (t : List ℕ) → All (λ i. i < length items) t → All (HasVariablesBelow bound) items →
    All (λ v. v < bound) (variables_in items t)
variables_in-below bound items [] there below = All-nil (λ v. v < bound)
variables_in-below bound items (i ∷ t) there below =
    let at : ℕ → List ℕ = λ k. get_or (map (λ (x : Item). x.variables) items) k [] in
    let l : i < length items = All-head (λ k. k < length items) i t there in
    let d : Item = get_or items i none in
    let e : at i ≡ d.variables = get_or-map (λ (x : Item). x.variables) items i none [] l in
    All-append (λ v. v < bound) (at i) (variables_in items t) (subst (All (λ v. v < bound)) (sym e) (below i none l))
    (variables_in-below bound items t (All-tail (λ k. k < length items) i t there) below)

-- places within a list are within a map of it
pub within_map : {X Y : Type 0} (f : X → Y) (xs : List X) (t : List ℕ) → All (λ i. i < length xs) t → All (λ i. i < length (map f xs)) t
within_map f xs t there = subst (λ (n : ℕ). All (λ i. i < n) t) (sym (length-map xs f)) there

-- the name of a variable that the code has
pub name_at-list : (vars : List Var) (variables : List Variable) (i : ℕ) (x : Var) (n : List ℕ) → variables_of vars ≡ variables → i < length variables →
    n ≡ (get_or vars i x).name → n ≡ name_at variables i
name_at-list vars variables i x n are l e =
    let k : i < length (variables_of vars) = let a = ap (λ (vs : List Variable). length vs) are in omega arith in
    let j : i < length vars = let a = length-map vars variable_of in omega arith in
    e
    ∙ sym (get_or-map (λ (v : Variable). v.name) (variables_of vars) i (variable_of x) [] k
    ∙ ap (λ (v : Variable). v.name) (get_or-map variable_of vars i x (variable_of x) j))
    ∙ ap (λ (vs : List Variable). name_at vs i) are

-- an item of one variable
pub same_item : (item : code.Item) (g : Circuit) (v : ℕ) → item.name ≡ name_at g.variables v → item.vars.items ≡ v ∷ [] → item.kind ≡ kind_of (output_index g v) →
    item_of item ≡ weighted_item g item.weight v
same_item item g v e f h = cc
