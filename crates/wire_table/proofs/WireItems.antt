-- The wires that leak, as items: few, each of one variable, with the weights that the table gives.
use Rattle.std.proofs.Common.{◌≡◌, ◌+◌, ◌-◌, ◌*◌, ◌<◌, ◌≤◌, ◌^◌, ℕ, Bool, true, false, eqb, if◌then◌else◌, Some, None, Contains, List, [], ◌∷◌, ◌++◌, map, length, slice_index_or, count_by, ap, ◌∙◌, arith, Option}
use Rattle.std.specs.Prelude.{flat_map, is_some, nat_lt}
use Rattle.std.specs.List.{All, filter, range_with_len}
use Rattle.std.proofs.Math.ListN.{length-map}
use Rattle.std.proofs.lemmas.List.FromFn.{length-range_with_len}
use Rattle.std.proofs.lemmas.List.Elements.{All-cons, All-nil, All-map, All-filter, All-weaker, All-contains_itself}
use Rattle.std.proofs.lemmas.List.Sums.{length-filter, count_by-le-length}
use Rattle.gadget_model.specs.Circuit.{Circuit, Node, share, random, copy, sum_of, product_of, nodes}
use Rattle.gadget_tree.specs.Gadgets.{IsGadget, IsOutOf}
use Rattle.list_laws.proofs.Counts.{count_by-cons}
use Rattle.list_laws.proofs.Once.{Contains-from_filter}
use Rattle.std.proofs.lemmas.Bool.{ltb-true}
use Rattle.mask_terms.specs.declared.wires.Wires.{Wires}
use Rattle.mask_terms.specs.declared.wires.Wires.TheVariants.{Plain, Copies}
use Rattle.wire_table.specs.CodeItems.{HasSmallWeight, ObservesFew, HasVariablesBelow}
use Rattle.wire_table.specs.Items.{Item, output_index, weighted_item, numbers}
use Rattle.wire_table.specs.Tables.{Table, StandsFor}
use Rattle.wire_table.specs.Uses.{operands, uses_of, wire_count, weight_of, wire_items}
use Rattle.wire_table.proofs.OutputPlaces.{is_output}
use Rattle.wire_table.proofs.Ranges.{All-range, lt-from_range, passes-from_filter}

-- a node has at most two operand places
one_more : (p : ℕ → Bool) (a : ℕ) (rest : List ℕ) (n : ℕ) → count_by p rest ≤ n → count_by p (a ∷ rest) ≤ n + 1
one_more p a rest n h = let e = count_by-cons p a rest in let l = count_by-le-length p (a ∷ []) in omega arith

two_more : (p : ℕ → Bool) (node : Node) (rest : List ℕ) → count_by p (operands node ++ rest) ≤ count_by p rest + 2
two_more p (share k) rest = omega arith
two_more p (random k) rest = omega arith
two_more p (copy a) rest = let l = one_more p a rest (count_by p rest) (omega arith) in omega arith
two_more p (sum_of a b) rest = let l = one_more p a (b ∷ rest) (count_by p rest + 1) (one_more p b rest (count_by p rest) (omega arith)) in omega arith
two_more p (product_of a b) rest = let l = one_more p a (b ∷ rest) (count_by p rest + 1) (one_more p b rest (count_by p rest) (omega arith)) in omega arith

few_places : (p : ℕ → Bool) (ns : List Node) → count_by p (flat_map operands ns) ≤ 2 * length ns
few_places p [] = omega arith
few_places p (n ∷ ns) = let l = two_more p n (flat_map operands ns) in let k = few_places p ns in omega arith

few_uses : (g : Circuit) (v : ℕ) → uses_of g v ≤ 2 * length g.variables
unfolding uses_of
few_uses g v = let l = few_places (λ a. eqb a v) (nodes g) in let e = length-map g.variables (λ v. v.node) in omega arith

module _ (g : Circuit) (is : IsGadget g) (t : Table) (stands : StandsFor t g) (v : ℕ) (l : v < length g.variables) (uses : ℕ)
    (found : uses ≡ slice_index_or t.uses v 0) where
  -- the table's uses are few
  pub small_uses : 2 * uses < 2 ^ 32
  small_uses = let e = found ∙ stands.uses v l in let few = few_uses g v in let m = is.few_variables in omega arith

  -- the weight by the table's uses
  pub weight-at : (wires : Wires) (r : Option (ℕ × ℕ)) (some : Bool) (weight : ℕ) → IsOutOf g v r → is_some r ≡ some →
      ((index : Option ℕ) → is_some index ≡ some → weight ≡ wire_count wires index uses) → weight ≡ weight_of wires g v
  weight-at wires r some weight out e counts =
      counts (output_index g v) (is_output g is v r out ∙ e) ∙ ap (wire_count wires (output_index g v)) (found ∙ stands.uses v l)

if-le : (b : Bool) (x y most : ℕ) → x ≤ most → y ≤ most → (if b then x else y) ≤ most
if-le true x y most h k = h
if-le false x y most h k = k

wire_count-few : (wires : Wires) (index : Option ℕ) (uses n : ℕ) → uses ≤ 2 * n → 1 ≤ n → wire_count wires index uses ≤ 4 * n
wire_count-few Plain None uses n few some = omega arith
wire_count-few Plain (Some index) uses n few some = if-le (eqb uses 0) 0 1 (4 * n) (omega arith) (omega arith)
wire_count-few Copies None uses n few some = if-le (eqb uses 0) 1 (2 * uses - 1) (4 * n) (omega arith) (omega arith)
wire_count-few Copies (Some index) uses n few some = omega arith

-- what holds of each variable as an item holds of the wires
module _ (wires : Wires) (g : Circuit) where
  All-wires : (P : Item → Type 0) → ((v : ℕ) → v < length g.variables → P (weighted_item g (weight_of wires g v) v)) → All P (wire_items wires g)
  unfolding wire_items
  All-wires P h =
      let item : ℕ → Item = λ v. weighted_item g (weight_of wires g v) v in
      let leaks : ℕ → Bool = λ v. nat_lt 0 (weight_of wires g v) in
      All-map P item (filter leaks (numbers g)) (All-filter leaks (λ v. P (item v)) (numbers g) (All-range (length g.variables) (λ v. P (item v)) h))

  pub few_variables-wires : All ObservesFew (wire_items wires g)
  few_variables-wires = All-wires ObservesFew (λ v l. omega arith)

  pub variables_below-wires : All (HasVariablesBelow (length g.variables)) (wire_items wires g)
  variables_below-wires =
      All-wires (HasVariablesBelow (length g.variables)) (λ v l. All-cons (λ w. w < length g.variables) v [] l (All-nil (λ w. w < length g.variables)))

  -- each stands for some wire, and for few
  pub weights-wires : IsGadget g → All HasSmallWeight (wire_items wires g)
  unfolding wire_items
  weights-wires is =
      let item : ℕ → Item = λ v. weighted_item g (weight_of wires g v) v in
      let leaks : ℕ → Bool = λ v. nat_lt 0 (weight_of wires g v) in
      All-map HasSmallWeight item (filter leaks (numbers g))
      (All-weaker (Contains (filter leaks (numbers g))) (λ v. HasSmallWeight (item v))
      (λ v c.
      let l = lt-from_range (length g.variables) v (Contains-from_filter leaks (numbers g) v c) in
      let some = ltb-true 0 (weight_of wires g v) (passes-from_filter leaks (numbers g) v c) in
      let few = wire_count-few wires (output_index g v) (uses_of g v) (length g.variables) (few_uses g v) (omega arith) in
      let most = is.few_variables in
      (omega arith, omega arith))
      (filter leaks (numbers g)) (All-contains_itself (filter leaks (numbers g))))

  pub few_wires : length (wire_items wires g) ≤ length g.variables
  unfolding wire_items
  few_wires =
      let item : ℕ → Item = λ v. weighted_item g (weight_of wires g v) v in
      let leaks : ℕ → Bool = λ v. nat_lt 0 (weight_of wires g v) in
      let a = length-map (filter leaks (numbers g)) item in
      let b = length-filter leaks (numbers g) in
      let c = count_by-le-length leaks (numbers g) in
      let d = length-range_with_len 0 (length g.variables) in
      omega arith

  -- the items of all variables
  pub items_of_all : (n : ℕ) (items : List Item) → n ≡ length g.variables →
      items ≡ map (λ v. weighted_item g (weight_of wires g v) v) (filter (λ v. nat_lt 0 (weight_of wires g v)) (range_with_len 0 n)) → items ≡ wire_items wires g
  unfolding wire_items
  items_of_all n items e h =
      h ∙ ap (λ (m : ℕ). map (λ v. weighted_item g (weight_of wires g v) v) (filter (λ v. nat_lt 0 (weight_of wires g v)) (range_with_len 0 m))) e
