-- The value of a monomial whose variables are input shares, or one random.
use Rattle.std.proofs.Common.{◌≡◌, ℕ, zero, suc, ◌^◌, ◌<◌, ◌≤◌, Bool, true, not, ◌&&◌, ◌||◌, eqb, List, [], ◌∷◌, length, map, refl, ap, sym, ◌∙◌, subst, inl, inr, arith, Some, None, get_or}
use Rattle.std.specs.Prelude.{fold, bit_or, slice_get}
use Rattle.std.specs.List.{All, list_all}
use Rattle.std.specs.Int.{bit_at}
use Rattle.std.specs.Int.Bits.{or_zero_l, or_zero_r}
use Rattle.std.proofs.lemmas.Nat.Bits.{bit_at-zero}
use Rattle.std.proofs.lemmas.List.{length-map, get_or-map}
use Rattle.list_laws.proofs.Counts.{map-map}
use Rattle.std.proofs.lemmas.List.Elements.{All-head, All-tail, All-cons, All-nil}
use Rattle.std.proofs.lemmas.Option.{slice_get_within, slice_get-get_or, get_or_from_slice_get}
use Rattle.gadget_model.specs.Circuit.{Circuit, Node, Variable, share, random, copy, sum_of, product_of, nodes, value}
use Rattle.gadget_model.specs.Polynomials.{set_product}
use Rattle.gadget_model.specs.Classes.{IsShare}
use Rattle.gadget_model.proofs.Values.{value-node}
use Rattle.gadget_model.proofs.PolynomialValues.{set_product-single, set_product-or}
use Rattle.gadget_tree.specs.declared.var.Var.{Var}
use Rattle.gadget_tree.specs.Seen.{node_of, variable_of, variables_of}
use Rattle.gadget_tree.specs.Gadgets.{IsGadget, IsInputShare, IsNumberedNode}
use Rattle.anf.specs.Polynomials.{set_of}
use Rattle.anf.proofs.Unions.{or_assoc}
use Rattle.wire_table.specs.declared.terms.Term.TheVariants.{Random, Product}
use Rattle.wire_table.specs.Terms.{share_bit, node_at, share_set, HasSmallShare, IsRandomOf, IsFitMonomial, IsTermOf}

-- the nodes of a gadget's variables as the code has them
pub nodes-variables_of : (g : Circuit) (vars : List Var) → variables_of vars ≡ g.variables → map (λ (var : Var). node_of var.kind) vars ≡ nodes g
nodes-variables_of g vars e =
    sym (map-map (λ (v : Variable). v.node) variable_of (λ (var : Var). node_of var.kind) (λ var. refl) vars)
    ∙ ap (λ (vs : List Variable). map (λ (v : Variable). v.node) vs) e

pub length-variables_of : (g : Circuit) (vars : List Var) → variables_of vars ≡ g.variables → length vars ≡ length g.variables
length-variables_of g vars e = sym (length-map vars variable_of) ∙ ap (λ (vs : List Variable). length vs) e

-- the node of the variable with a number
pub node_at-is : (g : Circuit) (vars : List Var) (v : ℕ) (node : Node) → variables_of vars ≡ g.variables → slice_get (nodes g) v ≡ Some node → node_at vars v ≡ node
node_at-is g vars v node e at =
    ap (λ (ns : List Node). get_or ns v (copy 0)) (nodes-variables_of g vars e) ∙ get_or_from_slice_get (nodes g) v node (copy 0) at

-- the node of a variable of the gadget stands at its place
pub node_at-node : (g : Circuit) (vars : List Var) (v : ℕ) → variables_of vars ≡ g.variables → v < length vars → slice_get (nodes g) v ≡ Some (node_at vars v)
node_at-node g vars v e l =
    let f : Var → Node = λ var. node_of var.kind in
    let n = length-map vars f in
    ap (λ (ns : List Node). slice_get ns v) (sym (nodes-variables_of g vars e)) ∙ slice_get-get_or (map f vars) v (copy 0) (omega arith)

-- a variable with a node is one of the gadget
pub variable_within : (g : Circuit) (v : ℕ) (node : Node) → slice_get (nodes g) v ≡ Some node → v < length g.variables
variable_within g v node at = let l = slice_get_within (nodes g) v node at in let n = length-map g.variables (λ (w : Variable). w.node) in omega arith

-- a share's number is that of an input share
pub IsInputShare-at : (g : Circuit) → IsGadget g → (v k : ℕ) → slice_get (nodes g) v ≡ Some (share k) → IsInputShare g k
IsInputShare-at g good v k at =
    let P : Node → Type 0 = λ w. IsNumberedNode g w in
    subst P (get_or_from_slice_get (nodes g) v (share k) (share k) at) (good.shares_numbered v (share k) (slice_get_within (nodes g) v (share k) at))

-- an input share has a number below 64
pub below-from_IsInputShare : (g : Circuit) → IsGadget g → (k : ℕ) → IsInputShare g k → k < 64
below-from_IsInputShare g good k (input, index, few, below, e) = let a = good.few_inputs in let b = good.few_shares in omega arith

HasSmallShare-from_numbered : (g : Circuit) → IsGadget g → (v : Node) → IsNumberedNode g v → HasSmallShare v
HasSmallShare-from_numbered g good (share k) h = below-from_IsInputShare g good k h
HasSmallShare-from_numbered g good (random k) h = tt
HasSmallShare-from_numbered g good (copy a) h = tt
HasSmallShare-from_numbered g good (sum_of a b) h = tt
HasSmallShare-from_numbered g good (product_of a b) h = tt

-- the input shares of a gadget have numbers below 64
pub small_shares : (g : Circuit) (vars : List Var) → IsGadget g → variables_of vars ≡ g.variables → All (λ (var : Var). HasSmallShare (node_of var.kind)) vars
small_shares g vars good e i d l =
    let P : Node → Type 0 = λ w. IsNumberedNode g w in
    let f : Var → Node = λ var. node_of var.kind in
    let same = nodes-variables_of g vars e in
    let n = ap (λ (ns : List Node). length ns) same in
    let m = length-map vars f in
    HasSmallShare-from_numbered g good (f (get_or vars i d))
    (subst P (ap (λ (ns : List Node). get_or ns i (f d)) (sym same) ∙ get_or-map f vars i d (f d) l) (good.shares_numbered i (f d) (omega arith)))

-- the product over no variables
set_product-zero : (n : ℕ) (bits : ℕ → Bool) → set_product n 0 bits ≡ true
set_product-zero zero bits = refl
set_product-zero (suc n) bits =
    ap (λ (b : Bool). b && (not (eqb (bit_at 0 n) 1) || bits n)) (set_product-zero n bits) ∙ ap (λ (u : ℕ). not (eqb u 1) || bits n) (bit_at-zero n)

-- the product over some variables
pub set_product-set_of : (n : ℕ) (vs : List ℕ) (bits : ℕ → Bool) → All (λ v. v < n) vs → set_product n (set_of vs) bits ≡ list_all bits vs
set_product-set_of n [] bits below = set_product-zero n bits
set_product-set_of n (v ∷ vs) bits below =
    let P : ℕ → Type 0 = λ w. w < n in
    set_product-or n (2 ^ v) (set_of vs) bits
    ∙ ap (λ (b : Bool). b && set_product n (set_of vs) bits) (set_product-single n v bits (All-head P v vs below))
    ∙ ap (λ (b : Bool). bits v && b) (set_product-set_of n vs bits (All-tail P v vs below))

-- the numbers of variables that are input shares, with what holds of them
record Numbers (g : Circuit) (vars : List Var) (vs : List ℕ) : Type 0 where
  shares : List ℕ
  as_many : length shares ≡ length vs
  inputs : All (IsInputShare g) shares
  united : (a : ℕ) → fold (λ set v. bit_or set (share_bit (node_at vars v))) a vs ≡ bit_or a (set_of shares)
  values : (x : ℕ → Bool) (r : List Bool) → list_all (value g x r) vs ≡ list_all x shares

numbers : (g : Circuit) (vars : List Var) → IsGadget g → variables_of vars ≡ g.variables → (vs : List ℕ) → All (IsShare g) vs → Numbers g vars vs
numbers g vars good e [] all = record {
  shares = [];
  as_many = refl;
  inputs = All-nil (IsInputShare g);
  united = λ a. sym (or_zero_r a);
  values = λ x r. refl;
}
numbers g vars good e (v ∷ vs) all =
    let i = numbers g vars good e vs (All-tail (IsShare g) v vs all) in
    let s : IsShare g v = All-head (IsShare g) v vs all in
    record {
      shares = s.0 ∷ i.shares;
      as_many = ap suc i.as_many;
      inputs = All-cons (IsInputShare g) s.0 i.shares (IsInputShare-at g good v s.0 s.1) i.inputs;
      united = λ a.
          ap (λ (node : Node). fold (λ set v. bit_or set (share_bit (node_at vars v))) (bit_or a (share_bit node)) vs) (node_at-is g vars v (share s.0) e s.1)
          ∙ i.united (bit_or a (2 ^ s.0))
          ∙ or_assoc a (2 ^ s.0) (set_of i.shares);
      values = λ x r.
          ap (λ (b : Bool). b && list_all (value g x r) vs) (value-node g good.in_order x r v (share s.0) s.1)
          ∙ ap (λ (b : Bool). x s.0 && b) (i.values x r);
    }

-- at most two input shares stand for a product of them
pub IsTermOf-shares : (g : Circuit) (vars : List Var) → IsGadget g → variables_of vars ≡ g.variables → (vs : List ℕ) → length vs ≤ 2 → All (IsShare g) vs →
    IsTermOf g (set_of vs) (Product (share_set vars vs))
IsTermOf-shares g vars good e vs few all =
    let n = numbers g vars good e vs all in
    let same : share_set vars vs ≡ set_of n.shares = n.united 0 ∙ or_zero_l (set_of n.shares) in
    record {
      term = record { shares = n.shares; few = (let m = n.as_many in omega arith); inputs = n.inputs; same = same };
      value = λ x r.
          set_product-set_of (length g.variables) vs (value g x r) (λ i d l. variable_within g (get_or vs i d) (share (all i d l).0) (all i d l).1)
          ∙ n.values x r
          ∙ sym (set_product-set_of 64 n.shares x (λ i d l. below-from_IsInputShare g good (get_or n.shares i d) (n.inputs i d l)))
          ∙ ap (λ (set : ℕ). set_product 64 set x) (sym same);
    }

-- a random alone stands for itself
pub IsTermOf-random : (g : Circuit) → IsGadget g → (vs : List ℕ) (v k : ℕ) → vs ≡ v ∷ [] → slice_get (nodes g) v ≡ Some (random k) →
    IsTermOf g (set_of vs) (Random k)
IsTermOf-random g good vs v k e at = record {
  term = good.in_order v (random k) at;
  value = λ x r.
      ap (λ (ws : List ℕ). set_product (length g.variables) (set_of ws) (value g x r)) e
      ∙ ap (λ (m : ℕ). set_product (length g.variables) m (value g x r)) (or_zero_r (2 ^ v))
      ∙ set_product-single (length g.variables) v (value g x r) (variable_within g v (random k) at)
      ∙ value-node g good.in_order x r v (random k) at;
}

-- a monomial in which a random was found is that random
pub IsTermOf-found : (g : Circuit) (vars : List Var) → IsGadget g → variables_of vars ≡ g.variables → (vs : List ℕ) (k : ℕ) →
    IsFitMonomial g vs → IsRandomOf vars vs (Some k) → IsTermOf g (set_of vs) (Random k)
IsTermOf-found g vars good e vs k (inl (v, single, (j, at))) (w, alone, is) =
    let same : v ∷ [] ≡ w ∷ [] = sym single ∙ alone in
    let first : v ≡ w = cc in
    let node : random j ≡ random k = sym (node_at-is g vars v (random j) e at) ∙ ap (node_at vars) first ∙ is in
    let number : j ≡ k = cc in
    IsTermOf-random g good vs v k single (at ∙ ap (λ (i : ℕ). Some (random i)) number)
IsTermOf-found g vars good e vs k (inr (few, all)) (w, alone, is) =
    let s : IsShare g w = All-head (IsShare g) w [] (subst (All (IsShare g)) alone all) in
    let node : share s.0 ≡ random k = sym (node_at-is g vars w (share s.0) e s.1) ∙ is in
    cc

-- a monomial in which no random was found has input shares alone
pub IsTermOf-not_found : (g : Circuit) (vars : List Var) → IsGadget g → variables_of vars ≡ g.variables → (vs : List ℕ) →
    IsFitMonomial g vs → IsRandomOf vars vs None → IsTermOf g (set_of vs) (Product (share_set vars vs))
IsTermOf-not_found g vars good e vs (inl (v, single, (j, at))) none = absurd (none v j single (node_at-is g vars v (random j) e at))
IsTermOf-not_found g vars good e vs (inr (few, all)) none = IsTermOf-shares g vars good e vs few all

-- the variables of a monomial are those of the gadget
pub IsFitMonomial-within : (g : Circuit) (vars : List Var) → variables_of vars ≡ g.variables → (vs : List ℕ) → IsFitMonomial g vs → All (λ v. v < length vars) vs
IsFitMonomial-within g vars e vs (inl (v, single, (j, at))) =
    let n = length-variables_of g vars e in
    let l = variable_within g v (random j) at in
    let P : ℕ → Type 0 = λ v. v < length vars in
    subst (All P) (sym single) (All-cons P v [] (omega arith) (All-nil P))
IsFitMonomial-within g vars e vs (inr (few, all)) = λ i d l.
    let n = length-variables_of g vars e in
    let m = variable_within g (get_or vs i d) (share (all i d l).0) (all i d l).1 in
    omega arith
