-- Monomials as randoms and as products of input shares.
use Rattle.std.specs.Prelude.{◌≡◌, ℕ, ◌^◌, ◌<◌, ◌≤◌, ◌⊎◌, Bool, List, [], ◌∷◌, length, map, flat_map, fold, bit_or, slice_index_or, All, Contains, Some, None, Option}
use Rattle.gadget_model.specs.Circuit.{Circuit, Node, share, random, copy, sum_of, product_of, value}
use Rattle.gadget_model.specs.Bits.{add}
use Rattle.gadget_model.specs.Polynomials.{HasVariable, set_product, polynomial_value}
use Rattle.gadget_model.specs.Classes.{IsShare, IsRandom, HasRandomProduct, HasDegreeAboveTwo}
use Rattle.bit_lists.specs.SetSums.{set_sum}
use Rattle.gadget_tree.specs.declared.var.Var.{Var}
use Rattle.gadget_tree.specs.Seen.{node_of}
use Rattle.gadget_tree.specs.Gadgets.{IsInputShare}
use Rattle.anf.specs.Polynomials.{set_of}
use Rattle.wire_table.specs.declared.terms.Term.{Term}
use Rattle.wire_table.specs.declared.terms.Terms.{Terms}
use Rattle.wire_table.specs.declared.terms.Term.TheVariants.{Random, Product}
use Rattle.wire_table.specs.Tables.{random_at}

-- the set of the input share that a node is
abbrev pub share_bit : Node → ℕ
share_bit (share k) = 2 ^ k
share_bit (random k) = 0
share_bit (copy a) = 0
share_bit (sum_of a b) = 0
share_bit (product_of a b) = 0

-- an input share has a number below 64
abbrev pub HasSmallShare : Node → Type 0
HasSmallShare (share k) = k < 64
HasSmallShare (random k) = Unit {0}
HasSmallShare (copy a) = Unit {0}
HasSmallShare (sum_of a b) = Unit {0}
HasSmallShare (product_of a b) = Unit {0}

-- the node of the variable with a number
abbrev pub node_at : List Var → ℕ → Node
node_at vars v = slice_index_or (map (λ var. node_of var.kind) vars) v (copy 0)

-- the input shares among some variables
abbrev pub share_set : List Var → List ℕ → ℕ
share_set vars vs = fold (λ set v. bit_or set (share_bit (node_at vars v))) 0 vs

-- the random that a monomial is
abbrev pub IsRandomOf : List Var → List ℕ → Option ℕ → Type 0
IsRandomOf vars vs None = (v k : ℕ) → vs ≡ v ∷ [] → node_at vars v ≡ random k → ⊥
IsRandomOf vars vs (Some k) = (v : ℕ) × (vs ≡ v ∷ []) × (node_at vars v ≡ random k)

-- a set is that of at most two input shares of the gadget
pub record IsShareProduct (g : Circuit) (set : ℕ) : Type 0 where
  pub shares : List ℕ
  pub few : length shares ≤ 2
  pub inputs : All (IsInputShare g) shares
  pub same : set ≡ set_of shares

-- what a term names is of the gadget
abbrev pub IsTerm : Circuit → Term → Type 0
IsTerm g (Random k) = k < g.randoms
IsTerm g (Product set) = IsShareProduct g set

-- the value of a term, at inputs x and an assignment r of the randoms
abbrev pub term_value : Term → (ℕ → Bool) → List Bool → Bool
term_value (Random k) x r = random_at r k
term_value (Product set) x r = set_product 64 set x

-- some variables of a gadget are a random alone, or at most two input shares
abbrev pub IsFitMonomial : Circuit → List ℕ → Type 0
IsFitMonomial g vs = ((v : ℕ) × (vs ≡ v ∷ []) × IsRandom g v) ⊎ ((length vs ≤ 2) × All (IsShare g) vs)

-- a term stands for a monomial: it has the same value at all inputs and for each assignment of the randoms
pub record IsTermOf (g : Circuit) (monomial : ℕ) (t : Term) : Type 0 where
  pub term : IsTerm g t
  pub value : (x : ℕ → Bool) (r : List Bool) → set_product (length g.variables) monomial (value g x r)
      ≡ term_value t x r

-- each monomial of a polynomial is a random alone, or at most two input shares
pub record IsFitPolynomial (g : Circuit) (p : List ℕ) : Type 0 where
  pub leaves : (m v : ℕ) → Contains p m → HasVariable m v → IsShare g v ⊎ IsRandom g v
  pub random_alone : HasRandomProduct g p → ⊥
  pub few_shares : HasDegreeAboveTwo g p → ⊥

-- Randoms and products stand for a polynomial: at all inputs and for each assignment of the randoms they sum to its
-- value. They are of the gadget.
pub record SumTo (g : Circuit) (p : List ℕ) (randoms : ℕ) (products : List ℕ) : Type 0 where
  pub randoms_exist : randoms < 2 ^ g.randoms
  pub products_exist : All (IsShareProduct g) products
  pub values : (x : ℕ → Bool) (r : List Bool) →
      polynomial_value (length g.variables) p (value g x r)
      ≡ add (polynomial_value 64 products x) (set_sum g.randoms randoms (random_at r))

-- the products of each variable
abbrev pub products_of : List Terms → List ℕ
products_of terms = flat_map (λ t. t.products.items) terms

-- the terms of a polynomial
abbrev pub AreTermsOf : Circuit → List ℕ → Terms → Type 0
AreTermsOf g p t = SumTo g p t.randoms t.products.items
