-- The polynomials of a gadget's variables as they are computed, and the tests of their class.
use Rattle.std.specs.Prelude.{ℕ, ◌<◌, Bool, true, false, ◌&&◌, List, [], length, slice_index_or, nat_lt}
use Rattle.std.specs.List.{list_any}
use Rattle.gadget_model.specs.Circuit.{Circuit, Node, share, random, copy, sum_of, product_of}
use Rattle.gadget_model.specs.Polynomials.{polynomial}
use Rattle.gadget_model.specs.Classes.{IsFit}
use Rattle.gadget_tree.specs.declared.var.Var.{Var}
use Rattle.anf.specs.Polynomials.{IsSetOf}
use Rattle.smallvec.specs.SmallVec.{SmallVec}
use Rattle.wire_table.specs.Terms.{node_at}

-- whether a node is a random
abbrev pub is_random : Node → Bool
is_random (share k) = false
is_random (random k) = true
is_random (copy a) = false
is_random (sum_of a b) = false
is_random (product_of a b) = false

-- whether some of the variables is a random
abbrev pub has_random : List Var → List ℕ → Bool
has_random vars vs = list_any (λ v. is_random (node_at vars v)) vs

-- whether some variables are a random and others
abbrev pub multiplies_random : List Var → List ℕ → Bool
multiplies_random vars vs = nat_lt 1 (length vs) && has_random vars vs

-- whether some monomial is of a random and others
abbrev pub any_multiplies_random : List Var → List (SmallVec ℕ) → Bool
any_multiplies_random vars ms = list_any (λ m. multiplies_random vars m.items) ms

-- whether some monomial has over two variables
abbrev pub any_above_two : List (SmallVec ℕ) → Bool
any_above_two ms = list_any (λ m. nat_lt 2 (length m.items)) ms

-- the polynomial at a place
abbrev pub polynomial_at : List (List ℕ) → ℕ → List ℕ
polynomial_at ps v = slice_index_or ps v []

-- a polynomial is that of a variable without a fault
pub record IsPolynomialOf (g : Circuit) (v : ℕ) (p : List ℕ) : Type 0 where
  pub fit : IsFit g v
  pub same : IsSetOf (polynomial g v) p

-- each polynomial is that of the variable with the number of its place
abbrev pub ArePolynomials : Circuit → List (List ℕ) → Type 0
ArePolynomials g ps = (v : ℕ) → v < length ps → IsPolynomialOf g v (polynomial_at ps v)
