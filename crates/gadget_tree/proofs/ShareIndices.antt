-- Variables that are shares have an input and an index of their gadget.
use Rattle.std.proofs.Common.{◌≡◌, ◌<◌, ◌≤◌, ℕ, List, length, get_or, refl, sym, subst, arith}
use Rattle.std.specs.Prelude.{All, map}
use Rattle.gadget_limits.specs.Limits.{most_shares}
use Rattle.gadget_model.specs.Circuit.{Variable, Circuit}
use Rattle.gadget_tree.specs.declared.var.Var.{Var}
use Rattle.gadget_tree.specs.declared.var.VarKind.{VarKind}
use Rattle.gadget_tree.specs.declared.var.VarKind.TheVariants.{Share, Random, Copy, Sum, Product}
use Rattle.gadget_tree.specs.Gadgets.{IsNumberedNode, IsShareBelow, HasShareOf, IsGadget}
use Rattle.gadget_tree.specs.Seen.{node_of, variable_of, variables_of}
use Rattle.gadget_tree.proofs.StepsMake.{All-from_map}

-- the number of a share has one input and one index
share_below : (g : Circuit) (kind : VarKind) → ((input index : ℕ) → kind ≡ Share input index → index < most_shares) → g.shares ≤ most_shares → IsNumberedNode g (node_of kind) →
    IsShareBelow (length g.inputs) g.shares kind
share_below g (Share input index) low few h = let l = low input index refl in (omega (arith, l, h.2, h.3, h.4, few), omega (arith, l, h.2, h.3, h.4, few))
share_below g (Random k) low few h = tt
share_below g (Copy a) low few h = tt
share_below g (Sum a b) low few h = tt
share_below g (Product a b) low few h = tt

-- so it is with each variable
pub shares_of_gadget : (g : Circuit) (vars : List Var) → IsGadget g → variables_of vars ≡ g.variables → All (HasShareOf g) vars
shares_of_gadget g vars h e =
    let P = IsNumberedNode g in
    let numbered : All P (map (λ (v : Variable). v.node) (variables_of vars)) = subst (λ (vs : List Variable). All P (map (λ (v : Variable). v.node) vs)) (sym e) h.shares_numbered in
    let each = All-from_map (λ (v : Variable). P v.node) variable_of vars (All-from_map P (λ (v : Variable). v.node) (variables_of vars) numbered) in
    λ k d l. share_below g (get_or vars k d).kind (get_or vars k d).share_index h.few_shares (each k d l)
