-- The code's variables as the model's.
use Rattle.std.proofs.Common.{◌≡◌, List, [], ◌∷◌, ◌++◌}
use Rattle.std.proofs.lemmas.List.{map-append}
use Rattle.gadget_tree.specs.declared.var.Var.{Var}
use Rattle.gadget_tree.specs.Seen.{variables_of, variable_of}

-- one more variable
pub variables_of-push : (vs : List Var) (v : Var) → variables_of (vs ++ v ∷ []) ≡ variables_of vs ++ variable_of v ∷ []
variables_of-push vs v = map-append variable_of vs (v ∷ [])
