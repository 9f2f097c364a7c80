-- The values of names in a gadget, and the meaning that they give to trees.
use Rattle.std.specs.Prelude.{◌≡◌, ℕ, Bool, ◌&&◌, List}
use Rattle.gadget_model.specs.Bits.{add}
use Rattle.gadget_model.specs.Circuit.{Circuit, value}
use Rattle.gadget_grammar.specs.Grammar.{Tree}
use Rattle.gadget_grammar.specs.Steps.{Meaning, tree_value}
use Rattle.gadget_tree.specs.Variables.{names_of, place_of}

-- the value of the variable with a name, for inputs x and an assignment r of the randoms
abbrev pub value_named : Circuit → (ℕ → Bool) → List Bool → List ℕ → Bool
value_named g x r name = value g x r (place_of (names_of g.variables) name)

-- in a tree a name means the value of the variable with it, + is the exclusive or, and * is the and
abbrev pub meaning_in : Circuit → (ℕ → Bool) → List Bool → Meaning Bool
meaning_in g x r = record { of_name = value_named g x r; of_sum = add; of_product = λ a b. a && b }

-- a name has the value of a part of a tree
abbrev pub HasPart : Circuit → (ℕ → Bool) → List Bool → List ℕ → Tree → Type 0
HasPart g x r name part = value_named g x r name ≡ tree_value (meaning_in g x r) part
