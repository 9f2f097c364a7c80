-- Which wires the lines of a file make.
use Rattle.std.specs.Prelude.{◌≡◌, ℕ, List, [], ◌∷◌, ◌++◌}
use Rattle.gadget_text.specs.Tokens.{TokenLine}
use Rattle.gadget_grammar.specs.Grammar.{Tree, IsAssignment}
use Rattle.gadget_tree.specs.Operations.{line_names}

-- Each line assigns a tree to a name, and all wires are the earlier ones and then those that the lines make, one line
-- after the other.
abbrev pub AreWires : List (List ℕ) → List TokenLine → List (List ℕ) → Type 0
AreWires earlier [] all = all ≡ earlier
AreWires earlier (line ∷ lines) all =
    (name : List ℕ) × (tree : Tree) × IsAssignment line.lexemes name tree
    × AreWires (earlier ++ line_names name tree) lines all
