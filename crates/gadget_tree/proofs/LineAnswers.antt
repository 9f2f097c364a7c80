-- What a line says, by what its assignment makes.
use Rattle.std.proofs.Common.{◌≡◌, ◌<◌, ◌≤◌, ◌+◌, ℕ, Bool, true, false, not, List, [], ◌∷◌, ◌++◌, length, map, refl, sym, ap, subst, ◌∙◌, ltb}
use Rattle.std.proofs.lemmas.Bool.{lt-ltb, le-ltb}
use Rattle.std.specs.Prelude.{Option, Some, None, is_some, Result, Ok, Err, All}
use Rattle.std.specs.List.{list_any, list_all}
use Rattle.gadget_model.specs.Circuit.{Node, Variable}
use Rattle.gadget_text.specs.declared.token.Header.{Header}
use Rattle.gadget_text.specs.declared.token.Token.{Token}
use Rattle.gadget_text.specs.Tokens.{TokenLine}
use Rattle.gadget_text.specs.Places.{lines_in}
use Rattle.gadget_text.specs.declared.file_error.FileError.{FileError}
use Rattle.gadget_text.specs.declared.file_error.FileError.TheVariants.{NameTwice, Unknown, TooMany}
use Rattle.gadget_text.specs.declared.file_error.What.TheVariants.{Variables}
use Rattle.gadget_limits.specs.Limits.{most_variables}
use Rattle.gadget_text.specs.Errors.{refuse, ◌>>=◌, ◌>>◌}
use Rattle.gadget_grammar.specs.Grammar.{Tree}
use Rattle.gadget_grammar.specs.Assignments.{Assigned, AssignedSteps, in_steps, StepsSaid}
use Rattle.gadget_grammar.specs.Steps.{NamedStep, postfix}
use Rattle.gadget_tree.specs.declared.var.VarKind.{VarKind}
use Rattle.gadget_tree.specs.Seen.{node_of}
use Rattle.gadget_tree.specs.Variables.{names_of, is_among, place_of}
use Rattle.gadget_tree.specs.Operations.{line_parts, leaves, made_variables}
use Rattle.gadget_tree.specs.File.{with_line, with_assigned, SaysByHeader, LineSays, LinesSay}
use Rattle.gadget_tree.specs.Gadgets.{IsOperationNode}
use Rattle.gadget_tree.specs.Made.{names_made, count_made, is_known, nodes_made, with_steps}
use Rattle.gadget_tree.proofs.StepsMake.{count-postfix, known-postfix, nodes-postfix, kinds-count, kinds-operations}

-- what a line says that makes so many variables, where the names in it are known or not, and these are the nodes
abbrev answer : ℕ → List Variable → List ℕ → ℕ → Bool → List Node → Result (List Variable) FileError
answer line earlier x count known nodes =
    refuse (list_any (is_among (names_of earlier)) (names_made x count)) (NameTwice line)
    >> (refuse (not known) (Unknown line)
    >> (refuse (ltb most_variables (length earlier + count)) (TooMany Variables)
    >> Ok (earlier ++ made_variables line (names_made x count) nodes)))

-- the steps of a tree say what the tree says
steps-postfix : (line : ℕ) (earlier : List Variable) (x : List ℕ) (t : Tree) → with_steps line earlier x (postfix t) ≡ with_line line earlier x t
steps-postfix line earlier x t =
    let names = names_of earlier in
    let nodes = nodes_made (place_of names) (length earlier) (postfix t) in
    let count = length (line_parts t) in
    ap (λ (n : ℕ). answer line earlier x n (list_all (is_known names) (postfix t)) nodes) (count-postfix t)
    ∙ ap (λ (b : Bool). answer line earlier x count b nodes) (known-postfix names t)
    ∙ ap (λ (ns : List Node). answer line earlier x count (list_all (is_among names) (leaves t)) ns) (nodes-postfix (place_of names) (length earlier) t)

-- a name of the line is taken
pub says-taken : (line : ℕ) (earlier : List Variable) (x : List ℕ) (steps : List NamedStep) → list_any (is_among (names_of earlier)) (names_made x (count_made steps)) ≡ true →
    with_steps line earlier x steps ≡ Err (NameTwice line)
says-taken line earlier x steps e = rw e refl

-- a name in the line is unknown
pub says-unknown : (line : ℕ) (earlier : List Variable) (x : List ℕ) (steps : List NamedStep) → list_any (is_among (names_of earlier)) (names_made x (count_made steps)) ≡ false →
    list_all (is_known (names_of earlier)) steps ≡ false → with_steps line earlier x steps ≡ Err (Unknown line)
says-unknown line earlier x steps e f = rw (e, f) refl

-- there would be too many variables
pub says-many : (line : ℕ) (earlier : List Variable) (x : List ℕ) (steps : List NamedStep) → list_any (is_among (names_of earlier)) (names_made x (count_made steps)) ≡ false →
    list_all (is_known (names_of earlier)) steps ≡ true → most_variables < length earlier + count_made steps → with_steps line earlier x steps ≡ Err (TooMany Variables)
says-many line earlier x steps e f l = rw (e, f, lt-ltb most_variables (length earlier + count_made steps) l) refl

-- the variables are made
pub says-made : (line : ℕ) (earlier now : List Variable) (x : List ℕ) (steps : List NamedStep) → list_any (is_among (names_of earlier)) (names_made x (count_made steps)) ≡ false →
    list_all (is_known (names_of earlier)) steps ≡ true → length earlier + count_made steps ≤ most_variables →
    now ≡ earlier ++ made_variables line (names_made x (count_made steps)) (nodes_made (place_of (names_of earlier)) (length earlier) steps) → with_steps line earlier x steps ≡ Ok now
says-made line earlier now x steps e f l g = rw (e, f, le-ltb most_variables (length earlier + count_made steps) l) (ap Ok (sym g))

-- what a line says is what follows the same result
said_by_cases : (line : TokenLine) (earlier : List Variable) (said : Result Assigned FileError) (e : FileError) → (let r : Result AssignedSteps FileError = Err e in r) ≡ (said >>= λ a. Ok (in_steps a)) →
    (let r : Result (List Variable) FileError = Err e in r) ≡ (said >>= with_assigned line.number earlier)
said_by_cases line earlier (Ok a) e f = absurd cc
said_by_cases line earlier (Err error) e f = let g : e ≡ error = cc in ap Err g

-- a line that is no assignment
pub refused-says : (earlier : List Variable) (line : TokenLine) (o : Option Header) (e : FileError) → is_some o ≡ false → StepsSaid line (Err e) → SaysByHeader earlier line o (Err e)
refused-says earlier line (Some header) e f h = absurd cc
refused-says earlier line None e f h = (h.0, h.1, said_by_cases line earlier h.0 e h.2)

-- the tree of what a line assigns
assigned_by_cases : (said : Result Assigned FileError) (a : AssignedSteps) → Ok a ≡ (said >>= λ b. Ok (in_steps b)) → (b : Assigned) × (said ≡ Ok b) × (a ≡ in_steps b)
assigned_by_cases (Ok b) a e = (b, refl, cc)
assigned_by_cases (Err error) a e = absurd cc

-- the steps of a line that assigns are those of a tree
pub steps-tree : (line : TokenLine) (a : AssignedSteps) → StepsSaid line (Ok a) → (tree : Tree) × (a.steps ≡ postfix tree)
steps-tree line a h = let b = assigned_by_cases h.0 a h.2 in (b.0.tree, ap (λ (z : AssignedSteps). z.steps) b.2)

-- a line that assigns a tree
pub assigned-says : (earlier : List Variable) (line : TokenLine) (o : Option Header) (a : AssignedSteps) (x : List ℕ) (steps : List NamedStep) → is_some o ≡ false → StepsSaid line (Ok a) → x ≡ a.name → steps ≡ a.steps →
    (r : Result (List Variable) FileError) → with_steps line.number earlier x steps ≡ r → SaysByHeader earlier line o r
assigned-says earlier line (Some header) a x steps e h named same r f = absurd cc
assigned-says earlier line None a x steps e h named same r f =
    let b = assigned_by_cases h.0 a h.2 in
    let name : x ≡ b.0.name = named ∙ ap (λ (z : AssignedSteps). z.name) b.2 in
    let tree : steps ≡ postfix b.0.tree = same ∙ ap (λ (z : AssignedSteps). z.steps) b.2 in (
      h.0,
      h.1,
      sym f ∙ ap (λ (z : List ℕ). with_steps line.number earlier z steps) name ∙ ap (with_steps line.number earlier b.0.name) tree ∙ steps-postfix line.number earlier b.0.name b.0.tree
          ∙ ap (λ (z : Result Assigned FileError). z >>= with_assigned line.number earlier) (sym b.1),
    )

-- what the kinds of a line are, where the code keeps them as a slice
module _ (vars : List Variable) (steps : List NamedStep) (kinds items : List VarKind) (t : Tree) (is_tree : steps ≡ postfix t) (same : kinds ≡ items)
    (made : map node_of items ≡ nodes_made (place_of (names_of vars)) (length vars) steps) where
  as_nodes : map node_of kinds ≡ nodes_made (place_of (names_of vars)) (length vars) steps
  as_nodes = ap (λ (ks : List VarKind). map node_of ks) same ∙ made

  as_tree : map node_of kinds ≡ nodes_made (place_of (names_of vars)) (length vars) (postfix t)
  as_tree = as_nodes ∙ ap (nodes_made (place_of (names_of vars)) (length vars)) is_tree

  -- how many they are
  pub length-kinds : length kinds ≡ count_made steps
  length-kinds = kinds-count (place_of (names_of vars)) (length vars) kinds t as_tree ∙ ap count_made (sym is_tree)

  -- none of them is a share or a random
  pub operations-kinds : All (λ kind. IsOperationNode (node_of kind)) kinds
  operations-kinds = kinds-operations (place_of (names_of vars)) (length vars) kinds t as_tree

  -- the variables that they make
  pub variables-kinds : (line : ℕ) (x : List ℕ) (now : List Variable) → now ≡ vars ++ made_variables line (names_made x (length kinds)) (map node_of kinds) →
      now ≡ vars ++ made_variables line (names_made x (count_made steps)) (nodes_made (place_of (names_of vars)) (length vars) steps)
  variables-kinds line x now e =
      e ∙ ap (λ (n : ℕ). vars ++ made_variables line (names_made x n) (map node_of kinds)) length-kinds
      ∙ ap (λ (ns : List Node). vars ++ made_variables line (names_made x (count_made steps)) ns)
      as_nodes

-- the lines of which the first says that the variables are these now
pub lines-next : (earlier now : List Variable) (line : TokenLine) (lines rest : List TokenLine) (r : Result (List Variable) FileError) → lines ≡ line ∷ rest →
    LineSays earlier line (Ok now) → LinesSay now rest r → LinesSay earlier lines r
lines-next earlier now line lines rest r e h k = subst (λ (ls : List TokenLine). LinesSay earlier ls r) (sym e) (Ok now, h, k)

-- the lines of which the first offends
pub lines-refused : (earlier : List Variable) (line : TokenLine) (lines rest : List TokenLine) (error : FileError) → lines ≡ line ∷ rest →
    LineSays earlier line (Err error) → LinesSay earlier lines (Err error)
lines-refused earlier line lines rest error e h = subst (λ (ls : List TokenLine). LinesSay earlier ls (Err error)) (sym e) (Err error, h, refl)

-- no lines
pub lines-end : (bytes : List ℕ) (earlier : List Variable) (tokens : List Token) → tokens ≡ [] → LinesSay earlier (lines_in bytes tokens) (Ok earlier)
lines-end bytes earlier tokens e = subst (λ (ts : List Token). LinesSay earlier (lines_in bytes ts) (Ok earlier)) (sym e) refl
