-- What a line that is read makes.
use Rattle.std.proofs.Common.{◌≡◌, ◌≤◌, ◌+◌, ◌-◌, ℕ, true, false, not, nat_lt, List, [], ◌∷◌, ◌++◌, map, length, Option, Some, None, Result, Ok, refl, sym, ap, ◌∙◌, subst, inl, inr, arith, length-append}
use Rattle.std.specs.List.{list_any, list_all, range_with_len}
use Rattle.std.proofs.lemmas.Bool.{not-false, ltb-false}
use Rattle.std.proofs.lemmas.List.{map-append}
use Rattle.std.proofs.lemmas.List.FromFn.{length-map-range_with_len}
use Rattle.gadget_model.specs.Circuit.{Node, Variable}
use Rattle.gadget_text.specs.declared.token.Header.{Header}
use Rattle.gadget_text.specs.Tokens.{TokenLine}
use Rattle.gadget_text.specs.declared.file_error.FileError.{FileError}
use Rattle.gadget_text.specs.declared.file_error.FileError.TheVariants.{NameTwice, Unknown, TooMany}
use Rattle.gadget_text.specs.declared.file_error.What.TheVariants.{Variables}
use Rattle.gadget_limits.specs.Limits.{most_variables}
use Rattle.gadget_text.specs.Errors.{refuse, ◌>>=◌, ◌>>◌}
use Rattle.gadget_grammar.specs.Assignments.{Assigned, AssignmentSays}
use Rattle.gadget_headers.specs.Headers.{header_of}
use Rattle.gadget_text.proofs.Results.{refuse_gives}
use Rattle.gadget_grammar.specs.Grammar.{Tree, IsAssignment}
use Rattle.gadget_tree.specs.Variables.{names_of, is_among, place_of}
use Rattle.gadget_tree.specs.Operations.{leaves, line_parts, inner_name, line_names, line_nodes, made_variables}
use Rattle.gadget_tree.specs.File.{with_line, with_assigned, SaysByHeader, LineSays, LinesSay}
use Rattle.gadget_tree.proofs.Follows.{follows_ok}
use Rattle.gadget_tree.proofs.Names.{length-names_of}
use Rattle.gadget_tree.proofs.Nodes.{length-line_nodes, some_line_parts}
use Rattle.gadget_tree.proofs.HeaderVariables.{nodes_of}

-- A line that is read assigns a tree to a name. None of its names stood before, each name in its tree did, there are not too many
-- variables, and those that it makes stand after the earlier ones.
pub record IsLine (earlier : List Variable) (line : TokenLine) (name : List ℕ) (tree : Tree) (now : List Variable) : Type 0 where
  pub assigns : IsAssignment line.lexemes name tree
  pub new : list_any (is_among (names_of earlier)) (line_names name tree) ≡ false
  pub known : list_all (is_among (names_of earlier)) (leaves tree) ≡ true
  pub few : length earlier + length (line_parts tree) ≤ most_variables
  pub makes : now ≡ earlier ++ made_variables line.number (line_names name tree) (line_nodes (place_of (names_of earlier)) (length earlier) tree)

line_made : (earlier : List Variable) (line : TokenLine) (name : List ℕ) (tree : Tree) (now : List Variable) → IsAssignment line.lexemes name tree → with_line line.number earlier name tree ≡ Ok now →
    IsLine earlier line name tree now
line_made earlier line name tree now assigns e =
    let ok : Result (List Variable) FileError = Ok (earlier ++ made_variables line.number (line_names name tree) (line_nodes (place_of (names_of earlier)) (length earlier) tree)) in
    let room = refuse (nat_lt most_variables (length earlier + length (line_parts tree))) (TooMany Variables) >> ok in
    let known = refuse (not (list_all (is_among (names_of earlier)) (leaves tree))) (Unknown line.number) >> room in
    let a = refuse_gives (list_any (is_among (names_of earlier)) (line_names name tree)) (NameTwice line.number) known now e in
    let b = refuse_gives (not (list_all (is_among (names_of earlier)) (leaves tree))) (Unknown line.number) room now a.1 in
    let c = refuse_gives (nat_lt most_variables (length earlier + length (line_parts tree))) (TooMany Variables) ok now b.1 in
    record {
      assigns = assigns;
      new = a.0;
      known = not-false (list_all (is_among (names_of earlier)) (leaves tree)) b.0;
      few = ltb-false most_variables (length earlier + length (line_parts tree)) c.0;
      makes = let f = c.1 in cc;
    }

-- so it is of each line that is read
assigned_read : (earlier : List Variable) (line : TokenLine) (now : List Variable) (said : Result Assigned FileError) → AssignmentSays line said → (said >>= with_assigned line.number earlier) ≡ Ok now →
    (name : List ℕ) × (tree : Tree) × IsLine earlier line name tree now
assigned_read earlier line now said (inl h) e = let f = sym (ap (λ (r : Result Assigned FileError). r >>= with_assigned line.number earlier) h.1) ∙ e in absurd cc
assigned_read earlier line now said (inr (inl h)) e = let f = sym (ap (λ (r : Result Assigned FileError). r >>= with_assigned line.number earlier) h.2) ∙ e in absurd cc
assigned_read earlier line now said (inr (inr h)) e =
    (h.1.name, h.1.tree, line_made earlier line h.1.name h.1.tree now h.2 (sym (ap (λ (r : Result Assigned FileError). r >>= with_assigned line.number earlier) h.3) ∙ e))

pub line_read : (earlier : List Variable) (line : TokenLine) (o : Option Header) (now : List Variable) → SaysByHeader earlier line o (Ok now) → (name : List ℕ) × (tree : Tree) × IsLine earlier line name tree now
line_read earlier line (Some header) now h = absurd cc
line_read earlier line None now h = assigned_read earlier line now h.0 h.1 (sym h.2)

-- the first of some lines that are read, and what the others say
pub first_line_read : (earlier : List Variable) (line : TokenLine) (lines : List TokenLine) (vs : List Variable) → LinesSay earlier (line ∷ lines) (Ok vs) →
    (now : List Variable) × (name : List ℕ) × (tree : Tree) × IsLine earlier line name tree now × LinesSay now lines (Ok vs)
first_line_read earlier line lines vs h =
    let f = follows_ok h.0 (λ next. LinesSay next lines (Ok vs)) vs h.2 in
    let r = line_read earlier line (header_of line.lexemes) f.0 (subst (LineSays earlier line) f.1 h.1) in
    (f.0, r.0, r.1, r.2, f.2)

-- variables that a line makes have the names and the nodes
made_parts : (line : ℕ) (names : List (List ℕ)) (vs : List Node) → length vs ≡ length names → (names_of (made_variables line names vs) ≡ names) × (nodes_of (made_variables line names vs) ≡ vs)
made_parts line [] [] e = (refl, refl)
made_parts line [] (v ∷ vs) e = absurd (omega arith)
made_parts line (name ∷ names) [] e = absurd (omega arith)
made_parts line (name ∷ names) (v ∷ vs) e =
    let ih = made_parts line names vs (omega arith) in (
      ap (λ (z : List (List ℕ)). name ∷ z) ih.0,
      ap (λ (z : List Node). v ∷ z) ih.1,
    )

-- a line gives as many names as its tree has parts
pub length-line_names : (name : List ℕ) (tree : Tree) → length (line_names name tree) ≡ length (line_parts tree)
length-line_names name tree =
    let s = some_line_parts tree in
    let inner = map (inner_name name) (range_with_len 1 (length (line_parts tree) - 1)) in
    let m = length-map-range_with_len (inner_name name) 1 (length (line_parts tree) - 1) in
    let l = length-append inner (name ∷ []) in
    omega arith

-- the names and the nodes after a line
pub names_behind : (earlier : List Variable) (line : TokenLine) (name : List ℕ) (tree : Tree) (now : List Variable) → IsLine earlier line name tree now →
    (names_of now ≡ names_of earlier ++ line_names name tree) × (nodes_of now ≡ nodes_of earlier ++ line_nodes (place_of (names_of earlier)) (length earlier) tree)
names_behind earlier line name tree now l =
    let new = line_nodes (place_of (names_of earlier)) (length earlier) tree in
    let made = made_variables line.number (line_names name tree) new in
    let parts = made_parts line.number (line_names name tree) new (length-line_nodes (place_of (names_of earlier)) (length earlier) tree ∙ sym (length-line_names name tree)) in (
      ap names_of l.makes ∙ map-append (λ (v : Variable). v.name) earlier made ∙ ap (λ (z : List (List ℕ)). names_of earlier ++ z) parts.0,
      ap nodes_of l.makes ∙ map-append (λ (v : Variable). v.node) earlier made ∙ ap (λ (z : List Node). nodes_of earlier ++ z) parts.1,
    )

-- how many variables there are after it
pub length_behind : (earlier : List Variable) (line : TokenLine) (name : List ℕ) (tree : Tree) (now : List Variable) → IsLine earlier line name tree now → length now ≡ length earlier + length (line_parts tree)
length_behind earlier line name tree now l =
    let e = ap length (names_behind earlier line name tree now l).0 in
    let a = length-append (names_of earlier) (line_names name tree) in
    let n = length-line_names name tree in
    let m = length-names_of earlier in
    let k = length-names_of now in
    omega arith
