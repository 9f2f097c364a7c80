-- What a gadget file says: its flat gadget, or its first offence.
use Rattle.std.specs.Prelude.{◌≡◌, ℕ, ◌+◌, not, nat_lt, List, [], ◌∷◌, ◌++◌, map, length, Option, Some, None, option_map, Result, Ok, Err}
use Rattle.std.specs.List.{list_any, list_all, find, range_with_len}
use Rattle.gadget_limits.specs.Limits.{most_variables}
use Rattle.gadget_model.specs.Circuit.{Variable, Circuit}
use Rattle.gadget_text.specs.declared.file_error.FileError.{FileError}
use Rattle.gadget_text.specs.declared.file_error.FileError.TheVariants.{NotText, Syntax, NameTwice, Unknown, OutputMissing, TooMany}
use Rattle.gadget_text.specs.declared.file_error.What.TheVariants.{Variables}
use Rattle.gadget_text.specs.declared.token.Header.{Header}
use Rattle.gadget_text.specs.Errors.{refuse, refuse_found, ◌>>=◌, ◌>>◌}
use Rattle.gadget_text.specs.Lines.{lines_of, first_not_text}
use Rattle.gadget_text.specs.Tokens.{TokenLine, token_lines}
use Rattle.gadget_headers.specs.Headers.{Listed, Preamble, header_of, preamble_of}
use Rattle.gadget_headers.specs.Limits.{stems_of}
use Rattle.gadget_grammar.specs.Grammar.{Tree}
use Rattle.gadget_grammar.specs.Assignments.{Assigned, AssignmentSays}
use Rattle.gadget_tree.specs.Variables.{share_name, share_names, names_of, is_among, place_of, are_distinct, header_variables}
use Rattle.gadget_tree.specs.Operations.{leaves, line_parts, line_names, line_nodes, made_variables}

-- each line of a file is text, or the first that has a forbidden byte where bytes count offends
abbrev pub check_text : List ℕ → Result (Unit {0}) FileError
check_text bytes = refuse_found (option_map NotText (first_not_text 1 (lines_of bytes)))

-- the lines of a file that have tokens, where all its lines are text
abbrev pub file_lines : List ℕ → Result (List TokenLine) FileError
file_lines bytes = do
  check_text bytes
  Ok (token_lines bytes)

-- what all headers of a file say, or the first offence up to where they end; the first line of the file that is not
-- text comes before all others
abbrev pub file_headers : List ℕ → Result Preamble FileError
file_headers bytes = do
  lines ← file_lines bytes
  preamble_of lines

-- these names and those of the n shares of each stem that a header lists, unless two are equal
abbrev pub distinct_shares : List (List ℕ) → ℕ → Listed → Result (List (List ℕ)) FileError
distinct_shares names n listed = do
  refuse (not (are_distinct (names ++ share_names n listed.stems))) (NameTwice listed.line)
  Ok (names ++ share_names n listed.stems)

-- these names and those of the randoms, where there are any, unless two are equal
abbrev pub distinct_randoms : List (List ℕ) → Option Listed → Result (List (List ℕ)) FileError
distinct_randoms names None = Ok names
distinct_randoms names (Some listed) = do
  refuse (not (are_distinct (names ++ listed.stems))) (NameTwice listed.line)
  Ok (names ++ listed.stems)

-- The variables that the headers name. Input shares, randoms and output shares have names of their own; otherwise the
-- first of these headers that has a name twice, or one of those before it, offends.
abbrev pub named_variables : Preamble → Result (List Variable) FileError
named_variables h = do
  inputs ← distinct_shares [] h.shares h.inputs
  randoms ← distinct_randoms inputs h.randoms
  _ ← distinct_shares randoms h.shares h.outputs
  Ok (header_variables h)

-- The variables after an assignment line, where these are those before it. No name of the line stands for something
-- already, each name in its tree does, and there are not too many variables; otherwise the first of these that is not
-- so is the offence.
abbrev pub with_line : ℕ → List Variable → List ℕ → Tree → Result (List Variable) FileError
with_line line earlier name tree = do
  refuse (list_any (is_among (names_of earlier)) (line_names name tree)) (NameTwice line)
  refuse (not (list_all (is_among (names_of earlier)) (leaves tree))) (Unknown line)
  refuse (nat_lt most_variables (length earlier + length (line_parts tree))) (TooMany Variables)
  let nodes = line_nodes (place_of (names_of earlier)) (length earlier) tree
  Ok (earlier ++ made_variables line (line_names name tree) nodes)

-- the same of what a line assigns
abbrev pub with_assigned : ℕ → List Variable → Assigned → Result (List Variable) FileError
with_assigned line earlier a = with_line line earlier a.name a.tree

-- After the headers a header line is out of place, and any other is an assignment line.
abbrev pub SaysByHeader : List Variable → TokenLine → Option Header → Result (List Variable) FileError → Type 0
SaysByHeader earlier line None r =
    (said : Result Assigned FileError) × AssignmentSays line said × (r ≡ (said >>= with_assigned line.number earlier))
SaysByHeader earlier line (Some header) r = r ≡ Err (Syntax line.number)

-- what a line after the headers says, where these are the variables before it
abbrev pub LineSays : List Variable → TokenLine → Result (List Variable) FileError → Type 0
LineSays earlier line r = SaysByHeader earlier line (header_of line.lexemes) r

-- what follows a result is said of it, or its offence is the answer
abbrev pub Follows : {A B : Type 0} → Result A FileError → (A → Type 0) → Result B FileError → Type 0
Follows (Ok a) Says r = Says a
Follows (Err error) Says r = r ≡ Err error

-- what the lines after the headers say, one after the other, where these are the variables before them
abbrev pub LinesSay : List Variable → List TokenLine → Result (List Variable) FileError → Type 0
LinesSay earlier [] r = r ≡ Ok earlier
LinesSay earlier (line ∷ lines) r =
    (s : Result (List Variable) FileError) × LineSays earlier line s × Follows s (λ now. LinesSay now lines r) r

-- a share of an output, with its name
pub record OutputShare : Type 0 where
  pub output : ℕ
  pub index : ℕ
  pub name : List ℕ

-- share i of output k
abbrev pub output_share : ℕ → List ℕ → ℕ → OutputShare
output_share k stem i = record { output = k; index = i; name = share_name stem i }

-- the n shares of output k
abbrev pub shares_of_output : ℕ → ℕ → List ℕ → List OutputShare
shares_of_output n k stem = map (output_share k stem) (range_with_len 0 n)

-- the n shares of each output, by output and then index, from output k on
abbrev pub output_shares_from : ℕ → ℕ → List (List ℕ) → List OutputShare
output_shares_from n k [] = []
output_shares_from n k (stem ∷ stems) = shares_of_output n k stem ++ output_shares_from n (k + 1) stems

-- the gadget that the headers and the variables make
abbrev pub flat_gadget : Preamble → List Variable → Circuit
flat_gadget h variables = record {
  shares = h.shares;
  inputs = h.inputs.stems;
  randoms = length (stems_of h.randoms);
  outputs = h.outputs.stems;
  output_shares = map (place_of (names_of variables)) (share_names h.shares h.outputs.stems);
  variables = variables;
}

-- the first of these shares that has no variable
abbrev pub first_missing : List Variable → List OutputShare → Option OutputShare
first_missing variables shares = find (λ share. not (is_among (names_of variables) share.name)) shares

-- the offence where a share is missing
abbrev pub offence_of : OutputShare → FileError
offence_of share = OutputMissing share.output share.index

-- each of these shares has a variable, or the first that has none is missing
abbrev pub check_shares : List Variable → List OutputShare → Result (Unit {0}) FileError
check_shares variables shares = refuse_found (option_map offence_of (first_missing variables shares))

-- the gadget at the end of a file, where each output share has a variable
abbrev pub with_outputs : Preamble → List Variable → Result Circuit FileError
with_outputs h variables = do
  check_shares variables (output_shares_from h.shares 0 h.outputs.stems)
  Ok (flat_gadget h variables)

-- what the lines after the headers and the end of the file say
abbrev pub BodySays : Preamble → List Variable → Result Circuit FileError → Type 0
BodySays h start r =
    (s : Result (List Variable) FileError) × LinesSay start h.lines s × (r ≡ (s >>= with_outputs h))

-- What a file says: its flat gadget, or its first offence.
unfoldable pub FileSays : List ℕ → Result Circuit FileError → Type 0
FileSays bytes r = Follows (file_headers bytes) (λ h. Follows (named_variables h) (λ start. BodySays h start r) r) r
