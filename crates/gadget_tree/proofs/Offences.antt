-- Want of memory is no offence of a file.
use Rattle.std.proofs.Common.{◌+◌, ◌++◌, ℕ, not, nat_lt, List, [], ◌∷◌, length, Option, Some, None, Result, Ok, Err, refl, sym, ◌∙◌}
use Rattle.std.specs.Prelude.{option_map}
use Rattle.std.specs.List.{list_any, list_all}
use Rattle.gadget_model.specs.Circuit.{Variable, Circuit}
use Rattle.gadget_text.specs.declared.token.Header.{Header}
use Rattle.gadget_text.specs.Lines.{lines_of, first_not_text}
use Rattle.gadget_text.specs.Tokens.{TokenLine, token_lines}
use Rattle.gadget_text.specs.declared.file_error.FileError.{FileError}
use Rattle.gadget_text.specs.declared.file_error.FileError.TheVariants.{NotText, NameTwice, Unknown, TooMany, OutOfMemory}
use Rattle.gadget_text.specs.declared.file_error.What.TheVariants.{Variables}
use Rattle.gadget_limits.specs.Limits.{most_variables}
use Rattle.gadget_text.specs.Errors.{refuse, refuse_found, ◌>>=◌, ◌>>◌}
use Rattle.gadget_headers.specs.Headers.{Listed, Preamble, header_of, preamble_of}
use Rattle.gadget_text.proofs.Results.{IsNotOutOfMemory, refuse_in_memory, then_in_memory}
use Rattle.gadget_headers.proofs.Offences.{preamble_in_memory}
use Rattle.gadget_grammar.proofs.Said.{assignment_in_memory}
use Rattle.gadget_grammar.specs.Grammar.{Tree}
use Rattle.gadget_tree.specs.Variables.{share_names, names_of, is_among, place_of, are_distinct, header_variables}
use Rattle.gadget_tree.specs.Operations.{leaves, line_parts, line_names, line_nodes, made_variables}
use Rattle.gadget_tree.specs.File.{file_lines, file_headers, distinct_shares, distinct_randoms, named_variables, with_line, with_assigned, SaysByHeader, Follows, LinesSay, OutputShare, output_shares_from, flat_gadget, offence_of, first_missing, with_outputs, BodySays, FileSays}

-- what follows a result
follows_in_memory : {A B : Type 0} (x : Result A FileError) (Says : A → Type 0) (r : Result B FileError) → IsNotOutOfMemory x → ((a : A) → Says a → IsNotOutOfMemory r) → Follows x Says r → IsNotOutOfMemory r
follows_in_memory (Ok a) Says r first then' h = then' a h
follows_in_memory (Err error) Says r first then' h = λ e. first (cc)

-- what the headers of a file say
lines_in_text : (bytes : List ℕ) (o : Option ℕ) → IsNotOutOfMemory (refuse_found (option_map NotText o) >> Ok (token_lines bytes))
lines_in_text bytes None = λ e. cc
lines_in_text bytes (Some line) = λ e. cc

headers_in_memory : (bytes : List ℕ) → IsNotOutOfMemory (file_headers bytes)
headers_in_memory bytes = then_in_memory (file_lines bytes) preamble_of (lines_in_text bytes (first_not_text 1 (lines_of bytes))) preamble_in_memory

-- what the names of the headers say
names_in_memory_of : (names : List (List ℕ)) (line : ℕ) → IsNotOutOfMemory (refuse (not (are_distinct names)) (NameTwice line) >> Ok names)
names_in_memory_of names line = refuse_in_memory (not (are_distinct names)) (NameTwice line) (Ok names) (λ e. cc) (λ e. cc)

randoms_in_memory : (names : List (List ℕ)) (randoms : Option Listed) → IsNotOutOfMemory (distinct_randoms names randoms)
randoms_in_memory names None = λ e. cc
randoms_in_memory names (Some listed) = names_in_memory_of (names ++ listed.stems) listed.line

names_in_memory : (h : Preamble) → IsNotOutOfMemory (named_variables h)
names_in_memory h =
    let start : Result (List Variable) FileError = Ok (header_variables h) in
    let last = λ (names : List (List ℕ)). distinct_shares names h.shares h.outputs >>= λ _. start in
    let later = λ (names : List (List ℕ)). distinct_randoms names h.randoms >>= last in
    then_in_memory (distinct_shares [] h.shares h.inputs) later (names_in_memory_of (share_names h.shares h.inputs.stems) h.inputs.line)
    (λ inputs. then_in_memory (distinct_randoms inputs h.randoms) last (randoms_in_memory inputs h.randoms)
    (λ names. then_in_memory (distinct_shares names h.shares h.outputs) (λ _. start) (names_in_memory_of (names ++ share_names h.shares h.outputs.stems) h.outputs.line) (λ _ e. cc)))

-- what a line after the headers says
made_in_memory : (line : ℕ) (earlier : List Variable) (name : List ℕ) (tree : Tree) → IsNotOutOfMemory (with_line line earlier name tree)
made_in_memory line earlier name tree =
    let ok : Result (List Variable) FileError = Ok (earlier ++ made_variables line (line_names name tree) (line_nodes (place_of (names_of earlier)) (length earlier) tree)) in
    let room = refuse (nat_lt most_variables (length earlier + length (line_parts tree))) (TooMany Variables) >> ok in
    let known = refuse (not (list_all (is_among (names_of earlier)) (leaves tree))) (Unknown line) >> room in
    refuse_in_memory (list_any (is_among (names_of earlier)) (line_names name tree)) (NameTwice line) known (λ e. cc)
    (refuse_in_memory (not (list_all (is_among (names_of earlier)) (leaves tree))) (Unknown line) room (λ e. cc)
    (refuse_in_memory (nat_lt most_variables (length earlier + length (line_parts tree))) (TooMany Variables) ok (λ e. cc) (λ e. cc)))

line_in_memory : (earlier : List Variable) (line : TokenLine) (o : Option Header) (r : Result (List Variable) FileError) → SaysByHeader earlier line o r → IsNotOutOfMemory r
line_in_memory earlier line None r h =
    λ e. then_in_memory h.0 (with_assigned line.number earlier) (assignment_in_memory line h.0 h.1) (λ a. made_in_memory line.number earlier a.name a.tree) (sym h.2 ∙ e)
line_in_memory earlier line (Some header) r h = λ e. cc

-- what the lines after the headers say
lines_in_memory : (lines : List TokenLine) (earlier : List Variable) (r : Result (List Variable) FileError) → LinesSay earlier lines r → IsNotOutOfMemory r
lines_in_memory [] earlier r h = λ e. cc
lines_in_memory (line ∷ lines) earlier r h =
    follows_in_memory h.0 (λ now. LinesSay now lines r) r (line_in_memory earlier line (header_of line.lexemes) h.0 h.1) (λ now. lines_in_memory lines now r) h.2

-- what the end of the file says
found_in_memory : (h : Preamble) (variables : List Variable) (o : Option OutputShare) → IsNotOutOfMemory (refuse_found (option_map offence_of o) >> Ok (flat_gadget h variables))
found_in_memory h variables None = λ e. cc
found_in_memory h variables (Some share) = λ e. cc

outputs_in_memory : (h : Preamble) (variables : List Variable) → IsNotOutOfMemory (with_outputs h variables)
outputs_in_memory h variables = found_in_memory h variables (first_missing variables (output_shares_from h.shares 0 h.outputs.stems))

body_in_memory : (h : Preamble) (start : List Variable) (r : Result Circuit FileError) → BodySays h start r → IsNotOutOfMemory r
body_in_memory h start r says = λ e. then_in_memory says.0 (with_outputs h) (lines_in_memory h.lines start says.0 says.1) (outputs_in_memory h) (sym says.2 ∙ e)

-- no file says that memory ran out
pub no_memory : (bytes : List ℕ) → FileSays bytes (Err OutOfMemory) → ⊥
unfolding FileSays
no_memory bytes says =
    let r : Result Circuit FileError = Err OutOfMemory in
    follows_in_memory (file_headers bytes) (λ h. Follows (named_variables h) (λ start. BodySays h start r) r) r (headers_in_memory bytes)
    (λ h. follows_in_memory (named_variables h) (λ start. BodySays h start r) r (names_in_memory h) (λ start. body_in_memory h start r)) says refl
