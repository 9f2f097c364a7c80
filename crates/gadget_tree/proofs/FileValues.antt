-- The values of the names of a file that says a gadget.
use Rattle.std.proofs.Common.{◌≡◌, ℕ, Bool, List, ◌++◌, length, Ok, ap, ◌∙◌, sym, subst, Contains}
use Rattle.std.specs.Prelude.{All, Result}
use Rattle.std.specs.List.{AllZip}
use Rattle.gadget_model.specs.Circuit.{Variable, Circuit}
use Rattle.gadget_text.specs.Tokens.{TokenLine, token_lines}
use Rattle.gadget_text.specs.declared.file_error.FileError.{FileError}
use Rattle.gadget_headers.specs.Headers.{Preamble, preamble_of}
use Rattle.gadget_headers.specs.Limits.{stems_of}
use Rattle.gadget_grammar.specs.Grammar.{Tree, IsAssignment}
use Rattle.gadget_grammar.proofs.Readings.{one_assignment}
use Rattle.gadget_tree.specs.Variables.{header_variables}
use Rattle.gadget_tree.specs.Operations.{line_parts, line_names}
use Rattle.gadget_tree.specs.File.{FileSays}
use Rattle.gadget_tree.proofs.Read.{IsFileRead, file_read}
use Rattle.gadget_tree.proofs.HeaderVariables.{nodes-header_variables}
use Rattle.gadget_tree.proofs.NamedVariables.{named_distinct}
use Rattle.gadget_tree.proofs.OutputShares.{outputs_made}
use Rattle.gadget_tree.proofs.MadeGadgets.{said_gadget}
use Rattle.gadget_tree.proofs.LinesAmong.{assignment_behind, later_variables, IsLineAmong, line_among}
use Rattle.gadget_tree.specs.Values.{HasPart}
use Rattle.gadget_tree.proofs.NamedValues.{HasBit, first_values, line_values}

-- the variables of a gadget that was read are those after the lines
pub read_variables : (bytes : List ℕ) (g : Circuit) (h : Preamble) (start vs : List Variable) → IsFileRead bytes g h start vs → g.variables ≡ vs
read_variables bytes g h start vs read = ap (λ (c : Circuit). c.variables) (outputs_made h vs g read.outputs).0

-- a file has one preamble
pub same_preamble : (bytes : List ℕ) (h k : Preamble) → preamble_of (token_lines bytes) ≡ Ok h → preamble_of (token_lines bytes) ≡ Ok k → h ≡ k
same_preamble bytes h k e f = let same : (let r : Result Preamble FileError = Ok h in r) ≡ Ok k = sym e ∙ f in cc

-- input shares and randoms have their values
pub headers_have : (bytes : List ℕ) (g : Circuit) (h : Preamble) (x : ℕ → Bool) (r : List Bool) → FileSays bytes (Ok g) → preamble_of (token_lines bytes) ≡ Ok h →
    All (HasBit g x r) (header_variables h)
headers_have bytes g h x r says e =
    let f = file_read bytes g says in
    let read = f.3 in
    let is = said_gadget bytes g says in
    let named = named_distinct f.0 f.1 read.names in
    let later = later_variables (f.0).lines f.1 f.2 read.lines in
    let variables = read_variables bytes g f.0 f.1 f.2 read ∙ later.1 ∙ ap (λ (z : List Variable). z ++ later.0) named.variables in
    subst (λ (p : Preamble). All (HasBit g x r) (header_variables p)) (same_preamble bytes f.0 h read.headers e)
    (first_values g is.in_order is.distinct_names x r (length (f.0).inputs.stems) (f.0).shares (length (stems_of (f.0).randoms)) (header_variables f.0) later.0 variables (nodes-header_variables f.0))

-- the variables that a line makes have the values of the parts of its tree
pub lines_have : (bytes : List ℕ) (g : Circuit) (line : TokenLine) (name : List ℕ) (tree : Tree) (x : ℕ → Bool) (r : List Bool) →
    FileSays bytes (Ok g) → Contains (token_lines bytes) line → IsAssignment line.lexemes name tree →
    AllZip (HasPart g x r) (line_names name tree) (line_parts tree)
lines_have bytes g line name tree x r says stands assigns =
    let f = file_read bytes g says in
    let read = f.3 in
    let is = said_gadget bytes g says in
    let behind = assignment_behind (token_lines bytes) f.0 line name tree read.headers stands assigns in
    let l = line_among (f.0).lines f.1 f.2 line read.lines behind in
    let of_gadget = subst (λ (vs : List Variable). IsLineAmong line vs l.0 l.1 l.2 l.3 l.4) (sym (read_variables bytes g f.0 f.1 f.2 read)) l.5 in
    let line_read = of_gadget.read in
    let same = one_assignment line.lexemes l.1 name l.2 tree line_read.assigns assigns in
    let values = line_values g is.in_order is.distinct_names x r line l.0 l.1 l.2 l.3 l.4 of_gadget in
    subst (λ (t : Tree). AllZip (HasPart g x r) (line_names name t) (line_parts t)) same.1
    (subst (λ (n : List ℕ). AllZip (HasPart g x r) (line_names n l.2) (line_parts l.2)) same.0 values)
