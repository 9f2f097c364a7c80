-- The wires of a file that says a gadget.
use Rattle.std.proofs.Common.{◌≡◌, ℕ, List, [], ◌∷◌, Ok, ap, sym, subst}
use Rattle.gadget_model.specs.Circuit.{Variable, Circuit}
use Rattle.gadget_text.specs.Tokens.{TokenLine, token_lines}
use Rattle.gadget_headers.specs.Headers.{Preamble, preamble_of}
use Rattle.gadget_tree.specs.Variables.{names_of, header_variables}
use Rattle.gadget_tree.specs.File.{LinesSay, FileSays}
use Rattle.gadget_tree.specs.Wires.{AreWires}
use Rattle.gadget_tree.proofs.Read.{file_read}
use Rattle.gadget_tree.proofs.NamedVariables.{named_distinct}
use Rattle.gadget_tree.proofs.MadeLines.{first_line_read, names_behind}
use Rattle.gadget_tree.proofs.FileValues.{read_variables, same_preamble}

-- lines that are read make the wires after the earlier ones
lines_wires : (lines : List TokenLine) (earlier vs : List Variable) → LinesSay earlier lines (Ok vs) → AreWires (names_of earlier) lines (names_of vs)
lines_wires [] earlier vs h = ap names_of (let e : vs ≡ earlier = cc in e)
lines_wires (line ∷ lines) earlier vs h =
    let f = first_line_read earlier line lines vs h in
    let behind = (names_behind earlier line f.1 f.2 f.0 f.3).0 in
    let assigns = f.3.assigns in
    (f.1, f.2, assigns, subst (λ (names : List (List ℕ)). AreWires names lines (names_of vs)) behind (lines_wires lines f.0 vs f.4))

-- and so do those of a file
pub file_wires : (bytes : List ℕ) (g : Circuit) (h : Preamble) → FileSays bytes (Ok g) → preamble_of (token_lines bytes) ≡ Ok h → AreWires (names_of (header_variables h)) h.lines (names_of g.variables)
file_wires bytes g h says e =
    let f = file_read bytes g says in
    let read = f.3 in
    let named = named_distinct f.0 f.1 read.names in
    let wires = subst (λ (start : List Variable). AreWires (names_of start) (f.0).lines (names_of f.2)) named.variables (lines_wires (f.0).lines f.1 f.2 read.lines) in
    subst (λ (p : Preamble). AreWires (names_of (header_variables p)) p.lines (names_of g.variables)) (same_preamble bytes f.0 h read.headers e)
    (subst (λ (vs : List Variable). AreWires (names_of (header_variables f.0)) (f.0).lines (names_of vs)) (sym (read_variables bytes g f.0 f.1 f.2 read)) wires)
