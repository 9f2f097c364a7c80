-- The canonical text, by the parts that are printed one after the other.
use Rattle.std.proofs.Common.{◌≡◌, ℕ, zero, suc, ◌<◌, ◌≤◌, List, [], ◌∷◌, ◌++◌, length, get_or, take, map, false, ◌==◌, Some, refl, sym, ap, ◌∙◌, arith, append_assoc, append-nil}
use Rattle.std.specs.Prelude.{codes, decimal, option_map}
use Rattle.std.specs.List.{join_with_byte, slice_get}
use Rattle.std.proofs.lemmas.List.{take_all}
use Rattle.std.proofs.lemmas.Bool.{eqb-false}
use Rattle.std.proofs.lemmas.List.Concat.{flat_map-append}
use Rattle.std.proofs.lemmas.Option.{slice_get-get_or, slice_get-map}
use Rattle.gadget_model.specs.Circuit.{Node, share, random, copy, sum_of, product_of, Variable, Circuit, NamesEarlier, IsInOrder}
use Rattle.gadget_text.proofs.SpacedWords.{spaced, joined_spaced}
use Rattle.gadget_tree.specs.declared.var.Var.{Var}
use Rattle.gadget_tree.specs.Seen.{node_of, variable_of, variables_of}
use Rattle.gadget_tree.specs.Variables.{name_at}
use Rattle.gadget_tree.specs.Canonical.{randoms_line, randoms_among, operations_among, printed_line, printed_lines, canonical_text}

-- the canonical text in its parts
pub canonical_parts : (g : Circuit) →
    canonical_text g ≡ printed_line (codes "#SHARES" ∷ decimal g.shares ∷ []) ++ printed_line (codes "#IN" ∷ g.inputs) ++ printed_lines (randoms_line (randoms_among g.variables))
    ++ printed_line (codes "#OUT" ∷ g.outputs) ++ printed_lines (operations_among g.variables g.variables)
unfolding canonical_text
canonical_parts g =
    let first = codes "#SHARES" ∷ decimal g.shares ∷ [] in
    let second = codes "#IN" ∷ g.inputs in
    let last = codes "#OUT" ∷ g.outputs in
    let randoms = randoms_line (randoms_among g.variables) in
    let operations = operations_among g.variables g.variables in
    flat_map-append printed_line (first ∷ second ∷ randoms ++ last ∷ []) operations
    ∙ ap (λ (z : List ℕ). z ++ printed_lines operations) (
    flat_map-append printed_line (first ∷ second ∷ randoms) (last ∷ [])
    ∙ ap (λ (z : List ℕ). printed_lines (first ∷ second ∷ randoms) ++ z) (append-nil (printed_line last))
    ∙ ap (λ (z : List ℕ). z ++ printed_line last) (sym (append_assoc (printed_line first) (printed_line second) (printed_lines randoms))))

-- what is printed part by part is the canonical text
pub printed_parts : (g : Circuit) (n : ℕ) (inputs outputs : List (List ℕ)) (variables : List Variable) (first second third fourth all : List ℕ) →
    n ≡ g.shares → inputs ≡ g.inputs → outputs ≡ g.outputs → variables ≡ g.variables →
    first ≡ printed_line (codes "#SHARES" ∷ decimal n ∷ []) → second ≡ first ++ printed_line (codes "#IN" ∷ inputs) →
    third ≡ second ++ printed_lines (randoms_line (randoms_among variables)) →
    fourth ≡ third ++ printed_line (codes "#OUT" ∷ outputs) → all ≡ fourth ++ printed_lines (operations_among g.variables g.variables) → all ≡ canonical_text g
printed_parts g n inputs outputs variables first second third fourth all a b c d e f h i j =
    let shares = e ∙ ap (λ (z : ℕ). printed_line (codes "#SHARES" ∷ decimal z ∷ [])) a in
    let listed = f ∙ ap (λ (z : List ℕ). z ++ printed_line (codes "#IN" ∷ inputs)) shares ∙ ap (λ (z : List (List ℕ)). printed_line (codes "#SHARES" ∷ decimal g.shares ∷ []) ++ printed_line (codes "#IN" ∷ z)) b in
    let drawn =
    h ∙ ap (λ (z : List Variable). second ++ printed_lines (randoms_line (randoms_among z))) d
    ∙ ap (λ (z : List ℕ). z ++ printed_lines (randoms_line (randoms_among g.variables))) listed in
    let ended = i ∙ ap (λ (z : List (List ℕ)). third ++ printed_line (codes "#OUT" ∷ z)) c ∙ ap (λ (z : List ℕ). z ++ printed_line (codes "#OUT" ∷ g.outputs)) drawn in
    j ∙ ap (λ (z : List ℕ). z ++ printed_lines (operations_among g.variables g.variables)) ended ∙ sym (canonical_parts g)

-- after the last name, the line of a header is there but for its end
pub header_done : (header : List ℕ) (names : List (List ℕ)) (k : ℕ) (old done text : List ℕ) → length names ≤ k → done ≡ old ++ header ++ spaced (take k names) → text ≡ done ++ 10 ∷ [] →
    text ≡ old ++ printed_line (header ∷ names)
header_done header names k old done text l e f =
    f
    ∙ ap (λ (z : List ℕ). z ++ 10 ∷ []) (e ∙ ap (λ (z : List (List ℕ)). old ++ header ++ spaced z) (take_all k names l) ∙ append_assoc old header (spaced names) ∙ ap (λ (z : List ℕ). old ++ z) (sym (joined_spaced header names)))
    ∙ append_assoc old (join_with_byte 32 (header ∷ names)) (10 ∷ [])

-- where there are words of randoms, their line is there
pub randoms_done : (names : List (List ℕ)) (len : ℕ) (words old first second all : List ℕ) → words ≡ spaced names → len ≡ length words → len == 0 ≡ false →
    first ≡ old ++ codes "#RANDOMS" → second ≡ first ++ words → all ≡ second ++ 10 ∷ [] → all ≡ old ++ printed_lines (randoms_line names)
randoms_done [] len words old first second all e l f h i j = absurd (eqb-false len 0 f (l ∙ ap length e))
randoms_done (name ∷ names) len words old first second all e l f h i j =
    let header = codes "#RANDOMS" in
    j
    ∙ ap (λ (z : List ℕ). z ++ 10 ∷ []) (
    i ∙ ap (λ (z : List ℕ). z ++ words) h ∙ ap (λ (z : List ℕ). (old ++ header) ++ z) e ∙ append_assoc old header (spaced (name ∷ names))
    ∙ ap (λ (z : List ℕ). old ++ z) (sym (joined_spaced header (name ∷ names))))
    ∙ append_assoc old (join_with_byte 32 (header ∷ name ∷ names)) (10 ∷ [])
    ∙ ap (λ (z : List ℕ). old ++ z) (sym (append-nil (printed_line (header ∷ name ∷ names))))

-- the name of a variable of the model is that of the code's variable with the same number
pub name_at-variables_of : (vars : List Var) (k : ℕ) (v : Var) → k < length vars → name_at (variables_of vars) k ≡ (get_or vars k v).name
name_at-variables_of [] k v h = absurd (omega arith)
name_at-variables_of (x ∷ vars) zero v h = refl
name_at-variables_of (x ∷ vars) (suc k) v h = name_at-variables_of vars k v (omega arith)

-- after the last variable, the lines of all operations are there
pub operations_done : (vars : List Var) (variables : List Variable) (k : ℕ) (text old : List ℕ) → variables_of vars ≡ variables → length vars ≤ k →
    text ≡ old ++ printed_lines (operations_among (variables_of vars) (variables_of (take k vars))) → text ≡ old ++ printed_lines (operations_among variables variables)
operations_done vars variables k text old e l h =
    h
    ∙ ap (λ (z : List Var). old ++ printed_lines (operations_among (variables_of vars) (variables_of z))) (take_all k vars l)
    ∙ ap (λ (z : List Variable). old ++ printed_lines (operations_among z z)) e

earlier_below : (randoms k n : ℕ) (node : Node) → k ≤ n → NamesEarlier randoms k node → NamesEarlier randoms n node
earlier_below randoms k n (share i) l h = tt
earlier_below randoms k n (random i) l h = h
earlier_below randoms k n (copy a) l h = omega arith
earlier_below randoms k n (sum_of a b) l h = (omega (arith, h.0), omega (arith, h.1))
earlier_below randoms k n (product_of a b) l h = (omega (arith, h.0), omega (arith, h.1))

-- the operands of each variable of a gadget are variables
pub operands_below : (g : Circuit) (vars : List Var) (k : ℕ) (v : Var) → variables_of vars ≡ g.variables → IsInOrder g → k < length vars → v ≡ get_or vars k v →
    (randoms : ℕ) × NamesEarlier randoms (length vars) (node_of v.kind)
operands_below g vars k v e o l f =
    let found : slice_get vars k ≡ Some v = slice_get-get_or vars k v l ∙ ap Some (sym f) in
    let node : slice_get (map (λ (u : Variable). u.node) (variables_of vars)) k ≡ Some (node_of v.kind) =
    slice_get-map (λ (u : Variable). u.node) (variables_of vars) k ∙ ap (option_map (λ (u : Variable). u.node)) (slice_get-map variable_of vars k ∙ ap (option_map variable_of) found) in
    let node_there : slice_get (map (λ (u : Variable). u.node) g.variables) k ≡ Some (node_of v.kind) = ap (λ (z : List Variable). slice_get (map (λ (u : Variable). u.node) z) k) (sym e) ∙ node in
    (g.randoms, earlier_below g.randoms k (length vars) (node_of v.kind) (omega arith) (o k (node_of v.kind) node_there))
