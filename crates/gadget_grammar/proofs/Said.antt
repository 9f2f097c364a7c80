-- An assignment line says exactly one thing, and never that memory ran out.
use Rattle.std.proofs.Common.{◌≡◌, ◌⊎◌, ℕ, List, inl, inr, Result, Ok, Err, refl, sym, ap, ◌∙◌}
use Rattle.gadget_text.specs.declared.file_error.FileError.{FileError}
use Rattle.gadget_text.specs.declared.file_error.FileError.TheVariants.{Syntax, TooMany}
use Rattle.gadget_text.specs.declared.file_error.What.TheVariants.{Nesting}
use Rattle.gadget_text.specs.Tokens.{TokenLine}
use Rattle.gadget_text.proofs.Results.{IsNotOutOfMemory}
use Rattle.gadget_grammar.specs.Grammar.{Tree, IsAssignment}
use Rattle.gadget_grammar.specs.Nesting.{IsTooDeep}
use Rattle.gadget_grammar.specs.Assignments.{Assigned, IsNoAssignment, AssignmentSays}
use Rattle.gadget_grammar.proofs.Decided.{assignment_or_none, deep_or_not}
use Rattle.gadget_grammar.proofs.Readings.{one_assignment}

-- it says one thing at most
pub assignment_once : (line : TokenLine) (r s : Result Assigned FileError) → AssignmentSays line r → AssignmentSays line s → r ≡ s
assignment_once line r s (inl g) (inl h) = g.1 ∙ sym h.1
assignment_once line r s (inl g) (inr (inl h)) = absurd (h.0 g.0)
assignment_once line r s (inl g) (inr (inr h)) = absurd (h.0 g.0)
assignment_once line r s (inr (inl g)) (inl h) = absurd (g.0 h.0)
assignment_once line r s (inr (inr g)) (inl h) = absurd (g.0 h.0)
assignment_once line r s (inr (inl g)) (inr (inl h)) = g.2 ∙ sym h.2
assignment_once line r s (inr (inl g)) (inr (inr h)) = absurd (g.1 h.1.name h.1.tree h.2)
assignment_once line r s (inr (inr g)) (inr (inl h)) = absurd (h.1 g.1.name g.1.tree g.2)
assignment_once line r s (inr (inr g)) (inr (inr h)) =
    let e = one_assignment line.lexemes g.1.name h.1.name g.1.tree h.1.tree g.2 h.2 in
    let of_name = λ (name : List ℕ). let a : Assigned = record { name = name; tree = g.1.tree } in a in
    let of_tree = λ (tree : Tree). let a : Assigned = record { name = h.1.name; tree = tree } in a in
    g.3 ∙ ap Ok (ap of_name e.0 ∙ ap of_tree e.1) ∙ sym h.3

says_by_cases : (line : TokenLine) → IsTooDeep line.lexemes ⊎ (IsTooDeep line.lexemes → ⊥) → ((name : List ℕ) × (tree : Tree) × IsAssignment line.lexemes name tree) ⊎ IsNoAssignment line.lexemes →
    (r : Result Assigned FileError) × AssignmentSays line r
says_by_cases line (inl deep) d = (Err (TooMany Nesting), inl (deep, refl))
says_by_cases line (inr shallow) (inl a) =
    let said : Assigned = record { name = a.0; tree = a.1 } in
    (Ok said, inr (inr (shallow, said, a.2, refl)))
says_by_cases line (inr shallow) (inr none) = (Err (Syntax line.number), inr (inl (shallow, none, refl)))

-- and one at least
pub assignment_some : (line : TokenLine) → (r : Result Assigned FileError) × AssignmentSays line r
assignment_some line = says_by_cases line (deep_or_not line.lexemes) (assignment_or_none line.lexemes)

-- want of memory is no offence of it
pub assignment_in_memory : (line : TokenLine) (r : Result Assigned FileError) → AssignmentSays line r → IsNotOutOfMemory r
assignment_in_memory line r (inl h) = let f = h.1 in λ e. cc
assignment_in_memory line r (inr (inl h)) = let f = h.2 in λ e. cc
assignment_in_memory line r (inr (inr h)) = let f = h.3 in λ e. cc
