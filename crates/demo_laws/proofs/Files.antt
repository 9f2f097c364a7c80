-- Files of lines that each assign a sum or a product of two names.
use Rattle.std.proofs.Common.{◌≡◌, ℕ, ◌+◌, Bool, true, false, ◌&&◌, if◌then◌else◌, List, [], ◌∷◌, length, codes, refl, sym, ap, ◌∙◌, inl, inr, true≢false, arith}
use Rattle.std.specs.Prelude.{Result, Ok, Err, Some, IsTrue}
use Rattle.std.specs.List.{list_all}
use Rattle.std.proofs.lemmas.Bool.{and_parts}
use Rattle.gadget_model.specs.Circuit.{Variable, Circuit}
use Rattle.gadget_text.specs.declared.file_error.FileError.{FileError}
use Rattle.gadget_text.specs.declared.token.TokenKind.{TokenKind}
use Rattle.gadget_text.specs.declared.token.TokenKind.TheVariants.{Word, Equals, Plus, Times}
use Rattle.gadget_text.specs.Errors.{◌>>=◌}
use Rattle.gadget_text.specs.Names.{is_name}
use Rattle.gadget_text.specs.Tokens.{Lexeme, TokenLine}
use Rattle.gadget_headers.specs.Headers.{Preamble}
use Rattle.gadget_grammar.specs.Grammar.{Tree, named, sum_of, product_of, IsAssignment}
use Rattle.gadget_grammar.specs.Assignments.{Assigned, AssignmentSays}
use Rattle.gadget_grammar.specs.Nesting.{IsTooDeep}
use Rattle.gadget_grammar.specs.Symbols.{symbols_of}
use Rattle.gadget_grammar.proofs.Depth.{walk_deep}
use Rattle.gadget_tree.specs.File.{with_assigned, LineSays, LinesSay, Follows, BodySays, FileSays, file_headers, named_variables, with_outputs}
use Rattle.gadget_maker.specs.Texts.{Text}
use Rattle.demo_laws.proofs.Gadgets.{Operation, operation, random_names}

abbrev pub lexeme : TokenKind → Text → Lexeme
lexeme kind text = record { kind = kind; text = text }

-- the tokens of an operation
abbrev pub lexemes_for : Operation → List Lexeme
lexemes_for o =
    lexeme Word o.name ∷ lexeme Equals (codes "=") ∷ lexeme Word o.left
    ∷ (if o.is_sum then lexeme Plus (codes "+") else lexeme Times (codes "*")) ∷ lexeme Word o.right ∷ []

-- the lines of operations, numbered from this number on
abbrev pub lines_for : ℕ → List Operation → List TokenLine
lines_for number [] = []
lines_for number (o ∷ os) = record { number = number; lexemes = lexemes_for o } ∷ lines_for (number + 1) os

abbrev pub tree_for : Operation → Tree
tree_for o = if o.is_sum then sum_of (named o.left) (named o.right) else product_of (named o.left) (named o.right)

abbrev pub assigned_for : Operation → Assigned
assigned_for o = record { name = o.name; tree = tree_for o }

-- the variables after these lines
abbrev pub read_from : ℕ → List Variable → List Operation → Result (List Variable) FileError
read_from number earlier [] = Ok earlier
read_from number earlier (o ∷ os) =
    with_assigned number earlier (assigned_for o) >>= (λ now. read_from (number + 1) now os)

abbrev pub has_names : Operation → Bool
has_names o = is_name o.name && (is_name o.left && is_name o.right)

shallow_by : (x : Text) (is_sum : Bool) (a b : Text) → IsTooDeep (lexemes_for (operation x is_sum a b)) → ⊥
shallow_by x true a b deep =
    let d = deep.1 in
    true≢false (sym (walk_deep 0 0 deep.0 (symbols_of (lexemes_for (operation x true a b))) (omega arith) (omega (arith, d))))
shallow_by x false a b deep =
    let d = deep.1 in
    true≢false (sym (walk_deep 0 0 deep.0 (symbols_of (lexemes_for (operation x false a b))) (omega arith) (omega (arith, d))))

-- its tokens have no parentheses
shallow : (o : Operation) → IsTooDeep (lexemes_for o) → ⊥
shallow o deep = shallow_by o.name o.is_sum o.left o.right deep

assigns_by : (x : Text) (is_sum : Bool) (a b : Text) → has_names (operation x is_sum a b) ≡ true
    → IsAssignment (lexemes_for (operation x is_sum a b)) x (tree_for (operation x is_sum a b))
assigns_by x true a b h =
    let p = and_parts (is_name x) (is_name a && is_name b) h in
    let q = and_parts (is_name a) (is_name b) p.1 in
    record { names = p.0; derives = (q.0, q.1); spells = refl }
assigns_by x false a b h =
    let p = and_parts (is_name x) (is_name a && is_name b) h in
    let q = and_parts (is_name a) (is_name b) p.1 in
    record { names = p.0; derives = (q.0, q.1); spells = refl }

assigns : (o : Operation) → has_names o ≡ true → IsAssignment (lexemes_for o) o.name (tree_for o)
assigns o h = assigns_by o.name o.is_sum o.left o.right h

follows : (s : Result (List Variable) FileError) (lines : List TokenLine) (go : List Variable → Result (List Variable) FileError)
    → ((now : List Variable) → LinesSay now lines (go now)) → Follows s (λ now. LinesSay now lines (s >>= go)) (s >>= go)
follows (Ok now) lines go f = f now
follows (Err e) lines go f = refl

-- what the lines of operations say
pub lines_say : (number : ℕ) (earlier : List Variable) (os : List Operation) → list_all has_names os ≡ true
    → LinesSay earlier (lines_for number os) (read_from number earlier os)
lines_say number earlier [] h = refl
lines_say number earlier (o ∷ os) h =
    let p = and_parts (has_names o) (list_all has_names os) h in (
      with_assigned number earlier (assigned_for o),
      (Ok (assigned_for o), inr (inr (shallow o, assigned_for o, assigns o p.0, refl)), refl),
      follows (with_assigned number earlier (assigned_for o)) (lines_for (number + 1) os) (λ now. read_from (number + 1) now os)
          (λ now. lines_say (number + 1) now os p.1),
    )

follows_ok : {A B : Type 0} (s : Result A FileError) (a : A) (Says : A → Type 0) (r : Result B FileError) → s ≡ Ok a → Says a → Follows s Says r
follows_ok s a Says r e h = rw e h

-- what the headers of a demonstration say
abbrev pub preamble_for : ℕ → List Text → Text → List Operation → Preamble
preamble_for n inputs output os = record {
  shares = n;
  inputs = record { line = 2; stems = inputs };
  randoms = Some (record { line = 3; stems = random_names n });
  outputs = record { line = 4; stems = output ∷ [] };
  lines = lines_for 5 os;
}

-- a file with these headers and lines says this gadget
pub file_says : (text : Text) (n : ℕ) (inputs : List Text) (output : Text) (os : List Operation) (start now : List Variable) (g : Circuit)
    → file_headers text ≡ Ok (preamble_for n inputs output os)
    → named_variables (preamble_for n inputs output os) ≡ Ok start
    → read_from 5 start os ≡ Ok now
    → with_outputs (preamble_for n inputs output os) now ≡ Ok g
    → list_all has_names os ≡ true
    → FileSays text (Ok g)
unfolding FileSays
file_says text n inputs output os start now g headers names body outputs plain =
    let h = preamble_for n inputs output os in
    let r : Result Circuit FileError = Ok g in
    follows_ok (file_headers text) h (λ h. Follows (named_variables h) (λ start. BodySays h start r) r) r headers
    (follows_ok (named_variables h) start (λ start. BodySays h start r) r names
    (read_from 5 start os, lines_say 5 start os plain, sym (ap (λ s. s >>= with_outputs h) body ∙ outputs)))
