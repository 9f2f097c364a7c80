-- The assignment lines of a file that is read, one by one: each stands after the headers, and makes its variables between
-- earlier and later ones.
use Rattle.std.proofs.Common.{◌≡◌, List, [], ◌∷◌, ◌++◌, ℕ, Option, Some, None, Ok, refl, sym, ap, ◌∙◌, subst, inl, inr, length, Contains, append-nil, append_assoc}
use Rattle.gadget_model.specs.Circuit.{Variable}
use Rattle.gadget_text.specs.declared.token.Header.{Header}
use Rattle.gadget_text.specs.declared.token.TokenKind.{TokenKind}
use Rattle.gadget_text.specs.declared.token.TokenKind.TheVariants.{Head, Word, Equals, Plus, Times, Open, Close, Other}
use Rattle.gadget_text.specs.Tokens.{Lexeme, TokenLine}
use Rattle.list_laws.proofs.Members.{Contains-cons_cases}
use Rattle.list_laws.proofs.Once.{Contains-nil}
use Rattle.gadget_headers.specs.Headers.{Listed, SoFar, no_headers, Preamble, header_of_kind, header_of, header_words, with_header, end_headers, at_line, headers_from, preamble_of}
use Rattle.gadget_text.proofs.Results.{then_gives, at_ok}
use Rattle.gadget_grammar.specs.Symbols.{Symbol, word, symbol_of_kind}
use Rattle.gadget_grammar.specs.Grammar.{Tree, IsAssignment}
use Rattle.gadget_tree.specs.File.{LinesSay}
use Rattle.gadget_tree.specs.Operations.{line_names, line_nodes, made_variables}
use Rattle.gadget_tree.specs.Variables.{names_of, place_of}
use Rattle.gadget_tree.proofs.MadeLines.{IsLine, first_line_read}

-- a token that is a word is no header
word_is_no_header : (kind : TokenKind) (text name : List ℕ) → symbol_of_kind kind text ≡ word name → header_of_kind kind ≡ None
word_is_no_header (Head header) text name e = absurd cc
word_is_no_header Word text name e = refl
word_is_no_header Equals text name e = refl
word_is_no_header Plus text name e = refl
word_is_no_header Times text name e = refl
word_is_no_header Open text name e = refl
word_is_no_header Close text name e = refl
word_is_no_header Other text name e = refl

-- the first symbol of some
abbrev first_or : Symbol → List Symbol → Symbol
first_or d [] = d
first_or d (s ∷ symbols) = s

-- an assignment is no header
pub assignment_is_no_header : (lexemes : List Lexeme) (name : List ℕ) (tree : Tree) → IsAssignment lexemes name tree → header_of lexemes ≡ None
assignment_is_no_header [] name tree h = refl
assignment_is_no_header (first ∷ others) name tree h = word_is_no_header first.kind first.text name (ap (first_or (word name)) h.spells)

-- where the headers end, the lines after them are these
ended_lines : (now : SoFar) (lines : List TokenLine) (h : Preamble) → end_headers now lines ≡ Ok h → lines ≡ h.lines
ended_lines now lines h e = by_cases now.shares now.inputs now.outputs e where
  by_cases : (n : Option ℕ) (inputs outputs : Option Listed) → end_headers (record now { shares = n; inputs = inputs; outputs = outputs }) lines ≡ Ok h → lines ≡ h.lines
  by_cases None inputs outputs f = absurd cc
  by_cases (Some n) None outputs f = absurd cc
  by_cases (Some n) (Some inputs) None f = absurd cc
  by_cases (Some n) (Some inputs) (Some outputs) f = at_ok (λ p. lines ≡ p.lines) (record { shares = n; inputs = inputs; randoms = now.randoms; outputs = outputs; lines = lines }) h f refl

module _ (h : Preamble) (line : TokenLine) (no_header : header_of line.lexemes ≡ None) where
  -- the first line is after the headers where it is none, and those after it where they are
  line_behind : (first : TokenLine) (lines : List TokenLine) (now : SoFar) (o : Option Header) → header_of first.lexemes ≡ o → Contains (first ∷ lines) line →
      ((next : SoFar) → headers_from next lines ≡ Ok h → Contains lines line → Contains h.lines line) →
      at_line first.number now (header_words first.lexemes) (λ next. headers_from next lines) (end_headers now (first ∷ lines)) o ≡ Ok h → Contains h.lines line
  line_behind first lines now None is stands each e =
      subst (λ (ls : List TokenLine). Contains ls line) (ended_lines now (first ∷ lines) h e) stands
  line_behind first lines now (Some header) is stands each e =
      let n = then_gives (with_header first.number now (header_words first.lexemes) header) (λ next. headers_from next lines) h e in
      elim (Contains-cons_cases first lines line stands) [
        | inl same ↦ let f = ap (λ (l : TokenLine). header_of l.lexemes) same in absurd cc
        | inr k ↦ each n.0 n.2 k
      ]

  from_behind : (lines : List TokenLine) (now : SoFar) → headers_from now lines ≡ Ok h → Contains lines line → Contains h.lines line
  from_behind [] now e stands = absurd (Contains-nil line stands)
  from_behind (first ∷ lines) now e stands = line_behind first lines now (header_of first.lexemes) refl stands (from_behind lines) e

-- an assignment line of a file is after its headers
pub assignment_behind : (lines : List TokenLine) (h : Preamble) (line : TokenLine) (name : List ℕ) (tree : Tree) → preamble_of lines ≡ Ok h → Contains lines line → IsAssignment line.lexemes name tree → Contains h.lines line
assignment_behind lines h line name tree e stands assigns = from_behind h line (assignment_is_no_header line.lexemes name tree assigns) lines no_headers e stands

-- lines that are read leave the earlier variables, and put others after them
pub later_variables : (lines : List TokenLine) (earlier vs : List Variable) → LinesSay earlier lines (Ok vs) → (later : List Variable) × (vs ≡ earlier ++ later)
later_variables [] earlier vs h = ([], (let e : vs ≡ earlier = cc in e) ∙ sym (append-nil earlier))
later_variables (line ∷ lines) earlier vs h =
    let f = first_line_read earlier line lines vs h in
    let l = later_variables lines f.0 vs f.4 in
    let made = made_variables line.number (line_names f.1 f.2) (line_nodes (place_of (names_of earlier)) (length earlier) f.2) in
    let makes = f.3.makes in
    (made ++ l.0, l.1 ∙ ap (λ (z : List Variable). z ++ l.0) makes ∙ append_assoc earlier made l.0)

-- a line that is read, between the variables before it and those after it
pub record IsLineAmong (line : TokenLine) (vs earlier : List Variable) (name : List ℕ) (tree : Tree) (now later : List Variable) : Type 0 where
  pub read : IsLine earlier line name tree now
  pub all : vs ≡ now ++ later

-- each line among those that are read is so
pub line_among : (lines : List TokenLine) (start vs : List Variable) (line : TokenLine) → LinesSay start lines (Ok vs) → Contains lines line →
    (earlier : List Variable) × (name : List ℕ) × (tree : Tree) × (now : List Variable) × (later : List Variable) × IsLineAmong line vs earlier name tree now later
line_among [] start vs line h stands = absurd (Contains-nil line stands)
line_among (first ∷ lines) start vs line h stands =
    let f = first_line_read start first lines vs h in
    let l = later_variables lines f.0 vs f.4 in
    elim (Contains-cons_cases first lines line stands) [
      | inl same ↦ (start, f.1, f.2, f.0, l.0, record { read = subst (λ (z : TokenLine). IsLine start z f.1 f.2 f.0) same f.3; all = l.1 })
      | inr k ↦ line_among lines f.0 vs line f.4 k
    ]
