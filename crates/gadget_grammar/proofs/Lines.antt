-- What an assignment line says.
use Rattle.std.proofs.Common.{◌≡◌, ◌≤◌, ◌+◌, ℕ, Bool, true, false, cond, IsTrue, List, [], ◌∷◌, ◌++◌, length, length-append, drop, Option, Some, None, Ok, Err, inl, inr, refl, sym, ap, ◌∙◌, subst, arith}
use Rattle.std.specs.Prelude.{ok_or}
use Rattle.std.proofs.lemmas.List.{length-map}
use Rattle.gadget_text.specs.declared.file_error.FileError.{FileError}
use Rattle.gadget_text.specs.declared.file_error.FileError.TheVariants.{Syntax, TooMany}
use Rattle.gadget_text.specs.declared.file_error.What.TheVariants.{Nesting}
use Rattle.gadget_text.specs.declared.token.Token.{Token}
use Rattle.gadget_text.specs.Tokens.{Lexeme, TokenLine}
use Rattle.gadget_text.specs.Places.{lexeme_in, lexemes_in}
use Rattle.gadget_grammar.specs.declared.step.Step.{Step}
use Rattle.gadget_text.specs.Names.{is_name}
use Rattle.gadget_grammar.specs.Symbols.{Symbol, word, equals, plus, times, closing, symbol_of, symbols_of}
use Rattle.gadget_grammar.specs.Grammar.{Tree, named, parens, sum_of, product_of, spelled, IsAssignment}
use Rattle.gadget_grammar.specs.Steps.{NamedStep, sum, product, postfix}
use Rattle.gadget_grammar.specs.Nesting.{IsTooDeep, is_too_deep}
use Rattle.gadget_grammar.specs.Machine.{left_name, steps_from, initial_state}
use Rattle.gadget_grammar.specs.Seen.{symbols_in, step_in, steps_in}
use Rattle.gadget_grammar.specs.Assignments.{Assigned, IsNoAssignment, StepsSaid}
use Rattle.gadget_grammar.proofs.Depth.{deep_at, walk_deep}
use Rattle.gadget_grammar.proofs.Readings.{run_spelled, run_has_tree}

-- the walk that finds a place shows that a line is too deep
pub too_deep : (lexemes : List Lexeme) → is_too_deep 0 0 (symbols_of lexemes) ≡ true → IsTooDeep lexemes
too_deep lexemes e = let h = deep_at 0 0 (symbols_of lexemes) e in (h.0, omega (arith, h.1))

-- the walk that finds none shows that it isn't
pub not_deep : (lexemes : List Lexeme) → is_too_deep 0 0 (symbols_of lexemes) ≡ false → IsTooDeep lexemes → ⊥
not_deep lexemes e h =
    let found = walk_deep 0 0 h.0 (symbols_of lexemes) (omega arith) (omega (arith, h.1)) in
    absurd cc

-- a line with a name on its left side begins with the name and `=`
name_begins : (xs : List Symbol) (w : List ℕ) → left_name xs ≡ Some w → IsTrue (is_name w) × (xs ≡ word w ∷ equals ∷ drop 2 xs)
name_begins (word v ∷ equals ∷ xs) w e = by_cases (is_name v) refl e where
  by_cases : (b : Bool) → is_name v ≡ b → cond b (Some v) None ≡ Some w → IsTrue (is_name w) × (word v ∷ equals ∷ xs ≡ word w ∷ equals ∷ xs)
  by_cases true f g = let h : v ≡ w = cc in (subst (λ (z : List ℕ). IsTrue (is_name z)) h f, ap (λ (z : List ℕ). word z ∷ equals ∷ xs) h)
  by_cases false f g = absurd cc
name_begins xs w e = absurd cc

-- the left side and the steps of a line are those of an assignment
pub assigned : (lexemes : List Lexeme) (w : List ℕ) (steps : List NamedStep) → left_name (symbols_of lexemes) ≡ Some w → steps_from initial_state (drop 2 (symbols_of lexemes)) ≡ Some steps →
    (tree : Tree) × IsAssignment lexemes w tree × (steps ≡ postfix tree)
assigned lexemes w steps e f =
    let n = name_begins (symbols_of lexemes) w e in
    let t = run_has_tree (drop 2 (symbols_of lexemes)) steps f in
    (t.0, record { names = n.0; derives = t.1.derives; spells = n.1 ∙ ap (λ (z : List Symbol). word w ∷ equals ∷ z) t.1.spells }, t.2)

-- a line with no name on its left side is no assignment
pub unnamed : (lexemes : List Lexeme) → left_name (symbols_of lexemes) ≡ None → (name : List ℕ) (tree : Tree) → IsAssignment lexemes name tree → ⊥
unnamed lexemes e name tree h =
    let found : left_name (symbols_of lexemes) ≡ Some name = ap left_name h.spells ∙ ap (λ (b : Bool). cond b (Some name) None) h.names in
    absurd cc

-- a line whose right side is no expression is no assignment
pub unread : (lexemes : List Lexeme) → steps_from initial_state (drop 2 (symbols_of lexemes)) ≡ None → (name : List ℕ) (tree : Tree) → IsAssignment lexemes name tree → ⊥
unread lexemes e name tree h =
    let found = run_spelled (drop 2 (symbols_of lexemes)) tree (record { derives = h.derives; spells = ap (drop 2) h.spells }) in
    absurd cc

-- the symbols after the first two tokens
pub symbols_behind : (bytes : List ℕ) (ts : List Token) → symbols_in bytes (drop 2 ts) ≡ drop 2 (symbols_in bytes ts)
symbols_behind bytes [] = refl
symbols_behind bytes (t ∷ []) = refl
symbols_behind bytes (t ∷ u ∷ ts) = refl

-- the steps of the right side of a line
pub read_at : (bytes : List ℕ) (ts : List Token) (line : ℕ) (steps : List NamedStep) → ok_or (steps_from initial_state (symbols_in bytes (drop 2 ts))) (Syntax line) ≡ Ok steps →
    steps_from initial_state (drop 2 (symbols_in bytes ts)) ≡ Some steps
read_at bytes ts line steps e =
    ap (steps_from initial_state) (sym (symbols_behind bytes ts)) ∙ by_cases (steps_from initial_state (symbols_in bytes (drop 2 ts))) e where
      by_cases : (o : Option (List NamedStep)) → ok_or o (Syntax line) ≡ Ok steps → o ≡ Some steps
      by_cases None f = absurd cc
      by_cases (Some read) f = let g = f in cc

module _ (line : TokenLine) where
  -- a line that is too deep
  pub says_deep : is_too_deep 0 0 (symbols_of line.lexemes) ≡ true → StepsSaid line (Err (TooMany Nesting))
  says_deep e = (Err (TooMany Nesting), inl (too_deep line.lexemes e, refl), refl)

  module _ (shallow : is_too_deep 0 0 (symbols_of line.lexemes) ≡ false) where
    -- a line that is no assignment
    says_none : IsNoAssignment line.lexemes → StepsSaid line (Err (Syntax line.number))
    says_none none = (Err (Syntax line.number), inr (inl (not_deep line.lexemes shallow, none, refl)), refl)

    -- a line with no name on its left side
    pub says_unnamed : left_name (symbols_of line.lexemes) ≡ None → StepsSaid line (Err (Syntax line.number))
    says_unnamed e = says_none (unnamed line.lexemes e)

    -- a line whose right side is no expression
    pub says_unread : (o : Option (List NamedStep)) (e : FileError) → steps_from initial_state (drop 2 (symbols_of line.lexemes)) ≡ o → ok_or o (Syntax line.number) ≡ Err e → StepsSaid line (Err e)
    says_unread None e f g = subst (λ (z : FileError). StepsSaid line (Err z)) (cc) (says_none (unread line.lexemes f))
    says_unread (Some steps) e f g = absurd cc

    -- a line that assigns a tree to a name
    pub says_assigned : (w : List ℕ) (steps : List NamedStep) → left_name (symbols_of line.lexemes) ≡ Some w → steps_from initial_state (drop 2 (symbols_of line.lexemes)) ≡ Some steps →
        StepsSaid line (Ok (record { name = w; steps = steps }))
    says_assigned w steps e f =
        let a = assigned line.lexemes w steps e f in
        let said : Assigned = record { name = w; tree = a.0 } in
        (Ok said, inr (inr (not_deep line.lexemes shallow, said, a.1, refl)), ap (λ (z : List NamedStep). Ok (record { name = w; steps = z })) a.2)

-- a tree has at most as many steps as symbols
length-postfix : (t : Tree) → length (postfix t) ≤ length (spelled t)
length-postfix (named w) = omega arith
length-postfix (parens t) =
    let k = length-postfix t in
    omega (arith, k, length-append (spelled t) (closing ∷ []))
length-postfix (sum_of a b) =
    let k = length-postfix a in
    let m = length-postfix b in
    omega (arith, k, m, length-append (postfix a ++ postfix b) (sum ∷ []), length-append (postfix a) (postfix b), length-append (spelled a) (plus ∷ spelled b))
length-postfix (product_of a b) =
    let k = length-postfix a in
    let m = length-postfix b in
    omega (arith, k, m, length-append (postfix a ++ postfix b) (product ∷ []), length-append (postfix a) (postfix b), length-append (spelled a) (times ∷ spelled b))

-- an assignment has at most as many steps as tokens
pub few_steps : (bytes : List ℕ) (ts : List Token) (w : List ℕ) (steps : List Step) (tree : Tree) → IsAssignment (lexemes_in bytes ts) w tree → steps_in bytes steps ≡ postfix tree → length steps ≤ length ts
few_steps bytes ts w steps tree h e =
    let k = length-postfix tree in
    let n : length (symbols_in bytes ts) ≡ 2 + length (spelled tree) = ap length h.spells ∙ omega arith in
    let m : length (steps_in bytes steps) ≡ length (postfix tree) = ap length e in
    omega (arith, k, n, m, length-map (lexemes_in bytes ts) symbol_of, length-map ts (lexeme_in bytes), length-map steps (step_in bytes))
