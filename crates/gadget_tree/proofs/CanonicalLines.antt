-- The lines of a text whose lines each end with a line feed, and their tokens.
use Rattle.std.proofs.Common.{◌≡◌, ◌+◌, ◌==◌, ℕ, Bool, true, false, cond, ◌||◌, List, [], ◌∷◌, ◌++◌, map, flat_map, Some, None, refl, ap, ◌∙◌, ne_eqb, arith, append_assoc}
use Rattle.std.specs.List.{All, AllByRecursion, list_all, join_with_byte}
use Rattle.std.proofs.lemmas.Bool.{and_from, le-leb}
use Rattle.std.proofs.lemmas.List.Elements.{All-from_recursion}
use Rattle.std.proofs.lemmas.List.Splits.{slice_split_at}
use Rattle.gadget_text.specs.Bytes.{is_feed, is_allowed}
use Rattle.gadget_text.specs.Lines.{without_return, lines_of, line_kind, kept_part, before_hash, counts, is_text, first_not_text}
use Rattle.gadget_text.specs.Tokens.{Lexeme, TokenLine, line_lexemes, onto_lines, numbered_lines, token_lines}
use Rattle.gadget_text.proofs.WordBytes.{IsPrinted, each_weaker}

-- a line's words, and the tokens that it is to have
pub record Script : Type 0 where
  pub words : List (List ℕ)
  pub first : Lexeme
  pub others : List Lexeme

-- the bytes of a line
abbrev pub line_text : Script → List ℕ
line_text l = join_with_byte 32 l.words

-- the bytes of the line are printed, and its tokens are those that it is to have
pub record IsRead (l : Script) : Type 0 where
  pub printed : AllByRecursion IsPrinted (line_text l)
  pub lexemes : line_lexemes (line_text l) ≡ l.first ∷ l.others

-- the bytes of lines, with a line feed after each
abbrev pub text_from : List Script → List ℕ
text_from ls = flat_map (λ l. line_text l ++ 10 ∷ []) ls

-- the lines of the text: after the last line feed stands an empty one
abbrev lines_from : List Script → List (List ℕ)
lines_from [] = [] ∷ []
lines_from (l ∷ ls) = line_text l ∷ lines_from ls

-- the lines with their tokens, numbered from this number on
abbrev pub scripted_from : ℕ → List Script → List TokenLine
scripted_from n [] = []
scripted_from n (l ∷ ls) = record { number = n; lexemes = l.first ∷ l.others } ∷ scripted_from (n + 1) ls

no_feed : (b : ℕ) → IsPrinted b → is_feed b ≡ false
no_feed b h = ne_eqb b 10 (λ e. omega (arith, e, h.low))

without_last : (b : ℕ) → IsPrinted b → without_return (b ∷ []) ≡ b ∷ []
without_last b h = ap (λ (t : Bool). cond t [] (b ∷ [])) (ne_eqb b 13 (λ e. omega (arith, e, h.low)))

-- no carriage return is printed
whole : (line : List ℕ) → AllByRecursion IsPrinted line → without_return line ≡ line
whole [] h = refl
whole (b ∷ []) h = without_last b h.0
whole (b ∷ c ∷ line) h = ap (λ (z : List ℕ). b ∷ z) (whole (c ∷ line) h.1)

feedless : (line : List ℕ) → AllByRecursion IsPrinted line → All (λ b. is_feed b ≡ false) line
feedless line h = All-from_recursion (λ b. is_feed b ≡ false) line (each_weaker IsPrinted (λ b. is_feed b ≡ false) no_feed line h)

one_line : (line rest : List ℕ) → AllByRecursion IsPrinted line → lines_of ((line ++ 10 ∷ []) ++ rest) ≡ line ∷ lines_of rest
one_line line rest h =
    ap lines_of (append_assoc line (10 ∷ []) rest)
    ∙ ap (map without_return) (slice_split_at is_feed line 10 rest (feedless line h) refl)
    ∙ ap (λ (z : List ℕ). z ∷ lines_of rest) (whole line h)

-- the lines of the text
text_lines : (ls : List Script) → AllByRecursion IsRead ls → lines_of (text_from ls) ≡ lines_from ls
text_lines [] h = refl
text_lines (l ∷ ls) h = one_line (line_text l) (text_from ls) h.0.printed ∙ ap (λ (z : List (List ℕ)). line_text l ∷ z) (text_lines ls h.1)

allowed : (b : ℕ) → IsPrinted b → is_allowed b ≡ true
allowed b h = ap (λ (t : Bool). (b == 9) || t) (and_from _ _ (le-leb 32 b h.low) (le-leb b 126 h.high)) ∙ or_true (b == 9) where
  or_true : (t : Bool) → t || true ≡ true
  or_true true = refl
  or_true false = refl

-- the kept part has bytes of the line
before_allowed : (line : List ℕ) → AllByRecursion IsPrinted line → list_all is_allowed (before_hash line) ≡ true
before_allowed [] h = refl
before_allowed (b ∷ line) h = by_cases (b == 35) (before_allowed line h.1) where
  by_cases : (hash : Bool) → list_all is_allowed (before_hash line) ≡ true → list_all is_allowed (cond hash [] (b ∷ before_hash line)) ≡ true
  by_cases true e = refl
  by_cases false e = and_from (is_allowed b) (list_all is_allowed (before_hash line)) (allowed b h.0) e

kept_allowed : (line : List ℕ) → AllByRecursion IsPrinted line → list_all is_allowed (kept_part line) ≡ true
kept_allowed [] h = refl
kept_allowed (b ∷ line) h = and_from (is_allowed b) _ (allowed b h.0) (by_cases (b == 32 || b == 9) (kept_allowed line h.1)) where
  by_cases : (blank : Bool) → list_all is_allowed (kept_part line) ≡ true → list_all is_allowed (cond blank (kept_part line) (before_hash line)) ≡ true
  by_cases true e = e
  by_cases false e = before_allowed line h.1

text_by_cases : (counted allow : Bool) → allow ≡ true → cond counted allow true ≡ true
text_by_cases true allow e = e
text_by_cases false allow e = refl

printed_text : (line : List ℕ) → AllByRecursion IsPrinted line → is_text line ≡ true
printed_text line h = text_by_cases (counts (line_kind line)) (list_all is_allowed (kept_part line)) (kept_allowed line h)

lines_text : (n : ℕ) (ls : List Script) → AllByRecursion IsRead ls → first_not_text n (lines_from ls) ≡ None
lines_text n [] h = refl
lines_text n (l ∷ ls) h =
    ap (λ (t : Bool). cond t (first_not_text (n + 1) (lines_from ls)) (Some n)) (printed_text (line_text l) h.0.printed) ∙ lines_text (n + 1) ls h.1

lines_tokens : (n : ℕ) (ls : List Script) → AllByRecursion IsRead ls → numbered_lines n (lines_from ls) ≡ scripted_from n ls
lines_tokens n [] h = refl
lines_tokens n (l ∷ ls) h =
    ap (λ (z : List Lexeme). onto_lines n z (numbered_lines (n + 1) (lines_from ls))) h.0.lexemes
    ∙ ap (λ (z : List TokenLine). record { number = n; lexemes = l.first ∷ l.others } ∷ z) (lines_tokens (n + 1) ls h.1)

-- no byte of the text is forbidden
pub all_text : (ls : List Script) → AllByRecursion IsRead ls → first_not_text 1 (lines_of (text_from ls)) ≡ None
all_text ls h = ap (first_not_text 1) (text_lines ls h) ∙ lines_text 1 ls h

-- the tokens of the text
pub text_tokens : (ls : List Script) → AllByRecursion IsRead ls → token_lines (text_from ls) ≡ scripted_from 1 ls
text_tokens ls h = ap (numbered_lines 1) (text_lines ls h) ∙ lines_tokens 1 ls h
