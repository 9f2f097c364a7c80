-- The tokens of a file by their lines.
use Rattle.std.proofs.Common.{◌≡◌, ◌<◌, ◌+◌, ℕ, [], ◌∷◌, ◌++◌, Bool, true, false, List, cond, eqb, length, drop, map, flat_map, refl, sym, ap, ◌∙◌, subst, arith, append-nil, take, suc, true≢false}
use Rattle.std.specs.Prelude.{slice_index_or}
use Rattle.std.proofs.lemmas.Bool.{ne_eqb, eq-eqb, eqb-true}
use Rattle.std.specs.List.{prefix_len}
use Rattle.gadget_text.specs.declared.token.Token.{Token}
use Rattle.gadget_text.specs.Lines.{pieces_of, without_return}
use Rattle.gadget_text.specs.Segments.{Segment, gap, token, line_segments}
use Rattle.gadget_text.specs.Tokens.{Lexeme, TokenLine, line_lexemes, onto_lines, numbered_lines, token_lines}
use Rattle.gadget_text.specs.Places.{placed, placed_lines, tokens_of, lexeme_in, lexemes_in, onto_run, runs_by_line, line_in, lines_in}
use Rattle.gadget_text.proofs.Slices.{fed, fed_file, line_texts, next_at}

-- all are of this line
abbrev pub AreOf : ℕ → List Token → Type 0
AreOf number [] = Unit {0}
AreOf number (t ∷ ts) = (t.line ≡ number) × AreOf number ts

-- all are of later lines
abbrev pub AreBehind : ℕ → List Token → Type 0
AreBehind number [] = Unit {0}
AreBehind number (t ∷ ts) = (number < t.line) × AreBehind number ts

placed_of : (number at : ℕ) (ss : List Segment) → AreOf number (placed number at ss)
placed_of number at [] = tt
placed_of number at (gap b ∷ ss) = placed_of number (at + 1) ss
placed_of number at (token kind w ∷ ss) = (refl, placed_of number (at + length w) ss)

behind_both : (number line : ℕ) (ts us : List Token) → number < line → AreOf line ts → AreBehind number us → AreBehind number (ts ++ us)
behind_both number line [] us l h k = k
behind_both number line (t ∷ ts) us l h k = (omega (arith, l, h.0), behind_both number line ts us l h.1 k)

lines_behind : (number line at : ℕ) (pieces : List (List ℕ)) → number < line → AreBehind number (placed_lines line at pieces)
lines_behind number line at [] l = tt
lines_behind number line at (piece ∷ pieces) l =
    behind_both number line (placed line at (line_segments (without_return piece))) (placed_lines (line + 1) (at + length piece + 1) pieces) l
    (placed_of line at (line_segments (without_return piece))) (lines_behind number (line + 1) (at + length piece + 1) pieces (omega (arith, l)))

-- the first run begins with the first token
first_by_cases : (same : Bool) (t u : Token) (us : List Token) (runs : List (List Token)) → (vs : List Token) × (more : List (List Token)) × (cond same ((t ∷ u ∷ us) ∷ runs) ((t ∷ []) ∷ (u ∷ us) ∷ runs) ≡ (t ∷ vs) ∷ more)
first_by_cases true t u us runs = (u ∷ us, runs, refl)
first_by_cases false t u us runs = ([], (u ∷ us) ∷ runs, refl)

onto_first_run : (t : Token) (runs : List (List Token)) → (us : List Token) × (more : List (List Token)) × (onto_run t runs ≡ (t ∷ us) ∷ more)
onto_first_run t [] = ([], [], refl)
onto_first_run t ([] ∷ runs) = ([], runs, refl)
onto_first_run t ((u ∷ us) ∷ runs) = first_by_cases (eqb u.line t.line) t u us runs

-- a token in front of tokens of later lines
alone : (t : Token) (ts : List Token) → AreBehind t.line ts → runs_by_line (t ∷ ts) ≡ (t ∷ []) ∷ runs_by_line ts
alone t [] h = refl
alone t (u ∷ us) h =
    let first = onto_first_run u (runs_by_line us) in
    let other : eqb u.line t.line ≡ false = ne_eqb u.line t.line (omega (arith, h.0)) in
    ap (onto_run t) first.2
    ∙ ap (λ (z : Bool). cond z ((t ∷ u ∷ first.0) ∷ first.1) ((t ∷ []) ∷ (u ∷ first.0) ∷ first.1)) other
    ∙ ap (λ (z : List (List Token)). (t ∷ []) ∷ z) (sym first.2)

-- tokens of one line in front of tokens of later lines are a run
one_run : (number : ℕ) (t : Token) (ts us : List Token) → t.line ≡ number → AreOf number ts → AreBehind number us → runs_by_line ((t ∷ ts) ++ us) ≡ (t ∷ ts) ∷ runs_by_line us
one_run number t [] us e h k = alone t us (subst (λ (z : ℕ). AreBehind z us) (sym e) k)
one_run number t (s ∷ ts) us e h k =
    ap (onto_run t) (one_run number s ts us h.0 h.1 k)
    ∙ ap (λ (z : Bool). cond z ((t ∷ s ∷ ts) ∷ runs_by_line us) ((t ∷ []) ∷ (s ∷ ts) ∷ runs_by_line us)) (eq-eqb s.line t.line (h.0 ∙ sym e))

module _ (bytes : List ℕ) where
  line_run : (number : ℕ) (ts us : List Token) (ps : List Lexeme) (lines : List TokenLine) → AreOf number ts → AreBehind number us → map (lexeme_in bytes) ts ≡ ps → flat_map (line_in bytes) (runs_by_line us) ≡ lines →
      flat_map (line_in bytes) (runs_by_line (ts ++ us)) ≡ onto_lines number ps lines
  line_run number [] us ps lines h k e f = f ∙ ap (λ (z : List Lexeme). onto_lines number z lines) e
  line_run number (t ∷ ts) us ps lines h k e f =
      ap (flat_map (line_in bytes)) (one_run number t ts us h.0 h.1 k)
      ∙ ap (λ (z : ℕ). record { number = z; lexemes = map (lexeme_in bytes) (t ∷ ts) } ∷ flat_map (line_in bytes) (runs_by_line us)) h.0
      ∙ ap (λ (z : List TokenLine). onto_lines number (map (lexeme_in bytes) (t ∷ ts)) z) f
      ∙ ap (λ (z : List Lexeme). onto_lines number z lines) e

  lines_runs : (number at : ℕ) (pieces : List (List ℕ)) → drop at bytes ≡ fed pieces → flat_map (line_in bytes) (runs_by_line (placed_lines number at pieces)) ≡ numbered_lines number (map without_return pieces)
  lines_runs number at [] e = refl
  lines_runs number at (line ∷ []) e =
      line_run number (placed number at (line_segments (without_return line))) [] (line_lexemes (without_return line)) [] (placed_of number at (line_segments (without_return line))) tt
      (line_texts bytes number at line [] (e ∙ sym (append-nil line))) refl
  lines_runs number at (line ∷ next ∷ pieces) e =
      line_run number (placed number at (line_segments (without_return line))) (placed_lines (number + 1) (at + length line + 1) (next ∷ pieces)) (line_lexemes (without_return line)) (numbered_lines (number + 1) (map without_return (next ∷ pieces)))
      (placed_of number at (line_segments (without_return line))) (lines_behind number (number + 1) (at + length line + 1) (next ∷ pieces) (omega arith))
      (line_texts bytes number at line (10 ∷ fed (next ∷ pieces)) e)
      (lines_runs (number + 1) (at + length line + 1) (next ∷ pieces) (next_at bytes at line (fed (next ∷ pieces)) e))

pub file_runs : (bytes : List ℕ) → flat_map (line_in bytes) (runs_by_line (tokens_of bytes)) ≡ token_lines bytes
unfolding tokens_of
file_runs bytes = lines_runs bytes 1 0 (pieces_of bytes) (sym (fed_file bytes))

-- whether a token is of this line
abbrev pub is_of : ℕ → Token → Bool
is_of number u = eqb u.line number

-- the run that t begins with so many more tokens, and the runs after it
abbrev run_of : Token → ℕ → List Token → List (List Token)
run_of t n ts = (t ∷ take n ts) ∷ runs_by_line (drop n ts)

more_by_cases : (same : Bool) (t u : Token) (us : List Token) → eqb u.line t.line ≡ same → runs_by_line (u ∷ us) ≡ run_of u (prefix_len (is_of u.line) us) us →
    onto_run t (runs_by_line (u ∷ us)) ≡ run_of t (cond same (1 + prefix_len (is_of t.line) us) 0) (u ∷ us)
more_by_cases true t u us e ih =
    let n = prefix_len (is_of t.line) us in
    let s : suc n ≡ 1 + n = omega arith in
    ap (onto_run t) ih
    ∙ ap (λ (z : Bool). cond z ((t ∷ u ∷ take (prefix_len (is_of u.line) us) us) ∷ runs_by_line (drop (prefix_len (is_of u.line) us) us)) ((t ∷ []) ∷ run_of u (prefix_len (is_of u.line) us) us)) e
    ∙ ap (λ (l : ℕ). (t ∷ u ∷ take (prefix_len (is_of l) us) us) ∷ runs_by_line (drop (prefix_len (is_of l) us) us)) (eqb-true u.line t.line e)
    ∙ ap (λ (k : ℕ). run_of t k (u ∷ us)) s
more_by_cases false t u us e ih =
    ap (onto_run t) ih
    ∙ ap (λ (z : Bool). cond z ((t ∷ u ∷ take (prefix_len (is_of u.line) us) us) ∷ runs_by_line (drop (prefix_len (is_of u.line) us) us)) ((t ∷ []) ∷ run_of u (prefix_len (is_of u.line) us) us)) e
    ∙ ap (λ (z : List (List Token)). (t ∷ []) ∷ z) (sym ih)

-- the first run ends before the first token of another line
pub first_run : (t : Token) (ts : List Token) → runs_by_line (t ∷ ts) ≡ run_of t (prefix_len (is_of t.line) ts) ts
first_run t [] = refl
first_run t (u ∷ us) = more_by_cases (eqb u.line t.line) t u us refl (first_run u us)

-- the lines of tokens, by the run of the first
lines_first : (bytes : List ℕ) (t : Token) (ts : List Token) (n : ℕ) → n ≡ 1 + prefix_len (is_of t.line) ts →
    lines_in bytes (t ∷ ts) ≡ record { number = t.line; lexemes = lexemes_in bytes (take n (t ∷ ts)) } ∷ lines_in bytes (drop n (t ∷ ts))
lines_first bytes t ts n e =
    let m = prefix_len (is_of t.line) ts in
    let s : suc m ≡ n = omega (arith, e) in
    ap (flat_map (line_in bytes)) (first_run t ts)
    ∙ ap (λ (k : ℕ). record { number = t.line; lexemes = lexemes_in bytes (take k (t ∷ ts)) } ∷ lines_in bytes (drop k (t ∷ ts))) s

own_line : (t : Token) (ts : List Token) → prefix_len (is_of t.line) (t ∷ ts) ≡ 1 + prefix_len (is_of t.line) ts
own_line t ts = ap (λ (b : Bool). cond b (1 + prefix_len (is_of t.line) ts) 0) (eq-eqb t.line t.line refl)

-- the lines of tokens, of which so many are of the line of the first
pub first_line_of : (bytes : List ℕ) (tokens own rest : List Token) (line n : ℕ) (default : Token) → false ≡ eqb (length tokens) 0 →
    line ≡ (slice_index_or tokens 0 default).line → n ≡ prefix_len (is_of (slice_index_or tokens 0 default).line) tokens → own ≡ take n tokens → rest ≡ drop n tokens →
    lines_in bytes tokens ≡ record { number = line; lexemes = lexemes_in bytes own } ∷ lines_in bytes rest
first_line_of bytes [] own rest line n default l d e f g = absurd (true≢false (sym l))
first_line_of bytes (t ∷ ts) own rest line n default l d e f g =
    lines_first bytes t ts n (e ∙ own_line t ts)
    ∙ ap (λ (k : ℕ). record { number = k; lexemes = lexemes_in bytes (take n (t ∷ ts)) } ∷ lines_in bytes (drop n (t ∷ ts))) (sym d)
    ∙ ap (λ (z : List Token). record { number = line; lexemes = lexemes_in bytes z } ∷ lines_in bytes (drop n (t ∷ ts))) (sym f)
    ∙ ap (λ (z : List Token). record { number = line; lexemes = lexemes_in bytes own } ∷ lines_in bytes z) (sym g)
