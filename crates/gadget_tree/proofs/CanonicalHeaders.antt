-- What the headers of the canonical text say.
use Rattle.std.proofs.Common.{◌≡◌, ◌<◌, ◌≤◌, ◌^◌, ◌==◌, ℕ, Bool, false, not, ◌||◌, List, [], ◌∷◌, ◌++◌, length, map, Option, Some, None, Result, Ok, refl, ap, ◌∙◌, ne_eqb, arith}
use Rattle.std.specs.Prelude.{decimal, nat_lt, is_some, IsTrue}
use Rattle.std.specs.List.{All, list_all}
use Rattle.std.proofs.lemmas.Bool.{le-ltb, not_from_true, or_from}
use Rattle.std.proofs.lemmas.List.Sums.{list_all-from_AllPass}
use Rattle.gadget_text.specs.declared.token.Header.{Header}
use Rattle.gadget_text.specs.declared.token.Header.TheVariants.{Shares, In, Randoms, Out}
use Rattle.gadget_text.specs.Lines.{header_word}
use Rattle.gadget_text.specs.Tokens.{Lexeme, TokenLine}
use Rattle.gadget_text.specs.Names.{is_stem, is_number}
use Rattle.gadget_text.proofs.SpacedWords.{word_lexeme, header_lexeme}
use Rattle.gadget_text.specs.declared.file_error.FileError.{FileError}
use Rattle.gadget_text.specs.declared.file_error.FileError.TheVariants.{BadNumber, BadName, TooMany}
use Rattle.gadget_text.specs.declared.file_error.What.{What}
use Rattle.gadget_text.specs.declared.file_error.What.TheVariants as what
use Rattle.gadget_limits.specs.Limits.{most_shares, most_inputs, most_outputs, most_randoms}
use Rattle.gadget_text.specs.Errors.{refuse, ◌>>=◌, ◌>>◌}
use Rattle.gadget_headers.specs.Headers.{Listed, SoFar, no_headers, Preamble, number_of, header_of, header_words, some_words, listed, with_shares, with_header, at_line, end_headers, headers_from, preamble_of}
use Rattle.gadget_headers.specs.Limits.{KeepsLimits}
use Rattle.gadget_tree.proofs.Decimals.{number_of-decimal, is_number-decimal}
use Rattle.gadget_tree.proofs.CanonicalLines.{Script, scripted_from}

-- a header line
abbrev pub header_script : Header → List (List ℕ) → Script
header_script h ws = record { words = (35 ∷ header_word h) ∷ ws; first = header_lexeme h; others = map word_lexeme ws }

-- the line `#RANDOMS`, where there are any
abbrev pub random_scripts : List (List ℕ) → List Script
random_scripts [] = []
random_scripts (name ∷ names) = header_script Randoms (name ∷ names) ∷ []

-- the header lines
abbrev pub header_scripts : ℕ → List (List ℕ) → List (List ℕ) → List (List ℕ) → List Script
header_scripts n inputs randoms outputs = header_script Shares (decimal n ∷ []) ∷ header_script In inputs ∷ random_scripts randoms ++ header_script Out outputs ∷ []

-- the randoms, as the headers list them
abbrev pub listed_random : List (List ℕ) → Option Listed
listed_random [] = None
listed_random (name ∷ names) = Some (record { line = 3; stems = name ∷ names })

-- the number of the line `#OUT`
abbrev pub out_line : List (List ℕ) → ℕ
out_line [] = 3
out_line (name ∷ names) = 4

-- what they say
abbrev pub canonical_preamble : ℕ → List (List ℕ) → List (List ℕ) → List (List ℕ) → List TokenLine → Preamble
canonical_preamble n inputs randoms outputs lines = record {
  shares = n;
  inputs = record { line = 2; stems = inputs };
  randoms = listed_random randoms;
  outputs = record { line = out_line randoms; stems = outputs };
  lines = lines;
}

-- no header stands in front
abbrev pub StartsBody : List TokenLine → Type 0
StartsBody [] = Unit {0}
StartsBody (line ∷ lines) = header_of line.lexemes ≡ None

-- no offence stands
pub passes : {A : Type 0} (stands : Bool) (error : FileError) (next : Result A FileError) → stands ≡ false → (refuse stands error >> next) ≡ next
passes stands error next e = ap (λ (t : Bool). refuse t error >> next) e

shares_said : (n : ℕ) → 1 ≤ n → n ≤ most_shares → with_shares 1 no_headers (decimal n) ≡ Ok (record no_headers { shares = Some n })
shares_said n l m =
    let size : n < 2 ^ 64 = omega arith in
    let number = number_of-decimal n size in
    let some : number_of (decimal n) == 0 ≡ false = ne_eqb (number_of (decimal n)) 0 (λ e. omega (arith, number)) in
    let few : nat_lt most_shares (number_of (decimal n)) ≡ false = le-ltb most_shares (number_of (decimal n)) (omega (arith, number)) in
    passes (not (is_number (decimal n)) || number_of (decimal n) == 0) (BadNumber 1) _ (or_from _ _ (not_from_true (is_number (decimal n)) (is_number-decimal n size)) some)
    ∙ passes (nat_lt most_shares (number_of (decimal n))) (TooMany what.Shares) _ few
    ∙ ap (λ (z : ℕ). Ok (record no_headers { shares = Some z })) number

listed_said : (line most : ℕ) (things : What) (words : List (List ℕ)) → All (λ w. IsTrue (is_stem w)) words → length words ≤ most →
    listed line false most things words ≡ Ok (record { line = line; stems = words })
listed_said line most things words h l =
    passes (not (list_all is_stem words)) (BadName line) _ (not_from_true (list_all is_stem words) (list_all-from_AllPass is_stem words h))
    ∙ passes (nat_lt most (length words)) (TooMany things) _ (le-ltb most (length words) l)

some_said : {A : Type 0} (line : ℕ) (words : List (List ℕ)) (next : Result A FileError) → 1 ≤ length words → (some_words line words >> next) ≡ next
some_said line [] next l = absurd (omega arith)
some_said line (w ∷ words) next l = refl

inputs_said : (h : SoFar) (words : List (List ℕ)) → h.inputs ≡ None → 1 ≤ length words → length words ≤ most_inputs → All (λ w. IsTrue (is_stem w)) words →
    with_header 2 h words In ≡ Ok (record h { inputs = Some (record { line = 2; stems = words }) })
inputs_said h words e l m k =
    some_said 2 words _ l
    ∙ ap (λ (z : Option Listed). listed 2 (is_some z) most_inputs what.Inputs words >>= λ s. Ok (record h { inputs = Some s })) e
    ∙ ap (λ (z : Result Listed FileError). z >>= λ s. Ok (record h { inputs = Some s })) (listed_said 2 most_inputs what.Inputs words k m)

randoms_said : (h : SoFar) (words : List (List ℕ)) → h.randoms ≡ None → length words ≤ most_randoms → All (λ w. IsTrue (is_stem w)) words →
    with_header 3 h words Randoms ≡ Ok (record h { randoms = Some (record { line = 3; stems = words }) })
randoms_said h words e m k =
    ap (λ (z : Option Listed). listed 3 (is_some z) most_randoms what.Randoms words >>= λ s. Ok (record h { randoms = Some s })) e
    ∙ ap (λ (z : Result Listed FileError). z >>= λ s. Ok (record h { randoms = Some s })) (listed_said 3 most_randoms what.Randoms words k m)

outputs_said : (line : ℕ) (h : SoFar) (words : List (List ℕ)) → h.outputs ≡ None → 1 ≤ length words → length words ≤ most_outputs → All (λ w. IsTrue (is_stem w)) words →
    with_header line h words Out ≡ Ok (record h { outputs = Some (record { line = line; stems = words }) })
outputs_said line h words e l m k =
    some_said line words _ l
    ∙ ap (λ (z : Option Listed). listed line (is_some z) most_outputs what.Outputs words >>= λ s. Ok (record h { outputs = Some s })) e
    ∙ ap (λ (z : Result Listed FileError). z >>= λ s. Ok (record h { outputs = Some s })) (listed_said line most_outputs what.Outputs words k m)

texts : (ws : List (List ℕ)) → map (λ (lexeme : Lexeme). lexeme.text) (map word_lexeme ws) ≡ ws
texts [] = refl
texts (w ∷ ws) = ap (λ (z : List (List ℕ)). w ∷ z) (texts ws)

-- a header line adds what it says
header_step : (line : ℕ) (h now : SoFar) (header : Header) (ws : List (List ℕ)) (lines : List TokenLine) → with_header line h ws header ≡ Ok now →
    headers_from h (record { number = line; lexemes = header_lexeme header ∷ map word_lexeme ws } ∷ lines) ≡ headers_from now lines
header_step line h now header ws lines e =
    ap (λ (z : List (List ℕ)). with_header line h z header >>= λ s. headers_from s lines) (texts ws)
    ∙ ap (λ (z : Result SoFar FileError). z >>= λ s. headers_from s lines) e

-- the headers end where no header follows
headers_end : (h : SoFar) (lines : List TokenLine) → StartsBody lines → headers_from h lines ≡ end_headers h lines
headers_end h [] e = refl
headers_end h (line ∷ lines) e =
    ap (λ (z : Option Header). at_line line.number h (header_words line.lexemes) (λ s. headers_from s lines) (end_headers h (line ∷ lines)) z) e

-- the lines after the line `#IN`
abbrev later : List (List ℕ) → List (List ℕ) → List TokenLine → List TokenLine
later randoms outputs lines = scripted_from 3 (random_scripts randoms ++ header_script Out outputs ∷ []) ++ lines

later_said : (n : ℕ) (inputs randoms outputs : List (List ℕ)) (lines : List TokenLine) → StartsBody lines → KeepsLimits (canonical_preamble n inputs randoms outputs lines) →
    headers_from (record no_headers { shares = Some n; inputs = Some (record { line = 2; stems = inputs }) }) (later randoms outputs lines) ≡ Ok (canonical_preamble n inputs randoms outputs lines)
later_said n inputs [] outputs lines s k =
    let h : SoFar = record no_headers { shares = Some n; inputs = Some (record { line = 2; stems = inputs }) } in
    let now : SoFar = record h { outputs = Some (record { line = 3; stems = outputs }) } in
    header_step 3 h now Out outputs lines (outputs_said 3 h outputs refl k.some_outputs k.few_outputs k.output_stems) ∙ headers_end now lines s
later_said n inputs (name ∷ names) outputs lines s k =
    let h : SoFar = record no_headers { shares = Some n; inputs = Some (record { line = 2; stems = inputs }) } in
    let then : SoFar = record h { randoms = Some (record { line = 3; stems = name ∷ names }) } in
    let now : SoFar = record then { outputs = Some (record { line = 4; stems = outputs }) } in
    header_step 3 h then Randoms (name ∷ names) (record { number = 4; lexemes = header_lexeme Out ∷ map word_lexeme outputs } ∷ lines)
    (randoms_said h (name ∷ names) refl k.few_randoms k.random_stems)
    ∙ header_step 4 then now Out outputs lines (outputs_said 4 then outputs refl k.some_outputs k.few_outputs k.output_stems) ∙ headers_end now lines s

-- what the headers say in front of lines that are none
pub preamble_said : (n : ℕ) (inputs randoms outputs : List (List ℕ)) (lines : List TokenLine) → StartsBody lines → KeepsLimits (canonical_preamble n inputs randoms outputs lines) →
    preamble_of (scripted_from 1 (header_scripts n inputs randoms outputs) ++ lines) ≡ Ok (canonical_preamble n inputs randoms outputs lines)
preamble_said n inputs randoms outputs lines s k =
    let first : SoFar = record no_headers { shares = Some n } in
    let second : SoFar = record first { inputs = Some (record { line = 2; stems = inputs }) } in
    header_step 1 no_headers first Shares (decimal n ∷ []) (record { number = 2; lexemes = header_lexeme In ∷ map word_lexeme inputs } ∷ later randoms outputs lines)
    (shares_said n k.some_shares k.few_shares)
    ∙ header_step 2 first second In inputs (later randoms outputs lines) (inputs_said first inputs refl k.some_inputs k.few_inputs k.input_stems)
    ∙ later_said n inputs randoms outputs lines s k
