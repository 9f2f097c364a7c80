-- A header line in its parts.
use Rattle.std.proofs.Common.{◌≡◌, ◌<◌, ◌++◌, List, [], ◌∷◌, ℕ, length, drop, map, get_or, sym, ap, ◌∙◌, refl, arith}
use Rattle.gadget_text.specs.declared.token.Token.{Token}
use Rattle.gadget_text.specs.declared.token.Header.{Header}
use Rattle.gadget_text.specs.declared.token.TokenKind.{TokenKind}
use Rattle.gadget_text.specs.declared.token.TokenKind.TheVariants.{Head}
use Rattle.gadget_text.specs.Tokens.{TokenLine, Lexeme}
use Rattle.gadget_text.specs.Places.{lexemes_in, lines_in, text_in}
use Rattle.gadget_text.specs.Errors.{◌>>=◌}
use Rattle.gadget_headers.specs.Headers.{SoFar, header_of_kind, header_words, at_line, with_header, headers_from, end_headers}
use Rattle.gadget_headers.specs.Seen.{texts_in}

texts_behind : (bytes : List ℕ) (ts : List Token) → map (λ (l : Lexeme). l.text) (lexemes_in bytes ts) ≡ texts_in bytes ts
texts_behind bytes [] = refl
texts_behind bytes (t ∷ ts) = ap (λ (z : List (List ℕ)). text_in bytes t ∷ z) (texts_behind bytes ts)

-- a line that begins with a header goes on with its words
pub line_goes_on : (bytes : List ℕ) (h : SoFar) (line : ℕ) (own words rest : List Token) (lines : List TokenLine) (header : Header) (default : Token) →
    lines ≡ record { number = line; lexemes = lexemes_in bytes own } ∷ lines_in bytes rest → 0 < length own → (get_or own 0 default).kind ≡ Head header → words ≡ drop 1 own →
    headers_from h lines ≡ with_header line h (texts_in bytes words) header >>= λ now. headers_from now (lines_in bytes rest)
line_goes_on bytes h line [] words rest lines header default e some kind behind = absurd (omega (arith, some))
line_goes_on bytes h line (t ∷ ts) words rest lines header default e some kind behind =
    ap (headers_from h) e
    ∙ ap (λ (k : TokenKind). at_line line h (header_words (lexemes_in bytes (t ∷ ts))) (λ now. headers_from now (lines_in bytes rest)) (end_headers h (record { number = line; lexemes = lexemes_in bytes (t ∷ ts) } ∷ lines_in bytes rest)) (header_of_kind k)) kind
    ∙ ap (λ (z : List (List ℕ)). with_header line h z header >>= λ now. headers_from now (lines_in bytes rest)) (texts_behind bytes ts ∙ ap (texts_in bytes) (sym behind))

-- the parts of a line that begins with a header are its first token, its words and what comes after
pub line_split : (own words rest all : List Token) → 0 < length own → words ≡ drop 1 own → own ++ rest ≡ all → (head : Token) × (head ∷ (words ++ rest) ≡ all)
line_split [] words rest all some behind e = absurd (omega (arith, some))
line_split (t ∷ ts) words rest all some behind e = (t, ap (λ (z : List Token). t ∷ (z ++ rest)) behind ∙ e)
