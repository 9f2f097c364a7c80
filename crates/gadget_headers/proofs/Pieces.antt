-- Tokens that stand among tokens.
use Rattle.std.proofs.Common.{◌≡◌, ◌<◌, ℕ, [], ◌∷◌, ◌++◌, List, length, length-append, sym, ap, subst, ◌∙◌, arith, append_assoc}
use Rattle.std.specs.Prelude.{All, Option, Some, None, IfSome}
use Rattle.std.proofs.Math.Seq.{take-append_seam, drop-append_seam}
use Rattle.std.proofs.lemmas.List.Elements.{All-take, All-drop}
use Rattle.gadget_text.specs.declared.token.Token.{Token}
use Rattle.gadget_text.specs.Places.{LiesWithin}
use Rattle.gadget_headers.specs.declared.stems.Stems.{Stems}
use Rattle.gadget_headers.specs.declared.headers.Headers.{Headers}
use Rattle.gadget_headers.specs.Seen.{EndsWith, IsPiece, ArePiece, AreHeadersOf, AreWordsWithin, AreHeadersWithin}

module _ (all : List Token) where
  -- the words of a line with which all tokens end are a piece of them
  pub words_piece : (head : Token) (words rest now : List Token) → head ∷ (words ++ rest) ≡ now → EndsWith all now → IsPiece all words
  words_piece head words rest now e h =
      (h.0 ++ head ∷ [], rest, append_assoc (h.0 ++ head ∷ []) words rest ∙ append_assoc h.0 (head ∷ []) (words ++ rest) ∙ ap (λ (z : List Token). h.0 ++ z) e ∙ h.1)

  -- and with what comes after it they end
  pub rest_ends : (head : Token) (words rest now : List Token) → head ∷ (words ++ rest) ≡ now → EndsWith all now → EndsWith all rest
  rest_ends head words rest now e h = (h.0 ++ (head ∷ words), append_assoc h.0 (head ∷ words) rest ∙ ap (λ (z : List Token). h.0 ++ z) e ∙ h.1)

  -- what holds of all tokens holds of a piece of them
  pub piece_all : (P : Token → Type 0) (own : List Token) → IsPiece all own → All P all → All P own
  piece_all P own h k =
      let first : All P (h.0 ++ own) = subst (All P) (take-append_seam (h.0 ++ own) h.1) (All-take P (length (h.0 ++ own)) (h.0 ++ own ++ h.1) (subst (All P) (sym h.2) k)) in
      subst (All P) (drop-append_seam h.0 own) (All-drop P (length h.0) (h.0 ++ own) first)

  -- and of those with which they end
  end_all : (P : Token → Type 0) (own : List Token) → EndsWith all own → All P all → All P own
  end_all P own h k = subst (All P) (drop-append_seam h.0 own) (All-drop P (length h.0) (h.0 ++ own) (subst (All P) (sym h.1) k))

  some_within : (len : ℕ) (o : Option Stems) → All (LiesWithin len) all → IfSome o (ArePiece all) → IfSome o (AreWordsWithin len)
  some_within len None k h = tt
  some_within len (Some stems) k h = piece_all (LiesWithin len) stems.words.now h k

  -- headers of tokens lie where the tokens do
  pub headers_within : (len : ℕ) (h : Headers) → All (LiesWithin len) all → AreHeadersOf all h → AreHeadersWithin len h
  headers_within len h k of' = record {
    inputs = piece_all (LiesWithin len) h.inputs.words.now of'.inputs k;
    randoms = some_within len h.randoms k of'.randoms;
    outputs = piece_all (LiesWithin len) h.outputs.words.now of'.outputs k;
    rest = end_all (LiesWithin len) h.rest.now of'.rest k;
  }

-- what comes after a line is shorter than with the line
pub rest_shorter : (head : Token) (words rest now : List Token) → head ∷ (words ++ rest) ≡ now → length rest < length now
rest_shorter head words rest now e = let l = ap length (sym e) in omega (arith, l, length-append words rest)
