-- The tokens of a file lie within its bytes.
use Rattle.std.proofs.Common.{◌≡◌, ◌≤◌, ℕ, List, [], ◌∷◌, length, sym, subst, arith}
use Rattle.std.specs.Prelude.{All}
use Rattle.std.proofs.lemmas.List.Elements.{All-nil, All-cons}
use Rattle.gadget_text.specs.declared.token.Token.{Token}
use Rattle.gadget_text.specs.Places.{tokens_of, Rises, LiesWithin}
use Rattle.gadget_text.proofs.Spans.{file_rises}

-- spans that rise end at or below the last place
rises_to : (from to : ℕ) (ts : List Token) → Rises from to ts → from ≤ to
rises_to from to [] h = h
rises_to from to (t ∷ ts) h = let k = rises_to t.to to ts h.2 in omega (arith, h.0, h.1, k)

-- spans that rise lie below the last place
rising_within : (from to : ℕ) (ts : List Token) → Rises from to ts → All (LiesWithin to) ts
rising_within from to [] h = All-nil (LiesWithin to)
rising_within from to (t ∷ ts) h =
    let k = rises_to t.to to ts h.2 in
    All-cons (LiesWithin to) t ts (record { rises = omega (arith, h.1); ends = k }) (rising_within t.to to ts h.2)

-- the tokens of a file
pub file_within : (bytes : List ℕ) → All (LiesWithin (length bytes)) (tokens_of bytes)
file_within bytes = rising_within 0 (length bytes) (tokens_of bytes) (file_rises bytes)

-- so do tokens that are those of the file
pub tokens_within : (bytes : List ℕ) (ts : List Token) → ts ≡ tokens_of bytes → All (LiesWithin (length bytes)) ts
tokens_within bytes ts e = subst (All (LiesWithin (length bytes))) (sym e) (file_within bytes)
