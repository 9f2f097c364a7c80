-- How deep parentheses are nested.
use Rattle.std.specs.Prelude.{ℕ, suc, ◌+◌, ◌<◌, Bool, false, ◌||◌, nat_lt, List, [], ◌∷◌, take}
use Rattle.gadget_text.specs.Tokens.{Lexeme}
use Rattle.gadget_grammar.specs.Symbols.{Symbol, opening, closing, symbols_of}

-- In each prefix of a line at most this many more parentheses are opened than closed.
abbrev pub most_open_parentheses : ℕ
most_open_parentheses = 64

-- how many parentheses are opened
abbrev pub count_opened : List Symbol → ℕ
count_opened [] = 0
count_opened (opening ∷ symbols) = suc (count_opened symbols)
count_opened (symbol ∷ symbols) = count_opened symbols

-- how many parentheses are closed
abbrev pub count_closed : List Symbol → ℕ
count_closed [] = 0
count_closed (closing ∷ symbols) = suc (count_closed symbols)
count_closed (symbol ∷ symbols) = count_closed symbols

-- in some prefix more parentheses are open than may be
abbrev pub IsTooDeep : List Lexeme → Type 0
IsTooDeep lexemes =
    (k : ℕ)
    × (most_open_parentheses + count_closed (take k (symbols_of lexemes)) < count_opened (take k (symbols_of lexemes)))

-- the same, where so many were opened and closed before
abbrev pub is_too_deep : ℕ → ℕ → List Symbol → Bool
is_too_deep opened closed [] = false
is_too_deep opened closed (opening ∷ symbols) =
    nat_lt (most_open_parentheses + closed) (opened + 1) || is_too_deep (opened + 1) closed symbols
is_too_deep opened closed (closing ∷ symbols) = is_too_deep opened (closed + 1) symbols
is_too_deep opened closed (symbol ∷ symbols) = is_too_deep opened closed symbols
