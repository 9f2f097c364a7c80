-- How deep parentheses are nested, prefix by prefix.
use Rattle.std.proofs.Common.{◌≡◌, ◌<◌, ◌≤◌, ◌+◌, ℕ, zero, suc, Bool, true, false, ◌||◌, nat_lt, List, [], ◌∷◌, take, refl, arith, tests}
use Rattle.gadget_grammar.specs.Symbols.{Symbol, word, equals, plus, times, opening, closing, other}
use Rattle.gadget_grammar.specs.Nesting.{most_open_parentheses, count_opened, count_closed, is_too_deep}

-- more parentheses are open than may be after so many symbols, where so many were opened and closed before
abbrev pub IsDeepAt : ℕ → ℕ → List Symbol → ℕ → Type 0
IsDeepAt o c xs k = most_open_parentheses + (c + count_closed (take k xs)) < o + count_opened (take k xs)

-- one more parenthesis is opened, which is one too many, or a place is found after it
deep_first : (b : Bool) (o c : ℕ) (xs : List Symbol) → nat_lt (most_open_parentheses + c) (o + 1) ≡ b → b || is_too_deep (o + 1) c xs ≡ true →
    (is_too_deep (o + 1) c xs ≡ true → (k : ℕ) × IsDeepAt (o + 1) c xs k) → (k : ℕ) × IsDeepAt o c (opening ∷ xs) k
deep_first true o c xs e f ih = (suc zero, let l : most_open_parentheses + c < o + 1 = search (arith, tests, e) in omega (arith, l))
deep_first false o c xs e f ih = let h = ih f in (suc h.0, omega (arith, h.1))

-- where the walk finds a place, the prefix up to it is too deep
pub deep_at : (o c : ℕ) (xs : List Symbol) → is_too_deep o c xs ≡ true → (k : ℕ) × IsDeepAt o c xs k
deep_at o c [] e = absurd cc
deep_at o c (opening ∷ xs) e = deep_first (nat_lt (most_open_parentheses + c) (o + 1)) o c xs refl e (deep_at (o + 1) c xs)
deep_at o c (closing ∷ xs) e = let h = deep_at o (c + 1) xs e in (suc h.0, omega (arith, h.1))
deep_at o c (word w ∷ xs) e = let h = deep_at o c xs e in (suc h.0, h.1)
deep_at o c (equals ∷ xs) e = let h = deep_at o c xs e in (suc h.0, h.1)
deep_at o c (plus ∷ xs) e = let h = deep_at o c xs e in (suc h.0, h.1)
deep_at o c (times ∷ xs) e = let h = deep_at o c xs e in (suc h.0, h.1)
deep_at o c (other ∷ xs) e = let h = deep_at o c xs e in (suc h.0, h.1)

-- the same the other way round
found_first : (b : Bool) (o c : ℕ) (xs : List Symbol) (k : ℕ) → nat_lt (most_open_parentheses + c) (o + 1) ≡ b → IsDeepAt o c (opening ∷ xs) (suc k) →
    (o + 1 ≤ most_open_parentheses + c → IsDeepAt (o + 1) c xs k → is_too_deep (o + 1) c xs ≡ true) → b || is_too_deep (o + 1) c xs ≡ true
found_first true o c xs k e h ih = refl
found_first false o c xs k e h ih = ih (let l : o + 1 ≤ most_open_parentheses + c = search (arith, tests, e) in l) (omega (arith, h))

-- where a prefix is too deep, the walk finds a place
pub walk_deep : (o c k : ℕ) (xs : List Symbol) → o ≤ most_open_parentheses + c → IsDeepAt o c xs k → is_too_deep o c xs ≡ true
walk_deep o c zero xs l h = absurd (omega (arith, l, h))
walk_deep o c (suc k) [] l h = absurd (omega (arith, l, h))
walk_deep o c (suc k) (opening ∷ xs) l h = found_first (nat_lt (most_open_parentheses + c) (o + 1)) o c xs k refl h (walk_deep (o + 1) c k xs)
walk_deep o c (suc k) (closing ∷ xs) l h = walk_deep o (c + 1) k xs (omega (arith, l)) (omega (arith, h))
walk_deep o c (suc k) (word w ∷ xs) l h = walk_deep o c k xs l h
walk_deep o c (suc k) (equals ∷ xs) l h = walk_deep o c k xs l h
walk_deep o c (suc k) (plus ∷ xs) l h = walk_deep o c k xs l h
walk_deep o c (suc k) (times ∷ xs) l h = walk_deep o c k xs l h
walk_deep o c (suc k) (other ∷ xs) l h = walk_deep o c k xs l h
