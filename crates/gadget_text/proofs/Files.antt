-- The loop over the lines of a file.
use Rattle.std.proofs.Common.{◌≡◌, ◌<◌, ◌≤◌, ◌+◌, ℕ, [], ◌∷◌, ◌++◌, Bool, true, false, not, List, map, cond, length, take, drop, Option, Some, None, ⊎_elim, refl, sym, ap, ◌∙◌, subst, arith, append_assoc, append-nil}
use Rattle.std.specs.List.{position_or_len, onto_first}
use Rattle.std.proofs.lemmas.Bool.{cases_lt}
use Rattle.std.proofs.lemmas.List.{take_all}
use Rattle.std.proofs.lemmas.List.Splits.{slice_split_first}
use Rattle.std.proofs.lemmas.List.Folds.{length-prefix_len}
use Rattle.gadget_text.specs.declared.token.Token.{Token}
use Rattle.gadget_text.specs.declared.token.TextError.{TextError}
use Rattle.gadget_text.specs.declared.token.TextError.TheVariants.{NotText, OutOfMemory}
use Rattle.gadget_text.specs.Bytes.{is_feed}
use Rattle.gadget_text.specs.Lines.{pieces_of, without_return, is_text, first_not_text}
use Rattle.gadget_text.specs.Segments.{line_segments}
use Rattle.gadget_text.specs.Places.{placed, placed_lines, NamesLine}

-- the length of the first line
abbrev first_len : List ℕ → ℕ
first_len xs = position_or_len is_feed xs

last_by_cases : (feed : Bool) (b : ℕ) (xs : List ℕ) → length xs + 1 ≤ cond (not feed) (1 + first_len xs) 0 → (length xs ≤ first_len xs → pieces_of xs ≡ xs ∷ []) →
    cond feed ([] ∷ pieces_of xs) (onto_first b (pieces_of xs)) ≡ (b ∷ xs) ∷ []
last_by_cases true b xs l ih = absurd (omega (arith, l))
last_by_cases false b xs l ih = ap (onto_first b) (ih (omega (arith, l)))

-- bytes without a line feed are one line
last_line : (xs : List ℕ) → length xs ≤ first_len xs → pieces_of xs ≡ xs ∷ []
last_line [] l = refl
last_line (b ∷ xs) l = last_by_cases (is_feed b) b xs (omega (arith, l)) (last_line xs)

-- the first line, and those after its line feed
first_line : (xs : List ℕ) (n : ℕ) → n ≡ first_len xs → n < length xs → pieces_of xs ≡ take n xs ∷ pieces_of (drop (n + 1) xs)
first_line xs n e l =
    let k : first_len xs < length xs = omega (arith, e, l) in
    slice_split_first is_feed xs 0 k ∙ ap (λ (z : ℕ). take z xs ∷ pieces_of (drop (z + 1) xs)) (sym e)

-- the last line
only_line : (xs : List ℕ) (n : ℕ) → n ≡ first_len xs → n ≡ length xs → pieces_of xs ≡ take n xs ∷ []
only_line xs n e f = last_line xs (omega (arith, e, f)) ∙ ap (λ (z : List ℕ). z ∷ []) (sym (take_all n xs (omega (arith, f))))

-- the tokens of a line are added, and those of the lines after it are left
pub tokens_on : (number at n : ℕ) (rest line : List ℕ) (old new all : List Token) → n ≡ first_len rest → n < length rest → line ≡ without_return (take n rest) →
    new ≡ old ++ placed number at (line_segments line) → old ++ placed_lines number at (pieces_of rest) ≡ all →
    new ++ placed_lines (number + 1) (at + (n + 1)) (pieces_of (drop (n + 1) rest)) ≡ all
tokens_on number at n rest line old new all e l f g h =
    let k : n ≡ length (take n rest) = subst (λ (z : ℕ). z ≡ length (take z rest)) (sym e) (sym (length-prefix_len (λ b. not (is_feed b)) rest)) in
    let m : at + (n + 1) ≡ at + length (take n rest) + 1 = omega (arith, k) in
    ap (λ (z : ℕ). new ++ placed_lines (number + 1) z (pieces_of (drop (n + 1) rest))) m
    ∙ ap (λ (z : List Token). z ++ placed_lines (number + 1) (at + length (take n rest) + 1) (pieces_of (drop (n + 1) rest))) (g ∙ ap (λ (z : List ℕ). old ++ placed number at (line_segments z)) f)
    ∙ append_assoc old _ _
    ∙ sym (ap (λ (z : List (List ℕ)). old ++ placed_lines number at z) (first_line rest n e l))
    ∙ h

-- the tokens of the last line are added
pub tokens_end : (number at n : ℕ) (rest line : List ℕ) (old new all : List Token) → n ≡ first_len rest → n ≡ length rest → line ≡ without_return (take n rest) →
    new ≡ old ++ placed number at (line_segments line) → old ++ placed_lines number at (pieces_of rest) ≡ all → new ≡ all
tokens_end number at n rest line old new all e l f g h =
    g ∙ ap (λ (z : List ℕ). old ++ placed number at (line_segments z)) f
    ∙ ap (λ (z : List Token). old ++ z) (sym (append-nil (placed number at (line_segments (without_return (take n rest))))))
    ∙ sym (ap (λ (z : List (List ℕ)). old ++ placed_lines number at z) (only_line rest n e l))
    ∙ h

-- what is said of the first line that is no text, where the first line is text
past_text : (number : ℕ) (line : List ℕ) (lines : List (List ℕ)) → is_text line ≡ true → first_not_text number (line ∷ lines) ≡ first_not_text (number + 1) lines
past_text number line lines e = ap (λ (z : Bool). cond z (first_not_text (number + 1) lines) (Some number)) e

pub text_on : (number n : ℕ) (rest line : List ℕ) (all : Option ℕ) → n ≡ first_len rest → n < length rest → line ≡ without_return (take n rest) →
    is_text line ≡ true → first_not_text number (map without_return (pieces_of rest)) ≡ all → first_not_text (number + 1) (map without_return (pieces_of (drop (n + 1) rest))) ≡ all
text_on number n rest line all e l f g h =
    sym (past_text number line (map without_return (pieces_of (drop (n + 1) rest))) g)
    ∙ ap (λ (z : List ℕ). first_not_text number (z ∷ map without_return (pieces_of (drop (n + 1) rest)))) f
    ∙ sym (ap (λ (z : List (List ℕ)). first_not_text number (map without_return z)) (first_line rest n e l))
    ∙ h

pub text_end : (number n : ℕ) (rest line : List ℕ) (all : Option ℕ) → n ≡ first_len rest → n ≡ length rest → line ≡ without_return (take n rest) →
    is_text line ≡ true → first_not_text number (map without_return (pieces_of rest)) ≡ all → all ≡ None
text_end number n rest line all e l f g h =
    sym h
    ∙ ap (λ (z : List (List ℕ)). first_not_text number (map without_return z)) (only_line rest n e l)
    ∙ sym (ap (λ (z : List ℕ). first_not_text number (z ∷ [])) f)
    ∙ past_text number line [] g

named_by_cases : (text : Bool) (number : ℕ) (o : Option ℕ) (e : TextError) → NamesLine (cond text None (Some number)) e → NamesLine (cond text o (Some number)) e
named_by_cases true number o (NotText k) h = absurd cc
named_by_cases false number o (NotText k) h = h
named_by_cases text number o OutOfMemory h = tt

named_first : (number : ℕ) (line : List ℕ) (lines : List (List ℕ)) (e : TextError) → NamesLine (first_not_text number (line ∷ [])) e → NamesLine (first_not_text number (line ∷ lines)) e
named_first number line lines e h = named_by_cases (is_text line) number (first_not_text (number + 1) lines) e h

named_where : (number : ℕ) (line piece : List ℕ) (pieces : List (List ℕ)) (rest : List ℕ) (e : TextError) (all : Option ℕ) → line ≡ without_return piece → pieces_of rest ≡ piece ∷ pieces →
    NamesLine (first_not_text number (line ∷ [])) e → first_not_text number (map without_return (pieces_of rest)) ≡ all → NamesLine all e
named_where number line piece pieces rest e all f g h k =
    subst (λ (z : Option ℕ). NamesLine z e) (ap (λ (z : List ℕ). first_not_text number (z ∷ map without_return pieces)) f ∙ sym (ap (λ (z : List (List ℕ)). first_not_text number (map without_return z)) g) ∙ k)
    (named_first number line (map without_return pieces) e h)

-- an error at a line is one of the file, where all lines before it are text
pub named_on : (number n : ℕ) (rest line : List ℕ) (e : TextError) (all : Option ℕ) → n ≡ first_len rest → n ≤ length rest → line ≡ without_return (take n rest) →
    NamesLine (first_not_text number (line ∷ [])) e → first_not_text number (map without_return (pieces_of rest)) ≡ all → NamesLine all e
named_on number n rest line e all f l g h k =
    ⊎_elim (λ (m : n < length rest). named_where number line (take n rest) _ rest e all g (first_line rest n f m) h k)
    (λ (m : length rest ≤ n). named_where number line (take n rest) _ rest e all g (only_line rest n f (omega (arith, l, m))) h k) (cases_lt n (length rest))
