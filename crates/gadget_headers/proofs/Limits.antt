-- What the headers of each file keep.
use Rattle.std.proofs.Common.{◌≡◌, ◌≤◌, ℕ, Bool, true, not, ◌&&◌, ◌||◌, ◌==◌, nat_lt, IsTrue, is_some, List, [], ◌∷◌, length, Option, Some, None, Result, Ok, sym, ap, arith}
use Rattle.std.specs.Prelude.{All, IfOk, IfSome, Err}
use Rattle.std.specs.List.{list_all}
use Rattle.std.proofs.lemmas.Bool.{not-false, or_parts, ltb-false, eqb-false}
use Rattle.std.proofs.lemmas.List.Elements.{All-nil}
use Rattle.std.proofs.lemmas.List.Sums.{AllPass-from_list_all}
use Rattle.gadget_text.specs.declared.token.Header.{Header}
use Rattle.gadget_text.specs.declared.token.Header.TheVariants.{Profile, Shares, In, Randoms, Out}
use Rattle.gadget_text.specs.Tokens.{TokenLine}
use Rattle.gadget_text.specs.Names.{is_stem, is_number}
use Rattle.gadget_text.specs.declared.file_error.FileError.{FileError}
use Rattle.gadget_text.specs.declared.file_error.FileError.TheVariants.{HeaderTwice, BadNumber, BadName, TooMany}
use Rattle.gadget_text.specs.declared.file_error.What.{What}
use Rattle.gadget_text.specs.declared.file_error.What.TheVariants as what
use Rattle.gadget_text.specs.Errors.{refuse, ◌>>◌, Gives, Is}
use Rattle.gadget_limits.specs.Limits.{most_shares, most_inputs, most_outputs, most_randoms}
use Rattle.gadget_headers.specs.Headers.{Listed, SoFar, no_headers, Preamble, number_of, header_of, header_words, listed, with_header, end_headers, at_line, headers_from, preamble_of}
use Rattle.gadget_headers.specs.Limits.{stems_of, KeepsLimits}
use Rattle.gadget_text.proofs.Results.{refuse_gives, then_gives, at_ok}

-- a header lists at most so many words, and all are stems
record IsListed (most : ℕ) (l : Listed) : Type 0 where
  few : length l.stems ≤ most
  stems : All (λ w. IsTrue (is_stem w)) l.stems

-- a header lists at least one word, and at most so many
record IsListedSome (most : ℕ) (l : Listed) : Type 0 where
  some : 1 ≤ length l.stems
  listed : IsListed most l

-- a number of shares
record IsShareNumber (n : ℕ) : Type 0 where
  some : 1 ≤ n
  few : n ≤ most_shares

-- what the headers so far say is within the limits
record KeepsSoFar (h : SoFar) : Type 0 where
  shares : IfSome h.shares IsShareNumber
  inputs : IfSome h.inputs (IsListedSome most_inputs)
  randoms : IfSome h.randoms (IsListed most_randoms)
  outputs : IfSome h.outputs (IsListedSome most_outputs)

-- the stems that a header lists are its words
listed_words : (line : ℕ) (twice : Bool) (most : ℕ) (things : What) (words : List (List ℕ)) (l : Listed) → listed line twice most things words ≡ Ok l → IsListed most l × (l.stems ≡ words)
listed_words line twice most things words l e =
    let ok : Result Listed FileError = Ok (record { line = line; stems = words }) in
    let limited = refuse (nat_lt most (length words)) (TooMany things) >> ok in
    let a = refuse_gives twice (HeaderTwice line) (refuse (not (list_all is_stem words)) (BadName line) >> limited) l e in
    let b = refuse_gives (not (list_all is_stem words)) (BadName line) limited l a.1 in
    let c = refuse_gives (nat_lt most (length words)) (TooMany things) ok l b.1 in
    let same : words ≡ l.stems = let f = c.1 in cc in (
      at_ok (IsListed most) (record { line = line; stems = words }) l c.1 (record { few = ltb-false most (length words) c.0; stems = AllPass-from_list_all is_stem words (not-false (list_all is_stem words) b.0) }),
      sym same,
    )

-- stems that are a word and more words
some_listed : (most : ℕ) (l : Listed) (word : List ℕ) (words : List (List ℕ)) → IsListed most l × (l.stems ≡ word ∷ words) → IsListedSome most l
some_listed most l word words h = record { some = let e = ap length h.1 in omega arith; listed = h.0 }

shares_keep : (line : ℕ) (h now : SoFar) (words : List (List ℕ)) → KeepsSoFar h → with_header line h words Shares ≡ Ok now → KeepsSoFar now
shares_keep line h now [] k e = absurd cc
shares_keep line h now (word ∷ next ∷ words) k e = absurd cc
shares_keep line h now (word ∷ []) k e =
    let ok : Result SoFar FileError = Ok (record h { shares = Some (number_of word) }) in
    let limited = refuse (nat_lt most_shares (number_of word)) (TooMany what.Shares) >> ok in
    let a = refuse_gives (is_some h.shares) (HeaderTwice line) (refuse (not (is_number word) || number_of word == 0) (BadNumber line) >> limited) now e in
    let b = refuse_gives (not (is_number word) || number_of word == 0) (BadNumber line) limited now a.1 in
    let c = refuse_gives (nat_lt most_shares (number_of word)) (TooMany what.Shares) ok now b.1 in
    let low = eqb-false (number_of word) 0 (or_parts (not (is_number word)) (number_of word == 0) b.0).1 in
    let high = ltb-false most_shares (number_of word) c.0 in
    at_ok KeepsSoFar (record h { shares = Some (number_of word) }) now c.1 (record { shares = record { some = omega (arith, low); few = high }; inputs = k.inputs; randoms = k.randoms; outputs = k.outputs })

profile_keeps : (line : ℕ) (h now : SoFar) (words : List (List ℕ)) → KeepsSoFar h → with_header line h words Profile ≡ Ok now → KeepsSoFar now
profile_keeps line h now [] k e = absurd cc
profile_keeps line h now (word ∷ next ∷ words) k e = absurd cc
profile_keeps line h now (word ∷ []) k e =
    let ok : Result SoFar FileError = Ok (record h { has_profile = true }) in
    let a = refuse_gives h.has_profile (HeaderTwice line) (refuse (not (is_number word && number_of word == 1)) (BadNumber line) >> ok) now e in
    let b = refuse_gives (not (is_number word && number_of word == 1)) (BadNumber line) ok now a.1 in
    at_ok KeepsSoFar (record h { has_profile = true }) now b.1 (record { shares = k.shares; inputs = k.inputs; randoms = k.randoms; outputs = k.outputs })

-- one header more keeps the limits
header_keeps : (line : ℕ) (h now : SoFar) (words : List (List ℕ)) (header : Header) → KeepsSoFar h → with_header line h words header ≡ Ok now → KeepsSoFar now
header_keeps line h now words Profile k e = profile_keeps line h now words k e
header_keeps line h now words Shares k e = shares_keep line h now words k e
header_keeps line h now [] In k e = absurd cc
header_keeps line h now (word ∷ words) In k e =
    let l = then_gives (listed line (is_some h.inputs) most_inputs what.Inputs (word ∷ words)) (λ l. Ok (record h { inputs = Some l })) now e in
    let stems = some_listed most_inputs l.0 word words (listed_words line (is_some h.inputs) most_inputs what.Inputs (word ∷ words) l.0 l.1) in
    at_ok KeepsSoFar (record h { inputs = Some l.0 }) now l.2 (record { shares = k.shares; inputs = stems; randoms = k.randoms; outputs = k.outputs })
header_keeps line h now words Randoms k e =
    let l = then_gives (listed line (is_some h.randoms) most_randoms what.Randoms words) (λ l. Ok (record h { randoms = Some l })) now e in
    let stems = (listed_words line (is_some h.randoms) most_randoms what.Randoms words l.0 l.1).0 in
    at_ok KeepsSoFar (record h { randoms = Some l.0 }) now l.2 (record { shares = k.shares; inputs = k.inputs; randoms = stems; outputs = k.outputs })
header_keeps line h now [] Out k e = absurd cc
header_keeps line h now (word ∷ words) Out k e =
    let l = then_gives (listed line (is_some h.outputs) most_outputs what.Outputs (word ∷ words)) (λ l. Ok (record h { outputs = Some l })) now e in
    let stems = some_listed most_outputs l.0 word words (listed_words line (is_some h.outputs) most_outputs what.Outputs (word ∷ words) l.0 l.1) in
    at_ok KeepsSoFar (record h { outputs = Some l.0 }) now l.2 (record { shares = k.shares; inputs = k.inputs; randoms = k.randoms; outputs = stems })

randoms_few : (r : Option Listed) → IfSome r (IsListed most_randoms) → length (stems_of r) ≤ most_randoms
randoms_few None k = omega arith
randoms_few (Some l) k = k.few

randoms_stems : (r : Option Listed) → IfSome r (IsListed most_randoms) → All (λ w. IsTrue (is_stem w)) (stems_of r)
randoms_stems None k = All-nil (λ w. IsTrue (is_stem w))
randoms_stems (Some l) k = k.stems

-- where the headers end, their limits are those of the preamble
end_limits : (now : SoFar) (lines : List TokenLine) (h : Preamble) → KeepsSoFar now → end_headers now lines ≡ Ok h → KeepsLimits h
end_limits now lines h k e =
    by_cases now.shares now.inputs now.outputs k.shares k.inputs k.outputs e where
      by_cases : (n : Option ℕ) (inputs outputs : Option Listed) → IfSome n IsShareNumber → IfSome inputs (IsListedSome most_inputs) → IfSome outputs (IsListedSome most_outputs) →
          end_headers (record now { shares = n; inputs = inputs; outputs = outputs }) lines ≡ Ok h → KeepsLimits h
      by_cases None inputs outputs a b d f = absurd cc
      by_cases (Some n) None outputs a b d f = absurd cc
      by_cases (Some n) (Some inputs) None a b d f = absurd cc
      by_cases (Some n) (Some inputs) (Some outputs) a b d f =
          at_ok KeepsLimits (record { shares = n; inputs = inputs; randoms = now.randoms; outputs = outputs; lines = lines }) h f (record {
            some_shares = a.some;
            few_shares = a.few;
            some_inputs = b.some;
            few_inputs = b.listed.few;
            few_randoms = randoms_few now.randoms k.randoms;
            some_outputs = d.some;
            few_outputs = d.listed.few;
            input_stems = b.listed.stems;
            random_stems = randoms_stems now.randoms k.randoms;
            output_stems = d.listed.stems;
          })

-- one line, and what follows it
line_limits : (line : ℕ) (now : SoFar) (words : List (List ℕ)) (go : SoFar → Result Preamble FileError) (end : Result Preamble FileError) (o : Option Header) (h : Preamble) → KeepsSoFar now →
    ((next : SoFar) → KeepsSoFar next → go next ≡ Ok h → KeepsLimits h) → (end ≡ Ok h → KeepsLimits h) → at_line line now words go end o ≡ Ok h → KeepsLimits h
line_limits line now words go end None h k each last e = last e
line_limits line now words go end (Some header) h k each last e =
    let n = then_gives (with_header line now words header) go h e in
    each n.0 (header_keeps line now n.0 words header k n.1) n.2

from_limits : (lines : List TokenLine) (now : SoFar) (h : Preamble) → KeepsSoFar now → headers_from now lines ≡ Ok h → KeepsLimits h
from_limits [] now h k e = end_limits now [] h k e
from_limits (line ∷ lines) now h k e =
    line_limits line.number now (header_words line.lexemes) (λ next. headers_from next lines) (end_headers now (line ∷ lines)) (header_of line.lexemes) h k
    (λ next. from_limits lines next h) (end_limits now (line ∷ lines) h k) e

-- the headers of a file that are read keep the limits
pub preamble_limits : (lines : List TokenLine) (h : Preamble) → preamble_of lines ≡ Ok h → KeepsLimits h
preamble_limits lines h e = from_limits lines no_headers h (record { shares = tt; inputs = tt; randoms = tt; outputs = tt }) e

-- what gives the headers of a file keeps the limits
pub limits_given : {A : Type 0} (view : A → Preamble) (r : Result A FileError) (lines : List TokenLine) → Gives view r (Is (preamble_of lines)) → IfOk r (λ a. KeepsLimits (view a))
limits_given view (Ok a) lines g = preamble_limits lines (view a) g
limits_given view (Err error) lines g = tt
