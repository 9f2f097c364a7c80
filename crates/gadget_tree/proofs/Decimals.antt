-- Numbers in decimal, and the names of shares.
use Rattle.std.proofs.Common.{◌≡◌, ◌<◌, ◌+◌, ◌-◌, ◌*◌, ◌^◌, ℕ, true, IsTrue, List, [], ◌∷◌, ◌++◌, length, ◌∙◌, arith, rules}
use Rattle.std.specs.Prelude.{decimal}
use Rattle.std.specs.List.{list_all, fold}
use Rattle.std.specs.Char.{is_ascii_digit}
use Rattle.std.proofs.lemmas.Bool.{and_parts, and_from}
use Rattle.std.proofs.lemmas.Fmt.{decimal_nonempty, digits_decimal, digits_value-decimal}
use Rattle.std.proofs.lemmas.List.Folds.{list_all-append}
use Rattle.std.proofs.lemmas.Str.Parse.{IsNumeralModel, numerals_by_fold}
use Rattle.gadget_text.specs.Bytes.{is_name_byte}
use Rattle.gadget_text.specs.Names.{starts_stem, continues_stem, is_stem, is_number}
use Rattle.gadget_text.proofs.WordBytes.{IsSolid, IsWord, each_passes, all_pass, name_byte_solid, digit_letter, digit_continues}
use Rattle.gadget_headers.specs.Headers.{number_of}
use Rattle.gadget_tree.specs.Variables.{share_name}

-- the tests for digits and their number read what is printed
own : IsNumeralModel (λ ds. list_all is_ascii_digit ds ≡ true) number_of
own = numerals_by_fold _ (search rules) (λ n ds. fold (λ m digit. 10 * m + (digit - 48)) n ds) (search rules)

decimal_digits : (n : ℕ) → n < 2 ^ 64 → list_all is_ascii_digit (decimal n) ≡ true
decimal_digits n h = digits_decimal own n h

-- the digits of a number are those of this number
pub number_of-decimal : (n : ℕ) → n < 2 ^ 64 → number_of (decimal n) ≡ n
number_of-decimal n h = digits_value-decimal own n h

some_digits : (w : List ℕ) → 0 < length w → list_all is_ascii_digit w ≡ true → is_number w ≡ true
some_digits [] l e = absurd (omega arith)
some_digits (b ∷ bs) l e = e

-- the digits of a number are a number
pub is_number-decimal : (n : ℕ) → n < 2 ^ 64 → is_number (decimal n) ≡ true
is_number-decimal n h = some_digits (decimal n) (decimal_nonempty n h) (decimal_digits n h)

-- the digits of a number are a word
pub IsWord-decimal : (n : ℕ) → n < 2 ^ 64 → IsWord (decimal n)
IsWord-decimal n h = record {
  some = decimal_nonempty n h;
  solid = each_passes is_name_byte IsSolid name_byte_solid (decimal n) (all_pass is_ascii_digit is_name_byte digit_letter (decimal n) (decimal_digits n h));
}

stem_with : (stem digits : List ℕ) → is_stem stem ≡ true → list_all is_ascii_digit digits ≡ true → is_stem (stem ++ digits) ≡ true
stem_with [] digits e f = absurd cc
stem_with (b ∷ bs) digits e f =
    let h = and_parts (starts_stem b) (list_all continues_stem bs) e in
    and_from (starts_stem b) (list_all continues_stem (bs ++ digits)) h.0
    (list_all-append continues_stem bs digits ∙ and_from (list_all continues_stem bs) (list_all continues_stem digits) h.1 (all_pass is_ascii_digit continues_stem digit_continues digits f))

-- the name of a share is a stem
pub is_stem-share_name : (stem : List ℕ) (k : ℕ) → k < 2 ^ 64 → IsTrue (is_stem stem) → IsTrue (is_stem (share_name stem k))
is_stem-share_name stem k h s = stem_with stem (decimal k) s (decimal_digits k h)
