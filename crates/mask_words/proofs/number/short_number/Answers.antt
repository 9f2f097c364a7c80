use Rattle.std.proofs.Common.{rules, arith, ◌≡◌, ◌∙◌, ◌≤◌, ◌<◌, ℕ, List, Some, Result, Ok, length, true, false, nat_lt, refl, ap, sym}
use Rattle.std.specs.Str.{all_ascii_digits}
use Rattle.std.specs.Str.Parse.{ParsesUnsigned, digits_value}
use Rattle.std.proofs.lemmas.Str.Parse.{IsNumeralModel, numerals_by_value, tells_all_ascii_digits, digits_value_short, parse_gives}
use Rattle.std.specs.Result.{result_ok}
use Rattle.mask_words.specs.Numbers.{short_number}
use Rattle.mask_words.proofs.number.short_number.Goals as goal

own : IsNumeralModel (λ ds. all_ascii_digits ds ≡ true) (digits_value 10)
own = numerals_by_value _ tells_all_ascii_digits

parsed : {E : Type 0} (bs : List ℕ) (r : Result ℕ E) → ParsesUnsigned 64 10 bs r → all_ascii_digits bs ≡ true → 0 < length bs → length bs ≤ 10 → r ≡ Ok (digits_value 10 bs)
parsed bs r h p some short = parse_gives own 64 bs r h p some (omega (arith, digits_value_short own bs 10 p short))

short : (bs : List ℕ) → all_ascii_digits bs ≡ true → 0 < length bs → length bs ≤ 10 → short_number bs ≡ Some (digits_value 10 bs)
short bs p some few =
    let a : nat_lt 0 (length bs) ≡ true = search (rules, arith) in
    let b : nat_lt 10 (length bs) ≡ false = search (rules, arith) in
    rw (a, b, p) refl

pub returns : goal.returns
returns c =
    let bs = c.args.text.now in
    let digits : all_ascii_digits bs ≡ true = search rules in
    let some : 0 < length bs = search (rules, arith) in
    let few : length bs ≤ 10 = omega arith in
    let is = parsed bs c.parse.result c.parse.ensures.value.0 digits some few in
    c.ok.ensures.value ∙ ap result_ok is ∙ sym (short bs digits some few)
