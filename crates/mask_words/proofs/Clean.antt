-- Words that are text and not alone, and what the reading makes of them.
use Rattle.std.proofs.Common.{◌≡◌, ◌&&◌, ◌||◌, ◌==◌, Bool, true, false, refl, sym, ap, List, [], ◌∷◌, Option, Some, None, map, drop, length, true≢false, if◌then◌else◌, string_bytes, String}
use Rattle.std.specs.Prelude.{option_and_then, is_some}
use Rattle.std.specs.List.{list_any, All}
use Rattle.std.proofs.lemmas.Str.{IsUtf8-string_bytes}
use Rattle.std.proofs.lemmas.List.Elements.{All-cons, All-nil}
use Rattle.mask_words.specs.Reading.{Text, CommandItem, CommandLine, is_lone, items_from, command_line, command_line_of, two_words, positionals, names_given, all_differ}
use Rattle.mask_words.specs.Taken.{is_complete, taken_items}
use Rattle.mask_words.proofs.Walk.{IsClean}

module _ {Z : Type 0} where
  one_mapped : (xs : List (String Z)) → list_any (λ s. is_lone (string_bytes s)) xs ≡ list_any is_lone (map string_bytes xs)
  one_mapped [] = refl
  one_mapped (x ∷ xs) = ap (λ b. is_lone (string_bytes x) || b) (one_mapped xs)

  pub mapped : (xs : List (String Z)) → list_any (λ s. is_lone (string_bytes s)) (drop 1 xs) ≡ list_any is_lone (drop 1 (map string_bytes xs))
  mapped [] = refl
  mapped (x ∷ xs) = one_mapped xs

  all_text : (xs : List (String Z)) → list_any is_lone (map string_bytes xs) ≡ false → All IsClean (map string_bytes xs)
  all_text [] h = All-nil IsClean
  all_text (x ∷ xs) h =
      let p = neither (is_lone (string_bytes x)) _ h in
      All-cons IsClean (string_bytes x) (map string_bytes xs) (IsUtf8-string_bytes x, p.0) (all_text xs p.1)
    where
      neither : (a b : Bool) → (a || b) ≡ false → (a ≡ false) × (b ≡ false)
      neither false b e = (refl, e)
      neither true b e = absurd (true≢false e)

  pub clean_words : (xs : List (String Z)) → list_any is_lone (drop 1 (map string_bytes xs)) ≡ false → All IsClean (drop 1 (map string_bytes xs))
  clean_words [] h = All-nil IsClean
  clean_words (x ∷ xs) h = all_text xs h

abbrev if_complete : Option (List CommandItem) → Option (List CommandItem)
if_complete o = option_and_then (λ items. if is_complete items then Some items else None) o

no_line : (items : List CommandItem) (ps : List Text) (d : Bool) → ((length ps == 2) && d) ≡ false → (if d then two_words ps items else None) ≡ None
no_line items ps false e = refl
no_line items [] true e = refl
no_line items (x ∷ []) true e = refl
no_line items (x ∷ y ∷ []) true e = absurd (true≢false e)
no_line items (x ∷ y ∷ z ∷ ps) true e = refl

refused_from : (o : Option (List CommandItem)) → is_some (if_complete o) ≡ false → option_and_then command_line_of o ≡ None
refused_from None e = refl
refused_from (Some items) e = no_line items (positionals items) (all_differ (names_given items)) (go (is_complete items) e)
  where
    go : (b : Bool) → is_some (if b then Some items else None) ≡ false → b ≡ false
    go true e = absurd (true≢false e)
    go false e = refl

-- no line where the items aren't complete
pub line_refused : (xs : List Text) → list_any is_lone xs ≡ false → is_some (taken_items xs) ≡ false → command_line xs ≡ None
line_refused xs h e = rw h (refused_from (items_from None xs) e)

abbrev IsTaken : Option (List CommandItem) → Option CommandLine → Type 0
IsTaken o l = (items : List CommandItem) × (if_complete o ≡ Some items) × (is_complete items ≡ true) × (l ≡ command_line_of items)

taken_from : (o : Option (List CommandItem)) → is_some (if_complete o) ≡ true → IsTaken o (option_and_then command_line_of o)
taken_from None e = absurd (true≢false (sym e))
taken_from (Some items) e = go (is_complete items) refl e
  where
    go : (b : Bool) → is_complete items ≡ b → is_some (if b then Some items else None) ≡ true → IsTaken (Some items) (command_line_of items)
    go true is e = (items, rw is refl, is, refl)
    go false is e = absurd (true≢false (sym e))

pub line_taken : (xs : List Text) → list_any is_lone xs ≡ false → is_some (taken_items xs) ≡ true → IsTaken (items_from None xs) (command_line xs)
line_taken xs h e = rw h (taken_from (items_from None xs) e)
