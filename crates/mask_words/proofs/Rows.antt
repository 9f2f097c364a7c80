-- What the rows of clap hold after the items.
use Rattle.std.proofs.Common.{◌≡◌, ◌∙◌, ◌&&◌, ◌||◌, Bool, true, false, not, refl, sym, ap, ap₂, List, [], ◌∷◌, ◌++◌, map, Option, Some, None, codes, if◌then◌else◌, true≢false}
use Rattle.std.specs.Prelude.{option_map, option_and_then, find, slice_get, ⊤}
use Rattle.std.specs.List.{list_any, list_all}
use Rattle.std.specs.Str.{bytes_eq}
use Rattle.clap.specs.Words.{Row}
use Rattle.clap.specs.Walk.{option, has_row, used, at_row, with_values, without, reading_by}
use Rattle.mask_words.specs.Reading.{after, other_item, positionals, names_given, given_text, has_flag, all_differ, CommandItem, Text, begins_with_hyphen, is_option, items_from}
use Rattle.std.specs.Option.{is_some, option_map_or}
use Rattle.std.proofs.lemmas.List.{append-nil, append_assoc}
use Rattle.std.proofs.lemmas.List.Folds.{list_any-append}
use Rattle.clap.specs.declared.parser.matches.ValueSource.TheVariants.{CommandLine}
use Rattle.clap.specs.declared.builder.value_parser.Reading.{Reading}
use Rattle.clap.specs.Lexer.{long_of}
use Rattle.mask_words.proofs.Walk.{task, argument, past, option_built, flag_built, Place, or_false, known, named, put, pick, split}
use Rattle.clap.specs.Walk as walks

-- ---- what the rows hold

abbrev pub row_at : Text → List Row → Option Row
row_at q rows = find (λ r. bytes_eq r.id q) rows

abbrev pub new_row : Text → Reading → List Text → Row
new_row id how values = record { id = id; values = values; count = None; source = Some CommandLine; reading = how }

abbrev pub one_row : Text → Text → Row
one_row id x = new_row id Rattle.clap.specs.declared.builder.value_parser.Reading.TheVariants.AsWritten (x ∷ [])

pub or_left : (a b : Bool) → (a || b) ≡ false → (a ≡ false) × (b ≡ false)
or_left false false e = (refl, refl)
or_left false true e = (refl, e)
or_left true b e = absurd (true≢false e)

pub at_absent : (id : Text) (change : Row → List Row) (missing rows : List Row) → has_row id rows ≡ false → at_row id change missing rows ≡ rows ++ missing
at_absent id change missing [] h = refl
at_absent id change missing (r ∷ rs) h =
    let p = or_left (bytes_eq r.id id) (has_row id rs) h in
    rw p.0 (ap (λ l. r ∷ l) (at_absent id change missing rs p.1))

pub used_new : (id : Text) (how : Reading) (vs : List Text) (rows : List Row) → has_row id rows ≡ false
    → with_values id how CommandLine vs (without id rows) ≡ rows ++ new_row id how vs ∷ []
used_new id how vs rows h =
    let same : without id rows ≡ rows = at_absent id (λ _. []) [] rows h ∙ append-nil rows in
    ap (with_values id how CommandLine vs) same ∙ at_absent id (walks.more_values CommandLine vs) (new_row id how vs ∷ []) rows h

pub has_is_some : (q : Text) (rows : List Row) → has_row q rows ≡ is_some (row_at q rows)
has_is_some q [] = refl
has_is_some q (r ∷ rs) = split (bytes_eq r.id q) (λ b. rw b refl) (λ b. rw b (has_is_some q rs))

-- the rows that the items make, in their order
unfoldable pub made : List CommandItem → Place → List Row
made [] k = []
made (CommandItem.positional x ∷ items) task = one_row (codes "TASK") x ∷ made items argument
made (CommandItem.positional x ∷ items) argument = one_row (codes "ARG") x ∷ made items past
made (CommandItem.positional x ∷ items) past = made items past
made (CommandItem.option n v ∷ items) k = one_row n v ∷ made items k
made (CommandItem.flag ∷ items) k = one_row (codes "tallies") (codes "true") ∷ made items k

-- ---- known names

abbrev pub known_item : CommandItem → Bool
known_item (CommandItem.option n v) = is_option n
known_item _ = true

abbrev pub known_items : List CommandItem → Bool
known_items items = list_all known_item items

abbrev pub known_read : Option (List CommandItem) → Bool
known_read o = option_map_or known_items o true

pub known_after : (item : CommandItem) (o : Option (List CommandItem)) → known_item item ≡ true → known_read o ≡ true → known_read (after item o) ≡ true
known_after item None h k = refl
known_after item (Some items) h k = rw (h, k) refl

pub known_all : (xs : List Text) → known_items (map CommandItem.positional xs) ≡ true
known_all [] = refl
known_all (x ∷ xs) = known_all xs

abbrev pub KnownRest : List Text → Type 0
KnownRest xs = (known_read (items_from None xs) ≡ true) × ((name : Text) → is_option name ≡ true → known_read (items_from (Some name) xs) ≡ true)

pub known_other : (o : Option (Text × Option Text)) (x : Text) (xs : List Text) → KnownRest xs → known_read (other_item o x (λ waiting. items_from waiting xs)) ≡ true
known_other (Some (n, Some v)) x xs k = split (is_option n) (λ o. rw o (known_after (CommandItem.option n v) (items_from None xs) o k.0)) (λ o. rw o refl)
known_other (Some (n, None)) x xs k = split (is_option n) (λ o. rw o (k.1 n o))
    (λ o. split (bytes_eq (codes "tallies") n) (λ f. rw (o, f) (known_after CommandItem.flag (items_from None xs) refl k.0)) (λ f. rw (o, f) refl))
known_other None x xs k = split (begins_with_hyphen x) (λ b. rw b refl) (λ b. rw b (known_after (CommandItem.positional x) (items_from None xs) refl k.0))

pub known_words : (xs : List Text) → KnownRest xs
unfolding items_from
known_words [] = (refl, λ name o. refl)
known_words (x ∷ xs) =
    let k = known_words xs in (
      split (bytes_eq x (codes "--")) (λ p. rw p (known_all xs)) (λ p. rw p (known_other (long_of x) x xs k)),
      λ name o. split (begins_with_hyphen x) (λ b. rw b refl) (λ b. rw b (known_after (CommandItem.option name x) (items_from None xs) o k.0)),
    )

-- an option's name is none of the others
abbrev pub IsApart : Text → Type 0
IsApart n = (bytes_eq n (codes "TASK") ≡ false) × (bytes_eq n (codes "ARG") ≡ false) × (bytes_eq n (codes "tallies") ≡ false)
    × (bytes_eq (codes "TASK") n ≡ false) × (bytes_eq (codes "ARG") n ≡ false) × (bytes_eq (codes "tallies") n ≡ false)

pub apart : (n : Text) → is_option n ≡ true → IsApart n
apart n o =
    pick IsApart (codes "size") n _ o (refl, refl, refl, refl, refl, refl) (λ o. pick IsApart (codes "workers") n _ o (refl, refl, refl, refl, refl, refl) (λ o. pick IsApart (codes "block") n _ o (refl, refl, refl, refl, refl, refl)
    (λ o. pick IsApart (codes "budget") n _ o (refl, refl, refl, refl, refl, refl) (λ o. pick IsApart (codes "words") n _ o (refl, refl, refl, refl, refl, refl) (λ o. pick IsApart (codes "wires") n _ o (refl, refl, refl, refl, refl, refl)
    (λ o. absurd (true≢false (sym o))))))))

-- ---- which row holds what

pub both_true : (a b : Bool) → (a && b) ≡ true → (a ≡ true) × (b ≡ true)
both_true true b e = (refl, e)
both_true false b e = absurd (true≢false (sym e))

-- once they are past, a name gets no more rows
pub gone : (items : List CommandItem) → known_items items ≡ true → (row_at (codes "TASK") (made items argument) ≡ None) × (row_at (codes "TASK") (made items past) ≡ None) × (row_at (codes "ARG") (made items past) ≡ None)
unfolding made
gone [] k = (refl, refl, refl)
gone (CommandItem.positional x ∷ items) k = let g = gone items k in (g.1, g.1, g.2)
gone (CommandItem.option n v ∷ items) k =
    let b = both_true (is_option n) (known_items items) k in
    let g = gone items b.1 in
    let a = apart n b.0 in
    (rw a.0 g.0, rw a.0 g.1, rw a.1 g.2)
gone (CommandItem.flag ∷ items) k = gone items k

pub row_task : (items : List CommandItem) → known_items items ≡ true → row_at (codes "TASK") (made items task) ≡ option_map (one_row (codes "TASK")) (slice_get (positionals items) 0)
unfolding made
row_task [] k = refl
row_task (CommandItem.positional x ∷ items) k = refl
row_task (CommandItem.option n v ∷ items) k = let b = both_true (is_option n) (known_items items) k in rw (apart n b.0).0 (row_task items b.1)
row_task (CommandItem.flag ∷ items) k = row_task items k

pub row_argument : (items : List CommandItem) → known_items items ≡ true → row_at (codes "ARG") (made items argument) ≡ option_map (one_row (codes "ARG")) (slice_get (positionals items) 0)
unfolding made
row_argument [] k = refl
row_argument (CommandItem.positional x ∷ items) k = refl
row_argument (CommandItem.option n v ∷ items) k = let b = both_true (is_option n) (known_items items) k in rw (apart n b.0).1 (row_argument items b.1)
row_argument (CommandItem.flag ∷ items) k = row_argument items k

pub row_second : (items : List CommandItem) → known_items items ≡ true → row_at (codes "ARG") (made items task) ≡ option_map (one_row (codes "ARG")) (slice_get (positionals items) 1)
unfolding made
row_second [] k = refl
row_second (CommandItem.positional x ∷ items) k = row_argument items k
row_second (CommandItem.option n v ∷ items) k = let b = both_true (is_option n) (known_items items) k in rw (apart n b.0).1 (row_second items b.1)
row_second (CommandItem.flag ∷ items) k = row_second items k

pub row_option : (q : Text) → is_option q ≡ true → (items : List CommandItem) (k : Place) → row_at q (made items k) ≡ option_map (one_row q) (given_text q items)
unfolding made
row_option q o [] k = refl
row_option q o (CommandItem.positional x ∷ items) task = rw (apart q o).3 (row_option q o items argument)
row_option q o (CommandItem.positional x ∷ items) argument = rw (apart q o).4 (row_option q o items past)
row_option q o (CommandItem.positional x ∷ items) past = row_option q o items past
row_option q o (CommandItem.option n v ∷ items) k = split (bytes_eq n q)
    (λ b. rw b (ap (λ id. Some (one_row id v)) (named n q b)))
    (λ b. rw b (row_option q o items k))
row_option q o (CommandItem.flag ∷ items) k = rw (apart q o).5 (row_option q o items k)

pub row_flag : (items : List CommandItem) → known_items items ≡ true → (k : Place) → row_at (codes "tallies") (made items k) ≡ (if has_flag items then Some (one_row (codes "tallies") (codes "true")) else None)
unfolding made
row_flag [] known k = refl
row_flag (CommandItem.positional x ∷ items) known task = row_flag items known argument
row_flag (CommandItem.positional x ∷ items) known argument = row_flag items known past
row_flag (CommandItem.positional x ∷ items) known past = row_flag items known past
row_flag (CommandItem.option n v ∷ items) known k = let b = both_true (is_option n) (known_items items) known in rw (apart n b.0).2 (row_flag items b.1 k)
row_flag (CommandItem.flag ∷ items) known k = refl

-- ---- where all items are put

unfoldable pub room : Place → List Text → Bool
room k [] = true
room task (x ∷ xs) = room argument xs
room argument (x ∷ xs) = room past xs
room past (x ∷ xs) = false

abbrev pub any_row : List Row → List Text → Bool
any_row rows names = list_any (λ n. has_row n rows) names

abbrev pub fresh : List Row → List Text → Bool
fresh rows names = all_differ names && not (any_row rows names)

abbrev pub FreeAt : Place → List Row → Type 0
FreeAt task rows = (has_row (codes "TASK") rows ≡ false) × (has_row (codes "ARG") rows ≡ false)
FreeAt argument rows = has_row (codes "ARG") rows ≡ false
FreeAt past rows = ⊤

pub has_more : (q : Text) (r : Row) (rows : List Row) → has_row q (rows ++ r ∷ []) ≡ (has_row q rows || bytes_eq r.id q)
has_more q r rows = list_any-append _ rows (r ∷ []) ∙ ap (λ b. has_row q rows || b) (or_false (bytes_eq r.id q))

pub any_more : (r : Row) (rows : List Row) (names : List Text) → any_row (rows ++ r ∷ []) names ≡ (any_row rows names || list_any (bytes_eq r.id) names)
any_more r rows [] = refl
any_more r rows (n ∷ names) = ap₂ (λ a b. a || b) (has_more n r rows) (any_more r rows names) ∙ swap (has_row n rows) (bytes_eq r.id n) (any_row rows names) (list_any (bytes_eq r.id) names)
  where
    swap : (a b c d : Bool) → ((a || b) || (c || d)) ≡ ((a || c) || (b || d))
    swap true b c d = refl
    swap false true true d = refl
    swap false true false d = refl
    swap false false true d = refl
    swap false false false d = refl

pub names_apart : (items : List CommandItem) → known_items items ≡ true → (list_any (bytes_eq (codes "TASK")) (names_given items) ≡ false) × (list_any (bytes_eq (codes "ARG")) (names_given items) ≡ false)
names_apart [] k = (refl, refl)
names_apart (CommandItem.positional x ∷ items) k = names_apart items k
names_apart (CommandItem.option n v ∷ items) k =
    let b = both_true (is_option n) (known_items items) k in
    let a = apart n b.0 in
    let g = names_apart items b.1 in
    (rw (a.3, g.0) refl, rw (a.4, g.1) refl)
names_apart (CommandItem.flag ∷ items) k = names_apart items k

pub fresh_word : (r : Row) (rows : List Row) (names : List Text) → list_any (bytes_eq r.id) names ≡ false → fresh (rows ++ r ∷ []) names ≡ fresh rows names
fresh_word r rows names f = ap (λ b. all_differ names && not b) (any_more r rows names ∙ ap (λ b. any_row rows names || b) f ∙ or_false (any_row rows names))

-- one more name
pub fresh_name : (r : Row) (rows : List Row) (names : List Text) (p : Bool) → has_row r.id rows ≡ false → (p && fresh (rows ++ r ∷ []) names) ≡ (p && fresh rows (r.id ∷ names))
fresh_name r rows names p h = ap (λ b. p && (all_differ names && not b)) (any_more r rows names)
    ∙ sides p (all_differ names) (any_row rows names) (list_any (bytes_eq r.id) names) ∙ ap (λ b. p && ((not (list_any (bytes_eq r.id) names) && all_differ names) && not (b || any_row rows names))) (sym h)
  where
    sides : (p d a m : Bool) → (p && (d && not (a || m))) ≡ (p && ((not m && d) && not (false || a)))
    sides false d a m = refl
    sides true false true true = refl
    sides true false true false = refl
    sides true false false true = refl
    sides true false false false = refl
    sides true true true true = refl
    sides true true true false = refl
    sides true true false true = refl
    sides true true false false = refl

pub taken_name : (p d a : Bool) → false ≡ (p && (d && not (true || a)))
taken_name false d a = refl
taken_name true false a = refl
taken_name true true a = refl

pub free_more : (k : Place) (r : Row) (rows : List Row) → bytes_eq r.id (codes "TASK") ≡ false → bytes_eq r.id (codes "ARG") ≡ false → FreeAt k rows → FreeAt k (rows ++ r ∷ [])
free_more task r rows a b f = (has_more (codes "TASK") r rows ∙ rw (f.0, a) refl, has_more (codes "ARG") r rows ∙ rw (f.1, b) refl)
free_more argument r rows a b f = has_more (codes "ARG") r rows ∙ rw (f, b) refl
free_more past r rows a b f = f

-- a use adds its row at the end
pub add : (k : Place) (items : List CommandItem) (r : Row) (rows after : List Row) (a b : Bool) → after ≡ rows ++ r ∷ []
    → put items k (rows ++ r ∷ []) ≡ (if a then Some ((rows ++ r ∷ []) ++ made items k) else None) → a ≡ b
    → put items k after ≡ (if b then Some (rows ++ r ∷ made items k) else None)
add k items r rows after a b is e same = ap (put items k) is ∙ e ∙ ap₂ (λ c all. if c then Some all else None) same (append_assoc rows (r ∷ []) (made items k))

pub put_made : (items : List CommandItem) → known_items items ≡ true → (k : Place) (rows : List Row) → FreeAt k rows
    → put items k rows ≡ (if room k (positionals items) && fresh rows (names_given items) then Some (rows ++ made items k) else None)
unfolding put room made
put_made [] known k rows free = ap (λ r. Some r) (sym (append-nil rows))
put_made (CommandItem.positional x ∷ items) known task rows free =
    let r = one_row (codes "TASK") x in
    rw free.0 (add argument items r rows _ _ _ (used_new (codes "TASK") _ (x ∷ []) rows free.0)
    (put_made items known argument (rows ++ r ∷ []) (has_more (codes "ARG") r rows ∙ rw free.1 refl))
    (ap (λ b. room argument (positionals items) && b) (fresh_word r rows (names_given items) (names_apart items known).0)))
put_made (CommandItem.positional x ∷ items) known argument rows free =
    let r = one_row (codes "ARG") x in
    rw free (add past items r rows _ _ _ (used_new (codes "ARG") _ (x ∷ []) rows free)
    (put_made items known past (rows ++ r ∷ []) tt)
    (ap (λ b. room past (positionals items) && b) (fresh_word r rows (names_given items) (names_apart items known).1)))
put_made (CommandItem.positional x ∷ items) known past rows free = refl
put_made (CommandItem.option n v ∷ items) known k rows free =
    let b = both_true (is_option n) (known_items items) known in
    let a = apart n b.0 in
    let r = one_row n v in
    split (has_row n rows)
    (λ h. rw h (ap (λ c. if c then Some (rows ++ r ∷ made items k) else None) (taken_name (room k (positionals items)) _ (any_row rows (names_given items)))))
    (λ h. ap (λ b. option_and_then (put items k) (if b then None else Some (used (option_built n) (v ∷ []) rows))) h
    ∙ add k items r rows _ _ _ (used_new n _ (v ∷ []) rows h) (put_made items b.1 k (rows ++ r ∷ []) (free_more k r rows a.0 a.1 free)) (fresh_name r rows (names_given items) (room k (positionals items)) h))
put_made (CommandItem.flag ∷ items) known k rows free =
    let r = one_row (codes "tallies") (codes "true") in
    split (has_row (codes "tallies") rows)
    (λ h. rw h (ap (λ c. if c then Some (rows ++ r ∷ made items k) else None) (taken_name (room k (positionals items)) _ (any_row rows (names_given items)))))
    (λ h. ap (λ b. option_and_then (put items k) (if b then None else Some (used flag_built [] rows))) h
    ∙ add k items r rows _ _ _ (used_new (codes "tallies") _ (codes "true" ∷ []) rows h) (put_made items known k (rows ++ r ∷ []) (free_more k r rows refl refl free)) (fresh_name r rows (names_given items) (room k (positionals items)) h))
