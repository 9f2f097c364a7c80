-- The simple command takes the words exactly where the reading does, and its matches are what the items say.
use Rattle.std.proofs.Common.{◌≡◌, ◌∙◌, ◌&&◌, ◌||◌, ℕ, Bool, true, false, not, suc, refl, sym, ap, ap₂, List, [], ◌∷◌, Option, Some, None, codes, if◌then◌else◌, true≢false, subst, length, arith}
use Rattle.std.specs.Prelude.{option_map, option_and_then, ◌==◌, slice_get, fold, drop}
use Rattle.std.specs.List.{fold, All}
use Rattle.std.specs.Str.{bytes_eq}
use Rattle.clap.specs.Words.{Row, built, Kinds}
use Rattle.clap.specs.Walk.{Held, settled, has_row, with_default, nothing_held, walk_from, walk}
use Rattle.clap.specs.Faults.{settle_fault, walk_fault, fault_of, defaults_fault, check_fault, level_fault, entered_fault}
use Rattle.clap.specs.Kinds.{or_else}
use Rattle.mask_words.specs.Command.{mask_command}
use Rattle.std.proofs.lemmas.Bool.Decides.{Decides-eqb}
use Rattle.mask_words.specs.Reading.{positionals, names_given, given_text, has_flag, all_differ, CommandItem, Text, items_from}
use Rattle.mask_words.specs.Taken.{Holds, is_complete, taken_items}
use Rattle.std.specs.Option.{option_or, is_some, option_map_or}
use Rattle.std.proofs.lemmas.List.Folds.{find-append}
use Rattle.clap.specs.declared.parser.matches.ValueSource.TheVariants.{DefaultValue}
use Rattle.clap.specs.Simple.{entered, matches_of}
use Rattle.clap.specs.Takes.{is_given}
use Rattle.clap.specs.declared.error.kind.ErrorKind.TheVariants.{MissingRequiredArgument}
use Rattle.mask_words.proofs.Walk.{task, shape, is_none, unless_fault, end_of, walk_ends, flag_built, and_false, known, put, split, IsClean, none_of_some, reads, both}
use Rattle.mask_words.proofs.Rows.{row_at, at_absent, has_is_some, made, put_made, known_items, known_read, known_words, apart, one_row, row_task, row_second, row_option, row_flag, room, any_row}
use Rattle.clap.specs.Walk as walks

-- ---- the faults and the matches of the command

abbrev the_end : List Text → Held
the_end xs = (walk shape.rules [] nothing_held xs).held

abbrev done_rows : List Row → List Row
done_rows rows = fold with_default rows shape.rules

abbrev last_fault : List Row → Kinds
last_fault rows = or_else (defaults_fault rows shape.rules) (check_fault shape (done_rows rows) false)

by_stop : (xs : List Text) (stop : Option (Text × List Text))
    → level_fault shape [] nothing_held xs (is_some (entered (built mask_command) stop)) (entered_fault (built mask_command) stop) ≡ level_fault shape [] nothing_held xs false []
unfolding mask_command
by_stop xs None = refl
by_stop xs (Some p) = refl

faults_are : (words : List Text) → fault_of mask_command words ≡ level_fault shape [] nothing_held (drop 1 words) false []
unfolding shape mask_command
faults_are words = by_stop (drop 1 words) (walk (built mask_command).top.rules [] nothing_held (drop 1 words)).stopped

matches_are : (words : List Text) → matches_of mask_command words ≡ done_rows (settled shape.rules (the_end (drop 1 words))).rows
unfolding shape mask_command
matches_are words = refl

or_true : (b : Bool) → (b || true) ≡ true
or_true true = refl
or_true false = refl

same_rows : (b : Bool) (rows : List Row) → (if b then rows else rows) ≡ rows
same_rows true rows = refl
same_rows false rows = refl

no_default_fault : (rows : List Row) → defaults_fault rows shape.rules ≡ []
unfolding defaults_fault shape mask_command
no_default_fault rows = simp (or_true, same_rows) (nothing (has_row (codes "tallies") rows))
  where
    nothing : (b : Bool) → or_else (if b || false then [] else []) [] ≡ []
    nothing true = refl
    nothing false = refl

done_is : (rows : List Row) → done_rows rows ≡ with_default rows flag_built
unfolding shape mask_command
done_is rows = simp same_rows

check_is : (rows : List Row) → check_fault shape rows false ≡ (if is_given (codes "TASK") rows && is_given (codes "ARG") rows then [] else MissingRequiredArgument ∷ [])
unfolding shape mask_command
check_is rows = go (is_given (codes "TASK") rows) (is_given (codes "ARG") rows)
  where
    go : (a b : Bool) → (if not a || (not b || false) then MissingRequiredArgument ∷ [] else []) ≡ (if a && b then [] else MissingRequiredArgument ∷ [])
    go true true = refl
    go true false = refl
    go false b = refl

abbrev default_row : Row
default_row = record (one_row (codes "tallies") (codes "false")) { source = Some DefaultValue }

-- where the flag isn't given it has the row of its default, and no other row changes
flag_default : (q : Text) (rows : List Row) → row_at q (with_default rows flag_built) ≡ (if has_row (codes "tallies") rows then row_at q rows else option_or (row_at q rows) (if bytes_eq (codes "tallies") q then Some default_row else None))
flag_default q rows = split (has_row (codes "tallies") rows)
    (λ h. rw h refl)
    (λ h. rw h (ap (row_at q) (at_absent (codes "tallies") (walks.more_values DefaultValue (codes "false" ∷ [])) (default_row ∷ []) rows h) ∙ find-append _ rows (default_row ∷ [])))

or_none : (a : Option Row) → option_or a None ≡ a
or_none None = refl
or_none (Some x) = refl

other_default : (q : Text) (rows : List Row) → bytes_eq (codes "tallies") q ≡ false → row_at q (done_rows rows) ≡ row_at q rows
other_default q rows other = ap (row_at q) (done_is rows) ∙ flag_default q rows ∙ rw other (go (has_row (codes "tallies") rows))
  where
    go : (b : Bool) → (if b then row_at q rows else option_or (row_at q rows) None) ≡ row_at q rows
    go true = refl
    go false = or_none (row_at q rows)

tallies_default : (rows : List Row) → row_at (codes "tallies") (done_rows rows) ≡ option_or (row_at (codes "tallies") rows) (Some default_row)
tallies_default rows = ap (row_at (codes "tallies")) (done_is rows) ∙ flag_default (codes "tallies") rows ∙ rw (has_is_some (codes "tallies") rows) (go (row_at (codes "tallies") rows))
  where
    go : (o : Option Row) → (if is_some o then o else option_or o (Some default_row)) ≡ option_or o (Some default_row)
    go None = refl
    go (Some r) = refl

first_of_row : (id : Text) (o : Option Text) → option_and_then (λ (r : Row). slice_get r.values 0) (option_map (one_row id) o) ≡ o
first_of_row id None = refl
first_of_row id (Some x) = refl

abbrev first_text : Option Row → Option Text
first_text o = option_and_then (λ r. slice_get r.values 0) o

holds : (items : List CommandItem) → known_items items ≡ true → Holds items (done_rows (made items task))
holds items k =
    let rows = made items task in
    record {
      task = ap first_text (other_default (codes "TASK") rows refl ∙ row_task items k) ∙ first_of_row (codes "TASK") (slice_get (positionals items) 0);
      argument = ap first_text (other_default (codes "ARG") rows refl ∙ row_second items k) ∙ first_of_row (codes "ARG") (slice_get (positionals items) 1);
      options = λ q o. ap first_text (other_default q rows (apart q o).5 ∙ row_option q o items task) ∙ first_of_row q (given_text q items);
      flagged = ap (option_and_then walks.row_text) (tallies_default rows ∙ ap (λ o. option_or o (Some default_row)) (row_flag items k task)) ∙ go (has_flag items);
    }
  where
    go : (b : Bool) → option_and_then walks.row_text (option_or (if b then Some (one_row (codes "tallies") (codes "true")) else None) (Some default_row)) ≡ Some (if b then codes "true" else codes "false")
    go true = refl
    go false = refl

abbrev is_explicit : Option Row → Bool
is_explicit o = option_map_or (λ r. Rattle.clap.specs.Facts.explicit_source r.source) o false

given_row : (id : Text) (o : Option Text) → is_explicit (option_map (one_row id) o) ≡ is_some o
given_row id None = refl
given_row id (Some x) = refl

-- the required words are there
both_given : (items : List CommandItem) → known_items items ≡ true
    → (is_given (codes "TASK") (done_rows (made items task)) && is_given (codes "ARG") (done_rows (made items task))) ≡ (is_some (slice_get (positionals items) 0) && is_some (slice_get (positionals items) 1))
both_given items k = ap₂ (λ a b. a && b)
    (ap is_explicit (other_default (codes "TASK") (made items task) refl ∙ row_task items k) ∙ given_row (codes "TASK") (slice_get (positionals items) 0))
    (ap is_explicit (other_default (codes "ARG") (made items task) refl ∙ row_second items k) ∙ given_row (codes "ARG") (slice_get (positionals items) 1))

last_is : (rows : List Row) → is_none (last_fault rows) ≡ (is_given (codes "TASK") (done_rows rows) && is_given (codes "ARG") (done_rows rows))
last_is rows = ap is_none (ap (λ k. or_else k (check_fault shape (done_rows rows) false)) (no_default_fault rows) ∙ check_is (done_rows rows)) ∙ go (is_given (codes "TASK") (done_rows rows) && is_given (codes "ARG") (done_rows rows))
  where
    go : (b : Bool) → is_none (if b then [] else MissingRequiredArgument ∷ []) ≡ b
    go true = refl
    go false = refl

no_rows_any : (names : List Text) → any_row [] names ≡ false
no_rows_any [] = refl
no_rows_any (n ∷ names) = no_rows_any names

and_true : (b : Bool) → (b && true) ≡ b
and_true true = refl
and_true false = refl

-- there is room for at most two words, and both are required
two : (ps : List Text) (d : Bool) → ((room task ps && d) && (is_some (slice_get ps 0) && is_some (slice_get ps 1))) ≡ ((length ps == 2) && d)
unfolding room
two [] d = and_false d
two (x ∷ []) d = and_false d
two (x ∷ y ∷ []) d = and_true d
two (x ∷ y ∷ z ∷ ps) d = rw (three (length ps)) refl
  where
    three : (n : ℕ) → (suc (suc (suc n)) == 2) ≡ false
    three n = split (suc (suc (suc n)) == 2) (λ t. let bad : suc (suc (suc n)) ≡ 2 = (Decides-eqb (suc (suc (suc n))) 2).0 t in absurd (omega arith)) (λ f. f)

abbrev accepts_rows : Option (List Row) → Bool
accepts_rows o = option_map_or (λ rows. is_none (last_fault rows)) o false

put_is : (items : List CommandItem) → known_items items ≡ true → put items task [] ≡ (if room task (positionals items) && all_differ (names_given items) then Some (made items task) else None)
put_is items k = put_made items k task [] (refl, refl)
    ∙ ap (λ b. if room task (positionals items) && b then Some (made items task) else None) (ap (λ b. all_differ (names_given items) && not b) (no_rows_any (names_given items)) ∙ and_true (all_differ (names_given items)))

complete_is : (items : List CommandItem) → known_items items ≡ true → accepts_rows (put items task []) ≡ is_complete items
complete_is items k = ap accepts_rows (put_is items k) ∙ go (room task (positionals items) && all_differ (names_given items)) (made items task)
    ∙ ap (λ b. (room task (positionals items) && all_differ (names_given items)) && b) (last_is (made items task) ∙ both_given items k) ∙ two (positionals items) (all_differ (names_given items))
  where
    go : (c : Bool) (rows : List Row) → accepts_rows (if c then Some rows else None) ≡ (c && is_none (last_fault rows))
    go true rows = refl
    go false rows = refl

read_accepts : (o : Option (List CommandItem)) → known_read o ≡ true → accepts_rows (reads o task []) ≡ is_some (option_and_then (λ items. if is_complete items then Some items else None) o)
read_accepts None k = refl
read_accepts (Some items) k = complete_is items k ∙ go (is_complete items)
  where
    go : (b : Bool) → b ≡ is_some (if b then Some items else None)
    go true = refl
    go false = refl

kinds_accept : (a b : Kinds) (rows : List Row) → is_none (or_else a (or_else [] (or_else b (last_fault rows)))) ≡ accepts_rows (unless_fault (or_else a b) rows)
kinds_accept [] [] rows = refl
kinds_accept [] (k ∷ ks) rows = refl
kinds_accept (k ∷ ks) b rows = refl

read_end : (xs : List Text) → All IsClean xs → end_of (walk_from nothing_held) xs ≡ reads (items_from None xs) task []
read_end xs clean = (both xs clean).0 task nothing_held refl

-- the words are accepted exactly where they have all items
pub accepted : (words : List Text) → All IsClean (drop 1 words) → is_none (fault_of mask_command words) ≡ is_some (taken_items (drop 1 words))
accepted words clean =
    let xs = drop 1 words in
    ap is_none (faults_are words) ∙ kinds_accept (walk_fault shape [] (walk_from nothing_held) xs) (settle_fault shape.rules shape.args_override_self (the_end xs)) (settled shape.rules (the_end xs)).rows
    ∙ ap accepts_rows (sym (walk_ends (walk_from nothing_held) xs) ∙ read_end xs clean)
    ∙ read_accepts (items_from None xs) (known_words xs).0

no_faults : (a b : Kinds) (rows : List Row) → is_none (or_else a (or_else [] (or_else b (last_fault rows)))) ≡ true → unless_fault (or_else a b) rows ≡ Some rows
no_faults [] [] rows e = refl
no_faults [] (k ∷ ks) rows e = absurd (true≢false (sym e))
no_faults (k ∷ ks) b rows e = absurd (true≢false (sym e))

taken_from : (o : Option (List CommandItem)) (items : List CommandItem) → option_and_then (λ items. if is_complete items then Some items else None) o ≡ Some items → o ≡ Some items
taken_from None items e = e
taken_from (Some known) items e = go (is_complete known) e
  where
    go : (b : Bool) → (if b then Some known else None) ≡ Some items → Some known ≡ Some items
    go true e = e
    go false e = absurd (none_of_some items (sym e))

made_rows : (c : Bool) (rows wanted : List Row) → Some rows ≡ (if c then Some wanted else None) → rows ≡ wanted
made_rows true rows wanted e = cc
made_rows false rows wanted e = absurd (none_of_some rows e)

-- and then the matches are what the items say
pub matched : (words : List Text) → All IsClean (drop 1 words) → fault_of mask_command words ≡ [] → (items : List CommandItem) → taken_items (drop 1 words) ≡ Some items → Holds items (matches_of mask_command words)
matched words clean fine items taken =
    let xs = drop 1 words in
    let rows = (settled shape.rules (the_end xs)).rows in
    let read : items_from None xs ≡ Some items = taken_from (items_from None xs) items taken in
    let ended : Some rows ≡ put items task [] =
    sym (no_faults (walk_fault shape [] (walk_from nothing_held) xs) (settle_fault shape.rules shape.args_override_self (the_end xs)) rows (ap is_none (sym (faults_are words) ∙ fine)))
    ∙ sym (walk_ends (walk_from nothing_held) xs) ∙ read_end xs clean ∙ ap (λ o. reads o task []) read in
    let known : known_items items ≡ true = sym (ap known_read read) ∙ (known_words xs).0 in
    let made_is = made_rows (room task (positionals items) && all_differ (names_given items)) rows (made items task) (ended ∙ put_is items known) in
    subst (Holds items) (sym (matches_are words ∙ ap done_rows made_is)) (holds items known)
