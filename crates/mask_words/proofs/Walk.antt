-- The walk of clap over the words comes to the items that `items_from` reads.
use Rattle.std.proofs.Common.{◌≡◌, ◌∙◌, ◌&&◌, ◌||◌, ℕ, Bool, true, false, refl, sym, ap, List, [], ◌∷◌, map, Option, Some, None, codes, if◌then◌else◌, true≢false, subst, arith}
use Rattle.std.specs.Prelude.{option_and_then, ◌==◌, fold}
use Rattle.std.specs.List.{fold, All}
use Rattle.std.specs.Str.{bytes_eq, chars, IsUtf8}
use Rattle.std.proofs.lemmas.Slice.Eq.{bytes_eq-Decides}
use Rattle.clap.specs.Words.{Rule, Row, built, Kinds}
use Rattle.clap.specs.Walk.{Held, Walk, Waiting, idle, option, walked, settled, arg_by_long, arg_by_id, word_met, value, has_row, used, is_pending, walk, bundle_met}
use Rattle.clap.specs.Simple.{Shape, filled, with_index}
use Rattle.clap.specs.Faults.{word_fault, settle_fault, turn_fault, walk_fault, flags_fault}
use Rattle.clap.specs.Kinds.{or_else}
use Rattle.mask_words.specs.Command.{mask_command, option_rule, flag_rule, required_rule}
use Rattle.std.proofs.lemmas.Str.{encodes-chars, IsUtf8-past_char, encode_ascii}
use Rattle.std.proofs.lemmas.Bool.Decides.{Decides-eqb}
use Rattle.std.proofs.lemmas.List.Elements.{All-head, All-tail}
use Rattle.mask_words.specs.Reading.{is_lone, after, other_item, long_item, CommandItem, Text, begins_with_hyphen, is_option, items_from}
use Rattle.clap.specs.Lexer.{long_of, short_of}
use Rattle.clap.specs.Walk as walks

unfoldable pub shape : Shape
shape = (built mask_command).top

abbrev pub is_none : Kinds → Bool
is_none [] = true
is_none (k ∷ ks) = false

-- the rows where there is no fault
abbrev pub unless_fault : Kinds → List Row → Option (List Row)
unless_fault kinds rows = if is_none kinds then Some rows else None

unfoldable pub end_of : Walk → List Text → Option (List Row)
end_of w [] = unless_fault (settle_fault shape.rules shape.args_override_self w.held) (settled shape.rules w.held).rows
end_of w (x ∷ xs) = if is_none (turn_fault shape [] w x) then end_of (walked shape.rules [] w x) xs else None

pub unless_or : (a b : Kinds) (rows : List Row) → unless_fault (or_else a b) rows ≡ (if is_none a then unless_fault b rows else None)
unless_or [] b rows = refl
unless_or (k ∷ ks) b rows = refl

pub or_else_assoc : (a b c : Kinds) → or_else (or_else a b) c ≡ or_else a (or_else b c)
or_else_assoc [] b c = refl
or_else_assoc (k ∷ ks) b c = refl

-- `end_of` is the walk of clap, word by word
pub walk_ends : (w : Walk) (xs : List Text)
    → end_of w xs ≡ unless_fault (or_else (walk_fault shape [] w xs) (settle_fault shape.rules shape.args_override_self (fold (walked shape.rules []) w xs).held)) (settled shape.rules (fold (walked shape.rules []) w xs).held).rows
unfolding walk_fault end_of
walk_ends w [] = refl
walk_ends w (x ∷ xs) =
    let after = walked shape.rules [] w x in
    let end = fold (walked shape.rules []) after xs in
    ap (λ (o : Option (List Row)). if is_none (turn_fault shape [] w x) then o else None) (walk_ends after xs)
    ∙ sym (unless_or (turn_fault shape [] w x) (or_else (walk_fault shape [] after xs) (settle_fault shape.rules shape.args_override_self end.held)) (settled shape.rules end.held).rows)
    ∙ ap (λ k. unless_fault k (settled shape.rules end.held).rows) (sym (or_else_assoc (turn_fault shape [] w x) (walk_fault shape [] after xs) (settle_fault shape.rules shape.args_override_self end.held)))

abbrev pub option_built : Text → Rule
option_built name = with_index 0 (filled (option_rule name))

abbrev pub flag_built : Rule
flag_built = with_index 0 (filled (flag_rule (codes "tallies")))

-- ---- what the items come to

abbrev pub place : ℕ → Text → Rule
place k id = with_index k (filled (required_rule id))

-- one use of an argument that is not yet used
abbrev pub use_once : Rule → Text → List Row → Option (List Row)
use_once a text rows = if has_row a.id rows then None else Some (used a (text ∷ []) rows)

-- what stands at a place
pub data Place : Type 0 where
  task : Place
  argument : Place
  past : Place

abbrev pub number : Place → ℕ
number task = 1
number argument = 2
number past = 3

abbrev pub next_place : Place → Place
next_place task = argument
next_place _ = past

abbrev pub at_place : Place → Option Rule
at_place task = Some (place 1 (codes "TASK"))
at_place argument = Some (place 2 (codes "ARG"))
at_place past = None

abbrev pub at_next : (Place → List Row → Option (List Row)) → Place → Text → List Row → Option (List Row)
at_next rest k x rows = option_and_then (λ a. option_and_then (rest (next_place k)) (use_once a x rows)) (at_place k)

pub put_words : List Text → Place → List Row → Option (List Row)
put_words [] k rows = Some rows
put_words (x ∷ xs) k rows = at_next (put_words xs) k x rows

-- the rows when what is pending is used
abbrev pub settle : Held → Option (List Row)
settle h = unless_fault (settle_fault shape.rules shape.args_override_self h) (settled shape.rules h).rows

abbrev pub at : Held → Waiting → ℕ → Bool → Walk
at h waiting k trailing = record { held = h; waiting = waiting; position = k; is_trailing = trailing; stopped = None }

pub or_false : (b : Bool) → (b || false) ≡ b
or_false true = refl
or_false false = refl

pub and_false : (b : Bool) → (b && false) ≡ false
and_false true = refl
and_false false = refl

-- what a positional holds is used once
pub held_task : (rows : List Row) (x : Text) (skip : ℕ)
    → settle (record { rows = rows; pending = Some (codes "TASK", x ∷ []); skip = skip }) ≡ use_once (place 1 (codes "TASK")) x rows
unfolding shape mask_command
held_task rows x skip = go (has_row (codes "TASK") rows)
  where
    go : (b : Bool) → unless_fault (or_else (if b && true then Rattle.clap.specs.declared.error.kind.ErrorKind.TheVariants.ArgumentConflict ∷ [] else []) [])
        (used (place 1 (codes "TASK")) (x ∷ []) rows) ≡ (if b then None else Some (used (place 1 (codes "TASK")) (x ∷ []) rows))
    go true = refl
    go false = refl

pub held_arg : (rows : List Row) (x : Text) (skip : ℕ)
    → settle (record { rows = rows; pending = Some (codes "ARG", x ∷ []); skip = skip }) ≡ use_once (place 2 (codes "ARG")) x rows
unfolding shape mask_command
held_arg rows x skip = go (has_row (codes "ARG") rows)
  where
    go : (b : Bool) → unless_fault (or_else (if b && true then Rattle.clap.specs.declared.error.kind.ErrorKind.TheVariants.ArgumentConflict ∷ [] else []) [])
        (used (place 2 (codes "ARG")) (x ∷ []) rows) ≡ (if b then None else Some (used (place 2 (codes "ARG")) (x ∷ []) rows))
    go true = refl
    go false = refl

-- ---- a word that goes to a place

abbrev pub holding : Text → Text → Held → Held
holding id x h = record { rows = (settled shape.rules h).rows; pending = Some (id, x ∷ []); skip = h.skip }

pub guarded : (b : Bool) (rows : List Row) (e : Option (List Row)) (g : List Row → Option (List Row)) → e ≡ g rows
    → (if b then e else None) ≡ option_and_then g (if b then Some rows else None)
guarded true rows e g same = same
guarded false rows e g same = refl

abbrev pub never : List Row → Option (List Row)
never rows = None

pub no_rows : (o : Option (List Row)) → None ≡ option_and_then (λ (rows : List Row). never rows) o
no_rows (Some rows) = refl
no_rows None = refl

pub all_put : (o : Option (List Row)) → o ≡ option_and_then (λ rows. Some rows) o
all_put (Some rows) = refl
all_put None = refl

abbrev pub Ends : (Place → List Row → Option (List Row)) → List Text → Place → Bool → Type 0
Ends rest xs k trailing = (h : Held) → h.skip ≡ 0 → end_of (at h idle (number k) trailing) xs ≡ option_and_then (rest k) (settle h)

pub to_place : (rest : Place → List Row → Option (List Row)) (k : Place) (h : Held) (waiting : Waiting) (trailing : Bool) (x : Text) (xs : List Text) → h.skip ≡ 0
    → word_fault shape [] trailing waiting x h ≡ [] → word_met shape.rules [] trailing waiting (number k) x h ≡ (h, value)
    → Ends rest xs (next_place k) trailing
    → end_of (at h waiting (number k) trailing) (x ∷ xs) ≡ option_and_then (at_next rest k x) (settle h)
unfolding end_of shape mask_command walked
to_place rest task h waiting trailing x xs z fine met ends =
    rw (fine, met, and_false (is_pending (place 1 (codes "TASK")) h.pending), or_false trailing)
    (guarded (is_none (settle_fault shape.rules shape.args_override_self h)) (settled shape.rules h).rows _ (at_next rest task x) (ends (holding (codes "TASK") x h) z ∙ ap (option_and_then (rest argument)) (held_task (settled shape.rules h).rows x h.skip)))
to_place rest argument h waiting trailing x xs z fine met ends =
    rw (fine, met, and_false (is_pending (place 2 (codes "ARG")) h.pending), or_false trailing)
    (guarded (is_none (settle_fault shape.rules shape.args_override_self h)) (settled shape.rules h).rows _ (at_next rest argument x) (ends (holding (codes "ARG") x h) z ∙ ap (option_and_then (rest past)) (held_arg (settled shape.rules h).rows x h.skip)))
to_place rest past h waiting trailing x xs z fine met ends = rw (fine, met) (no_rows (settle h))

-- after `--`
pub trailing_ends : (xs : List Text) (k : Place) (waiting : Waiting) (h : Held) → h.skip ≡ 0 → end_of (at h waiting (number k) true) xs ≡ option_and_then (put_words xs k) (settle h)
unfolding end_of put_words
trailing_ends [] k waiting h z = all_put (settle h)
trailing_ends (x ∷ xs) k waiting h z = to_place (put_words xs) k h waiting true x xs z refl refl (trailing_ends xs (next_place k) idle)

-- ---- the items

pub known : Text → Option Rule
known name = if is_option name then Some (option_built name) else (if bytes_eq (codes "tallies") name then Some flag_built else None)

pub named : (id name : Text) → bytes_eq id name ≡ true → id ≡ name
named id name same = (bytes_eq-Decides id name).0 same

pub one_of : (b more : Bool) (r found : Rule) (tail other : Option Rule) → (b ≡ true → r ≡ found) → tail ≡ (if more then Some found else other)
    → (if b || false then Some r else tail) ≡ (if b || more then Some found else other)
one_of true more r found tail other is next = ap (λ x. Some x) (is refl)
one_of false more r found tail other is next = next

abbrev pub same_option : (id name : Text) → bytes_eq id name ≡ true → option_built id ≡ option_built name
same_option id name same = ap option_built (named id name same)

pub by_name : (name : Text) → arg_by_long shape.rules name ≡ known name
unfolding shape mask_command known
by_name name =
    one_of _ _ _ _ _ _ (same_option (codes "size") name)
    (one_of _ _ _ _ _ _ (same_option (codes "workers") name)
    (one_of _ _ _ _ _ _ (same_option (codes "block") name)
    (one_of _ _ _ _ _ _ (same_option (codes "budget") name)
    (one_of _ _ _ _ _ _ (same_option (codes "words") name)
    (one_of _ _ _ _ _ _ (same_option (codes "wires") name)
    (ap (λ b. if b then Some flag_built else None) (or_false (bytes_eq (codes "tallies") name))))))))

-- ---- what is put for each item

unfoldable pub put : List CommandItem → Place → List Row → Option (List Row)
put [] k rows = Some rows
put (CommandItem.positional x ∷ items) k rows = at_next (put items) k x rows
put (CommandItem.option name x ∷ items) k rows = option_and_then (put items k) (use_once (option_built name) x rows)
put (CommandItem.flag ∷ items) k rows = option_and_then (put items k) (if has_row (codes "tallies") rows then None else Some (used flag_built [] rows))

-- a plain word
abbrev pub IsPlainWord : Text → Type 0
IsPlainWord x = (bytes_eq x (codes "--") ≡ false) × (long_of x ≡ None) × (short_of x ≡ None)

pub plain_fine : (x : Text) (h : Held) → IsPlainWord x → word_fault shape [] false idle x h ≡ []
unfolding shape mask_command
plain_fine x h (p, q, r) = rw (p, q, r) refl

pub plain_met : (k : ℕ) (x : Text) (h : Held) → IsPlainWord x → word_met shape.rules [] false idle k x h ≡ (h, value)
plain_met k x h (p, q, r) = rw (p, q, r) refl

abbrev pub conflict : Kinds
conflict = Rattle.clap.specs.declared.error.kind.ErrorKind.TheVariants.ArgumentConflict ∷ []

pub used_then : (s : Kinds) (b : Bool) (rows after : List Row) (e : Option (List Row)) (g whole : List Row → Option (List Row)) → e ≡ g after
    → whole rows ≡ option_and_then g (if b then None else Some after)
    → (if is_none (or_else (or_else s (or_else (if b && true then conflict else []) [])) []) then e else None) ≡ option_and_then whole (if is_none s then Some rows else None)
used_then [] true rows after e g whole same is = sym is
used_then [] false rows after e g whole same is = same ∙ sym is
used_then (k ∷ ks) b rows after e g whole same is = refl

-- an option whose value is attached: what is held before it is used, and then the option
pub attached_ends : (rest : Place → List Row → Option (List Row)) (k : Place) (h : Held) (name v : Text) (x : Text) (xs : List Text) → h.skip ≡ 0
    → bytes_eq x (codes "--") ≡ false → long_of x ≡ Some (name, Some v) → is_option name ≡ true → Ends rest xs k false
    → end_of (at h idle (number k) false) (x ∷ xs) ≡ option_and_then (λ rows. option_and_then (rest k) (use_once (option_built name) v rows)) (settle h)
unfolding end_of shape mask_command walked known
attached_ends rest k h name v x xs z p q o ends = rw (p, q, by_name name, o)
    (used_then (settle_fault shape.rules shape.args_override_self h) (has_row name (settled shape.rules h).rows) (settled shape.rules h).rows
    (used (option_built name) (v ∷ []) (settled shape.rules h).rows) _ (rest k) (λ rows. option_and_then (rest k) (use_once (option_built name) v rows))
    (ends (walks.reacted shape.rules (option_built name) (v ∷ []) h) z) refl)

pub flag_ends : (rest : Place → List Row → Option (List Row)) (k : Place) (h : Held) (x : Text) (xs : List Text) → h.skip ≡ 0
    → bytes_eq x (codes "--") ≡ false → long_of x ≡ Some (codes "tallies", None) → Ends rest xs k false
    → end_of (at h idle (number k) false) (x ∷ xs)
    ≡ option_and_then (λ rows. option_and_then (rest k) (if has_row (codes "tallies") rows then None else Some (used flag_built [] rows))) (settle h)
unfolding end_of shape mask_command walked known
flag_ends rest k h x xs z p q ends = rw (p, q)
    (used_then (settle_fault shape.rules shape.args_override_self h) (has_row (codes "tallies") (settled shape.rules h).rows) (settled shape.rules h).rows
    (used flag_built [] (settled shape.rules h).rows) _ (rest k)
    (λ rows. option_and_then (rest k) (if has_row (codes "tallies") rows then None else Some (used flag_built [] rows)))
    (ends (walks.reacted shape.rules flag_built [] h) z) refl)

-- ---- an option by its id

pub pick : (P : Text → Type 0) (id name : Text) (more : Bool) → (bytes_eq id name || more) ≡ true → P id → (more ≡ true → P name) → P name
pick P id name more some here next = go (bytes_eq id name) refl some
  where
    go : (b : Bool) → bytes_eq id name ≡ b → (b || more) ≡ true → P name
    go true e h = subst P (named id name e) here
    go false e h = next h

abbrev pub IsFound : Text → Type 0
IsFound name = arg_by_id shape.rules name ≡ Some (option_built name)

pub by_id : (name : Text) → is_option name ≡ true → IsFound name
unfolding shape mask_command
by_id name o =
    pick IsFound (codes "size") name _ o refl (λ o. pick IsFound (codes "workers") name _ o refl (λ o. pick IsFound (codes "block") name _ o refl
    (λ o. pick IsFound (codes "budget") name _ o refl (λ o. pick IsFound (codes "words") name _ o refl (λ o. pick IsFound (codes "wires") name _ o refl
    (λ o. absurd (true≢false (sym o))))))))

pub same_text : (name : Text) → bytes_eq name name ≡ true
same_text name = (bytes_eq-Decides name name).1 refl

abbrev pub with_value : List Row → Text → Text → ℕ → Held
with_value rows name x skip = record { rows = rows; pending = Some (name, x ∷ []); skip = skip }

pub once : (id : Text) (b : Bool) (x : Text) (rows : List Row)
    → unless_fault (or_else [] (or_else (if b && true then conflict else []) [])) (used (option_built id) (x ∷ []) rows)
    ≡ (if b then None else Some (used (option_built id) (x ∷ []) rows))
once id true x rows = refl
once id false x rows = refl

pub held_option : (rows : List Row) (name x : Text) (skip : ℕ) → is_option name ≡ true
    → settle (with_value rows name x skip) ≡ use_once (option_built name) x rows
unfolding shape mask_command
held_option rows name x skip o = rw (by_id name o) (once name (has_row name rows) x rows)

-- an option that waits for its value, which comes
pub value_ends : (rest : Place → List Row → Option (List Row)) (k : Place) (rows : List Row) (skip : ℕ) (name x : Text) (xs : List Text) → skip ≡ 0
    → is_option name ≡ true → bytes_eq x (codes "--") ≡ false → long_of x ≡ None → short_of x ≡ None → Ends rest xs k false
    → end_of (at (record { rows = rows; pending = Some (name, []); skip = skip }) (option name) (number k) false) (x ∷ xs)
    ≡ option_and_then (rest k) (use_once (option_built name) x rows)
unfolding end_of shape mask_command walked known
value_ends rest k rows skip name x xs z o p q r ends = rw (p, q, r, by_id name o, same_text name) (ends (with_value rows name x skip) z ∙ ap (option_and_then (rest k)) (held_option rows name x skip o))

pub guarded_nil : (s : Kinds) (rows : List Row) (e : Option (List Row)) (g : List Row → Option (List Row)) → e ≡ g rows
    → (if is_none (or_else s []) then e else None) ≡ option_and_then g (if is_none s then Some rows else None)
guarded_nil [] rows e g same = same
guarded_nil (k ∷ ks) rows e g same = refl

-- an option with no value attached waits for it
pub waits_ends : (k : Place) (h : Held) (name x : Text) (xs : List Text)
    → bytes_eq x (codes "--") ≡ false → long_of x ≡ Some (name, None) → is_option name ≡ true
    → end_of (at h idle (number k) false) (x ∷ xs)
    ≡ option_and_then (λ rows. end_of (at (record { rows = rows; pending = Some (name, []); skip = h.skip }) (option name) (number k) false) xs) (settle h)
unfolding end_of shape mask_command walked known
waits_ends k h name x xs p q o = rw (p, q, by_name name, o)
    (guarded_nil (settle_fault shape.rules shape.args_override_self h) (settled shape.rules h).rows _
    (λ rows. end_of (at (record { rows = rows; pending = Some (name, []); skip = h.skip }) (option name) (number k) false) xs) refl)

pub unknown_ends : (k : Place) (h : Held) (name x : Text) (v : Option Text) (xs : List Text)
    → bytes_eq x (codes "--") ≡ false → long_of x ≡ Some (name, v) → known name ≡ None
    → end_of (at h idle (number k) false) (x ∷ xs) ≡ None
unfolding end_of shape mask_command walked
unknown_ends k h name x v xs p q o = rw (p, q, by_name name, o) refl

-- `-x` is refused, since no argument has a short name
pub short_ends : (k : Place) (h : Held) (x flags : Text) (c : ℕ) (cs : List ℕ) (y : ℕ) (ys : Text) (xs : List Text) → h.skip ≡ 0
    → bytes_eq x (codes "--") ≡ false → long_of x ≡ None → short_of x ≡ Some (y ∷ ys) → chars (y ∷ ys) ≡ c ∷ cs
    → end_of (at h idle (number k) false) (x ∷ xs) ≡ None
unfolding end_of shape mask_command walked flags_fault bundle_met
short_ends k h x flags c cs y ys xs z p q r e = rw (p, q, r, z, e) refl

pub some_chars : (y : ℕ) (ys : Text) → IsUtf8 (y ∷ ys) → (cs : List ℕ) → chars (y ∷ ys) ≡ cs → (cs ≡ []) → ⊥
some_chars y ys valid cs is none = grind (arith, encodes-chars (y ∷ ys) valid)

-- a word that doesn't begin with a hyphen is plain
pub plain_of : (x : Text) → begins_with_hyphen x ≡ false → IsPlainWord x
plain_of [] h = (refl, refl, refl)
plain_of (c ∷ rest) h = (rw h refl, rw h refl, rw h refl)

-- the value of the option never comes
pub missing_ends : (k : Place) (rows : List Row) (skip : ℕ) (name : Text) → is_option name ≡ true
    → end_of (at (record { rows = rows; pending = Some (name, []); skip = skip }) (option name) (number k) false) [] ≡ None
unfolding end_of shape mask_command
missing_ends k rows skip name o = rw (by_id name o) refl

-- ---- a word with a hyphen while an option waits

abbrev pub waits_for : List Row → Text → Held
waits_for rows name = record { rows = rows; pending = Some (name, []); skip = 0 }

pub split : {P : Type 0} (b : Bool) → (b ≡ true → P) → (b ≡ false → P) → P
split true f g = f refl
split false f g = g refl

pub wait_long : (k : Place) (rows : List Row) (name x n : Text) (v : Option Text) (xs : List Text) → is_option name ≡ true
    → bytes_eq x (codes "--") ≡ false → long_of x ≡ Some (n, v) → (more : Bool) → is_option n ≡ more → (flag : Bool) → bytes_eq (codes "tallies") n ≡ flag
    → end_of (at (waits_for rows name) (option name) (number k) false) (x ∷ xs) ≡ None
unfolding end_of shape mask_command walked known
wait_long k rows name x n (Some v) xs o p q true m flag f = rw (p, q, by_name n, m, by_id name o) refl
wait_long k rows name x n None xs o p q true m flag f = rw (p, q, by_name n, m, by_id name o) refl
wait_long k rows name x n (Some v) xs o p q false m true f = rw (p, q, by_name n, m, f) refl
wait_long k rows name x n None xs o p q false m true f = rw (p, q, by_name n, m, f, by_id name o) refl
wait_long k rows name x n v xs o p q false m false f = rw (p, q, by_name n, m, f) refl

pub wait_short : (k : Place) (rows : List Row) (name x : Text) (c : ℕ) (cs : List ℕ) (y : ℕ) (ys : Text) (xs : List Text)
    → bytes_eq x (codes "--") ≡ false → long_of x ≡ None → short_of x ≡ Some (y ∷ ys) → chars (y ∷ ys) ≡ c ∷ cs
    → end_of (at (waits_for rows name) (option name) (number k) false) (x ∷ xs) ≡ None
unfolding end_of shape mask_command walked flags_fault bundle_met
wait_short k rows name x c cs y ys xs p q r e = rw (p, q, r, e) refl

pub settle_missing : (rows : List Row) (name : Text) → is_option name ≡ true → settle (waits_for rows name) ≡ None
unfolding shape mask_command
settle_missing rows name o = rw (by_id name o) refl

pub wait_dashes : (k : Place) (rows : List Row) (name x : Text) (xs : List Text) → is_option name ≡ true → bytes_eq x (codes "--") ≡ true
    → end_of (at (waits_for rows name) (option name) (number k) false) (x ∷ xs) ≡ None
unfolding end_of walked
wait_dashes k rows name x xs o p = rw p (trailing_ends xs k (option name) (waits_for rows name) refl ∙ ap (option_and_then (put_words xs k)) (settle_missing rows name o))

-- the flag with a value
pub flag_value_ends : (k : Place) (h : Held) (n v x : Text) (xs : List Text)
    → bytes_eq x (codes "--") ≡ false → long_of x ≡ Some (n, Some v) → is_option n ≡ false → end_of (at h idle (number k) false) (x ∷ xs) ≡ None
unfolding end_of shape mask_command walked known
flag_value_ends k h n v x xs p q o = go (bytes_eq (codes "tallies") n) refl
  where
    go : (b : Bool) → bytes_eq (codes "tallies") n ≡ b → end_of (at h idle (number k) false) (x ∷ xs) ≡ None
    go true f = rw (p, q, by_name n, o, f) refl
    go false f = rw (p, q, by_name n, o, f) refl

-- ---- what a word is

abbrev pub IsClean : Text → Type 0
IsClean x = IsUtf8 x × (is_lone x ≡ false)

-- a word that begins with one hyphen
abbrev pub IsShort : Text → Type 0
IsShort x = (c : ℕ) × (cs : List ℕ) × (y : ℕ) × (ys : Text) × (short_of x ≡ Some (y ∷ ys)) × (chars (y ∷ ys) ≡ c ∷ cs)

pub eq_45 : (a : ℕ) → (a == 45) ≡ true → a ≡ 45
eq_45 a h = (Decides-eqb a 45).0 h

pub past_hyphen : (y : ℕ) (ys : Text) → IsUtf8 (45 ∷ y ∷ ys) → IsUtf8 (y ∷ ys)
past_hyphen y ys u = IsUtf8-past_char (45 ∷ y ∷ ys) (y ∷ ys) 45 u (rw (encode_ascii 45 (omega arith)))

pub chars_of_short : (y : ℕ) (ys : Text) → IsUtf8 (y ∷ ys) → (cs : List ℕ) → chars (y ∷ ys) ≡ cs → (c : ℕ) × (rest : List ℕ) × (chars (y ∷ ys) ≡ c ∷ rest)
chars_of_short y ys u [] e = absurd (some_chars y ys u [] e refl)
chars_of_short y ys u (c ∷ rest) e = (c, rest, e)

pub short_parts : (a b : ℕ) (rest : Text) → IsUtf8 (a ∷ b ∷ rest) → (a == 45) ≡ true → (b == 45) ≡ false → IsShort (a ∷ b ∷ rest)
short_parts a b rest u h d =
    let valid = past_hyphen b rest (subst (λ n. IsUtf8 (n ∷ b ∷ rest)) (eq_45 a h) u) in
    let some = chars_of_short b rest valid _ refl in
    (some.0, some.1, b, rest, rw (h, d) refl, some.2)

pub none_of_some : {A : Type 0} (a : A) → Some a ≡ None → ⊥
none_of_some a e = grind arith

pub long_parts : (a b : ℕ) (rest : Text) → (a == 45) ≡ true → (b == 45) ≡ true → bytes_eq (a ∷ b ∷ rest) (codes "--") ≡ false → long_of (a ∷ b ∷ rest) ≡ None → ⊥
long_parts a b [] h d p q = let bad : true ≡ false = rw (h, d) at p in absurd (true≢false bad)
long_parts a b (r ∷ rs) h d p q = none_of_some _ (rw (h, d) at q)

pub some_short : (x : Text) → IsClean x → begins_with_hyphen x ≡ true → bytes_eq x (codes "--") ≡ false → long_of x ≡ None → IsShort x
some_short [] c h p q = absurd (true≢false (sym h))
some_short (a ∷ []) c h p q = absurd (true≢false (sym h ∙ c.1))
some_short (a ∷ b ∷ rest) c h p q = split (b == 45) (λ d. absurd (long_parts a b rest h d p q)) (λ d. short_parts a b rest c.0 h d)

-- ---- the items that are read are put

abbrev pub reads : Option (List CommandItem) → Place → List Row → Option (List Row)
reads o k rows = option_and_then (λ items. put items k rows) o

pub and_then_same : {A B : Type 0} (f g : A → Option B) (o : Option A) → ((a : A) → f a ≡ g a) → option_and_then f o ≡ option_and_then g o
and_then_same f g (Some a) same = same a
and_then_same f g None same = refl

pub and_then_none : {A B : Type 0} (o : Option A) → option_and_then (λ (a : A). let r : Option B = None in r) o ≡ None
and_then_none (Some a) = refl
and_then_none None = refl

pub put_all : (xs : List Text) (k : Place) (rows : List Row) → put_words xs k rows ≡ put (map CommandItem.positional xs) k rows
unfolding put put_words
put_all [] k rows = refl
put_all (x ∷ xs) k rows = and_then_same _ _ (at_place k) (λ a. and_then_same _ _ (use_once a x rows) (λ after. put_all xs (next_place k) after))

pub reads_positional : (x : Text) (o : Option (List CommandItem)) (k : Place) (rows : List Row) → at_next (reads o) k x rows ≡ reads (after (CommandItem.positional x) o) k rows
unfolding put
reads_positional x (Some items) k rows = refl
reads_positional x None k rows = and_then_same _ _ (at_place k) (λ a. and_then_none (use_once a x rows)) ∙ and_then_none (at_place k)

pub reads_option : (n v : Text) (o : Option (List CommandItem)) (k : Place) (rows : List Row)
    → option_and_then (reads o k) (use_once (option_built n) v rows) ≡ reads (after (CommandItem.option n v) o) k rows
unfolding put
reads_option n v (Some items) k rows = refl
reads_option n v None k rows = and_then_none (use_once (option_built n) v rows)

abbrev pub flag_once : List Row → Option (List Row)
flag_once rows = if has_row (codes "tallies") rows then None else Some (used flag_built [] rows)

pub reads_flag : (o : Option (List CommandItem)) (k : Place) (rows : List Row)
    → option_and_then (reads o k) (flag_once rows) ≡ reads (after CommandItem.flag o) k rows
unfolding put
reads_flag (Some items) k rows = refl
reads_flag None k rows = and_then_none (flag_once rows)

abbrev pub IdleEnds : List Text → Type 0
IdleEnds xs = (k : Place) → Ends (reads (items_from None xs)) xs k false

abbrev pub WaitEnds : List Text → Type 0
WaitEnds xs = (k : Place) (rows : List Row) (name : Text) → is_option name ≡ true
    → end_of (at (waits_for rows name) (option name) (number k) false) xs ≡ reads (items_from (Some name) xs) k rows

-- what `end_of` is for words that come to no items
pub refused_idle : (k : Place) (h : Held) (xs : List Text) (o : Option (List CommandItem)) → o ≡ None → end_of (at h idle (number k) false) xs ≡ None
    → end_of (at h idle (number k) false) xs ≡ option_and_then (reads o k) (settle h)
refused_idle k h xs o is end = end ∙ sym (ap (λ (o : Option (List CommandItem)). option_and_then (reads o k) (settle h)) is ∙ and_then_none (settle h))

pub long_idle : (x : Text) (xs : List Text) (k : Place) (h : Held) (n : Text) (v : Option Text) → h.skip ≡ 0 → bytes_eq x (codes "--") ≡ false → long_of x ≡ Some (n, v)
    → IdleEnds xs → WaitEnds xs
    → end_of (at h idle (number k) false) (x ∷ xs) ≡ option_and_then (reads (long_item n v (λ waiting. items_from waiting xs)) k) (settle h)
unfolding known
long_idle x xs k h n (Some v) z p q idles waits = split (is_option n)
    (λ o. rw o (attached_ends (reads (items_from None xs)) k h n v x xs z p q o (idles k) ∙ and_then_same _ _ (settle h) (λ rows. reads_option n v (items_from None xs) k rows)))
    (λ o. refused_idle k h (x ∷ xs) _ (rw o) (flag_value_ends k h n v x xs p q o))
long_idle x xs k h n None z p q idles waits = split (is_option n)
    (λ o. rw o (waits_ends k h n x xs p q o ∙ and_then_same _ _ (settle h) (λ rows. rw z (waits k rows n o))))
    (λ o. split (bytes_eq (codes "tallies") n)
    (λ f. rw (o, f) (flag_ends (reads (items_from None xs)) k h x xs z p (q ∙ ap (λ t. Some (t, None)) (sym (named (codes "tallies") n f))) (idles k) ∙ and_then_same _ _ (settle h) (λ rows. reads_flag (items_from None xs) k rows)))
    (λ f. refused_idle k h (x ∷ xs) _ (rw (o, f)) (unknown_ends k h n x None xs p q (rw (o, f)))))

pub other_idle : (x : Text) (xs : List Text) (k : Place) (h : Held) → IsClean x → h.skip ≡ 0 → bytes_eq x (codes "--") ≡ false → IdleEnds xs → WaitEnds xs
    → (o : Option (Text × Option Text)) → long_of x ≡ o
    → end_of (at h idle (number k) false) (x ∷ xs) ≡ option_and_then (reads (other_item o x (λ waiting. items_from waiting xs)) k) (settle h)
other_idle x xs k h c z p idles waits (Some (n, v)) q = long_idle x xs k h n v z p q idles waits
other_idle x xs k h c z p idles waits None q = split (begins_with_hyphen x)
    (λ b. let s = some_short x c b p q in refused_idle k h (x ∷ xs) _ (rw b) (short_ends k h x [] s.0 s.1 s.2 s.3 xs z p q s.4 s.5))
    (λ b. let plain = plain_of x b in
    rw b (to_place (reads (items_from None xs)) k h idle false x xs z (plain_fine x h plain) (plain_met (number k) x h plain) (idles (next_place k)) ∙ and_then_same _ _ (settle h) (λ rows. reads_positional x (items_from None xs) k rows)))

pub dashes_idle : (x : Text) (xs : List Text) (k : Place) (h : Held) → h.skip ≡ 0 → bytes_eq x (codes "--") ≡ true
    → end_of (at h idle (number k) false) (x ∷ xs) ≡ option_and_then (reads (Some (map CommandItem.positional xs)) k) (settle h)
unfolding end_of walked
dashes_idle x xs k h z p = rw p (trailing_ends xs k idle h z ∙ and_then_same _ _ (settle h) (λ rows. put_all xs k rows))

pub idle_word : (x : Text) (xs : List Text) → IsClean x → IdleEnds xs → WaitEnds xs → IdleEnds (x ∷ xs)
unfolding items_from
idle_word x xs c idles waits k h z = split (bytes_eq x (codes "--"))
    (λ p. rw p (dashes_idle x xs k h z p))
    (λ p. rw p (other_idle x xs k h c z p idles waits (long_of x) refl))

pub hyphen_waits : (x : Text) (xs : List Text) (k : Place) (rows : List Row) (name : Text) → is_option name ≡ true → IsClean x → begins_with_hyphen x ≡ true
    → bytes_eq x (codes "--") ≡ false → (o : Option (Text × Option Text)) → long_of x ≡ o
    → end_of (at (waits_for rows name) (option name) (number k) false) (x ∷ xs) ≡ None
hyphen_waits x xs k rows name o c b p (Some (n, v)) q = wait_long k rows name x n v xs o p q (is_option n) refl (bytes_eq (codes "tallies") n) refl
hyphen_waits x xs k rows name o c b p None q = let s = some_short x c b p q in wait_short k rows name x s.0 s.1 s.2 s.3 xs p q s.4 s.5

pub wait_word : (x : Text) (xs : List Text) → IsClean x → IdleEnds xs → WaitEnds (x ∷ xs)
unfolding items_from
wait_word x xs c idles k rows name o = split (begins_with_hyphen x)
    (λ b. rw b (split (bytes_eq x (codes "--"))
    (λ p. wait_dashes k rows name x xs o p)
    (λ p. hyphen_waits x xs k rows name o c b p (long_of x) refl)))
    (λ b. let plain = plain_of x b in
    rw b (value_ends (reads (items_from None xs)) k rows 0 name x xs refl o plain.0 plain.1 plain.2 (idles k) ∙ reads_option name x (items_from None xs) k rows))

pub both : (xs : List Text) → All IsClean xs → IdleEnds xs × WaitEnds xs
unfolding items_from end_of put
both [] cs = (λ k h z. all_put (settle h), λ k rows name o. missing_ends k rows 0 name o)
both (x ∷ xs) cs =
    let c = All-head IsClean x xs cs in
    let later = both xs (All-tail IsClean x xs cs) in
    (idle_word x xs c later.0 later.1, wait_word x xs c later.0)
