-- A `Given` that holds what the rows hold is the line of the items.
use Rattle.std.proofs.Common.{◌≡◌, ◌==◌, Bool, true, false, sym, List, [], ◌∷◌, Option, Some, None, codes, length, true≢false, if◌then◌else◌, suc, ℕ, arith}
use Rattle.std.specs.Prelude.{slice_get}
use Rattle.std.proofs.lemmas.Bool.Decides.{Decides-eqb}
use Rattle.mask_words.proofs.Rows.{both_true}
use Rattle.mask_words.proofs.Walk.{none_of_some}
use Rattle.mask_words.specs.Reading.{Text, CommandItem, CommandLine, two_words, command_line_of, positionals, names_given, given_text, has_flag, all_differ}
use Rattle.mask_words.specs.Taken.{is_complete}

some_same : {A : Type 0} (a b : A) → Some a ≡ Some b → a ≡ b
some_same a b e = cc

pub flag_is : (b : Bool) (t : Option Text) (r : Bool) → t ≡ Some (if b then codes "true" else codes "false")
    → (t ≡ Some (codes "true") → r ≡ true) → (t ≡ Some (codes "false") → r ≡ false) → r ≡ b
flag_is true t r is yes' no' = yes' is
flag_is false t r is yes' no' = no' is

not_two : (n : ℕ) → (suc (suc (suc n)) == 2) ≡ true → ⊥
not_two n e = let bad : suc (suc (suc n)) ≡ 2 = (Decides-eqb (suc (suc (suc n))) 2).0 e in absurd (omega arith)

-- the values of the options, in order
pub record Filled (items : List CommandItem) (l : CommandLine) : Type 0 where
  pub size : l.size ≡ given_text (codes "size") items
  pub workers : l.workers ≡ given_text (codes "workers") items
  pub block : l.block ≡ given_text (codes "block") items
  pub budget : l.budget ≡ given_text (codes "budget") items
  pub words : l.words ≡ given_text (codes "words") items
  pub wires : l.wires ≡ given_text (codes "wires") items
  pub tallies : l.tallies ≡ has_flag items

fill : (ps : List Text) (items : List CommandItem) (l : CommandLine) → (length ps == 2) ≡ true → Some l.task ≡ slice_get ps 0 → Some l.argument ≡ slice_get ps 1 → Filled items l
    → Some l ≡ two_words ps items
fill [] items l n t a f = absurd (none_of_some l.task t)
fill (x ∷ []) items l n t a f = absurd (none_of_some l.argument a)
fill (x ∷ y ∷ []) items l n t a f =
    let tx = some_same l.task x t in
    let ay = some_same l.argument y a in
    λ i. Some (record {
      task = tx i;
      argument = ay i;
      size = f.size i;
      workers = f.workers i;
      block = f.block i;
      budget = f.budget i;
      words = f.words i;
      wires = f.wires i;
      tallies = f.tallies i;
    })
fill (x ∷ y ∷ z ∷ ps) items l n t a f = absurd (not_two (length ps) n)

pub filled : (items : List CommandItem) (l : CommandLine) → is_complete items ≡ true → Some l.task ≡ slice_get (positionals items) 0 → Some l.argument ≡ slice_get (positionals items) 1 → Filled items l
    → Some l ≡ command_line_of items
filled items l complete t a f =
    let b = both_true (length (positionals items) == 2) (all_differ (names_given items)) complete in
    rw b.1 (fill (positionals items) items l b.0 t a f)

-- a complete list of items has both words
two_there : (ps : List Text) → (length ps == 2) ≡ true → (slice_get ps 0 ≡ None → ⊥) × (slice_get ps 1 ≡ None → ⊥)
two_there [] n = absurd (true≢false (sym n))
two_there (x ∷ []) n = absurd (true≢false (sym n))
two_there (x ∷ y ∷ ps) n = (none_of_some x, none_of_some y)

pub both_there : (items : List CommandItem) → is_complete items ≡ true → (slice_get (positionals items) 0 ≡ None → ⊥) × (slice_get (positionals items) 1 ≡ None → ⊥)
both_there items complete = two_there (positionals items) (both_true (length (positionals items) == 2) (all_differ (names_given items)) complete).0
