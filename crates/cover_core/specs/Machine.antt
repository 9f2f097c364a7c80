-- The store as a machine: where each kind of step is allowed, what it does, and runs of steps.
use Rattle.std.specs.Prelude.{◌≡◌, ◌≢◌, ℕ, ◌<◌, ◌≤◌, if◌then◌else◌, nat_eq, replicate, take, List, [], ◌∷◌, ◌++◌, length, slice_get, slice_index, slice_set, Some}
use mathlib.Core.Option as maybe
use lib.ListN.{get_elem?}
use Rattle.tuple_model.specs.Tuples.{HasRank}
use Rattle.tuple_order.specs.Codes.{code_of}
use Rattle.cover_core.specs.declared.state.View.{View}
use Rattle.cover_core.specs.declared.state.State.{State}
use Rattle.cover_core.specs.declared.kind.At.TheVariants.{Cursor, Place}
use Rattle.cover_core.specs.declared.kind.Kind.{Kind}
use Rattle.cover_core.specs.declared.kind.Kind.TheVariants.{Split, Join, Claim, Look, Publish, Settle}
use Rattle.cover_core.specs.Core.{Asked, total_of, path, Has, Covers}
use Rattle.cover_core.specs.Effects.{knows, opens, looks, publishes, settles, split_left, split_right, joins, spent, first_view, Answered, PassedBy}

-- the seat has another view
abbrev pub with_view : State → ℕ → View → State
with_view s seat w = record { cursor = s.cursor; words = s.words; views = slice_set s.views seat w }

-- the seat has taken in another one; where that has no view, nothing happens
abbrev pub joined : State → ℕ → View → ℕ → maybe.Option View → State
joined s seat v other maybe.none = s
joined s seat v other (maybe.some u) = record {
  cursor = s.cursor;
  words = s.words;
  views = slice_set (slice_set s.views seat (joins v u)) other spent;
}

-- What a step does, by a seat with the view v. A claim by a seat whose cursor isn't the cursor opens nothing, and a
-- publication at a place that isn't empty stores nothing: the seat then sees what is there.
abbrev pub acts : State → ℕ → View → Kind → State
acts s seat v (Split parts) = record {
  cursor = s.cursor;
  words = s.words;
  views = slice_set s.views seat (split_left parts v) ++ split_right parts v ∷ [];
}
acts s seat v (Join other) = joined s seat v other (get_elem? s.views other)
acts s seat v (Claim to) =
    if nat_eq s.cursor v.cursor
    then record { cursor = to; words = s.words; views = slice_set s.views seat (opens to v) }
    else with_view s seat (knows s.cursor v)
acts s seat v (Look Cursor) = with_view s seat (knows s.cursor v)
acts s seat v (Look (Place p)) = with_view s seat (looks p (slice_index s.words p) v)
acts s seat v (Publish p t) =
    if nat_eq (slice_index s.words p) 0
    then record {
      cursor = s.cursor;
      words = slice_set s.words p (code_of t);
      views = slice_set s.views seat (publishes p (code_of t) v);
    }
    else with_view s seat (looks p (slice_index s.words p) v)
acts s seat v (Settle x) = with_view s seat (settles (x.from, x.to) s.cursor v)

-- The seat may publish the tuple at the place: the tuple fails, its rank is in an open range of the seat, the place is
-- on the path of its code, and at each place before it on the path the seat has seen another code.
pub record MayPublish (a : Asked) (s : State) (v : View) (place : ℕ) (t : List ℕ) : Type 0 where
  pub fails : a.Fails t
  pub rank : ℕ
  pub ranked : HasRank a.items a.size t rank
  pub covered : Covers rank v
  pub step : ℕ
  pub short : step < length s.words
  pub inside : place < length s.words
  pub on_path : place ≡ path (length s.words) (code_of t) step
  pub passed : PassedBy (length s.words) (code_of t) step v

-- there is another seat with the number, and it is not spent
pub record IsAnother (s : State) (seat other : ℕ) : Type 0 where
  pub apart : other ≢ seat
  pub view : View
  pub at : get_elem? s.views other ≡ maybe.some view
  pub some_parts : 0 < view.parts

-- a seat with the view v that is not spent may take the step
abbrev pub Can : Asked → State → ℕ → View → Kind → Type 0
Can a s seat v (Split parts) = (0 < parts) × (parts < v.parts)
Can a s seat v (Join other) = IsAnother s seat other
Can a s seat v (Claim to) = (v.cursor < to) × (to ≤ total_of a)
Can a s seat v (Look Cursor) = Unit {0}
Can a s seat v (Look (Place p)) = p < length s.words
Can a s seat v (Publish p t) = MayPublish a s v p t
Can a s seat v (Settle x) = Has (x.from, x.to) v.held × Answered a (x.from, x.to) v

-- there is such a seat, it is not spent, and it may take the step
pub record Allowed (a : Asked) (s : State) (seat : ℕ) (kind : Kind) : Type 0 where
  pub view : View
  pub at : get_elem? s.views seat ≡ maybe.some view
  pub some_parts : 0 < view.parts
  pub can : Can a s seat view kind

-- the state after a step by a seat with the view; without a view nothing happens
abbrev pub after_view : State → ℕ → Kind → maybe.Option View → State
after_view s seat kind maybe.none = s
after_view s seat kind (maybe.some v) = acts s seat v kind

-- the state after a step by a seat
abbrev pub after : State → ℕ → Kind → State
after s seat kind = after_view s seat kind (get_elem? s.views seat)

-- the steps, each by its seat, are a run from one state to another
abbrev pub IsRun : Asked → List (ℕ × Kind) → State → State → Type 0
IsRun a [] s end = s ≡ end
IsRun a (x ∷ xs) s end = Allowed a s x.0 x.1 × IsRun a xs (after s x.0 x.1) end

-- no rank is claimed, each place is empty, and seat 0 has all parts
abbrev pub opening : ℕ → State
opening width = record { cursor = 0; words = replicate width 0; views = first_view ∷ [] }

-- the first k steps are a run, and the next is not allowed
pub record StopsAt (a : Asked) (steps : List (ℕ × Kind)) (s : State) (k : ℕ) : Type 0 where
  pub reached : State
  pub run : IsRun a (take k steps) s reached
  pub step : ℕ × Kind
  pub next : slice_get steps k ≡ Some step
  pub not : Allowed a reached step.0 step.1 → ⊥
