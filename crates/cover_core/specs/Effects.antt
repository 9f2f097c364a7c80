-- What each kind of step does to the view of its seat, and what a view shows.
use Rattle.std.specs.Prelude.{◌≡◌, ◌≢◌, ℕ, zero, suc, ◌+◌, ◌-◌, ◌^◌, ◌<◌, ◌≤◌, ◌⊎◌, Bool, ◌&&◌, ◌||◌, if◌then◌else◌, nat_eq, nat_lt, Option, Some, None, List, [], ◌∷◌, length}
use Rattle.tuple_model.specs.Tuples.{HasRank, subset}
use Rattle.tuple_order.specs.Codes.{code_of}
use Rattle.cover_core.specs.declared.state.View.{View}
use Rattle.cover_core.specs.Core.{Asked, path, Has, Covers, Saw, IsWithin}

-- Putting into rising lists, and taking out. As sets they gain what is put in and lose what is taken out, and they go
-- on to rise: `sets_law` and `lists_law` say so.

-- both numbers are equal
abbrev pub same_pair : ℕ × ℕ → ℕ × ℕ → Bool
same_pair x y = nat_eq x.0 y.0 && nat_eq x.1 y.1

-- the first number is smaller, or it is equal and the second is smaller
abbrev pub comes_first : ℕ × ℕ → ℕ × ℕ → Bool
comes_first x y = nat_lt x.0 y.0 || (nat_eq x.0 y.0 && nat_lt x.1 y.1)

-- a pair joins a rising list, once
abbrev pub put_pair : ℕ × ℕ → List (ℕ × ℕ) → List (ℕ × ℕ)
put_pair x [] = x ∷ []
put_pair x (y ∷ ys) = if same_pair x y then y ∷ ys else (if comes_first x y then x ∷ y ∷ ys else y ∷ put_pair x ys)

-- so do all pairs of another list
abbrev pub put_pairs : List (ℕ × ℕ) → List (ℕ × ℕ) → List (ℕ × ℕ)
put_pairs [] ys = ys
put_pairs (x ∷ xs) ys = put_pair x (put_pairs xs ys)

-- a number joins a rising list
abbrev pub put_number : ℕ → List ℕ → List ℕ
put_number c [] = c ∷ []
put_number c (y ∷ ys) = if nat_lt y c then y ∷ put_number c ys else c ∷ y ∷ ys

-- so do all numbers of another list
abbrev pub put_numbers : List ℕ → List ℕ → List ℕ
put_numbers [] ys = ys
put_numbers (x ∷ xs) ys = put_number x (put_numbers xs ys)

-- the first such pair leaves
abbrev pub take_out : ℕ × ℕ → List (ℕ × ℕ) → List (ℕ × ℕ)
take_out x [] = []
take_out x (y ∷ ys) = if same_pair x y then ys else y ∷ take_out x ys

-- the place has this number, in place of an older one
abbrev pub put_bare : ℕ → ℕ → List (ℕ × ℕ) → List (ℕ × ℕ)
put_bare p m [] = (p, m) ∷ []
put_bare p m (y ∷ ys) =
    if nat_lt y.0 p then y ∷ put_bare p m ys
    else (if nat_eq y.0 p then (p, m) ∷ ys else (p, m) ∷ y ∷ ys)

-- What a step does to the view. Each step of a seat raises its moves by one.

-- the seat has seen the cursor, which is here
abbrev pub knows : ℕ → View → View
knows cursor v = record v { cursor = cursor; moves = suc v.moves }

-- the seat has claimed the ranks from its cursor up to another: they are an open range of its
abbrev pub opens : ℕ → View → View
opens to v = record v { cursor = to; held = put_pair (v.cursor, to) v.held; moves = suc v.moves }

-- the seat has loaded the word at a place: where it is a code, the pair is seen; where it is 0, the place is noted as
-- found empty at this move, in place of an older note
abbrev pub looks : ℕ → ℕ → View → View
looks p zero v = record v { moves = suc v.moves; bare = put_bare p (suc v.moves) v.bare }
looks p (suc c) v = record v { seen = put_pair (p, suc c) v.seen; moves = suc v.moves }

-- the seat has stored a code at a place, and so has seen it there and made it
abbrev pub publishes : ℕ → ℕ → View → View
publishes p c v = record v { seen = put_pair (p, c) v.seen; made = put_number c v.made; moves = suc v.moves }

-- the seat has given up a range, and seen the cursor
abbrev pub settles : ℕ × ℕ → ℕ → View → View
settles x cursor v = record v { cursor = cursor; held = take_out x v.held; moves = suc v.moves }

-- the seat has given away so many of its parts
abbrev pub split_left : ℕ → View → View
split_left parts v = record v { parts = v.parts - parts; moves = suc v.moves }

-- the view of the new seat that they went to: it has seen what the seat has seen, and has nothing else
abbrev pub split_right : ℕ → View → View
split_right parts v = record {
  parts = parts;
  cursor = v.cursor;
  held = [];
  seen = v.seen;
  made = [];
  moves = 0;
  bare = [];
}

-- the seat with the view v has taken in what the one with the view u had, but for the places which that found empty
abbrev pub joins : View → View → View
joins v u = record v {
  parts = v.parts + u.parts;
  cursor = (if nat_lt v.cursor u.cursor then u.cursor else v.cursor);
  held = put_pairs u.held v.held;
  seen = put_pairs u.seen v.seen;
  made = put_numbers u.made v.made;
  moves = suc v.moves;
}

-- the view of a seat that was taken in
abbrev pub spent : View
spent = record { parts = 0; cursor = 0; held = []; seen = []; made = []; moves = 0; bare = [] }

-- the view of seat 0 in the opening state
abbrev pub first_view : View
first_view = record { parts = 64; cursor = 0; held = []; seen = []; made = []; moves = 0; bare = [] }

-- What a view shows

-- the view has seen the code at some place
abbrev pub Seen : ℕ → View → Type 0
Seen code v = (place : ℕ) × Saw place code v

-- the view has seen the code nowhere
abbrev pub Unseen : ℕ → View → Type 0
Unseen code v = (place : ℕ) → Saw place code v → ⊥

-- the view has seen a subset of the tuple
pub record SeenWithin (a : Asked) (t : List ℕ) (v : View) : Type 0 where
  pub subset : List ℕ
  pub within : IsWithin a subset t
  pub seen : Seen (code_of subset) v

-- the view has seen a subset of each failing tuple of the range
abbrev pub Answered : Asked → ℕ × ℕ → View → Type 0
Answered a x v = (rank : ℕ) (t : List ℕ) → HasRank a.items a.size t rank → a.Fails t →
    x.0 ≤ rank → rank < x.1 → SeenWithin a t v

-- the view has seen another code at each place of the path before the k-th
abbrev pub PassedBy : ℕ → ℕ → ℕ → View → Type 0
PassedBy width code k v = (j : ℕ) → j < k → (d : ℕ) × Saw (path width code j) d v × (d ≢ code)

-- The view shows a code absent since a move: it has seen another code at each place of the path, or at each before one
-- that it found empty later than that move.
abbrev pub ShowsAbsent : ℕ → ℕ → ℕ → View → Type 0
ShowsAbsent width code move v =
    PassedBy width code width v
    ⊎ ((k : ℕ) × (k < width) × PassedBy width code k v
    × ((b : ℕ) × Has (path width code k, b) v.bare × (move < b)))

-- the numbers of the empty places are those of moves that were made
abbrev pub Fresh : View → Type 0
Fresh v = (x : ℕ × ℕ) → Has x v.bare → x.1 ≤ v.moves

-- what was shown absent stays so
abbrev pub Shows : ℕ → View → View → Type 0
Shows width v w = (code move : ℕ) → ShowsAbsent width code move v → ShowsAbsent width code move w

-- the seat has only looked
pub record OnlyLooked (v w : View) : Type 0 where
  pub parts : w.parts ≡ v.parts
  pub held : w.held ≡ v.held
  pub made : w.made ≡ v.made
  pub cursor : v.cursor ≤ w.cursor
  pub moves : v.moves ≤ w.moves
  pub seen : (x : ℕ × ℕ) → Has x v.seen → Has x w.seen

-- the seat has only looked, and shows absent what it showed absent before
pub record Further (width : ℕ) (v w : View) : Type 0 where
  pub only : OnlyLooked v w
  pub shows : Shows width v w

-- each subset of the tuple was absent at a move after the view v, which had seen none
abbrev pub NoneStored : ℕ → List ℕ → View → View → Type 0
NoneStored width t v w = (k : ℕ) → k < 2 ^ length t →
    ShowsAbsent width (code_of (subset k t)) v.moves w × Unseen (code_of (subset k t)) v

-- what a look at all subsets of a tuple answers
abbrev pub Looks : Asked → ℕ → List ℕ → View → View → Option (List ℕ) → Type 0
Looks a width t v w (Some s) = IsWithin a s t × a.Fails s × Seen (code_of s) w
Looks a width t v w None = NoneStored width t v w

-- the tuple's rank is in an open range
pub record Open (a : Asked) (t : List ℕ) (v : View) : Type 0 where
  pub rank : ℕ
  pub ranked : HasRank a.items a.size t rank
  pub covered : Covers rank v

-- what a seat needs for storing a tuple's code at a place: k steps along the code's path
pub record Due (a : Asked) (width : ℕ) (v : View) (k code : ℕ) : Type 0 where
  pub tuple : List ℕ
  pub rank : ℕ
  pub coded : code_of tuple ≡ code
  pub fails : a.Fails tuple
  pub ranked : HasRank a.items a.size tuple rank
  pub covered : Covers rank v
  pub passed : PassedBy width code k v
