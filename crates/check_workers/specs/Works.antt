-- What a worker's calls mean.
use Rattle.std.specs.Prelude.{◌≡◌, ℕ, zero, suc, ◌+◌, ◌-◌, ◌*◌, ◌^◌, ◌<◌, ◌≤◌, ◌⊎◌, Bool, true, false, min, max, Option, Some, None, List, [], length, take}
use Rattle.tuple_model.specs.Tuples.{HasRank, IsSubset, tuples}
use Rattle.tuple_model.specs.Minimal.{IsAnswer}
use Rattle.tuple_order.specs.Codes.{code_of}
use Rattle.cover_core.specs.declared.state.View.{View}
use Rattle.cover_core.specs.Core.{Asked, total_of, Has, IsWithin, ManyFail}
use Rattle.cover_core.specs.Effects.{put_number, PassedBy, Seen, SeenWithin, Shows, NoneStored}
use Rattle.claim_store.specs.Rule.{IsTight}
use Rattle.claim_store.specs.Closing.{ClosedSeen}
use Rattle.check_workers.specs.declared.one.Work.{Work}
use Rattle.check_workers.specs.declared.one.Work.TheVariants.{Covered, Clean, Bad, Full}

-- at most one code was made, and nothing was lost
pub record Worked (width code : ℕ) (v w : View) : Type 0 where
  pub parts : w.parts ≡ v.parts
  pub held : w.held ≡ v.held
  pub made : (w.made ≡ v.made) ⊎ (w.made ≡ put_number code v.made)
  pub cursor : v.cursor ≤ w.cursor
  pub moves : v.moves ≤ w.moves
  pub seen : (x : ℕ × ℕ) → Has x v.seen → Has x w.seen
  pub shows : Shows width v w

-- What came of the tuple, from the view v to w. Covered: this subset of it fails, and was seen. Clean: it doesn't fail.
-- Bad: it fails, and was seen. Full: it fails, another code was seen at each place of its path, and nothing was made.
abbrev pub Came : Asked → ℕ → List ℕ → View → View → Work → Type 0
Came a width t v w (Covered s) = IsWithin a s t × a.Fails s × Seen (code_of s) w
Came a width t v w Clean = a.Fails t → ⊥
Came a width t v w Bad = a.Fails t × Seen (code_of t) w
Came a width t v w Full = a.Fails t × IsTight a width × PassedBy width (code_of t) width w × (w.made ≡ v.made)

-- at most one step, and one only where no subset was stored
abbrev pub Counted : ℕ → List ℕ → View → View → ℕ → ℕ → Type 0
Counted width t v w before after = (after ≡ before) ⊎ ((after ≡ before + 1) × NoneStored width t v w)

-- the view has seen a subset of each failing tuple of these ranks
abbrev pub Done : Asked → ℕ → ℕ → View → Type 0
Done a from to v = (rank : ℕ) (t : List ℕ) → HasRank a.items a.size t rank → a.Fails t → from ≤ rank → rank < to →
    SeenWithin a t v

-- a tuple's items but the last
abbrev pub prefix_of : List ℕ → List ℕ
prefix_of t = take (length t - 1) t

-- each tuple with one of these ranks has all these items
abbrev pub ShareItems : ℕ → ℕ → List ℕ → ℕ → ℕ → Type 0
ShareItems items size p from to = (rank : ℕ) (t : List ℕ) → HasRank items size t rank → from ≤ rank → rank < to →
    IsSubset p t

-- the tuple has this rank, where the rank is one
abbrev pub IsAtRank : ℕ → ℕ → ℕ → List ℕ → Type 0
IsAtRank items size rank t = rank < length (tuples items size) → HasRank items size t rank

-- the seat has no range open, and has seen that all ranks are claimed
pub record Idle (ranks : ℕ) (v : View) : Type 0 where
  pub held : v.held ≡ []
  pub cursor : v.cursor ≡ ranks

-- what a worker's view and flag say at its end: it is idle, or the table was full
pub record Served (a : Asked) (width : ℕ) (met_full : Bool) (v : View) : Type 0 where
  pub idle : met_full ≡ false → Idle (total_of a) v
  pub full : met_full ≡ true → IsTight a width

-- there is a value, and the fact holds of it
pub record IsSomeWhere {X : Type 0} (P : X → Type 0) (o : Option X) : Type 0 where
  pub value : X
  pub is : o ≡ Some value
  pub holds : P value

-- Rounds

-- the least power of two that is at least n
pub record IsLeastPower (n power : ℕ) : Type 0 where
  pub exponent : ℕ
  pub is : power ≡ 2 ^ exponent
  pub enough : n ≤ power
  pub least : (k : ℕ) → n ≤ 2 ^ k → power ≤ 2 ^ k

-- how many words the table of a round has: four times as many as that of the round before, up to the cap
abbrev pub round_words : ℕ → ℕ → ℕ → ℕ
round_words first cap zero = min first cap
round_words first cap (suc round) = min (4 * round_words first cap round) cap

-- what a round ends with
abbrev pub RoundEnds : Asked → ℕ → Option ClosedSeen → Type 0
RoundEnds a words (Some closed) = IsAnswer a.Fails a.items a.size closed.live × (closed.cursor ≡ total_of a)
    × (closed.words ≡ words)
RoundEnds a words None = IsTight a words

-- The words are those of a round's table. Where it isn't the first, as many tuples fail as the table of the round before
-- had words.
pub record IsRound (a : Asked) (first_words words : ℕ) : Type 0 where
  pub first : ℕ
  pub cap : ℕ
  pub first_is : IsLeastPower first_words first
  pub cap_is : IsLeastPower (max (total_of a) 4) cap
  pub round : ℕ
  pub words_are : words ≡ round_words first cap round
  pub grown : (before : ℕ) → round ≡ suc before → ManyFail a (round_words first cap before)

-- a store that was closed with the answer, when all ranks had been claimed
pub record IsFound (a : Asked) (first_words : ℕ) (closed : ClosedSeen) : Type 0 where
  pub answer : IsAnswer a.Fails a.items a.size closed.live
  pub cursor : closed.cursor ≡ total_of a
  pub words : IsRound a first_words closed.words
