-- What always holds of the store's table and of what its seats know, over any question: which tuples of some items
-- fail.
use Rattle.std.specs.Prelude.{◌≡◌, ◌≢◌, ℕ, suc, ◌+◌, ◌*◌, ◌/◌, ◌%◌, ◌^◌, ◌<◌, ◌≤◌, ◌⊎◌, Bool, true, false, nat_eq, List, [], ◌∷◌, length}
use Rattle.std.specs.List.{IsDistinct}
use mathlib.Core.Option.{some}
use lib.ListN.{get_elem?}
use Rattle.tuple_model.specs.Limits.{most_items, most_size}
use Rattle.tuple_model.specs.Tuples.{IsTuple, IsSubset, HasRank, tuples, subset}
use Rattle.tuple_order.specs.Codes.{code_of}
use Rattle.cover_core.specs.declared.state.View.{View}
use Rattle.cover_core.specs.declared.state.State.{State}

-- of how many items is asked, of at most how many of them at once, and which tuples fail
pub record Asked : Type 1 where
  pub items : ℕ
  pub size : ℕ
  pub Fails : List ℕ → Type 0

-- the question with these parts
abbrev pub question_of : ℕ → ℕ → (List ℕ → Type 0) → Asked
question_of items size Fails = record { items = items; size = size; Fails = Fails }

-- how many tuples there are
abbrev pub total_of : Asked → ℕ
total_of a = length (tuples a.items a.size)

-- Places and paths

-- the place where the path of a code begins, in a table of a power of two words
unfoldable pub home_of : ℕ → ℕ → ℕ
home_of width code = code * 11400714819323198485 % 2 ^ 64 / (2 ^ 64 / width)

-- the place that is so many steps along the path of a code, which goes through all places
abbrev pub path : ℕ → ℕ → ℕ → ℕ
path width code step = (home_of width code + step) % width

-- the word is at the place
abbrev pub IsAt : List ℕ → ℕ → ℕ → Type 0
IsAt words place word = get_elem? words place ≡ some word

-- another code stands at the place
abbrev pub Other : List ℕ → ℕ → ℕ → Type 0
Other words place code = (word : ℕ) × IsAt words place word × (word ≢ 0) × (word ≢ code)

-- each place before a stored code on its path holds another code
abbrev pub InOrder : ℕ → List ℕ → Type 0
InOrder width words = (code k j : ℕ) → code ≢ 0 → k < width → IsAt words (path width code k) code →
    j < k → Other words (path width code j) code

-- Lists of views

-- an element stands in a list
abbrev pub Has : {X : Type 0} → X → List X → Type 0
Has x [] = ⊥
Has x (y ∷ ys) = (y ≡ x) ⊎ Has x ys

-- each element comes before all that stand after it
abbrev pub Rises : {X : Type 0} → (X → X → Type 0) → List X → Type 0
Rises Before [] = Unit {0}
Rises {X} Before (x ∷ xs) = ((y : X) → Has y xs → Before x y) × Rises Before xs

-- a number is below another
abbrev pub IsBelow : ℕ → ℕ → Type 0
IsBelow m n = m < n

-- of two pairs, the place in the first is below that in the second
abbrev pub IsPlaceBefore : ℕ × ℕ → ℕ × ℕ → Type 0
IsPlaceBefore x y = x.0 < y.0

-- of two ranges, the first begins before the second, or both begin at one rank and the first ends before
abbrev pub IsRangeBefore : ℕ × ℕ → ℕ × ℕ → Type 0
IsRangeBefore x y = (x.0 < y.0) ⊎ ((x.0 ≡ y.0) × (x.1 < y.1))

-- it holds of each view
abbrev pub Each : (View → Type 0) → List View → Type 0
Each P views = (seat : ℕ) (v : View) → get_elem? views seat ≡ some v → P v

-- it holds of some seat's view
pub record Any (P : View → Type 0) (views : List View) : Type 0 where
  pub seat : ℕ
  pub view : View
  pub at : get_elem? views seat ≡ some view
  pub has : P view

-- a sum over all views
abbrev pub total : (View → ℕ) → List View → ℕ
total f [] = 0
total f (v ∷ vs) = f v + total f vs

-- 1 for yes, 0 for no
abbrev pub one_if : Bool → ℕ
one_if true = 1
one_if false = 0

-- how often a number stands in a list
abbrev pub times : ℕ → List ℕ → ℕ
times n [] = 0
times n (x ∷ xs) = one_if (nat_eq x n) + times n xs

-- What a view tells

-- an open range has the rank
pub record Covers (rank : ℕ) (v : View) : Type 0 where
  pub range : ℕ × ℕ
  pub held : Has range v.held
  pub from : range.0 ≤ rank
  pub to : rank < range.1

-- the seat saw the code at the place
abbrev pub Saw : ℕ → ℕ → View → Type 0
Saw place code v = Has (place, code) v.seen

-- What holds of the words

-- a tuple of the question, all of whose items the other has
pub record IsWithin (a : Asked) (s t : List ℕ) : Type 0 where
  pub tuple : IsTuple a.items a.size s
  pub subset : IsSubset s t

-- a subset of the tuple is stored
pub record Met (a : Asked) (words t : List ℕ) : Type 0 where
  pub subset : List ℕ
  pub within : IsWithin a subset t
  pub place : ℕ
  pub stored : IsAt words place (code_of subset)

-- the code is that of a failing tuple that was claimed
pub record Fits (a : Asked) (cursor code : ℕ) : Type 0 where
  pub tuple : List ℕ
  pub rank : ℕ
  pub ranked : HasRank a.items a.size tuple rank
  pub coded : code_of tuple ≡ code
  pub fails : a.Fails tuple
  pub claimed : rank < cursor

-- whichever tuple has the code is one of the question's, and fails
abbrev pub IsFailing : Asked → ℕ → Type 0
IsFailing a code =
    (t : List ℕ) → IsTuple most_items most_size t → code_of t ≡ code → IsTuple a.items a.size t × a.Fails t

-- The lists of a view rise, and so hold nothing twice: ranges by their first rank and then by their end, seen pairs and
-- places that were found empty by place, codes that were made by their numbers.
pub record ListsRise (v : View) : Type 0 where
  pub held : Rises IsRangeBefore v.held
  pub seen : Rises IsPlaceBefore v.seen
  pub made : Rises IsBelow v.made
  pub bare : Rises IsPlaceBefore v.bare

-- What holds of each view: its cursor is no further than the cursor; its open ranges are not empty, and lie below the
-- cursor; each pair that it has seen stands in the table; where it has no parts, it has nothing; and its lists rise.
pub record ViewOk (cursor : ℕ) (words : List ℕ) (v : View) : Type 0 where
  pub below : v.cursor ≤ cursor
  pub ranges : (x : ℕ × ℕ) → Has x v.held → (x.0 < x.1) × (x.1 ≤ cursor)
  pub true_pairs : (x : ℕ × ℕ) → Has x v.seen → IsAt words x.0 x.1 × (x.1 ≢ 0)
  pub nothing : v.parts ≡ 0 → (v.held ≡ []) × (v.seen ≡ []) × (v.made ≡ []) × (v.bare ≡ [])
  pub lists : ListsRise v

-- What always holds of a state:
-- `cursor_most`: the cursor is at most the number of tuples;
-- `fitting`: each word that isn't 0 is the code of a failing tuple with a rank below the cursor;
-- `in_order`: each place before a stored code on its path holds another code, so no code is stored twice;
-- `claimed`: each failing tuple with a rank below the cursor has a stored subset, or its rank is in an open range;
-- `seen_by`: each stored code was seen by some seat at its place;
-- `each_view`: what holds of each view;
-- `parts`: the views have 64 parts in all;
-- `made` and `made_none`: each code stands so many times in the lists `made` of all views as in the table, which is
-- once at most; and 0, which stands for an empty place, is in none of these lists.
pub record CoreOk (a : Asked) (s : State) : Type 0 where
  pub cursor_most : s.cursor ≤ total_of a
  pub fitting : (place code : ℕ) → IsAt s.words place code → code ≢ 0 → Fits a s.cursor code
  pub in_order : InOrder (length s.words) s.words
  pub claimed : (rank : ℕ) (t : List ℕ) → HasRank a.items a.size t rank → a.Fails t → rank < s.cursor →
      Met a s.words t ⊎ Any (Covers rank) s.views
  pub seen_by : (place code : ℕ) → IsAt s.words place code → code ≢ 0 → Any (Saw place code) s.views
  pub each_view : Each (ViewOk s.cursor s.words) s.views
  pub parts : total (λ v. v.parts) s.views ≡ 64
  pub made : (code : ℕ) → total (λ v. times (suc code) v.made) s.views ≡ times (suc code) s.words
  pub made_none : total (λ v. times 0 v.made) s.views ≡ 0

-- The state is at rest: all ranks were claimed, and no range is open.
pub record Quiet (a : Asked) (s : State) : Type 0 where
  pub done : s.cursor ≡ total_of a
  pub closed : Each (λ v. v.held ≡ []) s.views

-- the tuple is stored
abbrev pub IsStored : List ℕ → List ℕ → Type 0
IsStored words t = (place : ℕ) × IsAt words place (code_of t)

-- the tuple is stored, and no other stored tuple of the question is within it
abbrev pub IsLeast : List ℕ → List ℕ → Type 0
IsLeast words t = IsStored words t × ((k : ℕ) → suc k < 2 ^ length t → IsStored words (subset k t) → ⊥)

-- so many tuples fail: there are so many different ranks, each of a failing tuple
pub record ManyFail (a : Asked) (n : ℕ) : Type 0 where
  pub ranks : List ℕ
  pub many : length ranks ≡ n
  pub distinct : IsDistinct nat_eq ranks
  pub each : (rank : ℕ) → Has rank ranks → (t : List ℕ) × HasRank a.items a.size t rank × a.Fails t
