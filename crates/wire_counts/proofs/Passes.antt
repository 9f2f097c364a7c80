-- The walk through tuples of some ranks, and what has been counted at each.
use Rattle.std.proofs.Common.{◌≡◌, ℕ, zero, suc, ◌+◌, ◌-◌, ◌*◌, ◌^◌, ◌<◌, ◌≤◌, Bool, true, false, List, [], ◌∷◌, ◌++◌, length, take, drop, Option, Some, None, refl, ap, sym, ◌∙◌, inl, inr, arith, subst}
use Rattle.std.specs.Prelude.{slice_index, IfSome, IfNone}
use Rattle.std.specs.Option.{is_some}
use Rattle.std.specs.List.{slice_get, sum_by}
use Rattle.std.proofs.lemmas.Bool.{cases_Bool}
use Rattle.std.proofs.lemmas.List.{take_all, take-take, drop-take}
use Rattle.std.proofs.lemmas.Option.{slice_get_within, get_or_from_slice_get}
use Rattle.std.proofs.lemmas.List.Sums.{sum_by-cons, sum_by_more, sum_by-take-drop, sum_by-take-le, sum_by-le-sum_by}
use Rattle.tuple_model.specs.Tuples.{HasRank, rising, tuples}
use Rattle.tuple_model.specs.Minimal.{Picks}
use Rattle.tuple_model.specs.Antichains.{Covers}
use Rattle.antichain_list.specs.Lists.{IsFirstSubset}
use Rattle.wire_counts.specs.Coefficients.{item_wires, sets_of_size, IsCoefficient}
use Rattle.wire_counts.specs.Ways.{sets_with, AddsSets, AreCounted, IsWithinLimits, ranked}
use Rattle.wire_counts.proofs.Sums.{sum_by-one}
use Rattle.wire_counts.proofs.ByTuples.{over-tuples}
use Rattle.wire_counts.proofs.Deciding.{covers_or_not, covered, one_where-holds, one_where-fails, picked_of, coefficient-covered, covered_at_most}
use Rattle.wire_counts.proofs.Bounds.{sets-bounded}

-- the walk is at the tuple with this rank, where there is one left
abbrev pub IsAt : ℕ → ℕ → ℕ → List ℕ → Type 0
IsAt items size rank t = rank < length (tuples items size) → HasRank items size t rank

first_of_both : (xs ys : List (List ℕ)) (x : List ℕ) → slice_get xs 0 ≡ Some x → slice_get (xs ++ ys) 0 ≡ Some x
first_of_both [] ys x h = absurd (none h) where
  none : None ≡ Some x → ⊥
  none e = cc
first_of_both (y ∷ xs) ys x h = h

pub HasRank-first : (items size : ℕ) → HasRank items size [] 0
HasRank-first items zero = refl
HasRank-first items (suc size) = first_of_both (tuples items size) (rising (suc size) items 0) [] (HasRank-first items size)

pub IsAt-next : (items size rank : ℕ) (t after : List ℕ) (more : Bool) → HasRank items size t rank →
    (more ≡ true → (r : ℕ) → HasRank items size t r → HasRank items size after (suc r)) →
    (more ≡ false → (r : ℕ) → HasRank items size t r → length (tuples items size) ≡ suc r) → IsAt items size (rank + 1) after
IsAt-next items size rank t after more here next last l =
    let e : suc rank ≡ rank + 1 = omega arith in
    elim (cases_Bool more) [
      | inl goes ↦ subst (HasRank items size after) e (next goes rank here)
      | inr ends ↦ let n = last ends rank here in absurd (omega arith)
    ]

-- how many sets of i wires have exactly the items of a covered tuple, for all tuples before the rank
abbrev pub before : List (List ℕ) → List ℕ → ℕ → ℕ → ℕ → ℕ
before list weights size i rank = sum_by (λ t. covered list t * sets_with weights t i) (take rank (tuples (length weights) size))

-- the numbers tell how many there are from one rank on and before another
abbrev pub CountsFrom : List (List ℕ) → List ℕ → ℕ → ℕ → ℕ → List ℕ → Type 0
CountsFrom list weights size from rank numbers =
    (i : ℕ) → i ≤ size → slice_index numbers i + before list weights size i from ≡ before list weights size i rank

picked_sum : (list : List (List ℕ)) (f : List ℕ → ℕ) (ts picked : List (List ℕ)) → Picks (Covers list) ts picked →
    sum_by f picked ≡ sum_by (λ t. covered list t * f t) ts
picked_sum list f [] picked h = ap (sum_by f) h
picked_sum list f (t ∷ ts) picked h =
    let e = sum_by-cons (λ t. covered list t * f t) t ts in
    elim h [
      | inl k ↦
          let r = picked_sum list f ts k.1 k.3 in
          let d = ap (λ (n : ℕ). n * f t) (one_where-holds (covers_or_not list t) k.0) in
          let c = ap (sum_by f) k.2 ∙ sum_by-cons f t k.1 in
          omega arith
      | inr k ↦
          let r = picked_sum list f ts picked k.1 in
          let d = ap (λ (n : ℕ). n * f t) (one_where-fails (covers_or_not list t) k.0) in
          omega arith
    ]

module _ (list : List (List ℕ)) (weights : List ℕ) (size : ℕ) where
  range_sum : (from to i : ℕ) → from ≤ to →
      sum_by (λ t. covered list t * sets_with weights t i) (ranked (length weights) size from to) + before list weights size i from
      ≡ before list weights size i to
  range_sum from to i l =
      let ts = tuples (length weights) size in
      let f : List ℕ → ℕ = λ t. covered list t * sets_with weights t i in
      let whole : from + (to - from) ≡ to = omega arith in
      let a = sum_by-take-drop f (take to ts) from in
      let b = ap (λ (n : ℕ). sum_by f (drop from (take n ts))) (sym whole) ∙ ap (sum_by f) (drop-take from (to - from) ts) in
      let c = ap (sum_by f) (take-take from to ts l) in
      omega arith

  pub AreCounted-end : (from to : ℕ) (numbers : List ℕ) → from ≤ to → CountsFrom list weights size from to numbers →
      AreCounted (Covers list) weights size from to numbers
  AreCounted-end from to numbers l h =
      let p = picked_of list (ranked (length weights) size from to) in
      record {
        failing = p.0;
        picked = p.1;
        each = λ i m.
            let a = range_sum from to i l in
            let b = h i m in
            let c = picked_sum list (λ t. sets_with weights t i) (ranked (length weights) size from to) p.0 p.1 in
            omega arith;
      }

  pub CountsFrom-counted : (from to : ℕ) (numbers : List ℕ) → from ≤ to → AreCounted (Covers list) weights size from to numbers →
      CountsFrom list weights size from to numbers
  CountsFrom-counted from to numbers l h i m =
      let a = range_sum from to i l in
      let b = h.each i m in
      let c = picked_sum list (λ t. sets_with weights t i) (ranked (length weights) size from to) h.failing h.picked in
      omega arith

  pub CountsFrom-start : (from : ℕ) (numbers : List ℕ) → ((i : ℕ) → slice_index numbers i ≡ 0) → CountsFrom list weights size from from numbers
  CountsFrom-start from numbers zeros i l = let z = zeros i in omega arith

  more_at : (rank : ℕ) (t : List ℕ) (i : ℕ) → HasRank (length weights) size t rank →
      before list weights size i (rank + 1) ≡ before list weights size i rank + covered list t * sets_with weights t i
  more_at rank t i here =
      let ts = tuples (length weights) size in
      let f : List ℕ → ℕ = λ t. covered list t * sets_with weights t i in
      sum_by_more f ts rank t (slice_get_within ts rank t here)
      ∙ ap (λ u. sum_by f (take rank ts) + f u) (get_or_from_slice_get ts rank t t here)

  pub CountsFrom-covered : (from rank : ℕ) (t old new : List ℕ) → HasRank (length weights) size t rank → Covers list t →
      AddsSets weights size t old new → CountsFrom list weights size from rank old → CountsFrom list weights size from (rank + 1) new
  CountsFrom-covered from rank t old new here covers adds h i l =
      let a = adds i l in
      let b = h i l in
      let c = more_at rank t i here in
      let d = ap (λ (n : ℕ). n * sets_with weights t i) (one_where-holds (covers_or_not list t) covers) in
      omega arith

  pub CountsFrom-other : (from rank : ℕ) (t numbers : List ℕ) → HasRank (length weights) size t rank → (Covers list t → ⊥) →
      CountsFrom list weights size from rank numbers → CountsFrom list weights size from (rank + 1) numbers
  CountsFrom-other from rank t numbers here other h i l =
      let b = h i l in
      let c = more_at rank t i here in
      let d = ap (λ (n : ℕ). n * sets_with weights t i) (one_where-fails (covers_or_not list t) other) in
      omega arith

  -- all that is ever counted fits
  pub before-bounded : (rank i : ℕ) → IsWithinLimits weights size → i ≤ size → before list weights size i rank < 2 ^ 126
  before-bounded rank i within m =
      let ts = tuples (length weights) size in
      let f : List ℕ → ℕ = λ t. covered list t * sets_with weights t i in
      let few = within.items in
      let short = within.short in
      let a = sum_by-take-le f ts rank in
      let e = sum_by-le-sum_by f (λ t. 1 * sets_with weights t i) ts (λ u. covered_at_most list u (sets_with weights u i)) in
      let g = over-tuples weights size i (λ s. 1) m in
      let j = sum_by-one (sets_of_size i (item_wires weights)) in
      let k = sets-bounded weights i few within.small (omega arith) in
      omega arith

  -- what is counted fits, with the sets of the next tuple
  pub counted-fits : (from rank : ℕ) (t numbers : List ℕ) → IsWithinLimits weights size → HasRank (length weights) size t rank → Covers list t →
      CountsFrom list weights size from rank numbers → (i : ℕ) → i ≤ size → slice_index numbers i + sets_with weights t i < 2 ^ 128
  counted-fits from rank t numbers within here covers h i m =
      let b = more_at rank t i here in
      let c = h i m in
      let d = ap (λ (n : ℕ). n * sets_with weights t i) (one_where-holds (covers_or_not list t) covers) in
      let k = before-bounded (rank + 1) i within m in
      omega arith

  pub IsCoefficient-counted : (rank : ℕ) (numbers : List ℕ) → length (tuples (length weights) size) ≤ rank →
      CountsFrom list weights size 0 rank numbers → (i : ℕ) → i ≤ size → IsCoefficient (Covers list) weights i (slice_index numbers i)
  IsCoefficient-counted rank numbers all h i l =
      coefficient-covered list weights size i (slice_index numbers i) l
      (let e = h i l in let z : before list weights size i 0 ≡ 0 = refl in
      let s : slice_index numbers i ≡ before list weights size i rank = omega arith in
      s ∙ ap (sum_by (λ t. covered list t * sets_with weights t i)) (take_all rank (tuples (length weights) size) all))

-- what the look-up answers
pub Covers-found : (list : List (List ℕ)) (t : List ℕ) (found : Option (List ℕ)) (some : Bool) → IfSome found (IsFirstSubset list t) →
    some ≡ is_some found → some ≡ true → Covers list t
Covers-found list t (Some s) some h e f = (s, h.member, h.subset)
Covers-found list t None some h e f = absurd (differ (sym e ∙ f)) where
  differ : false ≡ true → ⊥
  differ d = cc

pub Covers-not_found : (list : List (List ℕ)) (t : List ℕ) (found : Option (List ℕ)) (some : Bool) → IfNone found (Covers list t → ⊥) →
    some ≡ is_some found → some ≡ false → Covers list t → ⊥
Covers-not_found list t None some h e f = h
Covers-not_found list t (Some s) some h e f = absurd (differ (sym e ∙ f)) where
  differ : true ≡ false → ⊥
  differ d = cc
