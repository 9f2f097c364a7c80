-- What blocks count by themselves adds up to what one walk counts.
use Rattle.std.proofs.Common.{◌≡◌, ℕ, suc, zero, ◌+◌, ◌-◌, ◌*◌, ◌%◌, ◌^◌, ◌<◌, ◌≤◌, min, List, [], ◌∷◌, length, ap, arith, subst}
use Rattle.std.specs.Prelude.{slice_index}
use Rattle.std.specs.List.{AllZip, range_with_len, sum_by}
use Rattle.std.specs.Int.{div_ceil}
use Rattle.std.proofs.lemmas.Grind.{div_ceil_times}
use Rattle.std.proofs.lemmas.List.Sums.{sum_by-cons, sum_by-append, sum_by_push}
use Rattle.rayon.specs.Lists.{Reduces}
use Rattle.rayon.proofs.Reducing.{Reduces-elim}
use Rattle.tuple_model.specs.Tuples.{tuples}
use Rattle.tuple_model.specs.Antichains.{Covers}
use Rattle.tuple_order.proofs.Blocks.{block-begins}
use Rattle.wire_counts.specs.Coefficients.{IsCoefficient}
use Rattle.wire_counts.specs.Ways.{AreAdded, AreCounted, IsWithinLimits}
use Rattle.wire_counts.proofs.Passes.{before, CountsFrom-counted, before-bounded, IsCoefficient-counted}

-- the numbers are the sums of all rows, as far as numbers have 128 bits
abbrev AreSums : List (List ℕ) → List ℕ → Type 0
AreSums rows sums = (i : ℕ) → i ≤ 6 → slice_index sums i ≡ sum_by (λ row. slice_index row i) rows % 2 ^ 128

AreSums-reduced : (Zero : List ℕ → Type 0) (Adds : List ℕ → List ℕ → List ℕ → Type 0) →
    ((row : List ℕ) → Zero row → (i : ℕ) → slice_index row i ≡ 0) → ((xs ys sums : List ℕ) → Adds xs ys sums → AreAdded xs ys sums) →
    (rows : List (List ℕ)) (sums : List ℕ) → Reduces Zero Adds rows sums → AreSums rows sums
AreSums-reduced Zero Adds zeros adds rows sums h =
    Reduces-elim Zero Adds AreSums
    (λ e z i l. zeros e z i)
    (λ xs a x r sum add i l.
    let b = sum i l in
    let c = adds a x r add i l in
    let d = sum_by_push (λ row. slice_index row i) xs x in
    omega arith)
    (λ xs ys a b r left right add i l.
    let c = left i l in
    let d = right i l in
    let e = adds a b r add i l in
    let f = sum_by-append (λ row. slice_index row i) xs ys in
    omega arith)
    rows sums h

module _ (list : List (List ℕ)) (weights : List ℕ) (size block ranks : ℕ) where
  abbrev pub IsBlock : ℕ → List ℕ → Type 0
  IsBlock number numbers =
      AreCounted (Covers list) weights size (number * block) (number * block + min block (ranks - number * block)) numbers

  blocks_sum : (i : ℕ) → i ≤ size → (k low : ℕ) (rows : List (List ℕ)) → ((n : ℕ) → n < low + k → n * block < ranks) →
      AllZip IsBlock (range_with_len low k) rows →
      sum_by (λ row. slice_index row i) rows + before list weights size i (min (low * block) ranks)
      ≡ before list weights size i (min ((low + k) * block) ranks)
  blocks_sum i l zero low [] begins h =
      let e = ap (λ n. before list weights size i (min (n * block) ranks)) (let e : low ≡ low + 0 = omega arith in e) in
      omega arith
  blocks_sum i l zero low (row ∷ rows) begins h = absurd h
  blocks_sum i l (suc k) low [] begins h = absurd h
  blocks_sum i l (suc k) low (row ∷ rows) begins h =
      let b = begins low (omega arith) in
      let a = CountsFrom-counted list weights size (low * block) (low * block + min block (ranks - low * block)) row (omega arith) h.0 i l in
      let r = blocks_sum i l k (low + 1) rows (λ n m. begins n (omega arith)) h.1 in
      let m : (low + 1) * block ≡ low * block + block = grind arith in
      let from = ap (before list weights size i) (let e : min (low * block) ranks ≡ low * block = omega arith in e) in
      let to = ap (before list weights size i) (let e : min ((low + 1) * block) ranks ≡ low * block + min block (ranks - low * block) = omega arith in e) in
      let end = ap (λ n. before list weights size i (min (n * block) ranks)) (let e : low + 1 + k ≡ low + suc k = omega arith in e) in
      let s = sum_by-cons (λ row. slice_index row i) row rows in
      omega arith

  pub IsCoefficient-blocks : (Zero : List ℕ → Type 0) (Adds : List ℕ → List ℕ → List ℕ → Type 0) →
      ((row : List ℕ) → Zero row → (i : ℕ) → slice_index row i ≡ 0) → ((xs ys sums : List ℕ) → Adds xs ys sums → AreAdded xs ys sums) →
      (numbers : List ℕ) (rows : List (List ℕ)) (sums : List ℕ) → IsWithinLimits weights size → 0 < block → ranks ≡ length (tuples (length weights) size) →
      numbers ≡ range_with_len 0 (div_ceil ranks block) → AllZip IsBlock numbers rows → Reduces Zero Adds rows sums →
      (i : ℕ) → i ≤ size → IsCoefficient (Covers list) weights i (slice_index sums i)
  IsCoefficient-blocks Zero Adds zeros adds numbers rows sums within some all same each reduced =
      IsCoefficient-counted list weights size ranks sums (omega arith) (λ i l.
      let short = within.short in
      let s = AreSums-reduced Zero Adds zeros adds rows sums reduced i (omega arith) in
      let b = blocks_sum i l (div_ceil ranks block) 0 rows (λ n m. block-begins ranks block n some (omega arith)) (subst (λ ns. AllZip IsBlock ns rows) same each) in
      let whole = (div_ceil_times ranks block some).0 in
      let end = ap (before list weights size i) (let e : min ((0 + div_ceil ranks block) * block) ranks ≡ ranks = omega arith in e) in
      let none = ap (before list weights size i) (let e : min (0 * block) ranks ≡ 0 = omega arith in e) in
      let bound = before-bounded list weights size ranks i within l in
      omega arith)
