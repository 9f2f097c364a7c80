-- All counts of sets of wires fit 126 bits, within the limits.
use Rattle.std.proofs.Common.{◌≡◌, ℕ, zero, suc, ◌+◌, ◌*◌, ◌^◌, ◌<◌, ◌≤◌, List, [], ◌∷◌, map, length, refl, ap, arith, mul-le-mul}
use Rattle.std.specs.Prelude.{All, flat_map, slice_index}
use Rattle.std.specs.List.{range_with_len}
use Rattle.std.proofs.Math.Nat.{pow-le-pow_left, pow-le-pow_right, pow-suc, pow-zero}
use Rattle.std.proofs.Math.ListN.{length-map}
use Rattle.std.proofs.lemmas.List.{length-append}
use Rattle.std.proofs.lemmas.List.FromFn.{length-range_with_len}
use Rattle.std.proofs.lemmas.List.Elements.{All-get_or}
use Rattle.std.proofs.lemmas.List.Sums.{get_or-le-sum_by}
use Rattle.tuple_model.specs.Tuples.{IsTuple, tuples}
use Rattle.tuple_model.proofs.Rising.{member-from_IsTuple}
use Rattle.tuple_order.proofs.Counting.{ways}
use Rattle.wire_counts.specs.Coefficients.{Wire, copies, item_wires, sets_of_size}
use Rattle.wire_counts.specs.Ways.{sets_with}
use Rattle.wire_counts.proofs.Sums.{sum_by-one}
use Rattle.wire_counts.proofs.ByTuples.{over-tuples}

length-sets_of_size : {X : Type 0} (size : ℕ) (xs : List X) → length (sets_of_size size xs) ≡ ways size (length xs)
length-sets_of_size zero xs = refl
length-sets_of_size (suc size) [] = refl
length-sets_of_size {X} (suc size) (x ∷ xs) =
    let a = length-append (map (λ (s : List X). x ∷ s) (sets_of_size size xs)) (sets_of_size (suc size) xs) in
    let b = length-map (sets_of_size size xs) (λ (s : List X). x ∷ s) in
    let c = length-sets_of_size size xs in
    let d = length-sets_of_size (suc size) xs in
    omega arith

pub ways-pow : (size n : ℕ) → ways size n ≤ n ^ size
ways-pow zero n = let a = pow-zero n in omega arith
ways-pow (suc size) zero = omega arith
ways-pow (suc size) (suc n) =
    let a = ways-pow size n in
    let b = ways-pow (suc size) n in
    let m = pow-le-pow_left {n = n} {m = suc n} (omega arith) size in
    let p = pow-suc n size in
    let q = pow-suc (suc n) size in
    let r : n ^ size * n ≤ suc n ^ size * n = mul-le-mul m (let e : n ≤ n = omega arith in e) in
    let s : suc n ^ size * suc n ≡ suc n ^ size * n + suc n ^ size = grind arith in
    omega arith

length-wires : (weight : ℕ → ℕ) (most room low : ℕ) → ((k : ℕ) → k < low + room → weight k ≤ most) →
    length (flat_map (λ item. copies (weight item) item) (range_with_len low room)) ≤ room * most
length-wires weight most zero low h = omega arith
length-wires weight most (suc room) low h =
    let rest = flat_map (λ item. copies (weight item) item) (range_with_len (low + 1) room) in
    let a = length-append (copies (weight low) low) rest in
    let wire : ℕ → Wire = λ copy. record { item = low; copy = copy } in
    let b = length-map (range_with_len 0 (weight low)) wire in
    let c = length-range_with_len 0 (weight low) in
    let d = h low (omega arith) in
    let i = length-wires weight most room (low + 1) (λ k l. h k (omega arith)) in
    let e : suc room * most ≡ most + room * most = grind arith in
    omega arith

pub sets-bounded : (weights : List ℕ) (size : ℕ) → length weights ≤ 511 → All (λ weight. weight ≤ 4096) weights → size ≤ 6 →
    length (sets_of_size size (item_wires weights)) < 2 ^ 126
sets-bounded weights size few small l =
    let a = length-sets_of_size size (item_wires weights) in
    let n = length-wires (slice_index weights) 4096 (length weights) 0 (λ k m. All-get_or (λ weight. weight ≤ 4096) weights k 0 (omega arith) small) in
    let m : length weights * 4096 ≤ 2093056 = omega arith in
    let p : length (item_wires weights) ≤ 2093056 = omega arith in
    let c = ways-pow size (length (item_wires weights)) in
    let d = pow-le-pow_left {n = length (item_wires weights)} {m = 2093056} p size in
    let e : 2093056 ^ size ≤ 2093056 ^ 6 = pow-le-pow_right {n = 2093056} (omega arith) {i = size} {j = 6} l in
    omega arith

-- the sets with exactly a tuple's items are some of all sets
pub sets_with-bounded : (weights t : List ℕ) (i : ℕ) → length weights ≤ 511 → All (λ weight. weight ≤ 4096) weights →
    IsTuple (length weights) 6 t → i ≤ 6 → sets_with weights t i < 2 ^ 126
sets_with-bounded weights t i few small is l =
    let m = member-from_IsTuple (length weights) 6 t is in
    let a = get_or-le-sum_by (λ s. 1 * sets_with weights s i) (tuples (length weights) 6) m.0 t m.1 in
    let b = ap (λ (s : List ℕ). sets_with weights s i) m.2 in
    let c = over-tuples weights 6 i (λ s. 1) l in
    let d = sum_by-one (sets_of_size i (item_wires weights)) in
    let e = sets-bounded weights i few small l in
    omega arith
