-- Sets of wires are counted by the tuples of their items.
use Rattle.std.proofs.Common.{◌≡◌, ℕ, zero, suc, ◌+◌, ◌-◌, ◌*◌, ◌<◌, ◌≤◌, Bool, cond, List, [], ◌∷◌, ◌++◌, map, length, Contains, refl, ap, sym, ◌∙◌, inl, inr, arith}
use Rattle.std.specs.Prelude.{flat_map, slice_index}
use Rattle.std.specs.List.{range_with_len, sum_by}
use Rattle.std.proofs.lemmas.List.Sums.{sum_by-cons, sum_by-append}
use Rattle.std.proofs.lemmas.List.Elements.{Contains-append_cases}
use Rattle.std.proofs.lemmas.Bool.{cases_lt, lt-ltb, le-ltb}
use Rattle.tuple_model.specs.Tuples.{IsRising, rising, tuples}
use Rattle.tuple_model.proofs.Rising.{IsRisingOfSize-from_member}
use Rattle.wire_counts.specs.Coefficients.{Wire, copies, item_wires}
use Rattle.wire_counts.specs.Ways.{ways_to_choose, convolution, exact_sets, sets_with}
use Rattle.wire_counts.proofs.Convolutions.{convolution-same, convolution-add_right, convolution-none_right, convolution-times, convolution-after_zeros, convolution-zeros}
use Rattle.wire_counts.proofs.Sums.{sum_by-map, sum_by-same}
use Rattle.wire_counts.proofs.Sets.{join, join-other, over, later, outside}

-- the tuples from `low` on, of at most `most` items
abbrev from : ℕ → ℕ → ℕ → List (List ℕ)
from zero room low = rising zero room low
from (suc most) room low = from most room low ++ rising (suc most) room low

from-zero : (items most : ℕ) → from most items 0 ≡ tuples items most
from-zero items zero = refl
from-zero items (suc most) = ap (λ (ts : List (List ℕ)). ts ++ rising (suc most) items 0) (from-zero items most)

IsRising-from : (most room low : ℕ) (t : List ℕ) → Contains (from most room low) t → IsRising low (low + room) t
IsRising-from zero room low t h = (IsRisingOfSize-from_member 0 room low t h).1
IsRising-from (suc most) room low t h = elim (Contains-append_cases (from most room low) (rising (suc most) room low) t h) [
  | inl k ↦ IsRising-from most room low t k
  | inr k ↦ (IsRisingOfSize-from_member (suc most) room low t k).1
]

-- how many sets of so many wires have exactly the tuple's items
abbrev exactly : (ℕ → ℕ) → List ℕ → ℕ → ℕ
exactly weight [] zero = 1
exactly weight [] (suc i) = 0
exactly weight (x ∷ t) i = later (convolution (ways_to_choose (weight x)) (exactly weight t)) i

abbrev weigh : (ℕ → ℕ) → (List ℕ → ℕ) → List (List ℕ) → ℕ → ℕ
weigh weight g ts i = sum_by (λ t. g t * exactly weight t i) ts

exchange : (weight : ℕ → ℕ) (g : List ℕ → ℕ) (a : ℕ → ℕ) (ts : List (List ℕ)) (i : ℕ) →
    sum_by (λ t. g t * convolution a (exactly weight t) i) ts ≡ convolution a (weigh weight g ts) i
exchange weight g a [] i = sym (convolution-none_right a i)
exchange weight g a (t ∷ ts) i =
    let x = sum_by-cons (λ t. g t * convolution a (exactly weight t) i) t ts in
    let r = exchange weight g a ts i in
    let m = convolution-times a (exactly weight t) (g t) i in
    let n = convolution-add_right a (λ j. g t * exactly weight t j) (weigh weight g ts) i in
    let o = convolution-same a a (weigh weight g (t ∷ ts)) (λ j. g t * exactly weight t j + weigh weight g ts j) i (λ j l. refl)
    (λ j l. sum_by-cons (λ t. g t * exactly weight t j) t ts) in
    omega arith

nothing : (ts : List (List ℕ)) (g : List ℕ → ℕ) → sum_by (λ t. g t * 0) ts ≡ 0
nothing [] g = refl
nothing (t ∷ ts) g = let r = nothing ts g in let x = sum_by-cons (λ t. g t * 0) t ts in omega arith

weigh-append : (weight : ℕ → ℕ) (g : List ℕ → ℕ) (s t : List (List ℕ)) (i : ℕ) → weigh weight g (s ++ t) i ≡ weigh weight g s i + weigh weight g t i
weigh-append weight g s t i = sum_by-append (λ t. g t * exactly weight t i) s t

step_one : (weight : ℕ → ℕ) (g : List ℕ → ℕ) (size room low i : ℕ) →
    weigh weight g (rising (suc size) (suc room) low) i
    ≡ later (convolution (ways_to_choose (weight low)) (weigh weight (λ t. g (low ∷ t)) (rising size room (suc low)))) i + weigh weight g (rising (suc size) room (suc low)) i
step_one weight g size room low zero =
    let a = sum_by-append (λ t. g t * exactly weight t 0) (map (λ (t : List ℕ). low ∷ t) (rising size room (suc low))) (rising (suc size) room (suc low)) in
    let b = sum_by-map (λ t. g t * exactly weight t 0) (λ (t : List ℕ). low ∷ t) (rising size room (suc low)) in
    let n = nothing (rising size room (suc low)) (λ t. g (low ∷ t)) in
    omega arith
step_one weight g size room low (suc i) =
    let a = sum_by-append (λ t. g t * exactly weight t (suc i)) (map (λ (t : List ℕ). low ∷ t) (rising size room (suc low))) (rising (suc size) room (suc low)) in
    let b = sum_by-map (λ t. g t * exactly weight t (suc i)) (λ (t : List ℕ). low ∷ t) (rising size room (suc low)) in
    let n = exchange weight (λ t. g (low ∷ t)) (ways_to_choose (weight low)) (rising size room (suc low)) i in
    omega arith

step : (weight : ℕ → ℕ) (g : List ℕ → ℕ) (most room low i : ℕ) →
    weigh weight g (from (suc most) (suc room) low) i
    ≡ weigh weight g (from (suc most) room (suc low)) i + later (convolution (ways_to_choose (weight low)) (weigh weight (λ t. g (low ∷ t)) (from most room (suc low)))) i
step weight g zero room low i =
    let a = weigh-append weight g (from 0 (suc room) low) (rising 1 (suc room) low) i in
    let b = weigh-append weight g (from 0 room (suc low)) (rising 1 room (suc low)) i in
    let c = step_one weight g 0 room low i in
    omega arith
step weight g (suc most) room low zero =
    let a = weigh-append weight g (from (suc most) (suc room) low) (rising (suc (suc most)) (suc room) low) 0 in
    let b = weigh-append weight g (from (suc most) room (suc low)) (rising (suc (suc most)) room (suc low)) 0 in
    let c = step_one weight g (suc most) room low 0 in
    let r = step weight g most room low 0 in
    omega arith
step weight g (suc most) room low (suc i) =
    let a = weigh-append weight g (from (suc most) (suc room) low) (rising (suc (suc most)) (suc room) low) (suc i) in
    let b = weigh-append weight g (from (suc most) room (suc low)) (rising (suc (suc most)) room (suc low)) (suc i) in
    let c = step_one weight g (suc most) room low (suc i) in
    let r = step weight g most room low (suc i) in
    let h : List ℕ → ℕ = λ t. g (low ∷ t) in
    let w : ℕ → ℕ = ways_to_choose (weight low) in
    let d = convolution-add_right w (weigh weight h (from most room (suc low))) (weigh weight h (rising (suc most) room (suc low))) i in
    let e = convolution-same w w (weigh weight h (from (suc most) room (suc low))) (λ j. weigh weight h (from most room (suc low)) j + weigh weight h (rising (suc most) room (suc low)) j) i
    (λ j l. refl) (λ j l. weigh-append weight h (from most room (suc low)) (rising (suc most) room (suc low)) j) in
    omega arith

no_room : (weight : ℕ → ℕ) (g : List ℕ → ℕ) (most low i : ℕ) → weigh weight g (from most 0 low) i ≡ g [] * exactly weight [] i
no_room weight g zero low i = omega arith
no_room weight g (suc most) low i =
    let a = weigh-append weight g (from most 0 low) [] i in
    let r = no_room weight g most low i in
    omega arith

join-below : (low high : ℕ) (t : List ℕ) → IsRising (suc low) high t → join low t ≡ low ∷ t
join-below low high [] h = refl
join-below low high (x ∷ t) h = join-other low x t (λ e. omega arith)

-- all wires of so many items from `low` on
abbrev wires_from : (ℕ → ℕ) → ℕ → ℕ → List Wire
wires_from weight room low = flat_map (λ item. copies (weight item) item) (range_with_len low room)

first_item : (weight : ℕ → ℕ) (room low i : ℕ) (g : List ℕ → ℕ) →
    over g (wires_from weight (suc room) low) i
    ≡ over g (wires_from weight room (suc low)) i + later (convolution (ways_to_choose (weight low)) (over (λ t. g (join low t)) (wires_from weight room (suc low)))) i
first_item weight room low i g =
    let e : low + 1 ≡ suc low = omega arith in
    ap (λ (n : ℕ). over g (copies (weight low) low ++ wires_from weight room n) i) e ∙ outside low (weight low) (wires_from weight room (suc low)) g i

counted_from : (weight : ℕ → ℕ) (room low most i : ℕ) (g : List ℕ → ℕ) → i ≤ most → over g (wires_from weight room low) i ≡ weigh weight g (from most room low) i
counted_from weight zero low most zero g l = let a = no_room weight g most low 0 in omega arith
counted_from weight zero low most (suc i) g l = let a = no_room weight g most low (suc i) in omega arith
counted_from weight (suc room) low zero zero g l = omega arith
counted_from weight (suc room) low zero (suc i) g l = absurd (omega arith)
counted_from weight (suc room) low (suc most) zero g l =
    let a = first_item weight room low 0 g in
    let b = step weight g most room low 0 in
    let r = counted_from weight room (suc low) (suc most) 0 g l in
    omega arith
counted_from weight (suc room) low (suc most) (suc i) g l =
    let a = first_item weight room low (suc i) g in
    let b = step weight g most room low (suc i) in
    let r = counted_from weight room (suc low) (suc most) (suc i) g l in
    let w : ℕ → ℕ = ways_to_choose (weight low) in
    let e = convolution-same w w (over (λ t. g (join low t)) (wires_from weight room (suc low))) (weigh weight (λ t. g (low ∷ t)) (from most room (suc low))) i
    (λ j k. refl) (λ j k. counted_from weight room (suc low) most j (λ t. g (join low t)) (omega arith)
    ∙ sum_by-same (λ t. g (join low t) * exactly weight t j) (λ t. g (low ∷ t) * exactly weight t j) (from most room (suc low))
    (λ t m. ap (λ (s : List ℕ). g s * exactly weight t j) (join-below low (suc low + room) t (IsRising-from most room (suc low) t m)))) in
    omega arith

-- with fewer wires than items there is no set
exactly-few : (weight : ℕ → ℕ) (t : List ℕ) (i : ℕ) → i < length t → exactly weight t i ≡ 0
exactly-few weight [] i l = absurd (omega arith)
exactly-few weight (x ∷ t) zero l = refl
exactly-few weight (x ∷ t) (suc i) l = convolution-zeros (ways_to_choose (weight x)) (exactly weight t) i (λ k m. exactly-few weight t k (omega arith))

exactly-more : (weights t : List ℕ) (more : ℕ) → exactly (slice_index weights) t (more + length t) ≡ exact_sets weights t more
exactly-more weights [] zero = refl
exactly-more weights [] (suc more) = ap (exactly (slice_index weights) []) (let e : suc more + 0 ≡ suc more = omega arith in e)
exactly-more weights (x ∷ t) more =
    let w : ℕ → ℕ = ways_to_choose (slice_index weights x) in
    let b : ℕ → ℕ = exactly (slice_index weights) t in
    let e : more + suc (length t) ≡ suc (more + length t) = omega arith in
    ap (λ (n : ℕ). exactly (slice_index weights) (x ∷ t) n) e
    ∙ convolution-after_zeros w b (length t) more (λ k l. exactly-few (slice_index weights) t k l)
    ∙ convolution-same w w (λ k. b (k + length t)) (exact_sets weights t) more (λ k l. refl) (λ k l. exactly-more weights t k)

sets_with-exactly : (weights t : List ℕ) (i : ℕ) → exactly (slice_index weights) t i ≡ sets_with weights t i
sets_with-exactly weights t i = elim (cases_lt i (length t)) [
  | inl less ↦ exactly-few (slice_index weights) t i less ∙ sym (ap (λ (c : Bool). cond c 0 (exact_sets weights t (i - length t))) (lt-ltb i (length t) less))
  | inr most ↦
      let e : i ≡ i - length t + length t = omega arith in
      ap (exactly (slice_index weights) t) e ∙ exactly-more weights t (i - length t)
      ∙ sym (ap (λ (c : Bool). cond c 0 (exact_sets weights t (i - length t))) (le-ltb i (length t) most))
]

-- a sum over all sets of wires is one over the tuples, each as often as sets have exactly its items
pub over-tuples : (weights : List ℕ) (size i : ℕ) (g : List ℕ → ℕ) → i ≤ size →
    over g (item_wires weights) i ≡ sum_by (λ t. g t * sets_with weights t i) (tuples (length weights) size)
over-tuples weights size i g l =
    counted_from (slice_index weights) (length weights) 0 size i g l
    ∙ ap (λ (ts : List (List ℕ)). weigh (slice_index weights) g ts i) (from-zero (length weights) size)
    ∙ sum_by-same (λ t. g t * exactly (slice_index weights) t i) (λ t. g t * sets_with weights t i) (tuples (length weights) size)
    (λ t k. ap (λ (n : ℕ). g t * n) (sets_with-exactly weights t i))
