-- Sets of wires, one wire after the other: the items of a set, and sums over all sets of a size of a value of their items.
use Rattle.std.proofs.Common.{◌≡◌, ℕ, zero, suc, ◌+◌, Bool, cond, eqb, eq-eqb, List, [], ◌∷◌, ◌++◌, map, refl, ap, sym, ◌∙◌, inl, inr, arith}
use Rattle.std.specs.Prelude.{nat_eq}
use Rattle.std.specs.List.{dedup, dedup_from, range_with_len, sum_by}
use Rattle.std.proofs.lemmas.List.Sums.{sum_by-append}
use Rattle.std.proofs.lemmas.Bool.{cases_eq, ne_eqb}
use Rattle.tuple_order.proofs.Counting.{ways, length-rising}
use Rattle.wire_counts.specs.Coefficients.{Wire, sets_of_size, items_of_wires}
use Rattle.wire_counts.specs.Ways.{ways_to_choose, convolution}
use Rattle.wire_counts.proofs.Convolutions.{convolution-same, convolution-add_left, convolution-none}
use Rattle.wire_counts.proofs.Sums.{sum_by-map, sum_by-same}

-- an item before a tuple, unless it begins it
abbrev pub join : ℕ → List ℕ → List ℕ
join a [] = a ∷ []
join a (b ∷ t) = cond (eqb a b) (b ∷ t) (a ∷ b ∷ t)

pub join-equal : (a b : ℕ) (t : List ℕ) → a ≡ b → join a (b ∷ t) ≡ b ∷ t
join-equal a b t e = ap (λ (c : Bool). cond c (b ∷ t) (a ∷ b ∷ t)) (eq-eqb a b e)

pub join-other : (a b : ℕ) (t : List ℕ) → (a ≡ b → ⊥) → join a (b ∷ t) ≡ a ∷ b ∷ t
join-other a b t n = ap (λ (c : Bool). cond c (b ∷ t) (a ∷ b ∷ t)) (ne_eqb a b n)

pub join-twice : (a : ℕ) (t : List ℕ) → join a (join a t) ≡ join a t
join-twice a [] = join-equal a a [] refl
join-twice a (b ∷ t) = elim (cases_eq a b) [
  | inl same ↦ ap (join a) (join-equal a b t same)
  | inr other ↦ ap (join a) (join-other a b t other) ∙ join-equal a a (b ∷ t) refl ∙ sym (join-other a b t other)
]

dedup-begins : (y : ℕ) (ys : List ℕ) → (rest : List ℕ) × (dedup_from nat_eq y ys ≡ y ∷ rest)
dedup-begins y [] = ([], refl)
dedup-begins y (z ∷ ys) = elim (cases_eq z y) [
  | inl same ↦
      let r = dedup-begins y ys in
      (r.0, ap (λ (c : Bool). cond c (dedup_from nat_eq y ys) (y ∷ dedup_from nat_eq z ys)) (eq-eqb z y same) ∙ r.1)
  | inr other ↦ (dedup_from nat_eq z ys, ap (λ (c : Bool). cond c (dedup_from nat_eq y ys) (y ∷ dedup_from nat_eq z ys)) (ne_eqb z y other))
]

dedup-cons : (x : ℕ) (xs : List ℕ) → dedup nat_eq (x ∷ xs) ≡ join x (dedup nat_eq xs)
dedup-cons x [] = refl
dedup-cons x (y ∷ ys) =
    let r = dedup-begins y ys in
    elim (cases_eq y x) [
      | inl same ↦
          ap (λ (c : Bool). cond c (dedup_from nat_eq x ys) (x ∷ dedup_from nat_eq y ys)) (eq-eqb y x same)
          ∙ ap (λ (z : ℕ). dedup_from nat_eq z ys) (sym same) ∙ r.1 ∙ sym (join-equal x y r.0 (sym same)) ∙ ap (join x) (sym r.1)
      | inr other ↦
          ap (λ (c : Bool). cond c (dedup_from nat_eq x ys) (x ∷ dedup_from nat_eq y ys)) (ne_eqb y x other)
          ∙ ap (λ (t : List ℕ). x ∷ t) r.1 ∙ sym (join-other x y r.0 (λ e. other (sym e))) ∙ ap (join x) (sym r.1)
    ]

pub items_of_wires-cons : (x : Wire) (set : List Wire) → items_of_wires (x ∷ set) ≡ join x.item (items_of_wires set)
items_of_wires-cons x set = dedup-cons x.item (map (λ (wire : Wire). wire.item) set)

-- the sum over all sets of so many wires, of a value of their items
abbrev pub over : (List ℕ → ℕ) → List Wire → ℕ → ℕ
over g xs size = sum_by (λ set. g (items_of_wires set)) (sets_of_size size xs)

pub over-cons : (g : List ℕ → ℕ) (x : Wire) (xs : List Wire) (i : ℕ) → over g (x ∷ xs) (suc i) ≡ over (λ t. g (join x.item t)) xs i + over g xs (suc i)
over-cons g x xs i =
    let a = sum_by-append (λ set. g (items_of_wires set)) (map (λ (set : List Wire). x ∷ set) (sets_of_size i xs)) (sets_of_size (suc i) xs) in
    let b = sum_by-map (λ set. g (items_of_wires set)) (λ (set : List Wire). x ∷ set) (sets_of_size i xs) in
    let c = sum_by-same (λ set. g (items_of_wires (x ∷ set))) (λ set. g (join x.item (items_of_wires set))) (sets_of_size i xs) (λ set k. ap g (items_of_wires-cons x set)) in
    omega arith

-- wires of an item, from a copy number on
abbrev pub copies_from : ℕ → ℕ → ℕ → List Wire
copies_from item start weight = map (λ copy. record { item = item; copy = copy }) (range_with_len start weight)

-- the same numbers, one place later
abbrev pub later : (ℕ → ℕ) → ℕ → ℕ
later a zero = 0
later a (suc i) = a i

convolution-ways_none : (b : ℕ → ℕ) (i : ℕ) → convolution (λ k. ways k 0) b i ≡ b i
convolution-ways_none b zero = omega arith
convolution-ways_none b (suc i) = let r = convolution-none b i in omega arith

-- the item is there already
inside : (item start weight : ℕ) (rest : List Wire) (g : List ℕ → ℕ) (i : ℕ) → ((t : List ℕ) → g (join item t) ≡ g t) →
    over g (copies_from item start weight ++ rest) i ≡ convolution (λ k. ways k weight) (over g rest) i
inside item start zero rest g i e = sym (convolution-ways_none (over g rest) i)
inside item start (suc weight) rest g zero e = omega arith
inside item start (suc weight) rest g (suc i) e =
    let xs = copies_from item (start + 1) weight ++ rest in
    let a = over-cons g (record { item = item; copy = start }) xs i in
    let s = sum_by-same (λ set. g (join item (items_of_wires set))) (λ set. g (items_of_wires set)) (sets_of_size i xs) (λ set k. e (items_of_wires set)) in
    let r = inside item (start + 1) weight rest g i e in
    let q = inside item (start + 1) weight rest g (suc i) e in
    let m = convolution-add_left (λ k. ways k weight) (λ k. ways (suc k) weight) (over g rest) i in
    omega arith

-- the item comes, or it doesn't
outside_by_ways : (item start weight : ℕ) (rest : List Wire) (g : List ℕ → ℕ) (i : ℕ) →
    over g (copies_from item start weight ++ rest) i ≡ over g rest i + later (convolution (λ k. ways (suc k) weight) (over (λ t. g (join item t)) rest)) i
outside_by_ways item start zero rest g zero = omega arith
outside_by_ways item start zero rest g (suc i) = let m = convolution-none (over (λ t. g (join item t)) rest) i in omega arith
outside_by_ways item start (suc weight) rest g zero = omega arith
outside_by_ways item start (suc weight) rest g (suc i) =
    let xs = copies_from item (start + 1) weight ++ rest in
    let a = over-cons g (record { item = item; copy = start }) xs i in
    let s = inside item (start + 1) weight rest (λ t. g (join item t)) i (λ t. ap g (join-twice item t)) in
    let q = outside_by_ways item (start + 1) weight rest g (suc i) in
    let m = convolution-add_left (λ k. ways k weight) (λ k. ways (suc k) weight) (over (λ t. g (join item t)) rest) i in
    omega arith

later-same : (a b : ℕ → ℕ) (i : ℕ) → ((j : ℕ) → a j ≡ b j) → later a i ≡ later b i
later-same a b zero e = refl
later-same a b (suc i) e = e i

pub outside : (item weight : ℕ) (rest : List Wire) (g : List ℕ → ℕ) (i : ℕ) →
    over g (copies_from item 0 weight ++ rest) i ≡ over g rest i + later (convolution (ways_to_choose weight) (over (λ t. g (join item t)) rest)) i
outside item weight rest g i =
    outside_by_ways item 0 weight rest g i
    ∙ ap (λ (n : ℕ). over g rest i + n) (later-same (convolution (λ k. ways (suc k) weight) (over (λ t. g (join item t)) rest))
    (convolution (ways_to_choose weight) (over (λ t. g (join item t)) rest)) i
    (λ j. convolution-same (λ k. ways (suc k) weight) (ways_to_choose weight) (over (λ t. g (join item t)) rest) (over (λ t. g (join item t)) rest) j
    (λ k l. sym (length-rising (suc k) weight 0)) (λ k l. refl)))
