-- Products of at most two input shares: how many there are, and what is in them.
use Rattle.std.proofs.Common.{◌≡◌, ◌≢◌, ℕ, ◌+◌, ◌*◌, ◌/◌, ◌%◌, ◌^◌, ◌<◌, ◌≤◌, cond, eqb, List, [], ◌∷◌, map, length, get_or, refl, ap, sym, ◌∙◌, subst, inl, inr, arith, Contains}
use Rattle.std.specs.Prelude.{bit_or, flat_map}
use Rattle.std.specs.List.{All, AllPairs, range_with_len}
use Rattle.std.specs.List.Sorted.{IsStrictlyIncreasing}
use Rattle.std.specs.Int.Bits.{or_self, or_zero_r}
use Rattle.std.proofs.lemmas.Bool.{cases_lt}
use Rattle.std.proofs.lemmas.Bool.Decides.{eqb_tells}
use Rattle.std.proofs.lemmas.Nat.{or_lt, or_comm, pow_pos, div-mul-add}
use Rattle.std.proofs.lemmas.List.Elements.{All-head, All-tail, All-contains, Contains-append_left, Contains-append_right, Contains-append_cases}
use Rattle.std.proofs.lemmas.List.Kept.{AllPairs-from_increasing}
use Rattle.std.proofs.lemmas.List.FromFn.{get_or-range_with_len, length-range_with_len, length-map-range_with_len}
use Rattle.std.proofs.Math.Pow.{pow-lt}
use Rattle.list_laws.proofs.Members.{Contains-map, Contains-cons_head, Contains-cons_tail, Contains-cons_cases}
use Rattle.list_laws.proofs.Once.{Once}
use Rattle.wire_table.proofs.Pigeonhole.{length-le}
use Rattle.gadget_model.specs.Circuit.{Circuit}
use Rattle.gadget_model.specs.Simulation.{HasShare}
use Rattle.gadget_tree.specs.Gadgets.{IsGadget, IsInputShare}
use Rattle.anf.specs.Polynomials.{set_of}
use Rattle.anf.proofs.Sets.{Contains-from_bit}
use Rattle.wire_table.specs.Tables.{most_products}
use Rattle.wire_table.specs.Terms.{IsShareProduct}
use Rattle.wire_table.proofs.Monomials.{below-from_IsInputShare}

-- the product with a number below 64 * 64: the number of its first share times 64, and that of its last; 64 stands for no share
product_at : ℕ → ℕ
product_at c = cond (eqb c 64) 0 (bit_or (2 ^ (c / 64)) (2 ^ (c % 64)))

product_at-pair : (a b : ℕ) → a ≤ b → b < 64 → product_at (a * 64 + b) ≡ bit_or (2 ^ a) (2 ^ b)
unfolding product_at
product_at-pair a b le l = elim (eqb_tells (a * 64 + b) 64) [
  | inl same ↦ absurd (let e = same.1 in omega arith)
  | inr other ↦
      let q : (a * 64 + b) / 64 ≡ a = div-mul-add a 64 b l in
      let r : (a * 64 + b) % 64 ≡ b = omega arith in
      ap (λ t. cond t 0 (bit_or (2 ^ ((a * 64 + b) / 64)) (2 ^ ((a * 64 + b) % 64)))) other.0
      ∙ ap (λ (n : ℕ). bit_or (2 ^ n) (2 ^ ((a * 64 + b) % 64))) q
      ∙ ap (λ (n : ℕ). bit_or (2 ^ a) (2 ^ n)) r
]

-- each product of at most two shares has a number
number_of : (shares : List ℕ) → length shares ≤ 2 → All (λ k. k < 64) shares → (c : ℕ) × (c < most_products) × (product_at c ≡ set_of shares)
unfolding product_at
number_of [] few below = (64, omega arith, refl)
number_of (a ∷ []) few below =
    let l = below 0 0 (omega arith) in
    (a * 64 + a, omega arith, product_at-pair a a (omega arith) l ∙ or_self (2 ^ a) ∙ sym (or_zero_r (2 ^ a)))
number_of (a ∷ b ∷ []) few below =
    let l = below 0 0 (omega arith) in
    let m = below 1 0 (omega arith) in
    let e : bit_or (2 ^ a) (2 ^ b) ≡ set_of (a ∷ b ∷ []) = ap (bit_or (2 ^ a)) (sym (or_zero_r (2 ^ b))) in
    elim (cases_lt b a) [
      | inl less ↦ (b * 64 + a, omega arith, product_at-pair b a (omega arith) l ∙ or_comm (2 ^ b) (2 ^ a) ∙ e)
      | inr most ↦ (a * 64 + b, omega arith, product_at-pair a b most m ∙ e)
    ]
number_of (a ∷ b ∷ c ∷ shares) few below = absurd (omega arith)

below_64 : (g : Circuit) → IsGadget g → (set : ℕ) (p : IsShareProduct g set) → All (λ k. k < 64) p.shares
below_64 g good set p i d l = below-from_IsInputShare g good (get_or p.shares i d) (p.inputs i d l)

products_within : (g : Circuit) → IsGadget g → (n : ℕ) → most_products ≤ n → (products : List ℕ) → Once products → All (IsShareProduct g) products → length products ≤ n
products_within g good n enough products once all =
    let numbers = range_with_len 0 n in
    let m = length-map-range_with_len product_at 0 n in
    let stands : (set : ℕ) → Contains products set → Contains (map product_at numbers) set = λ set among.
    let p = All-contains (IsShareProduct g) products set all among in
    let c = number_of p.shares p.few (below_64 g good set p) in
    let k = length-range_with_len 0 n in
    let less : c.0 < n = omega (arith, c.1) in
    let z : 0 + c.0 ≡ c.0 = omega arith in
    subst (Contains (map product_at numbers)) (c.2 ∙ sym p.same)
    (Contains-map product_at numbers c.0 (c.0, omega arith, get_or-range_with_len 0 n c.0 c.0 less ∙ z)) in
    let h = length-le products (map product_at numbers) once stands in
    omega arith

-- rising numbers are different
pub once_from_rising : (xs : List ℕ) → IsStrictlyIncreasing xs → AllPairs (λ (a b : ℕ). a ≢ b) xs
once_from_rising xs up i j d l m e = let h = AllPairs-from_increasing xs up i j d l m in absurd (omega arith)

-- there are few products
pub few_products : (g : Circuit) → IsGadget g → (products : List ℕ) → IsStrictlyIncreasing products → All (IsShareProduct g) products → length products ≤ most_products
few_products g good products up all = products_within g good most_products (omega arith) products (once_from_rising products up) all

set_of-below : (n : ℕ) (ks : List ℕ) → All (λ k. k < n) ks → set_of ks < 2 ^ n
set_of-below n [] all = pow_pos n
set_of-below n (k ∷ ks) all =
    let P : ℕ → Type 0 = λ j. j < n in
    or_lt n (2 ^ k) (set_of ks) (pow-lt (All-head P k ks all)) (set_of-below n ks (All-tail P k ks all))

-- a product is a number of 64 bits
pub product_below : (g : Circuit) → IsGadget g → (set : ℕ) → IsShareProduct g set → set < 2 ^ 64
product_below g good set p =
    let P : ℕ → Type 0 = λ n. n < 2 ^ 64 in
    subst P (sym p.same) (set_of-below 64 p.shares (below_64 g good set p))

-- the shares of a product are input shares
pub share_of_product : (g : Circuit) (set : ℕ) → IsShareProduct g set → (k : ℕ) → HasShare set k → IsInputShare g k
share_of_product g set p k has =
    let P : ℕ → Type 0 = λ n. HasShare n k in
    All-contains (IsInputShare g) p.shares k p.inputs (Contains-from_bit p.shares k (subst P p.same has))

-- what stands in one of the lists stands in all of them together
pub Contains-flat_map : {X Y : Type 0} (f : X → List Y) (xs : List X) (x : X) (y : Y) → Contains xs x → Contains (f x) y → Contains (flat_map f xs) y
Contains-flat_map f [] x y h k = absurd (omega (arith, h.1))
Contains-flat_map {X} {Y} f (w ∷ xs) x y h k = elim (Contains-cons_cases w xs x h) [
  | inl e ↦ let P : X → Type 0 = λ v. Contains (f v) y in Contains-append_left (f w) (flat_map f xs) y (subst P (sym e) k)
  | inr m ↦ Contains-append_right (f w) (flat_map f xs) y (Contains-flat_map f xs x y m k)
]

pub Contains-from_flat_map : {X Y : Type 0} (f : X → List Y) (xs : List X) (y : Y) → Contains (flat_map f xs) y → (x : X) × Contains xs x × Contains (f x) y
Contains-from_flat_map f [] y h = absurd (omega (arith, h.1))
Contains-from_flat_map f (w ∷ xs) y h = elim (Contains-append_cases (f w) (flat_map f xs) y h) [
  | inl k ↦ (w, Contains-cons_head w xs, k)
  | inr k ↦ let r = Contains-from_flat_map f xs y k in (r.0, Contains-cons_tail w xs r.0 r.1, r.2)
]
