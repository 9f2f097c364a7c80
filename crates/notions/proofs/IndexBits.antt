-- Sets of indices as bits: of one index, of a union, and of more inputs or items.
use Rattle.std.proofs.Common.{◌≡◌, ◌↔◌, ◌⊎◌, ◌+◌, ◌*◌, ◌%◌, ◌^◌, ◌<◌, ℕ, max, List, [], ◌∷◌, length, get_or, take, ap, sym, ◌∙◌, subst, inl, inr, arith, Contains, bit_or}
use Rattle.std.specs.Int.{bit_at}
use Rattle.std.proofs.lemmas.Bool.{cases_eq}
use Rattle.std.proofs.lemmas.List.{take_more}
use Rattle.std.proofs.lemmas.List.Elements.{Contains-append_left, Contains-push, Contains-push_cases}
use Rattle.std.proofs.lemmas.Nat.Bits.{bit_at-lt, bit_at_or, bit_at-zero, bit_at-pow_same, bit_at-pow_other}
use Rattle.std.proofs.Math.Nat.{mod-eq_of_lt}
use Rattle.std.proofs.Math.Pow.{pow-lt}
use Rattle.gadget_model.specs.Simulation.{HasShare}
use Rattle.wire_table.specs.Items.{Item}
use Rattle.wire_table.specs.declared.item.ItemKind.{ItemKind}
use Rattle.wire_table.specs.declared.item.ItemKind.TheVariants.{Output}
use Rattle.notions.specs.Inside.{HasShareIndex, IsSmallKind}
use Rattle.notions.specs.Notions.{HasOutput, kind_at}

or_cases : (a b c : ℕ) → a < 2 → b < 2 → c ≡ max a b → c ≡ 1 → (a ≡ 1) ⊎ (b ≡ 1)
or_cases a b c l m e h = elim (cases_eq a 1) [ inl y ↦ inl y | inr n ↦ inr (omega arith) ]

or_one : (a b c : ℕ) → a < 2 → b < 2 → c ≡ max a b → (a ≡ 1) ⊎ (b ≡ 1) → c ≡ 1
or_one a b c l m e (inl h) = omega arith
or_one a b c l m e (inr h) = omega arith

module _ (a b i : ℕ) where
  has-or_cases : HasShare (bit_or a b) i → HasShare a i ⊎ HasShare b i
  has-or_cases = or_cases (bit_at a i) (bit_at b i) (bit_at (bit_or a b) i) (bit_at-lt a i) (bit_at-lt b i) (bit_at_or a b i)

  has-or : HasShare a i ⊎ HasShare b i → HasShare (bit_or a b) i
  has-or = or_one (bit_at a i) (bit_at b i) (bit_at (bit_or a b) i) (bit_at-lt a i) (bit_at-lt b i) (bit_at_or a b i)

-- nothing has no bits
has-zero : (i : ℕ) → HasShare 0 i → ⊥
has-zero i h = let z = bit_at-zero i in absurd (omega arith)

-- the bit of one index
same_output : (a b : ℕ) → ◌≡◌ {A = ItemKind} (Output a) (Output b) → a ≡ b
same_output a b e = cc

has-pow : (index k : ℕ) → HasShare (2 ^ index) k → index ≡ k
has-pow index k h = elim (cases_eq index k) [
  | inl e ↦ e
  | inr n ↦ let z = bit_at-pow_other index k (λ e. n (sym e)) in absurd (omega arith)
]

pub bit_of_index : (kind : ItemKind) (index : ℕ) → kind ≡ Output index → (k : ℕ) → HasShare (2 ^ index) k ↔ (kind ≡ Output k)
bit_of_index kind index is k =
    (λ h. is ∙ ap Output (has-pow index k h), λ h. subst (HasShare (2 ^ index)) (same_output index k (sym is ∙ h)) (bit_at-pow_same index))

-- the indices of no input, and those of one more
pub no_indices : (set index : ℕ) → HasShare 0 index ↔ HasShareIndex 0 set index
no_indices set index = (λ h. absurd (has-zero index h), λ h. let l = h.1 in absurd (omega arith))

pub more_indices : (a b inputs set index : ℕ) → HasShare a index ↔ HasShareIndex inputs set index → HasShare b index ↔ HasShare set (16 * inputs + index) →
    HasShare (bit_or a b) index ↔ HasShareIndex (inputs + 1) set index
more_indices a b inputs set index h k = (
  λ m. elim (has-or_cases a b index m) [
    | inl old ↦ let s = h.0 old in (s.0, let l = s.1 in omega arith, s.2)
    | inr new ↦ (inputs, omega arith, k.0 new)
  ],
  λ s. elim (cases_eq s.0 inputs) [
    | inl e ↦ has-or a b index (inr (k.1 (subst (λ (input : ℕ). HasShare set (16 * input + index)) e s.2)))
    | inr n ↦ has-or a b index (inl (h.1 (s.0, let l = s.1 in omega arith, s.2)))
  ],
)

-- the outputs among no items, and among one more
pub no_outputs : (items : List Item) (index : ℕ) → HasShare 0 index ↔ HasOutput items [] index
no_outputs items index = (λ h. absurd (has-zero index h), λ h. let l = h.1.1 in absurd (omega arith))

pub more_outputs : (a b : ℕ) (items : List Item) (t : List ℕ) (i index : ℕ) → i < length t → HasShare a index ↔ HasOutput items (take i t) index →
    HasShare b index ↔ (kind_at items (get_or t i 0) ≡ Output index) → HasShare (bit_or a b) index ↔ HasOutput items (take (i + 1) t) index
more_outputs a b items t i index l h k =
    let e = take_more t i 0 l in (
      λ m. elim (has-or_cases a b index m) [
        | inl old ↦ let s = h.0 old in (s.0, subst (λ (u : List ℕ). Contains u s.0) (sym e) (Contains-append_left (take i t) (get_or t i 0 ∷ []) s.0 s.1), s.2)
        | inr new ↦ (get_or t i 0, subst (λ (u : List ℕ). Contains u (get_or t i 0)) (sym e) (Contains-push (take i t) (get_or t i 0)), k.0 new)
      ],
      λ s. elim (Contains-push_cases (take i t) (get_or t i 0) s.0 (subst (λ (u : List ℕ). Contains u s.0) e s.1)) [
        | inl old ↦ has-or a b index (inl (h.1 (s.0, old, s.2)))
        | inr new ↦ has-or a b index (inr (k.1 (subst (λ (v : ℕ). kind_at items v ≡ Output index) (sym new) s.2)))
      ],
    )

-- what the code shifts
pub shifted_bit : (kind : ItemKind) (index : ℕ) → kind ≡ Output index → IsSmallKind kind → (k : ℕ) → HasShare (1 * 2 ^ index % 65536) k ↔ (kind ≡ Output k)
shifted_bit kind index is small =
    let l : index < 16 = subst IsSmallKind is small in
    let p : 2 ^ index < 2 ^ 16 = pow-lt l in
    let m : 1 * 2 ^ index ≡ 2 ^ index = omega arith in
    let e : 1 * 2 ^ index % 65536 ≡ 2 ^ index = ap (λ (n : ℕ). n % 65536) m ∙ mod-eq_of_lt p in
    subst (λ (n : ℕ). (k : ℕ) → HasShare n k ↔ (kind ≡ Output k)) (sym e) (bit_of_index kind index is)
