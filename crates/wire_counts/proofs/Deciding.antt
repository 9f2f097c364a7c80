-- Coefficients of what a list covers, which is settled for each tuple: sums over the tuples that it covers.
use Rattle.std.proofs.Common.{◌≡◌, ℕ, ◌+◌, ◌*◌, ◌≤◌, ◌⊎◌, List, [], ◌∷◌, length, replicate, Contains, refl, ap, sym, ◌∙◌, inl, inr, arith, subst}
use Rattle.std.specs.List.{sum_by}
use Rattle.std.proofs.lemmas.List.{length-replicate, get_or-replicate}
use Rattle.std.proofs.lemmas.List.Sums.{sum_by-cons}
use Rattle.list_laws.proofs.Members.{Contains-cons_head, Contains-cons_tail, Contains-cons_cases}
use Rattle.list_laws.proofs.Once.{Contains-nil}
use Rattle.tuple_model.specs.Tuples.{IsSubset, tuples}
use Rattle.tuple_model.specs.Minimal.{Picks}
use Rattle.tuple_model.specs.Antichains.{Covers}
use Rattle.tuple_model.proofs.Antichains.{IsSubset-or_not}
use Rattle.wire_counts.specs.Coefficients.{item_wires, sets_of_size, items_of_wires, IsCoefficient, AreCoefficients}
use Rattle.wire_counts.specs.Ways.{sets_with}
use Rattle.wire_counts.proofs.ByTuples.{over-tuples}

pub covers_or_not : (list : List (List ℕ)) (t : List ℕ) → Covers list t ⊎ (Covers list t → ⊥)
covers_or_not [] t = inr (λ h. Contains-nil h.0 h.1)
covers_or_not (s ∷ list) t = elim (IsSubset-or_not s t) [
  | inl here ↦ inl (s, Contains-cons_head s list, here)
  | inr other ↦ elim (covers_or_not list t) [
    | inl h ↦ inl (h.0, Contains-cons_tail s list h.0 h.1, h.2)
    | inr n ↦ inr (λ h. elim (Contains-cons_cases s list h.0 h.1) [
      | inl e ↦ other (subst (λ (u : List ℕ). IsSubset u t) (sym e) h.2)
      | inr k ↦ n (h.0, k, h.2)
    ])
  ]
]

-- no element of a list is picked where a fact holds of none
none-picked : {X : Type 0} (P : X → Type 0) (xs : List X) → ((x : X) → P x → ⊥) → Picks P xs []
none-picked P [] none = refl
none-picked P (x ∷ xs) none = inr (none x, none-picked P xs none)

-- of an empty list all coefficients are zeros
pub coefficients-empty : (list : List (List ℕ)) (weights : List ℕ) (size : ℕ) → list ≡ [] → AreCoefficients (Covers list) weights size (replicate (size + 1) 0)
coefficients-empty list weights size empty =
    let n = length-replicate {A = ℕ} (size + 1) 0 in
    record {
      all = omega arith;
      each = λ i l. record {
        failing = [];
        picked = none-picked (λ set. Covers list (items_of_wires set)) (sets_of_size i (item_wires weights))
            (λ set covers. Contains-nil covers.0 (subst (λ (sets : List (List ℕ)). Contains sets covers.0) empty covers.1));
        count = sym (get_or-replicate (size + 1) i 0 0 (omega arith));
      };
    }

-- 1 where a fact holds, else 0
abbrev pub one_where : {P : Type 0} → P ⊎ (P → ⊥) → ℕ
one_where (inl h) = 1
one_where (inr n) = 0

pub one_where-holds : {P : Type 0} (settled : P ⊎ (P → ⊥)) → P → one_where settled ≡ 1
one_where-holds (inl h) p = refl
one_where-holds (inr n) p = absurd (n p)

pub one_where-fails : {P : Type 0} (settled : P ⊎ (P → ⊥)) → (P → ⊥) → one_where settled ≡ 0
one_where-fails (inl h) m = absurd (m h)
one_where-fails (inr n) m = refl

-- what is settled for each element is picked, and the picked are as many as the elements that it holds of
picked-settled : {X : Type 0} (P : X → Type 0) (settled : (x : X) → P x ⊎ (P x → ⊥)) (xs : List X) →
    (picked : List X) × Picks P xs picked × (length picked ≡ sum_by (λ x. one_where (settled x)) xs)
picked-settled P settled [] = ([], refl, refl)
picked-settled P settled (x ∷ xs) =
    let r = picked-settled P settled xs in
    let e = sum_by-cons (λ x. one_where (settled x)) x xs in
    elim (settled x) [
      | inl h ↦ let o = one_where-holds (settled x) h in (x ∷ r.0, inl (h, r.0, refl, r.1), let c = r.2 in omega arith)
      | inr n ↦ let o = one_where-fails (settled x) n in (r.0, inr (n, r.1), let c = r.2 in omega arith)
    ]

pub picked_of : (list ts : List (List ℕ)) → (picked : List (List ℕ)) × Picks (Covers list) ts picked
picked_of list ts = let r = picked-settled (Covers list) (covers_or_not list) ts in (r.0, r.1)

-- one more of the tuples that a list covers, or none
abbrev pub covered : List (List ℕ) → List ℕ → ℕ
covered list t = one_where (covers_or_not list t)

pub coefficient-covered : (list : List (List ℕ)) (weights : List ℕ) (size i n : ℕ) → i ≤ size →
    n ≡ sum_by (λ t. covered list t * sets_with weights t i) (tuples (length weights) size) → IsCoefficient (Covers list) weights i n
coefficient-covered list weights size i n l e =
    let r = picked-settled (λ set. Covers list (items_of_wires set)) (λ set. covers_or_not list (items_of_wires set)) (sets_of_size i (item_wires weights)) in
    record { failing = r.0; picked = r.1; count = r.2 ∙ over-tuples weights size i (covered list) l ∙ sym e }

pub covered_at_most : (list : List (List ℕ)) (t : List ℕ) (n : ℕ) → covered list t * n ≤ 1 * n
covered_at_most list t n = elim (covers_or_not list t) [
  | inl h ↦ let e = ap (λ (m : ℕ). m * n) (one_where-holds (covers_or_not list t) h) in omega arith
  | inr m ↦ let e = ap (λ (m : ℕ). m * n) (one_where-fails (covers_or_not list t) m) in omega arith
]
