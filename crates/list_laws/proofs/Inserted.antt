-- Facts of each pair of places in a list, for `insert`.
use Rattle.std.proofs.Common.{◌≡◌, ℕ, ◌+◌, ◌-◌, ◌<◌, ◌≤◌, List, length, get_or, ap, ◌∙◌, sym, subst, inl, inr, arith}
use Rattle.std.specs.List.{AllPairs, insert}
use Rattle.std.proofs.lemmas.Bool.{cases_lt}
use Rattle.std.proofs.lemmas.List.Edits.{length-insert, get_or-insert_below, get_or-insert_at, get_or-insert_above}

-- one more element, where the fact holds between those before it and it, and between it and those after it
pub AllPairs-insert : {X : Type 0} (R : X → X → Type 0) (xs : List X) (r : ℕ) (y : X) → r ≤ length xs → AllPairs R xs → ((k : ℕ) (d : X) → k < r → R (get_or xs k d) y) →
    ((k : ℕ) (d : X) → r ≤ k → k < length xs → R y (get_or xs k d)) → AllPairs R (insert xs r y)
AllPairs-insert {X} R xs r y w all before behind i j d less l =
    elim (cases_lt j r) [
      | inl b ↦ from _ _ _ _ (first i (omega arith)) (first j b) (all i j d less (omega (arith, longer)))
      | inr reached ↦ elim (cases_lt r j) [
        | inr b ↦ from _ _ _ _ (first i (omega arith)) (here j (omega arith)) (before i d (omega arith))
        | inl b ↦ elim (cases_lt i r) [
          | inl a ↦ from _ _ _ _ (first i a) (last j b) (all i (j - 1) d (omega arith) (omega (arith, longer)))
          | inr a ↦ elim (cases_lt r i) [
            | inl c ↦ from _ _ _ _ (last i c) (last j b) (all (i - 1) (j - 1) d (omega arith) (omega (arith, longer)))
            | inr c ↦ from _ _ _ _ (here i (omega arith)) (last j b) (behind (j - 1) d (omega arith) (omega (arith, longer)))
          ]
        ]
      ]
    ] where
      longer : length (insert xs r y) ≡ length xs + 1
      longer = length-insert xs r y w

      from : (a b c e : X) → a ≡ c → b ≡ e → R c e → R a b
      from a b c e f g h = subst (λ (z : X). R z b) (sym f) (subst (λ (z : X). R c z) (sym g) h)

      first : (k : ℕ) → k < r → get_or (insert xs r y) k d ≡ get_or xs k d
      first k b = get_or-insert_below xs r y d k b w

      here : (k : ℕ) → k ≡ r → get_or (insert xs r y) k d ≡ y
      here k e = ap (λ (n : ℕ). get_or (insert xs r y) n d) e ∙ get_or-insert_at xs r y d w

      last : (k : ℕ) → r < k → get_or (insert xs r y) k d ≡ get_or xs (k - 1) d
      last k b = let e : k ≡ k - 1 + 1 = omega arith in ap (λ (n : ℕ). get_or (insert xs r y) n d) e ∙ get_or-insert_above xs r y d (k - 1) (omega arith) w
