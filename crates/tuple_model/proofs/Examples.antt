-- The definitions at small numbers.
use Rattle.std.proofs.Common.{◌≡◌, ℕ, ◌<◌, List, [], ◌∷◌, length, refl, inl, inr, arith}
use Rattle.tuple_model.specs.Tuples.{IsRising, IsTuple, IsBefore, tuples, subset}
use Rattle.tuple_model.specs.Minimal.{IsMinimal, Picks}
use Rattle.tuple_model.proofs.Subsets.{subset-proper}

tuples-of_four : tuples 4 1 ≡ [] ∷ (0 ∷ []) ∷ (1 ∷ []) ∷ (2 ∷ []) ∷ (3 ∷ []) ∷ []
tuples-of_four = refl

tuples-of_three : tuples 3 2 ≡ [] ∷ (0 ∷ []) ∷ (1 ∷ []) ∷ (2 ∷ []) ∷ (0 ∷ 1 ∷ []) ∷ (0 ∷ 2 ∷ []) ∷ (1 ∷ 2 ∷ []) ∷ []
tuples-of_three = refl

subset-second : subset 2 (4 ∷ 7 ∷ []) ≡ 7 ∷ []
subset-second = refl

subset-first_and_third : subset 5 (1 ∷ 4 ∷ 7 ∷ []) ≡ 1 ∷ 7 ∷ []
subset-first_and_third = refl

subset-none : subset 0 (4 ∷ 7 ∷ []) ≡ []
subset-none = refl

IsRising-pair : IsRising 2 6 (2 ∷ 5 ∷ [])
IsRising-pair = (omega arith, omega arith, (omega arith, omega arith, tt))

IsRising-same_twice : IsRising 0 6 (2 ∷ 2 ∷ []) → ⊥
IsRising-same_twice h = omega (arith, h.2.0)

IsTuple-too_long : IsTuple 6 1 (2 ∷ 5 ∷ []) → ⊥
IsTuple-too_long h = omega (arith, h.short)

IsBefore-shorter : IsBefore (3 ∷ []) (0 ∷ 1 ∷ [])
IsBefore-shorter = inl (omega arith)

IsBefore-lexicographic : IsBefore (0 ∷ 2 ∷ []) (1 ∷ 2 ∷ [])
IsBefore-lexicographic = inr (refl, inl (omega arith))

IsBefore-second_number : IsBefore (0 ∷ 1 ∷ []) (0 ∷ 2 ∷ [])
IsBefore-second_number = inr (refl, inr (refl, inl (omega arith)))

Picks-in_order : Picks (λ (k : ℕ). 1 < k) (3 ∷ 1 ∷ 2 ∷ []) (3 ∷ 2 ∷ [])
Picks-in_order = inl (omega arith, 2 ∷ [], refl, inr (λ l. omega (arith, l), inl (omega arith, [], refl, refl)))

-- where tuples of two items or more fail, those of two are minimal, and those of three are not
fails : List ℕ → Type 0
fails t = 1 < length t

IsMinimal-pair : IsMinimal fails (4 ∷ 7 ∷ [])
unfolding fails
IsMinimal-pair = record { fails = omega arith; minimal = λ k l f. let s = subset-proper k (4 ∷ 7 ∷ []) (omega arith) in omega arith }

IsMinimal-triple : IsMinimal fails (1 ∷ 4 ∷ 7 ∷ []) → ⊥
unfolding fails
IsMinimal-triple h = h.minimal 5 (omega arith) (omega arith)
