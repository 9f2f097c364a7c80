-- Minimal failing sets, and the list of them, for any meaning of failing
-- (the incompressible failure sets of IronMask, S&P 2022).
use Rattle.std.specs.Prelude.{◌≡◌, ℕ, suc, ◌^◌, ◌<◌, ◌⊎◌, List, [], ◌∷◌, length}
use Rattle.tuple_model.specs.Tuples.{tuples, subset}

-- A tuple is minimal failing where it fails and none of its proper subsets does. Those are the subsets
-- with a number below that of the tuple itself, which is 2 ^ size - 1.
pub record IsMinimal (Fails : List ℕ → Type 0) (t : List ℕ) : Type 0 where
  pub fails : Fails t
  pub minimal : (k : ℕ) → suc k < 2 ^ length t → Fails (subset k t) → ⊥

-- The second list has those elements of the first that the fact holds of, in their order: each is next in it, or is
-- skipped.
abbrev pub Picks : {X : Type 0} → (X → Type 0) → List X → List X → Type 0
Picks P [] picked = picked ≡ []
Picks {X} P (x ∷ xs) picked =
    (P x × (rest : List X) × (picked ≡ x ∷ rest) × Picks P xs rest) ⊎ ((P x → ⊥) × Picks P xs picked)

-- The answer to a query: the minimal failing tuples of at most `size` of the items, each once, in order.
unfoldable pub IsAnswer : (List ℕ → Type 0) → ℕ → ℕ → List (List ℕ) → Type 0
IsAnswer Fails items size answer = Picks (IsMinimal Fails) (tuples items size) answer
