-- Each list of values is what a linear map gives for some randoms, or a choice in which the randoms cancel tells it from all that are.
use Rattle.std.proofs.Common.{◌≡◌, ℕ, zero, suc, ◌⊎◌, Bool, true, false, List, [], ◌∷◌, length, refl, ap, sym, ◌∙◌, inl, inr}
use Rattle.std.proofs.lemmas.Bool.{cases_Bool}
use Rattle.gadget_model.specs.Bits.{add}
use Rattle.gadget_model.proofs.Sums.{add-false}
use Rattle.bit_lists.specs.BitLists.{add_bits, chosen_sum}
use Rattle.bit_lists.proofs.BitLists.{add_bits-comm, add_bits-cancel, length-add_bits, chosen_sum-add_bits, chosen_sum-add_choice, tell_apart}
use Rattle.simulation_law.specs.Linear.{IsLinear, RandomsCancel}
use Rattle.simulation_law.proofs.Linear.{first_column, other_randoms, length-first_column, IsLinear-other_randoms, linear-first_true, RandomsCancel-zero, RandomsCancel-suc, RandomsCancel-add_bits}

-- the map gives v for some assignment of the randoms
abbrev pub IsReached : ℕ → (List Bool → List Bool) → List Bool → Type 0
IsReached n M v = (r : List Bool) × (length r ≡ n) × (M r ≡ v)

-- some choice in which the randoms cancel has the sum true at v: it tells v from all lists that are reached
abbrev pub IsSeparated : ℕ → (List Bool → List Bool) → List Bool → Type 0
IsSeparated n M v = (c : List Bool) × RandomsCancel n M c × (chosen_sum c v ≡ true)

-- the other bit of a true sum, where one is false and where one is true
from_false : (a b : Bool) → b ≡ false → add a b ≡ true → a ≡ true
from_false a b off e = sym (add-false a) ∙ ap (add a) (sym off) ∙ e

from_true : (a b : Bool) → b ≡ true → add a b ≡ true → a ≡ false
from_true false b on e = refl
from_true true b on e = cc

-- Of two choices in which the other randoms cancel, the one that tells v, the one that tells v and the first random's
-- column, or their sum is a choice in which all randoms cancel and that tells v.
IsSeparated-suc : (n m : ℕ) (M : List Bool → List Bool) → IsLinear (suc n) m M → (v c d : List Bool) →
    RandomsCancel n (other_randoms M) c → chosen_sum c v ≡ true →
    RandomsCancel n (other_randoms M) d → add (chosen_sum d v) (chosen_sum d (first_column n M)) ≡ true →
    (chosen_sum c (first_column n M) ≡ true) ⊎ (chosen_sum c (first_column n M) ≡ false) →
    (chosen_sum d (first_column n M) ≡ true) ⊎ (chosen_sum d (first_column n M) ≡ false) →
    IsSeparated (suc n) M v
IsSeparated-suc n m M h v c d hc cv hd dv (inr c_off) d_cases = (c, RandomsCancel-suc n m M h c hc c_off, cv)
IsSeparated-suc n m M h v c d hc cv hd dv (inl c_on) (inr d_off) =
    (d, RandomsCancel-suc n m M h d hd d_off, from_false (chosen_sum d v) (chosen_sum d (first_column n M)) d_off dv)
IsSeparated-suc n m M h v c d hc cv hd dv (inl c_on) (inl d_on) =
    let column = first_column n M in
    let none = chosen_sum-add_choice c d column ∙ ap (λ (b : Bool). add b (chosen_sum d column)) c_on ∙ ap (add true) d_on in
    let d_misses = from_true (chosen_sum d v) (chosen_sum d column) d_on dv in (
      add_bits c d,
      RandomsCancel-suc n m M h (add_bits c d) (RandomsCancel-add_bits n (other_randoms M) c d hc hd) none,
      chosen_sum-add_choice c d v ∙ ap (λ (b : Bool). add b (chosen_sum d v)) cv ∙ ap (add true) d_misses,
    )

-- A list of values is reached or separated. By the number of randoms: the others reach v, or they reach it once the first
-- random's column is added, or choices separate it both ways.
pub reached_or_separated : (n m : ℕ) (M : List Bool → List Bool) → IsLinear n m M → (v : List Bool) → length v ≡ m →
    IsReached n M v ⊎ IsSeparated n M v
reached_or_separated zero m M h v e = elim (tell_apart v (M []) (e ∙ sym (h.lengths [] refl))) [
  | inl same ↦ inl ([], refl, sym same)
  | inr c ↦ inr (c.0, RandomsCancel-zero m M h c.0, from_false (chosen_sum c.0 v) (chosen_sum c.0 (M [])) (RandomsCancel-zero m M h c.0 [] refl) c.1)
]
reached_or_separated (suc n) m M h v e =
    let column = first_column n M in
    let l = length-first_column n m M h in
    let others = IsLinear-other_randoms n m M h in
    elim (reached_or_separated n m (other_randoms M) others v e) [
      | inl s ↦ inl (false ∷ s.0, ap suc s.1, s.2)
      | inr c ↦ elim (reached_or_separated n m (other_randoms M) others (add_bits v column) (length-add_bits v column (e ∙ sym l) ∙ l)) [
        | inl s ↦ inl (
          true ∷ s.0,
          ap suc s.1,
          linear-first_true n m M h s.0 s.1 ∙ ap (add_bits column) (s.2 ∙ add_bits-comm v column) ∙ add_bits-cancel column v (l ∙ sym e),
        )
        | inr d ↦ inr (IsSeparated-suc n m M h v c.0 d.0 c.1 c.2 d.1 (sym (chosen_sum-add_bits d.0 v column) ∙ d.2)
            (cases_Bool (chosen_sum c.0 column)) (cases_Bool (chosen_sum d.0 column)))
      ]
    ]
