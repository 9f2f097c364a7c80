-- The step from one rank to the next, by what the next list of the tuple's size is.
use Rattle.std.proofs.Common.{◌≡◌, ℕ, suc, ◌<◌, ◌≤◌, ◌⊎◌, List, length, Option, Some, None, ap, ◌∙◌, inl, inr, arith}
use Rattle.std.specs.List.{slice_get}
use Rattle.std.specs.Option.{option_or}
use Rattle.std.proofs.lemmas.Bool.{cases_lt}
use Rattle.std.proofs.lemmas.Option.{slice_get_within, slice_get-get_or}
use Rattle.tuple_model.specs.Tuples.{IsTuple, tuples}
use Rattle.tuple_model.proofs.Ranks.{IsTuple-from_rank, rank-from_IsTuple}
use Rattle.tuple_order.specs.Steps.{numbers_from, next_of_size}
use Rattle.tuple_order.proofs.Walk.{first_of_size, next_tuple, next_rank, next_tuple-smaller, next_tuple-largest, first_of_size-some, first_of_size-none}

pub IsTuple-next : (items size : ℕ) (t u : List ℕ) → IsTuple items size t → next_tuple items size t ≡ Some u → IsTuple items size u
IsTuple-next items size t u h e =
    let r = rank-from_IsTuple items size t h in
    IsTuple-from_rank items size (suc r.0) u (next_rank items size r.0 t r.1 ∙ e)

pub next_tuple-raised : (items size : ℕ) (t u : List ℕ) → next_of_size items t ≡ Some u → next_tuple items size t ≡ Some u
next_tuple-raised items size t u e = elim (cases_lt (length t) size) [
  | inl less ↦ next_tuple-smaller items size t less ∙ ap (λ (s : Option (List ℕ)). option_or s (first_of_size (suc (length t)) items 0)) e
  | inr most ↦ next_tuple-largest items size t most ∙ e
]

pub next_tuple-longer : (items size : ℕ) (t : List ℕ) → next_of_size items t ≡ None → length t < size → length t < items →
    next_tuple items size t ≡ Some (numbers_from 0 (suc (length t)))
next_tuple-longer items size t e less room =
    next_tuple-smaller items size t less
    ∙ ap (λ (s : Option (List ℕ)). option_or s (first_of_size (suc (length t)) items 0)) e
    ∙ first_of_size-some (suc (length t)) items 0 room

next_tuple-last : (items size : ℕ) (t : List ℕ) → next_of_size items t ≡ None → (size ≤ length t) ⊎ (items ≤ length t) → next_tuple items size t ≡ None
next_tuple-last items size t e (inl most) = next_tuple-largest items size t most ∙ e
next_tuple-last items size t e (inr full) = elim (cases_lt (length t) size) [
  | inl less ↦ next_tuple-smaller items size t less
      ∙ ap (λ (s : Option (List ℕ)). option_or s (first_of_size (suc (length t)) items 0)) e
      ∙ first_of_size-none (suc (length t)) items 0 (omega arith)
  | inr most ↦ next_tuple-largest items size t most ∙ e
]

pub rank-last : (items size : ℕ) (t : List ℕ) → next_of_size items t ≡ None → (size ≤ length t) ⊎ (items ≤ length t) →
    (rank : ℕ) → slice_get (tuples items size) rank ≡ Some t → length (tuples items size) ≡ suc rank
rank-last items size t e full rank h =
    let within = slice_get_within (tuples items size) rank t h in
    elim (cases_lt (suc rank) (length (tuples items size))) [
      | inl less ↦
          let some = slice_get-get_or (tuples items size) (suc rank) t less in
          let none = next_rank items size rank t h ∙ next_tuple-last items size t e full in
          absurd (cc)
      | inr most ↦ omega arith
    ]
