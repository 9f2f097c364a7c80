-- Where nothing is left to do, the list form of the answer.
use Rattle.std.proofs.Common.{◌↔◌, ℕ, ◌≤◌, ◌⊎◌, List, [], ◌∷◌, refl, inl, inr, subst, Contains}
use Rattle.std.specs.List.{AllPairs}
use Rattle.list_laws.proofs.Members.{Contains-cons_head, Contains-cons_tail, Contains-cons_cases}
use Rattle.list_laws.proofs.Once.{Contains-nil}
use Rattle.tuple_model.specs.Limits.{most_items, most_size}
use Rattle.tuple_model.specs.Tuples.{IsTuple, IsBefore, tuples}
use Rattle.tuple_model.specs.Minimal.{IsMinimal, Picks, IsAnswer}
use Rattle.tuple_model.proofs.Rising.{IsTuple-from_member}
use Rattle.tuple_model.proofs.Answers.{IsAnswer-from_Picks, IsBefore-from_answer, answer-from_minimal, equal_or_not, minimal-from_answer}
use Rattle.tuple_model.proofs.Antichains.{ordered-same}
use Rattle.cover_core.specs.declared.state.State.{State}
use Rattle.cover_core.specs.Core.{Asked, CoreOk, Quiet, IsLeast}
use Rattle.cover_core.proofs.Law.{quiet-least}

member_or_not : (xs : List (List ℕ)) (t : List ℕ) → Contains xs t ⊎ (Contains xs t → ⊥)
member_or_not [] t = inr (Contains-nil t)
member_or_not (x ∷ xs) t = elim (equal_or_not x t) [
  | inl e ↦ inl (subst (Contains (x ∷ xs)) e (Contains-cons_head x xs))
  | inr other ↦ elim (member_or_not xs t) [
    | inl h ↦ inl (Contains-cons_tail x xs t h)
    | inr n ↦ inr (λ k. elim (Contains-cons_cases x xs t k) [ inl e ↦ other e | inr l ↦ n l ])
  ]
]

-- where it is settled for each element, there is a list of those that the fact holds of
picks : {X : Type 0} (P : X → Type 0) (xs : List X) → ((x : X) → Contains xs x → P x ⊎ (P x → ⊥)) → (picked : List X) × Picks P xs picked
picks P [] settled = ([], refl)
picks P (x ∷ xs) settled =
    let r = picks P xs (λ y k. settled y (Contains-cons_tail x xs y k)) in
    elim (settled x (Contains-cons_head x xs)) [
      | inl h ↦ (x ∷ r.0, inl (h, r.0, refl, r.1))
      | inr n ↦ (r.0, inr (n, r.1))
    ]

module _ (Fails : List ℕ → Type 0) (items size : ℕ) (list : List (List ℕ)) (ordered : AllPairs IsBefore list)
    (members : (t : List ℕ) → Contains list t ↔ (IsTuple items size t × IsMinimal Fails t)) where
  -- a list in order of exactly the minimal failing tuples is the answer
  pub answer-from_members : IsAnswer Fails items size list
  answer-from_members =
      let settled : (t : List ℕ) → Contains (tuples items size) t → IsMinimal Fails t ⊎ (IsMinimal Fails t → ⊥) = λ t k. elim (member_or_not list t) [
        | inl h ↦ inl ((members t).0 h).1
        | inr n ↦ inr (λ m. n ((members t).1 (IsTuple-from_member items size t k, m)))
      ] in
      let p = picks (IsMinimal Fails) (tuples items size) settled in
      let is = IsAnswer-from_Picks Fails items size p.0 p.1 in
      let same = ordered-same p.0 list (IsBefore-from_answer Fails items size p.0 is) ordered
      (λ t k. (members t).1 (minimal-from_answer Fails items size p.0 t is k))
      (λ t k. let m = (members t).0 k in answer-from_minimal Fails items size p.0 t is m.0 m.1) in
      subst (IsAnswer Fails items size) same is

module _ (a : Asked) (s : State) (few : a.items ≤ most_items) (small : a.size ≤ most_size) (ok : CoreOk a s) (quiet : Quiet a s) (list : List (List ℕ)) where
  pub quiet-answer : IsAnswer a.Fails a.items a.size list → (t : List ℕ) → Contains list t ↔ (IsTuple a.items a.size t × IsLeast s.words t)
  quiet-answer is t = (
    (λ k. let m = minimal-from_answer a.Fails a.items a.size list t is k in (m.0, (quiet-least a s few small ok quiet t m.0).1 m.1)),
    (λ k. answer-from_minimal a.Fails a.items a.size list t is k.0 ((quiet-least a s few small ok quiet t k.0).0 k.1)),
  )

  pub answer-quiet : AllPairs IsBefore list → ((t : List ℕ) → Contains list t ↔ (IsTuple a.items a.size t × IsLeast s.words t)) → IsAnswer a.Fails a.items a.size list
  answer-quiet ordered members = answer-from_members a.Fails a.items a.size list ordered (λ t. (
    (λ k. let m = (members t).0 k in (m.0, (quiet-least a s few small ok quiet t m.0).0 m.1)),
    (λ k. (members t).1 (k.0, (quiet-least a s few small ok quiet t k.0).1 k.1)),
  ))
