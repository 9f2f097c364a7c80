-- The answer to a query, for any meaning of failing: there is at most one, and each failing tuple has a subset in it.
use Rattle.std.proofs.Common.{◌≡◌, ℕ, zero, suc, ◌-◌, ◌^◌, ◌<◌, ◌≤◌, ◌⊎◌, List, [], ◌∷◌, length, refl, ap, sym, inl, inr, arith, subst, Contains, pow_pos}
use Rattle.std.proofs.lemmas.Bool.{cases_lt, cases_eq}
use Rattle.list_laws.proofs.Members.{Contains-cons_head, Contains-cons_tail, Contains-cons_cases}
use Rattle.list_laws.proofs.Once.{Contains-nil}
use Rattle.std.specs.List.{AllPairs}
use Rattle.tuple_model.specs.Tuples.{IsTuple, IsBefore, tuples, subset}
use Rattle.tuple_model.specs.Minimal.{IsMinimal, Picks, IsAnswer}
use Rattle.tuple_model.proofs.Rising.{IsTuple-from_member, member-from_IsTuple, tuples-ordered}
use Rattle.tuple_model.proofs.Subsets.{subset-whole, subset-proper, subset-subset, IsTuple-subset}
use Rattle.tuple_model.proofs.Picking.{Picks-unique, AllPairs-picked, picked-from_member, member-from_picked}

module _ (Fails : List ℕ → Type 0) (items size : ℕ) where
  pub IsAnswer-from_Picks : (answer : List (List ℕ)) → Picks (IsMinimal Fails) (tuples items size) answer → IsAnswer Fails items size answer
  unfolding IsAnswer
  IsAnswer-from_Picks answer h = h

  pub IsAnswer-unique : (a b : List (List ℕ)) → IsAnswer Fails items size a → IsAnswer Fails items size b → a ≡ b
  unfolding IsAnswer
  IsAnswer-unique a b h k = Picks-unique (IsMinimal Fails) (tuples items size) a b h k

  pub answer-from_minimal : (answer : List (List ℕ)) (t : List ℕ) → IsAnswer Fails items size answer → IsTuple items size t → IsMinimal Fails t → Contains answer t
  unfolding IsAnswer
  answer-from_minimal answer t h k m = picked-from_member (IsMinimal Fails) (tuples items size) answer t h (member-from_IsTuple items size t k) m

  pub IsBefore-from_answer : (answer : List (List ℕ)) → IsAnswer Fails items size answer → AllPairs IsBefore answer
  unfolding IsAnswer
  IsBefore-from_answer answer h = AllPairs-picked IsBefore (IsMinimal Fails) (tuples items size) answer h (tuples-ordered items size)

  pub minimal-from_answer : (answer : List (List ℕ)) (t : List ℕ) → IsAnswer Fails items size answer → Contains answer t → IsTuple items size t × IsMinimal Fails t
  unfolding IsAnswer
  minimal-from_answer answer t h k =
      let r = member-from_picked (IsMinimal Fails) (tuples items size) answer t h k in
      (IsTuple-from_member items size t r.0, r.1)

-- Settled: whether two lists of items are equal, whether a list is a member, whether one of the first n subsets of a tuple is a member.
pub equal_or_not : (s t : List ℕ) → (s ≡ t) ⊎ (s ≡ t → ⊥)
equal_or_not [] [] = inl refl
equal_or_not [] (b ∷ t) = inr (λ e. cc)
equal_or_not (a ∷ s) [] = inr (λ e. cc)
equal_or_not (a ∷ s) (b ∷ t) = elim (cases_eq a b) [
  | inl same ↦ elim (equal_or_not s t) [ inl e ↦ inl cc | inr n ↦ inr (λ f. let e : s ≡ t = cc in n e) ]
  | inr other ↦ inr (λ f. let e : a ≡ b = cc in other e)
]

member_or_not : (xs : List (List ℕ)) (t : List ℕ) → Contains xs t ⊎ (Contains xs t → ⊥)
member_or_not [] t = inr (Contains-nil t)
member_or_not (x ∷ xs) t = elim (equal_or_not x t) [
  | inl e ↦ inl (subst (Contains (x ∷ xs)) e (Contains-cons_head x xs))
  | inr other ↦ elim (member_or_not xs t) [
    | inl h ↦ inl (Contains-cons_tail x xs t h)
    | inr n ↦ inr (λ k. elim (Contains-cons_cases x xs t k) [ inl e ↦ other e | inr l ↦ n l ])
  ]
]

some_or_none : (xs : List (List ℕ)) (t : List ℕ) (n : ℕ) →
    ((k : ℕ) × (k < n) × Contains xs (subset k t)) ⊎ ((k : ℕ) → k < n → Contains xs (subset k t) → ⊥)
some_or_none xs t zero = inr (λ k l h. absurd (omega arith))
some_or_none xs t (suc n) = elim (some_or_none xs t n) [
  | inl r ↦ inl (r.0, omega arith, r.2)
  | inr none ↦ elim (member_or_not xs (subset n t)) [
    | inl h ↦ inl (n, omega arith, h)
    | inr not_here ↦ inr (λ k l h. elim (cases_lt k n) [
      | inl less ↦ none k less h
      | inr most ↦ let e : k ≡ n = omega arith in let P : ℕ → Type 0 = λ j. Contains xs (subset j t) in not_here (subst P e h)
    ])
  ]
]

-- no subset of the tuple is in the list
abbrev HasNoSubsetIn : List (List ℕ) → List ℕ → Type 0
HasNoSubsetIn xs t = (k : ℕ) → k < 2 ^ length t → Contains xs (subset k t) → ⊥

module _ (Fails : List ℕ → Type 0) (items size : ℕ) (answer : List (List ℕ)) (is : IsAnswer Fails items size answer) where
  -- A tuple of which no subset is in the answer doesn't fail where no proper subset of it does: else it would be minimal.
  passes_itself : (t : List ℕ) → IsTuple items size t → HasNoSubsetIn answer t → ((k : ℕ) → suc k < 2 ^ length t → Fails (subset k t) → ⊥) → Fails t → ⊥
  passes_itself t h none smaller f =
      let p = pow_pos (length t) in
      let e : suc (2 ^ length t - 1) ≡ 2 ^ length t = omega arith in
      none (2 ^ length t - 1) (omega arith)
      (subst (Contains answer) (sym (subset-whole (2 ^ length t - 1) t e))
      (answer-from_minimal Fails items size answer t is h (record { fails = f; minimal = smaller })))

  -- with as many steps as the tuple has items, from the empty subset up
  passes_within : (steps : ℕ) (t : List ℕ) → length t ≤ steps → IsTuple items size t → HasNoSubsetIn answer t → Fails t → ⊥
  passes_within zero t l h none =
      let e : 2 ^ length t ≡ 1 = let z : length t ≡ 0 = omega arith in ap (λ n. 2 ^ n) z in
      passes_itself t h none (λ k less. absurd (omega arith))
  passes_within (suc steps) t l h none = passes_itself t h none (λ k less.
      let smaller = subset-proper k t less in
      passes_within steps (subset k t) (omega arith) (IsTuple-subset items size k t h)
      (λ j m c. let r = subset-subset 0 items j k t h.rising in none r.0 r.1 (subst (Contains answer) (sym r.2) c)))

  -- each failing tuple has a subset in the answer
  pub answered : (t : List ℕ) → IsTuple items size t → Fails t → (k : ℕ) × (k < 2 ^ length t) × Contains answer (subset k t)
  answered t h f = elim (some_or_none answer t (2 ^ length t)) [
    | inl r ↦ r
    | inr none ↦ absurd (passes_within (length t) t (omega arith) h none f)
  ]

-- where the answer is empty no tuple fails
pub none_fails-from_empty : (Fails : List ℕ → Type 0) (items size : ℕ) (answer : List (List ℕ)) → IsAnswer Fails items size answer → answer ≡ [] →
    (t : List ℕ) → IsTuple items size t → Fails t → ⊥
none_fails-from_empty Fails items size answer is empty t h f =
    let r = answered Fails items size answer is t h f in
    let P : List (List ℕ) → Type 0 = λ xs. Contains xs (subset r.0 t) in
    Contains-nil (subset r.0 t) (subst P empty r.2)
