-- What is picked from a list: there is one such list, it has exactly the elements that the fact holds of, and it grows with the list.
use Rattle.std.proofs.Common.{◌≡◌, ℕ, ◌+◌, List, [], ◌∷◌, ◌++◌, take, Some, refl, ap, sym, ◌∙◌, inl, inr, arith, subst, append-nil, Contains}
use Rattle.std.specs.List.{AllPairs, slice_get}
use Rattle.std.proofs.lemmas.List.{take_more}
use Rattle.std.proofs.lemmas.Option.{slice_get_within, get_or_from_slice_get}
use Rattle.std.proofs.lemmas.List.Elements.{All-contains, All-contains_itself, All-weaker}
use Rattle.std.proofs.lemmas.List.Kept.{AllPairs-cons}
use Rattle.tuple_model.specs.Minimal.{Picks}
use Rattle.list_laws.proofs.Members.{Contains-cons_head, Contains-cons_tail, Contains-cons_cases, AllPairs-head, AllPairs-tail}

pub Picks-unique : {X : Type 0} (P : X → Type 0) (xs a b : List X) → Picks P xs a → Picks P xs b → a ≡ b
Picks-unique P [] a b h k = h ∙ sym k
Picks-unique P (x ∷ xs) a b (inl h) (inl k) = h.2 ∙ ap (λ r. x ∷ r) (Picks-unique P xs h.1 k.1 h.3 k.3) ∙ sym k.2
Picks-unique P (x ∷ xs) a b (inl h) (inr k) = absurd (k.0 h.0)
Picks-unique P (x ∷ xs) a b (inr h) (inl k) = absurd (h.0 k.0)
Picks-unique P (x ∷ xs) a b (inr h) (inr k) = Picks-unique P xs a b h.1 k.1

pub Picks-append : {X : Type 0} (P : X → Type 0) (xs ys a b : List X) → Picks P xs a → Picks P ys b → Picks P (xs ++ ys) (a ++ b)
Picks-append {X} P [] ys a b h k = let Q : List X → Type 0 = λ r. Picks P ys (r ++ b) in subst Q (sym h) k
Picks-append P (x ∷ xs) ys a b (inl h) k = inl (h.0, h.1 ++ b, ap (λ r. r ++ b) h.2, Picks-append P xs ys h.1 b h.3 k)
Picks-append P (x ∷ xs) ys a b (inr h) k = inr (h.0, Picks-append P xs ys a b h.1 k)

-- one more element, of which the fact holds
pub Picks-push_kept : {X : Type 0} (P : X → Type 0) (xs picked : List X) (x : X) → Picks P xs picked → P x → Picks P (xs ++ x ∷ []) (picked ++ x ∷ [])
Picks-push_kept P xs picked x h p = Picks-append P xs (x ∷ []) picked (x ∷ []) h (inl (p, [], refl, refl))

-- one more element, of which the fact does not hold
pub Picks-push_skipped : {X : Type 0} (P : X → Type 0) (xs picked : List X) (x : X) → Picks P xs picked → (P x → ⊥) → Picks P (xs ++ x ∷ []) picked
Picks-push_skipped P xs picked x h n = subst (Picks P (xs ++ x ∷ [])) (append-nil picked) (Picks-append P xs (x ∷ []) picked [] h (inr (n, refl)))

take_more_at : {X : Type 0} (xs : List X) (i : ℕ) (x : X) → slice_get xs i ≡ Some x → take (i + 1) xs ≡ take i xs ++ x ∷ []
take_more_at xs i x e = take_more xs i x (slice_get_within xs i x e) ∙ ap (λ y. take i xs ++ y ∷ []) (get_or_from_slice_get xs i x x e)

-- the same two steps for a walk that has picked from the first i elements
pub Picks-take_kept : {X : Type 0} (P : X → Type 0) (xs picked : List X) (i : ℕ) (x : X) → slice_get xs i ≡ Some x →
    Picks P (take i xs) picked → P x → Picks P (take (i + 1) xs) (picked ++ x ∷ [])
Picks-take_kept {X} P xs picked i x e h p =
    let Q : List X → Type 0 = λ ys. Picks P ys (picked ++ x ∷ []) in
    subst Q (sym (take_more_at xs i x e)) (Picks-push_kept P (take i xs) picked x h p)

pub Picks-take_skipped : {X : Type 0} (P : X → Type 0) (xs picked : List X) (i : ℕ) (x : X) → slice_get xs i ≡ Some x →
    Picks P (take i xs) picked → (P x → ⊥) → Picks P (take (i + 1) xs) picked
Picks-take_skipped {X} P xs picked i x e h n =
    let Q : List X → Type 0 = λ ys. Picks P ys picked in
    subst Q (sym (take_more_at xs i x e)) (Picks-push_skipped P (take i xs) picked x h n)

-- each element that the fact holds of is picked
pub picked-from_member : {X : Type 0} (P : X → Type 0) (xs picked : List X) (x : X) → Picks P xs picked → Contains xs x → P x → Contains picked x
picked-from_member P [] picked x h k p = absurd (omega arith)
picked-from_member {X} P (y ∷ xs) picked x (inl h) k p =
    let Q : List X → Type 0 = λ r. Contains r x in
    subst Q (sym h.2) (elim (Contains-cons_cases y xs x k) [
      | inl e ↦ subst (Contains (y ∷ h.1)) e (Contains-cons_head y h.1)
      | inr l ↦ Contains-cons_tail y h.1 x (picked-from_member P xs h.1 x h.3 l p)
    ])
picked-from_member P (y ∷ xs) picked x (inr h) k p = elim (Contains-cons_cases y xs x k) [
  | inl e ↦ absurd (h.0 (subst P (sym e) p))
  | inr l ↦ picked-from_member P xs picked x h.1 l p
]

-- and nothing else is
pub member-from_picked : {X : Type 0} (P : X → Type 0) (xs picked : List X) (x : X) → Picks P xs picked → Contains picked x → Contains xs x × P x
member-from_picked {X} P [] picked x h k = let Q : List X → Type 0 = λ r. Contains r x in let n = (subst Q h k).1 in absurd (omega arith)
member-from_picked {X} P (y ∷ xs) picked x (inl h) k =
    let Q : List X → Type 0 = λ r. Contains r x in
    elim (Contains-cons_cases y h.1 x (subst Q h.2 k)) [
      | inl e ↦ (subst (Contains (y ∷ xs)) e (Contains-cons_head y xs), subst P e h.0)
      | inr l ↦ let r = member-from_picked P xs h.1 x h.3 l in (Contains-cons_tail y xs x r.0, r.1)
    ]
member-from_picked P (y ∷ xs) picked x (inr h) k = let r = member-from_picked P xs picked x h.1 k in (Contains-cons_tail y xs x r.0, r.1)

-- what is picked from a list in order is in order
pub AllPairs-picked : {X : Type 0} (R : X → X → Type 0) (P : X → Type 0) (xs picked : List X) → Picks P xs picked → AllPairs R xs → AllPairs R picked
AllPairs-picked {X} R P [] picked h o = let Q : List X → Type 0 = λ r. AllPairs R r in subst Q (sym h) o
AllPairs-picked {X} R P (y ∷ xs) picked (inl h) o =
    let Q : List X → Type 0 = λ r. AllPairs R r in
    subst Q (sym h.2) (AllPairs-cons R y h.1
    (All-weaker (Contains h.1) (R y) (λ x k. All-contains (R y) xs x (AllPairs-head R y xs o) (member-from_picked P xs h.1 x h.3 k).0) h.1 (All-contains_itself h.1))
    (AllPairs-picked R P xs h.1 h.3 (AllPairs-tail R y xs o)))
AllPairs-picked R P (y ∷ xs) picked (inr h) o = AllPairs-picked R P xs picked h.1 (AllPairs-tail R y xs o)
