-- The steps from the empty tuple on go through all tuples, in order.
use Rattle.std.proofs.Common.{◌≡◌, ℕ, zero, suc, ◌+◌, ◌<◌, ◌≤◌, Bool, cond, ltb, List, [], ◌∷◌, ◌++◌, map, length, Option, Some, None, refl, ap, sym, ◌∙◌, inl, inr, arith, subst, Contains}
use Rattle.std.specs.List.{slice_get}
use Rattle.std.specs.Option.{option_or, option_map}
use Rattle.std.proofs.lemmas.Bool.{cases_lt, lt-ltb, le-ltb}
use Rattle.tuple_model.specs.Tuples.{rising, tuples}
use Rattle.list_laws.proofs.Members.{Contains-cons_head, Contains-cons_tail}
use Rattle.tuple_model.proofs.Rising.{IsRisingOfSize-from_member, IsTuple-from_member}
use Rattle.tuple_order.specs.Steps.{numbers_from, next_of_size}

-- the first of the rising lists of a size, of so many numbers from low on, if there is one
abbrev pub first_of_size : ℕ → ℕ → ℕ → Option (List ℕ)
first_of_size size room low = cond (ltb room size) None (Some (numbers_from low size))

-- the next tuple: the next of the same size, or else the first of the next size
abbrev pub next_tuple : ℕ → ℕ → List ℕ → Option (List ℕ)
next_tuple items size t =
    option_or (next_of_size items t) (cond (ltb (length t) size) (first_of_size (suc (length t)) items 0) None)

-- steps from a start give exactly the list, and end with it
abbrev pub GoesThrough : (List ℕ → Option (List ℕ)) → Option (List ℕ) → List (List ℕ) → Type 0
GoesThrough next start [] = start ≡ None
GoesThrough next start (t ∷ ts) = (start ≡ Some t) × GoesThrough next (next t) ts

-- steps with a number put in front, and then on into another list
front : (high low size : ℕ) (start : Option (List ℕ)) (ts rest : List (List ℕ)) (after : Option (List ℕ)) →
    ((t : List ℕ) → Contains ts t → length t ≡ size) →
    (cond (ltb (suc low + size) high) (Some (numbers_from (suc low) (suc size))) None ≡ after) →
    GoesThrough (next_of_size high) start ts → GoesThrough (next_of_size high) after rest →
    GoesThrough (next_of_size high) (option_or (option_map (λ t. low ∷ t) start) after) (map (λ t. low ∷ t) ts ++ rest)
front high low size start [] rest after sizes last h k =
    let P : Option (List ℕ) → Type 0 = λ s. GoesThrough (next_of_size high) (option_or (option_map (λ t. low ∷ t) s) after) rest in subst P (sym h) k
front high low size start (t ∷ ts) rest after sizes last h k =
    let e : cond (ltb (suc low + length t) high) (Some (numbers_from (suc low) (suc (length t)))) None ≡ after =
    ap (λ (n : ℕ). cond (ltb (suc low + n) high) (Some (numbers_from (suc low) (suc n))) None) (sizes t (Contains-cons_head t ts)) ∙ last in
    let P : Option (List ℕ) → Type 0 = λ s. GoesThrough (next_of_size high) s (map (λ t. low ∷ t) ts ++ rest) in (
      ap (λ (s : Option (List ℕ)). option_or (option_map (λ t. low ∷ t) s) after) h.0,
      subst P (ap (option_or (option_map (λ t. low ∷ t) (next_of_size high t))) (sym e))
          (front high low size (next_of_size high t) ts rest after (λ u g. sizes u (Contains-cons_tail t ts u g)) last h.1 k),
    )

-- where there is a first list of a size, and where there is none
pub first_of_size-none : (size room low : ℕ) → room < size → first_of_size size room low ≡ None
first_of_size-none size room low l = ap (λ (b : Bool). cond b None (Some (numbers_from low size))) (lt-ltb room size l)

pub first_of_size-some : (size room low : ℕ) → size ≤ room → first_of_size size room low ≡ Some (numbers_from low size)
first_of_size-some size room low l = ap (λ (b : Bool). cond b None (Some (numbers_from low size))) (le-ltb room size l)

walk_of_size : (size room low : ℕ) → GoesThrough (next_of_size (low + room)) (first_of_size size room low) (rising size room low)
walk_of_size zero room low = (first_of_size-some 0 room low (omega arith), refl)
walk_of_size (suc size) zero low = first_of_size-none (suc size) 0 low (omega arith)
walk_of_size (suc size) (suc room) low =
    let z : suc low + room ≡ low + suc room = omega arith in
    let P : ℕ → Type 0 = λ h. GoesThrough (next_of_size h) (first_of_size size room (suc low)) (rising size room (suc low)) in
    let Q : ℕ → Type 0 = λ h. GoesThrough (next_of_size h) (first_of_size (suc size) room (suc low)) (rising (suc size) room (suc low)) in
    let last : cond (ltb (suc low + size) (low + suc room)) (Some (numbers_from (suc low) (suc size))) None ≡ first_of_size (suc size) room (suc low) = elim (cases_lt room (suc size)) [
      | inl less ↦ ap (λ (b : Bool). cond b (Some (numbers_from (suc low) (suc size))) None) (le-ltb (suc low + size) (low + suc room) (omega arith))
          ∙ sym (first_of_size-none (suc size) room (suc low) less)
      | inr most ↦ ap (λ (b : Bool). cond b (Some (numbers_from (suc low) (suc size))) None) (lt-ltb (suc low + size) (low + suc room) (omega arith))
          ∙ sym (first_of_size-some (suc size) room (suc low) most)
    ] in
    let after = first_of_size (suc size) room (suc low) in
    let start : option_or (option_map (λ t. low ∷ t) (first_of_size size room (suc low))) after ≡ first_of_size (suc size) (suc room) low = elim (cases_lt room size) [
      | inl less ↦
          ap (λ (s : Option (List ℕ)). option_or (option_map (λ t. low ∷ t) s) after) (first_of_size-none size room (suc low) less)
          ∙ first_of_size-none (suc size) room (suc low) (omega arith)
          ∙ sym (first_of_size-none (suc size) (suc room) low (omega arith))
      | inr most ↦
          ap (λ (s : Option (List ℕ)). option_or (option_map (λ t. low ∷ t) s) after) (first_of_size-some size room (suc low) most)
          ∙ sym (first_of_size-some (suc size) (suc room) low (omega arith))
    ] in
    let R : Option (List ℕ) → Type 0 = λ s. GoesThrough (next_of_size (low + suc room)) s (rising (suc size) (suc room) low) in
    subst R start
    (front (low + suc room) low size (first_of_size size room (suc low)) (rising size room (suc low)) (rising (suc size) room (suc low)) after
    (λ t g. (IsRisingOfSize-from_member size room (suc low) t g).0) last (subst P z (walk_of_size size room (suc low))) (subst Q z (walk_of_size (suc size) room (suc low))))

follows_same : (next next' : List ℕ → Option (List ℕ)) (start : Option (List ℕ)) (ts : List (List ℕ)) → ((t : List ℕ) → Contains ts t → next t ≡ next' t) →
    GoesThrough next start ts → GoesThrough next' start ts
follows_same next next' start [] e h = h
follows_same next next' start (t ∷ ts) e h =
    let P : Option (List ℕ) → Type 0 = λ s. GoesThrough next' s ts in
    (h.0, subst P (e t (Contains-cons_head t ts)) (follows_same next next' (next t) ts (λ u g. e u (Contains-cons_tail t ts u g)) h.1))

-- steps of one kind, and then on into another list
graft : (next next' : List ℕ → Option (List ℕ)) (start after : Option (List ℕ)) (ts rest : List (List ℕ)) →
    ((t : List ℕ) → Contains ts t → next' t ≡ option_or (next t) after) →
    GoesThrough next start ts → GoesThrough next' after rest → GoesThrough next' (option_or start after) (ts ++ rest)
graft next next' start after [] rest e h k = let P : Option (List ℕ) → Type 0 = λ s. GoesThrough next' (option_or s after) rest in subst P (sym h) k
graft next next' start after (t ∷ ts) rest e h k =
    let P : Option (List ℕ) → Type 0 = λ s. GoesThrough next' s (ts ++ rest) in (
      ap (λ (s : Option (List ℕ)). option_or s after) h.0,
      subst P (sym (e t (Contains-cons_head t ts))) (graft next next' (next t) after ts rest (λ u g. e u (Contains-cons_tail t ts u g)) h.1 k),
    )

option_or-none : (o : Option (List ℕ)) → option_or o None ≡ o
option_or-none None = refl
option_or-none (Some t) = refl

option_or-assoc : (a b c d : Option (List ℕ)) → option_or b c ≡ d → option_or (option_or a b) c ≡ option_or a d
option_or-assoc None b c d e = e
option_or-assoc (Some t) b c d e = refl

-- where a size has a first tuple, a larger size comes later; where it has none, no larger one has
firsts : (items n m : ℕ) → n ≤ m → option_or (first_of_size n items 0) (first_of_size m items 0) ≡ first_of_size n items 0
firsts items n m l = elim (cases_lt items n) [
  | inl less ↦
      ap (λ (s : Option (List ℕ)). option_or s (first_of_size m items 0)) (first_of_size-none n items 0 less)
      ∙ first_of_size-none m items 0 (omega arith)
      ∙ sym (first_of_size-none n items 0 less)
  | inr most ↦
      ap (λ (s : Option (List ℕ)). option_or s (first_of_size m items 0)) (first_of_size-some n items 0 most)
      ∙ sym (first_of_size-some n items 0 most)
]

pub next_tuple-smaller : (items size : ℕ) (t : List ℕ) → length t < size → next_tuple items size t ≡ option_or (next_of_size items t) (first_of_size (suc (length t)) items 0)
next_tuple-smaller items size t l =
    ap (λ (b : Bool). option_or (next_of_size items t) (cond b (first_of_size (suc (length t)) items 0) None)) (lt-ltb (length t) size l)

pub next_tuple-largest : (items size : ℕ) (t : List ℕ) → size ≤ length t → next_tuple items size t ≡ next_of_size items t
next_tuple-largest items size t l =
    ap (λ (b : Bool). option_or (next_of_size items t) (cond b (first_of_size (suc (length t)) items 0) None)) (le-ltb (length t) size l)
    ∙ option_or-none (next_of_size items t)

next_tuple-more : (items size : ℕ) (t : List ℕ) → length t ≤ size → next_tuple items (suc size) t ≡ option_or (next_tuple items size t) (first_of_size (suc size) items 0)
next_tuple-more items size t l =
    next_tuple-smaller items (suc size) t (omega arith)
    ∙ sym (elim (cases_lt (length t) size) [
      | inl less ↦
          ap (λ (s : Option (List ℕ)). option_or s (first_of_size (suc size) items 0)) (next_tuple-smaller items size t less)
          ∙ option_or-assoc (next_of_size items t) (first_of_size (suc (length t)) items 0) (first_of_size (suc size) items 0) (first_of_size (suc (length t)) items 0)
          (firsts items (suc (length t)) (suc size) (omega arith))
      | inr most ↦
          let e : size ≡ length t = omega arith in
          ap (λ (s : Option (List ℕ)). option_or s (first_of_size (suc size) items 0)) (next_tuple-largest items size t most)
          ∙ ap (λ (n : ℕ). option_or (next_of_size items t) (first_of_size (suc n) items 0)) e
    ])

pub walk : (items size : ℕ) → GoesThrough (next_tuple items size) (Some []) (tuples items size)
walk items zero = (refl, refl)
walk items (suc size) =
    let z : 0 + items ≡ items = omega arith in
    let P : ℕ → Type 0 = λ h. GoesThrough (next_of_size h) (first_of_size (suc size) items 0) (rising (suc size) items 0) in
    graft (next_tuple items size) (next_tuple items (suc size)) (Some []) (first_of_size (suc size) items 0) (tuples items size) (rising (suc size) items 0)
    (λ t h. next_tuple-more items size t (IsTuple-from_member items size t h).short) (walk items size)
    (follows_same (next_of_size items) (next_tuple items (suc size)) (first_of_size (suc size) items 0) (rising (suc size) items 0)
    (λ t h. sym (next_tuple-largest items (suc size) t (let q = (IsRisingOfSize-from_member (suc size) items 0 t h).0 in omega arith)))
    (subst P z (walk_of_size (suc size) items 0)))

-- in steps that give a list, each element is followed by the next one
follows_at : (next : List ℕ → Option (List ℕ)) (start : Option (List ℕ)) (ts : List (List ℕ)) (rank : ℕ) (t : List ℕ) → GoesThrough next start ts →
    slice_get ts rank ≡ Some t → slice_get ts (suc rank) ≡ next t
follows_at next start [] rank t h e = cc
follows_at next start (u ∷ []) zero t h e = let same : u ≡ t = cc in sym (ap next (sym same) ∙ h.1)
follows_at next start (u ∷ v ∷ ts) zero t h e = let same : u ≡ t = cc in sym (ap next (sym same) ∙ h.1.0)
follows_at next start (u ∷ ts) (suc rank) t h e = follows_at next (next u) ts rank t h.1 e

pub next_rank : (items size rank : ℕ) (t : List ℕ) → slice_get (tuples items size) rank ≡ Some t → slice_get (tuples items size) (suc rank) ≡ next_tuple items size t
next_rank items size rank t e = follows_at (next_tuple items size) (Some []) (tuples items size) rank t (walk items size) e
