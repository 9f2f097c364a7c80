-- Antichains: what one covers determines it and makes it the answer to a query; and it grows by what is added.
use Rattle.std.proofs.Common.{◌≡◌, ℕ, suc, ◌+◌, ◌^◌, ◌<◌, ◌⊎◌, List, [], ◌∷◌, length, refl, ap, sym, ◌∙◌, inl, inr, arith, subst, Contains}
use Rattle.std.specs.List.{AllPairs}
use Rattle.std.proofs.lemmas.Bool.{cases_lt, cases_eq}
use Rattle.std.proofs.lemmas.List.Elements.{All-contains, All-contains_itself, All-weaker}
use Rattle.list_laws.proofs.Members.{Contains-cons_head, Contains-cons_tail, Contains-cons_cases, AllPairs-head, AllPairs-tail}
use Rattle.list_laws.proofs.Once.{Contains-nil}
use Rattle.tuple_model.specs.Limits.{most_items, most_size}
use Rattle.tuple_model.specs.Tuples.{IsRising, IsTuple, IsBefore, IsSubset, tuples, subset}
use Rattle.tuple_model.specs.Minimal.{IsMinimal, Picks, IsAnswer}
use Rattle.tuple_model.specs.Antichains.{Covers, IsAntichain, CoversSame, CoversFailing, Adds, CoversMore}
use Rattle.tuple_model.proofs.Rising.{IsRising-to_higher, IsTuple-from_member, member-from_IsTuple, tuples-ordered}
use Rattle.tuple_model.proofs.Ranks.{IsBefore-irreflexive, IsBefore-asymmetric}
use Rattle.tuple_model.proofs.Subsets.{IsTuple-subset, length-subset, member-from_subset, subset-whole, subset-proper, subset-from_members}
use Rattle.tuple_model.proofs.Answers.{IsAnswer-from_Picks, equal_or_not}

-- Settled: whether an item is in a tuple, and whether a tuple is a subset of another.
pub has_or_lacks : (t : List ℕ) (item : ℕ) → Contains t item ⊎ (Contains t item → ⊥)
has_or_lacks [] item = inr (Contains-nil item)
has_or_lacks (a ∷ t) item = elim (cases_eq a item) [
  | inl same ↦ inl (subst (Contains (a ∷ t)) same (Contains-cons_head a t))
  | inr other ↦ elim (has_or_lacks t item) [
    | inl h ↦ inl (Contains-cons_tail a t item h)
    | inr n ↦ inr (λ k. elim (Contains-cons_cases a t item k) [ inl e ↦ other e | inr l ↦ n l ])
  ]
]

pub IsSubset-or_not : (s t : List ℕ) → IsSubset s t ⊎ (IsSubset s t → ⊥)
IsSubset-or_not [] t = inl (λ item k. absurd (Contains-nil item k))
IsSubset-or_not (a ∷ s) t = elim (has_or_lacks t a) [
  | inl h ↦ elim (IsSubset-or_not s t) [
    | inl rest ↦ inl (λ item k. elim (Contains-cons_cases a s item k) [ inl e ↦ subst (Contains t) e h | inr l ↦ rest item l ])
    | inr n ↦ inr (λ all. n (λ item k. all item (Contains-cons_tail a s item k)))
  ]
  | inr n ↦ inr (λ all. n (all a (Contains-cons_head a s)))
]

pub IsSubset-trans : (r s t : List ℕ) → IsSubset r s → IsSubset s t → IsSubset r t
IsSubset-trans r s t h k item l = k item (h item l)

-- a proper subset of a tuple is smaller, and has a number below that of the tuple itself
pub proper_or_equal : (high : ℕ) (s t : List ℕ) → IsRising 0 high s → IsRising 0 high t → IsSubset s t →
    (s ≡ t) ⊎ ((k : ℕ) × (suc k < 2 ^ length t) × (subset k t ≡ s))
proper_or_equal high s t g h has =
    let r = subset-from_members 0 high t s h g has in
    elim (cases_lt (suc r.0) (2 ^ length t)) [
      | inl less ↦ inr (r.0, less, r.2)
      | inr most ↦ inl (sym r.2 ∙ subset-whole r.0 t (omega arith))
    ]

-- two tuples that are subsets of one another are equal
pub IsSubset-antisym : (high more : ℕ) (s t : List ℕ) → IsRising 0 high s → IsRising 0 more t → IsSubset s t → IsSubset t s → s ≡ t
IsSubset-antisym high more s t g h has back =
    let g' = IsRising-to_higher 0 high (high + more) s (omega arith) g in
    let h' = IsRising-to_higher 0 more (high + more) t (omega arith) h in
    elim (proper_or_equal (high + more) s t g' h' has) [
      | inl e ↦ e
      | inr r ↦
          let smaller = subset-proper r.0 t r.1 in
          let e = ap (λ (u : List ℕ). length u) r.2 in
          let q = subset-from_members 0 (high + more) s t g' h' back in
          let l = length-subset q.0 s in
          let f = ap (λ (u : List ℕ). length u) q.2 in
          absurd (omega arith)
    ]

-- of two tuples, a subset is the same or comes before
pub IsSubset-before : (high : ℕ) (s t : List ℕ) → IsRising 0 high s → IsRising 0 high t → IsSubset s t → (s ≡ t) ⊎ IsBefore s t
IsSubset-before high s t g h has = elim (proper_or_equal high s t g h has) [
  | inl e ↦ inl e
  | inr r ↦
      let smaller = subset-proper r.0 t r.1 in
      let e = ap (λ (u : List ℕ). length u) r.2 in
      inr (inl (omega arith))
]

-- the first of a list in order comes before each other member, and is none of them
first_before : (x : List ℕ) (xs : List (List ℕ)) (y : List ℕ) → AllPairs IsBefore (x ∷ xs) → Contains xs y → IsBefore x y
first_before x xs y o k = All-contains (IsBefore x) xs y (AllPairs-head IsBefore x xs o) k

first_once : (x : List ℕ) (xs : List (List ℕ)) → AllPairs IsBefore (x ∷ xs) → Contains xs x → ⊥
first_once x xs o k = IsBefore-irreflexive x (first_before x xs x o k)

-- What is picked from a list in order: a list in order of exactly the elements that the fact holds of.
picks_members : (P : List ℕ → Type 0) (xs list : List (List ℕ)) → AllPairs IsBefore xs → AllPairs IsBefore list →
    ((t : List ℕ) → Contains list t → Contains xs t × P t) → ((t : List ℕ) → Contains xs t → (Contains list t → ⊥) → P t → ⊥) → Picks P xs list
picks_members P [] [] o p picked left = refl
picks_members P [] (y ∷ ys) o p picked left = absurd (Contains-nil y (picked y (Contains-cons_head y ys)).0)
picks_members P (x ∷ xs) [] o p picked left = inr (
  left x (Contains-cons_head x xs) (Contains-nil x),
  picks_members P xs [] (AllPairs-tail IsBefore x xs o) p (λ t k. absurd (Contains-nil t k)) (λ t k. left t (Contains-cons_tail x xs t k)),
)
picks_members P (x ∷ xs) (y ∷ ys) o p picked left = elim (equal_or_not x y) [
  | inl e ↦ inl (
    subst P (sym e) (picked y (Contains-cons_head y ys)).1,
    ys,
    ap (λ (z : List ℕ). z ∷ ys) (sym e),
    picks_members P xs ys (AllPairs-tail IsBefore x xs o) (AllPairs-tail IsBefore y ys p)
        (λ t k.
        let r = picked t (Contains-cons_tail y ys t k) in (
          elim (Contains-cons_cases x xs t r.0) [
            | inl f ↦ absurd (first_once y ys p (let g : t ≡ y = sym f ∙ e in subst (Contains ys) g k))
            | inr l ↦ l
          ],
          r.1,
        ))
        (λ t k n. left t (Contains-cons_tail x xs t k) (λ l. elim (Contains-cons_cases y ys t l) [
          | inl f ↦ first_once x xs o (let g : t ≡ x = sym f ∙ sym e in subst (Contains xs) g k)
          | inr m ↦ n m
        ])),
  )
  | inr other ↦
      let in_rest : Contains xs y = elim (Contains-cons_cases x xs y (picked y (Contains-cons_head y ys)).0) [ inl e ↦ absurd (other e) | inr l ↦ l ] in
      let not_listed : Contains (y ∷ ys) x → ⊥ = λ k. elim (Contains-cons_cases y ys x k) [
        | inl e ↦ other (sym e)
        | inr l ↦ IsBefore-asymmetric x y (first_before x xs y o in_rest) (first_before y ys x p l)
      ] in
      inr (
        left x (Contains-cons_head x xs) not_listed,
        picks_members P xs (y ∷ ys) (AllPairs-tail IsBefore x xs o) p
            (λ t k.
            let r = picked t k in (
              elim (Contains-cons_cases x xs t r.0) [ inl e ↦ absurd (not_listed (subst (Contains (y ∷ ys)) (sym e) k)) | inr l ↦ l ],
              r.1,
            ))
            (λ t k. left t (Contains-cons_tail x xs t k)),
      )
]

-- two lists in order with the same members are equal
pub ordered-same : (xs ys : List (List ℕ)) → AllPairs IsBefore xs → AllPairs IsBefore ys →
    ((t : List ℕ) → Contains xs t → Contains ys t) → ((t : List ℕ) → Contains ys t → Contains xs t) → xs ≡ ys
ordered-same [] [] o p h k = refl
ordered-same [] (y ∷ ys) o p h k = absurd (Contains-nil y (k y (Contains-cons_head y ys)))
ordered-same (x ∷ xs) [] o p h k = absurd (Contains-nil x (h x (Contains-cons_head x xs)))
ordered-same (x ∷ xs) (y ∷ ys) o p h k =
    let e : x ≡ y = elim (Contains-cons_cases y ys x (h x (Contains-cons_head x xs))) [
      | inl e ↦ sym e
      | inr l ↦ elim (Contains-cons_cases x xs y (k y (Contains-cons_head y ys))) [
        | inl e ↦ e
        | inr m ↦ absurd (IsBefore-asymmetric x y (first_before x xs y o m) (first_before y ys x p l))
      ]
    ] in
    let rest = ordered-same xs ys (AllPairs-tail IsBefore x xs o) (AllPairs-tail IsBefore y ys p)
    (rest_members x y xs ys e o h) (rest_members y x ys xs (sym e) p k) in
    cc
  where
    rest_members : (x y : List ℕ) (xs ys : List (List ℕ)) → x ≡ y → AllPairs IsBefore (x ∷ xs) →
        ((t : List ℕ) → Contains (x ∷ xs) t → Contains (y ∷ ys) t) → (t : List ℕ) → Contains xs t → Contains ys t
    rest_members x y xs ys e o h t k = elim (Contains-cons_cases y ys t (h t (Contains-cons_tail x xs t k))) [
      | inl f ↦ absurd (first_once x xs o (let g : t ≡ x = sym f ∙ sym e in subst (Contains xs) g k))
      | inr l ↦ l
    ]

pub IsRising-from_antichain : (list : List (List ℕ)) (t : List ℕ) → IsAntichain list → Contains list t → IsRising 0 most_items t
IsRising-from_antichain list t a k = (All-contains (IsTuple most_items most_size) list t a.tuples k).rising

-- a list covers its members
pub Covers-member : (list : List (List ℕ)) (t : List ℕ) → Contains list t → Covers list t
Covers-member list t k = (t, k, λ item l. l)

-- a member of an antichain that has a covered subset is that subset
pub member-covered : (list : List (List ℕ)) (high : ℕ) (s t : List ℕ) → IsAntichain list → IsRising 0 high s → Contains list t → IsSubset s t → Covers list s → s ≡ t
member-covered list high s t a g k has c =
    let e : c.0 ≡ t = a.apart c.0 t c.1 k (IsSubset-trans c.0 s t c.2 has) in
    let P : List ℕ → Type 0 = λ u. IsSubset u s in
    IsSubset-antisym high most_items s t g (IsRising-from_antichain list t a k) has (subst P e c.2)

member-same : (xs ys : List (List ℕ)) → IsAntichain xs → IsAntichain ys → ((t : List ℕ) → Covers xs t → Covers ys t) → ((t : List ℕ) → Covers ys t → Covers xs t) →
    (t : List ℕ) → Contains xs t → Contains ys t
member-same xs ys a b f g t k =
    let m = f t (Covers-member xs t k) in
    let e = member-covered xs most_items m.0 t a (IsRising-from_antichain ys m.0 b m.1) k m.2 (g m.0 (Covers-member ys m.0 m.1)) in
    subst (Contains ys) e m.1

-- an antichain is determined by what it covers
pub antichain-same : (xs ys : List (List ℕ)) → IsAntichain xs → IsAntichain ys → CoversSame xs ys → xs ≡ ys
antichain-same xs ys a b h =
    ordered-same xs ys a.ordered b.ordered
    (member-same xs ys a b (λ t k. (h t).0 k) (λ t k. (h t).1 k))
    (member-same ys xs b a (λ t k. (h t).1 k) (λ t k. (h t).0 k))

module _ (Fails : List ℕ → Type 0) (items size : ℕ) (list : List (List ℕ)) where
  -- a member of such a list fails
  member-fails : IsAntichain list → CoversFailing Fails items size list → (t : List ℕ) → Contains list t → IsTuple items size t × Fails t
  member-fails a h t k =
      let r = (h t).0 (Covers-member list t k) in
      let e = member-covered list items r.0 t a r.1.rising k r.3 ((h r.0).1 (r.0, r.1, r.2, λ item l. l)) in
      (subst (IsTuple items size) e r.1, subst Fails e r.2)

  -- and none of its proper subsets does
  member-minimal : IsAntichain list → CoversFailing Fails items size list → (t : List ℕ) → Contains list t → IsMinimal Fails t
  member-minimal a h t k =
      let f = member-fails a h t k in
      record {
        fails = f.1;
        minimal = λ number l bad.
            let s = IsTuple-subset items size number t f.0 in
            let e = member-covered list items (subset number t) t a s.rising k (member-from_subset number t)
            ((h (subset number t)).1 (subset number t, s, bad, λ item m. m)) in
            let smaller = subset-proper number t l in
            let n = ap (λ (u : List ℕ). length u) e in
            omega arith;
      }

  -- a tuple that is no member is not minimal
  other-not_minimal : IsAntichain list → CoversFailing Fails items size list → (t : List ℕ) → IsTuple items size t → (Contains list t → ⊥) → IsMinimal Fails t → ⊥
  other-not_minimal a h t g n m =
      let c = (h t).1 (t, g, m.fails, λ item l. l) in
      let f = member-fails a h c.0 c.1 in
      elim (proper_or_equal items c.0 t f.0.rising g.rising c.2) [
        | inl e ↦ n (subst (Contains list) e c.1)
        | inr r ↦ m.minimal r.0 r.1 (subst Fails (sym r.2) f.1)
      ]

  -- An antichain that covers exactly the tuples with a failing subset is the answer, also where failing isn't inherited by supersets.
  pub answer-from_antichain : IsAntichain list → CoversFailing Fails items size list → IsAnswer Fails items size list
  answer-from_antichain a h = IsAnswer-from_Picks Fails items size list
      (picks_members (IsMinimal Fails) (tuples items size) list (tuples-ordered items size) a.ordered
      (λ t k. (member-from_IsTuple items size t (member-fails a h t k).0, member-minimal a h t k))
      (λ t k n. other-not_minimal a h t (IsTuple-from_member items size t k) n))

module _ (before : List (List ℕ)) (t : List ℕ) (after : List (List ℕ)) where
  added_apart : IsAntichain before → (Covers before t → ⊥) → Adds before t after →
      (r s : List ℕ) → Contains after r → Contains after s → IsSubset r s → r ≡ s
  added_apart a n h r s k l has = elim ((h r).0 k) [
    | inl e ↦ elim ((h s).0 l) [
      | inl f ↦ e ∙ sym f
      | inr f ↦ let P : List ℕ → Type 0 = λ u. IsSubset u s in absurd (f.1 (subst P e has))
    ]
    | inr e ↦ elim ((h s).0 l) [
      | inl f ↦ absurd (n (r, e.0, subst (IsSubset r) f has))
      | inr f ↦ a.apart r s e.0 f.0 has
    ]
  ]

  -- a tuple that the list doesn't cover came in, and its supersets went: the list is an antichain again
  pub IsAntichain-added : IsAntichain before → IsTuple most_items most_size t →
      (Covers before t → ⊥) → Adds before t after → AllPairs IsBefore after → IsAntichain after
  IsAntichain-added a g n h o = record {
    tuples = All-weaker (Contains after) (IsTuple most_items most_size)
        (λ s k. elim ((h s).0 k) [ inl e ↦ subst (IsTuple most_items most_size) (sym e) g | inr e ↦ All-contains (IsTuple most_items most_size) before s a.tuples e.0 ])
        after (All-contains_itself after);
    ordered = o;
    apart = added_apart a n h;
  }

  -- and it covers what it covered, and the supersets of the tuple
  pub Covers-added : Adds before t after → CoversMore before t after
  Covers-added h u = (
    λ k. elim ((h k.0).0 k.1) [
      | inl e ↦ let P : List ℕ → Type 0 = λ s. IsSubset s u in inr (subst P e k.2)
      | inr e ↦ inl (k.0, e.0, k.2)
    ],
    λ k. elim k [
      | inl c ↦ elim (IsSubset-or_not t c.0) [
        | inl has ↦ (t, (h t).1 (inl refl), IsSubset-trans t c.0 u has c.2)
        | inr not ↦ (c.0, (h c.0).1 (inr (c.1, not)), c.2)
      ]
      | inr has ↦ (t, (h t).1 (inl refl), has)
    ],
  )
