-- What two lists become where they are merged: the minimal ones of the tuples of both, which cover what both cover.
use Rattle.std.proofs.Common.{◌≡◌, ◌↔◌, ℕ, ◌<◌, ◌⊎◌, Bool, List, [], ◌∷◌, map, sym, ◌∙◌, inl, inr, subst, Contains}
use Rattle.std.specs.List.{All, AllPairs, dedup}
use Rattle.std.specs.List.Sorted.{IsPermutation, IsSorted}
use Rattle.std.specs.Ordering.{nat_cmp}
use Rattle.std.proofs.Math.Dec.{eqb}
use Rattle.std.proofs.lemmas.Bool.{cases_eq}
use Rattle.std.proofs.lemmas.List.Elements.{All-contains, All-contains_itself, All-weaker}
use Rattle.std.proofs.lemmas.List.Kept.{AllPairs-from_increasing, Contains-dedup_nat, Contains-from_dedup}
use Rattle.std.proofs.lemmas.List.Sorted.{Contains-permutation, IsPermutation-sym}
use Rattle.std.proofs.lemmas.Map.Keys.{IsStrictlyIncreasing-dedup}
use Rattle.list_laws.proofs.Members.{Contains-cons_head, Contains-cons_tail, Contains-cons_cases, Contains-map, Contains-from_map}
use Rattle.list_laws.proofs.Once.{Contains-nil}
use Rattle.tuple_model.specs.Limits.{most_items}
use Rattle.tuple_model.specs.Tuples.{IsRising, IsSubset}
use Rattle.tuple_model.specs.Antichains.{Covers, IsAntichain}
use Rattle.tuple_model.proofs.Antichains.{IsSubset-or_not, IsSubset-trans, IsSubset-antisym, Covers-member, member-covered, IsRising-from_antichain}
use Rattle.tuple_order.specs.Codes.{tuple_of_code}
use Rattle.antichain_list.specs.Held.{IsCode, AreCodes, AreMarked, IsMarked, NoneWithin, Gains}
use Rattle.antichain_list.specs.Lists.{InEither, Joins, CoversBoth}
use Rattle.antichain_list.proofs.Staying.{code-same, codes-apart, AreCodes-from_members}

either : {A B C D : Type 0} → (A → C) → (B → D) → (A ⊎ B) → C ⊎ D
either f g (inl a) = inl (f a)
either f g (inr b) = inr (g b)

module _ (one other joined : List (List ℕ)) (a : IsAntichain one) (b : IsAntichain other) (j : IsAntichain joined) (h : CoversBoth one other joined) where
  rising-listed : (s : List ℕ) → InEither one other s → IsRising 0 most_items s
  rising-listed s k = elim k [ inl l ↦ IsRising-from_antichain one s a l | inr l ↦ IsRising-from_antichain other s b l ]

  covers-listed : (s : List ℕ) → InEither one other s → Covers joined s
  covers-listed s k = (h s).1 (either (Covers-member one s) (Covers-member other s) k)

  -- of a member of the joined list, no other listed tuple is a subset
  least-listed : (t s : List ℕ) → Contains joined t → InEither one other s → IsSubset s t → s ≡ t
  least-listed t s k l has = member-covered joined most_items s t j (rising-listed s l) k has (covers-listed s l)

  subset-listed : (t : List ℕ) → Covers joined t → (s : List ℕ) × InEither one other s × IsSubset s t
  subset-listed t c = elim ((h t).0 c) [ inl d ↦ (d.0, inl d.1, d.2) | inr d ↦ (d.0, inr d.1, d.2) ]

  listed : (t : List ℕ) → Contains joined t → InEither one other t
  listed t k =
      let r = subset-listed t (Covers-member joined t k) in
      subst (InEither one other) (least-listed t r.0 k r.1 r.2) r.1

  -- a list in which no tuple is a subset of another has the minimal tuples where it covers what both lists cover
  pub Joins-from_covers : Joins one other joined
  Joins-from_covers t = (
    λ k. record { listed = listed t k; minimal = λ s l has. least-listed t s k l has },
    λ m.
        let c = covers-listed t m.listed in
        subst (Contains joined) (m.minimal c.0 (listed c.0 c.1) c.2) c.1,
  )

-- whether some other code of a list is within a code
within-or_none : (codes : List ℕ) (code : ℕ) → ((n : ℕ) × Contains codes n × IsSubset (tuple_of_code n) (tuple_of_code code) × (n ≡ code → ⊥)) ⊎ NoneWithin codes code
within-or_none [] code = inr (λ n k has. absurd (Contains-nil n k))
within-or_none (m ∷ codes) code = elim (within-or_none codes code) [
  | inl r ↦ inl (r.0, Contains-cons_tail m codes r.0 r.1, r.2, r.3)
  | inr none ↦ elim (cases_eq m code) [
    | inl e ↦ inr (λ n k has. elim (Contains-cons_cases m codes n k) [ inl f ↦ sym f ∙ e | inr l ↦ none n l has ])
    | inr other ↦ elim (IsSubset-or_not (tuple_of_code m) (tuple_of_code code)) [
      | inl has ↦ inl (m, Contains-cons_head m codes, has, other)
      | inr not ↦ inr (λ n k has.
          let P : ℕ → Type 0 = λ l. IsSubset (tuple_of_code l) (tuple_of_code code) in
          elim (Contains-cons_cases m codes n k) [ inl f ↦ absurd (not (subst P (sym f) has)) | inr l ↦ none n l has ])
    ]
  ]
]

-- the code stands in one of the lists, and none of the other list is within it
abbrev Stays : List ℕ → List ℕ → ℕ → Type 0
Stays one other n = (Contains one n × NoneWithin other n) ⊎ (Contains other n × NoneWithin one n)

-- within each code of the first list is one that stays
stays-within : (one other : List ℕ) → AreCodes one → AreCodes other → (m : ℕ) → Contains one m → (n : ℕ) × Stays one other n × IsSubset (tuple_of_code n) (tuple_of_code m)
stays-within one other g h m k = elim (within-or_none other m) [
  | inr none ↦ (m, inl (k, none), λ item l. l)
  | inl r ↦
      let c = All-contains IsCode one m g.coded k in
      let d = All-contains IsCode other r.0 h.coded r.1 in (
        r.0,
        inr (
          r.1,
          λ n l has.
              let e : n ≡ m = codes-apart one g n m l k (IsSubset-trans (tuple_of_code n) (tuple_of_code r.0) (tuple_of_code m) has r.2) in
              let P : ℕ → Type 0 = λ j. IsSubset (tuple_of_code j) (tuple_of_code r.0) in
              let same = IsSubset-antisym most_items most_items (tuple_of_code r.0) (tuple_of_code m) d.tuple.rising c.tuple.rising r.2 (subst P e has) in
              absurd (r.3 (code-same r.0 m d c same)),
        ),
        r.2,
      )
]

-- what two lists of codes become where they are merged
pub record AreJoined (one other joined : List ℕ) : Type 0 where
  pub held : AreCodes joined
  pub covers : CoversBoth (map tuple_of_code one) (map tuple_of_code other) (map tuple_of_code joined)

module _ (one other joined : List ℕ) (g : AreCodes one) (h : AreCodes other) (rises : AllPairs ◌<◌ joined) (stays : (n : ℕ) → Contains joined n ↔ Stays one other n) where
  joined-coded : All IsCode joined
  joined-coded = All-weaker (Contains joined) IsCode
      (λ n k. elim ((stays n).0 k) [ inl l ↦ All-contains IsCode one n g.coded l.0 | inr l ↦ All-contains IsCode other n h.coded l.0 ])
      joined (All-contains_itself joined)

  joined-apart : (m n : ℕ) → Contains joined m → Contains joined n → IsSubset (tuple_of_code m) (tuple_of_code n) → m ≡ n
  joined-apart m n k l has = elim ((stays m).0 k) [
    | inl p ↦ elim ((stays n).0 l) [ inl q ↦ codes-apart one g m n p.0 q.0 has | inr q ↦ q.1 m p.0 has ]
    | inr p ↦ elim ((stays n).0 l) [ inl q ↦ q.1 m p.0 has | inr q ↦ codes-apart other h m n p.0 q.0 has ]
  ]

  covers-either : (t : List ℕ) → Covers (map tuple_of_code joined) t → Covers (map tuple_of_code one) t ⊎ Covers (map tuple_of_code other) t
  covers-either t c =
      let r = Contains-from_map tuple_of_code joined c.0 c.1 in
      let P : List ℕ → Type 0 = λ s. IsSubset s t in
      let has : IsSubset (tuple_of_code r.0) t = subst P (sym r.2) c.2 in
      either (λ l. (tuple_of_code r.0, Contains-map tuple_of_code one r.0 l.0, has)) (λ l. (tuple_of_code r.0, Contains-map tuple_of_code other r.0 l.0, has)) ((stays r.0).0 r.1)

  covers-joined : (n : ℕ) (s t : List ℕ) → Stays one other n → IsSubset (tuple_of_code n) s → IsSubset s t → Covers (map tuple_of_code joined) t
  covers-joined n s t k has among = (tuple_of_code n, Contains-map tuple_of_code joined n ((stays n).1 k), IsSubset-trans (tuple_of_code n) s t has among)

  swapped : (n : ℕ) → Stays other one n → Stays one other n
  swapped n k = elim k [ inl l ↦ inr l | inr l ↦ inl l ]

  covers-from_either : (t : List ℕ) → (Covers (map tuple_of_code one) t ⊎ Covers (map tuple_of_code other) t) → Covers (map tuple_of_code joined) t
  covers-from_either t (inl c) =
      let q = Contains-from_map tuple_of_code one c.0 c.1 in
      let r = stays-within one other g h q.0 q.1 in
      covers-joined r.0 c.0 t r.1 (subst (IsSubset (tuple_of_code r.0)) q.2 r.2) c.2
  covers-from_either t (inr c) =
      let q = Contains-from_map tuple_of_code other c.0 c.1 in
      let r = stays-within other one h g q.0 q.1 in
      covers-joined r.0 c.0 t (swapped r.0 r.1) (subst (IsSubset (tuple_of_code r.0)) q.2 r.2) c.2

  AreJoined-from_stays : AreJoined one other joined
  AreJoined-from_stays = record {
    held = AreCodes-from_members joined joined-coded rises joined-apart;
    covers = λ t. (covers-either t, covers-from_either t);
  }

-- the codes that stay of both lists, in order and each once
pub AreJoined-sorted : (one other some both sorted joined : List ℕ) → AreCodes one → AreCodes other → Gains [] one other some → Gains some other one both → IsPermutation both sorted →
    IsSorted nat_cmp sorted → joined ≡ dedup eqb sorted → AreJoined one other joined
AreJoined-sorted one other some both sorted joined g h first second moved rises e =
    subst (AreJoined one other) (sym e)
    (AreJoined-from_stays one other (dedup eqb sorted) g h (AllPairs-from_increasing (dedup eqb sorted) (IsStrictlyIncreasing-dedup sorted rises)) (λ n. (
      λ k. elim ((second n).0 (Contains-permutation sorted both n (IsPermutation-sym both sorted moved) (Contains-from_dedup eqb sorted n k))) [
        | inl old ↦ elim ((first n).0 old) [ inl none ↦ absurd (Contains-nil n none) | inr l ↦ inl l ]
        | inr l ↦ inr l
      ],
      λ k. Contains-dedup_nat sorted n (Contains-permutation both sorted n moved ((second n).1 (elim k [ inl l ↦ inl ((first n).1 (inr l)) | inr l ↦ inr l ]))),
    )))

-- marks of both lists mark all items of what they become
pub AreMarked-joined : (one other joined : List ℕ) (marks others more : List Bool) → AreJoined one other joined → AreCodes one → AreCodes other → AreMarked marks one → AreMarked others other →
    ((item : ℕ) → (IsMarked marks item ⊎ IsMarked others item) → IsMarked more item) → AreMarked more joined
AreMarked-joined one other joined marks others more h a b p q kept t k item l =
    let m = (Joins-from_covers (map tuple_of_code one) (map tuple_of_code other) (map tuple_of_code joined) a.antichain b.antichain h.held.antichain h.covers t).0 k in
    kept item (either (λ there. p t there item l) (λ there. q t there item l) m.listed)
