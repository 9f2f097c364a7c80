-- Which codes stay of a list where it is merged with another: those within which no tuple of the other is. Only smaller tuples can be.
use Rattle.std.proofs.Common.{◌≡◌, ℕ, suc, ◌+◌, ◌-◌, ◌*◌, ◌/◌, ◌%◌, ◌^◌, ◌<◌, ◌≤◌, ◌⊎◌, ◌↔◌, Bool, true, false, IsTrue, List, [], ◌∷◌, ◌++◌, map, length, take, drop, get_or, nat_eq, refl, ap, sym, ◌∙◌, inl, inr, arith, subst, Contains}
use Rattle.std.specs.List.{All, AllPairs}
use Rattle.std.proofs.lemmas.Bool.{cases_lt, eqb-true, eq-eqb}
use Rattle.std.proofs.lemmas.List.{take-append-drop, take_more, take_all, get_or_default, get_or-take, length-take}
use Rattle.std.proofs.lemmas.List.Elements.{All-contains, All-contains_itself, All-map, All-take, All-weaker, Contains-append_left, Contains-append_right, Contains-append_cases, Contains-push, Contains-push_cases}
use Rattle.list_laws.proofs.Members.{Contains-map, Contains-from_map, AllPairs-take}
use Rattle.list_laws.proofs.Once.{Contains-nil}
use Rattle.tuple_model.specs.Limits.{most_items, most_size}
use Rattle.tuple_model.specs.Tuples.{IsTuple, IsSubset}
use Rattle.tuple_model.specs.Antichains.{Covers, IsAntichain}
use Rattle.tuple_model.proofs.Antichains.{proper_or_equal}
use Rattle.tuple_model.proofs.Subsets.{subset-proper}
use Rattle.tuple_order.specs.Codes.{code_of, tuple_of_code, size_of_code}
use Rattle.tuple_order.proofs.Codes.{tuple_of_code-code_of, code_of-size, code_of-small, code_of-large}
use Rattle.antichain_list.specs.Held.{IsCode, AreCodes, AreMarked, NoneWithin, Gains}
use Rattle.antichain_list.specs.Lists.{IsFirstSubset}
use Rattle.antichain_list.proofs.Coded.{ordered-from_rising, rising-from_codes, IsNonDecreasing-from_codes}
use Rattle.antichain_list.proofs.Lookup.{only_itself}

-- codes of the same tuple are equal
pub code-same : (m n : ℕ) → IsCode m → IsCode n → tuple_of_code m ≡ tuple_of_code n → m ≡ n
code-same m n g h e = sym g.same ∙ ap code_of e ∙ h.same

pub size-same : (n : ℕ) → IsCode n → length (tuple_of_code n) ≡ size_of_code n
size-same n h = sym (code_of-size (tuple_of_code n) h.tuple) ∙ ap size_of_code h.same

-- a code and its tuple's size
size-bounds : (n : ℕ) → IsCode n → (2 ^ 62 ≤ n) × (n < 2 ^ 63)
size-bounds n h =
    let e = h.same in
    let l = code_of-large (tuple_of_code n) in
    let s = code_of-small (tuple_of_code n) h.tuple in
    (omega arith, omega arith)

-- a tuple that isn't larger than the first of the list has none of it within
pub NoneWithin-small : (codes : List ℕ) (code : ℕ) → AreCodes codes → IsCode code → size_of_code code ≤ size_of_code (get_or codes 0 0) → NoneWithin codes code
NoneWithin-small codes code held fits l n k has =
    let t = tuple_of_code code in
    let m : length t ≤ size_of_code (get_or codes 0 0) = subst (λ (k : ℕ). k ≤ size_of_code (get_or codes 0 0)) (sym (size-same code fits)) l in
    code-same n code (All-contains IsCode codes n held.coded k) fits
    (only_itself codes t held fits.tuple 0 m (tuple_of_code n) (Contains-map tuple_of_code codes n k) has)

-- what the first subset tells
pub NoneWithin-first : (codes : List ℕ) (code : ℕ) (s : List ℕ) → AreCodes codes → IsCode code → IsFirstSubset (map tuple_of_code codes) (tuple_of_code code) s →
    IsTrue (nat_eq (code_of s) code) ↔ NoneWithin codes code
NoneWithin-first codes code s held fits h =
    let r = Contains-from_map tuple_of_code codes s h.member in
    let c = All-contains IsCode codes r.0 held.coded r.1 in
    let own : code_of s ≡ r.0 = ap code_of (sym r.2) ∙ c.same in (
      λ e n k has.
          let same : r.0 ≡ code = sym own ∙ eqb-true (code_of s) code e in
          let t : tuple_of_code code ≡ s = ap tuple_of_code (sym same) ∙ r.2 in
          let equal = held.antichain.apart (tuple_of_code n) s (Contains-map tuple_of_code codes n k) h.member (subst (IsSubset (tuple_of_code n)) t has) in
          code-same n code (All-contains IsCode codes n held.coded k) fits (equal ∙ sym t),
      λ none.
          let P : List ℕ → Type 0 = λ u. IsSubset u (tuple_of_code code) in
          eq-eqb (code_of s) code (own ∙ none r.0 r.1 (subst P (sym r.2) h.subset)),
    )

pub NoneWithin-uncovered : (codes : List ℕ) (code : ℕ) → (Covers (map tuple_of_code codes) (tuple_of_code code) → ⊥) → NoneWithin codes code
NoneWithin-uncovered codes code h n k has = absurd (h (tuple_of_code n, Contains-map tuple_of_code codes n k, has))

-- The codes of tuples that are smaller than the greatest of the other list stand before the lowest code of its size.
pub smaller_first : (codes others : List ℕ) (place : ℕ) → AreCodes codes → AreCodes others →
    ((k : ℕ) → place ≤ k → k < length codes → 2 ^ 62 + size_of_code (get_or others (length others - 1) 0) * 2 ^ 54 ≤ get_or codes k 0) →
    (m n : ℕ) → Contains codes m → Contains others n → size_of_code m < size_of_code n → Contains (take place codes) m
smaller_first codes others place g h from m n k l less =
    let some : 0 < length others = let j = l.1 in omega arith in
    let last = get_or others (length others - 1) 0 in
    let c = size-bounds m (All-contains IsCode codes m g.coded k) in
    let d = size-bounds n (All-contains IsCode others n h.coded l) in
    let e = size-bounds last (h.coded (length others - 1) 0 (omega arith)) in
    let own : get_or others l.0 0 ≡ n = get_or_default others l.0 0 n l.1 ∙ l.2 in
    let i : l.0 ≤ length others - 1 = let j = l.1 in omega arith in
    let top : get_or others l.0 0 ≤ last = IsNonDecreasing-from_codes others h l.0 (length others - 1) 0 i (omega arith) in
    let it : get_or codes k.0 0 ≡ m = get_or_default codes k.0 0 m k.1 ∙ k.2 in
    elim (cases_lt k.0 place) [
      | inl before ↦ (k.0, let w = k.1 in omega (arith, length-take place codes), get_or-take place codes k.0 m before ∙ k.2)
      | inr after ↦ let b = from k.0 after k.1 in absurd (omega arith)
    ]

member-of_take : {X : Type 0} (n : ℕ) (xs : List X) (x : X) → Contains (take n xs) x → Contains xs x
member-of_take {X} n xs x k =
    let P : List X → Type 0 = λ ys. Contains ys x in
    subst P (take-append-drop n xs) (Contains-append_left (take n xs) (drop n xs) x k)

-- what rises, of which no tuple is a subset of another
pub AreCodes-from_members : (codes : List ℕ) → All IsCode codes → AllPairs ◌<◌ codes →
    ((m n : ℕ) → Contains codes m → Contains codes n → IsSubset (tuple_of_code m) (tuple_of_code n) → m ≡ n) → AreCodes codes
AreCodes-from_members codes coded rises apart = record {
  coded = coded;
  antichain = record {
    tuples = All-map (IsTuple most_items most_size) tuple_of_code codes (All-weaker IsCode (λ n. IsTuple most_items most_size (tuple_of_code n)) (λ n h. h.tuple) codes coded);
    ordered = ordered-from_rising codes coded rises;
    apart = λ s t k l has.
        let r = Contains-from_map tuple_of_code codes s k in
        let q = Contains-from_map tuple_of_code codes t l in
        let P : List ℕ → Type 0 = λ u. IsSubset u t in
        let among : IsSubset (tuple_of_code r.0) (tuple_of_code q.0) = subst (IsSubset (tuple_of_code r.0)) (sym q.2) (subst P (sym r.2) has) in
        sym r.2 ∙ ap tuple_of_code (apart r.0 q.0 r.1 q.1 among) ∙ q.2;
  };
}

pub codes-apart : (codes : List ℕ) → AreCodes codes → (m n : ℕ) → Contains codes m → Contains codes n → IsSubset (tuple_of_code m) (tuple_of_code n) → m ≡ n
codes-apart codes h m n k l has =
    code-same m n (All-contains IsCode codes m h.coded k) (All-contains IsCode codes n h.coded l)
    (h.antichain.apart (tuple_of_code m) (tuple_of_code n) (Contains-map tuple_of_code codes m k) (Contains-map tuple_of_code codes n l) has)

-- the first codes of a list
pub AreCodes-take : (codes : List ℕ) (place : ℕ) → AreCodes codes → AreCodes (take place codes)
AreCodes-take codes place h =
    AreCodes-from_members (take place codes) (All-take IsCode place codes h.coded) (AllPairs-take ◌<◌ place codes (rising-from_codes codes h))
    (λ m n k l has. codes-apart codes h m n (member-of_take place codes m k) (member-of_take place codes n l) has)

pub AreMarked-take : (codes : List ℕ) (marks : List Bool) (place : ℕ) → AreMarked marks codes → AreMarked marks (take place codes)
AreMarked-take codes marks place h t k =
    let r = Contains-from_map tuple_of_code (take place codes) t k in
    h t (subst (Contains (map tuple_of_code codes)) r.2 (Contains-map tuple_of_code codes r.0 (member-of_take place codes r.0 r.1)))

-- Those of the other list that aren't smaller are within no tuple.
module _ (before codes others after : List ℕ) (place : ℕ) (g : AreCodes codes) (h : AreCodes others)
    (smaller : (m n : ℕ) → Contains others m → Contains codes n → size_of_code m < size_of_code n → Contains (take place others) m) where
  within-all : (n : ℕ) → Contains codes n → NoneWithin (take place others) n → NoneWithin others n
  within-all n k none m l has =
      let c = All-contains IsCode codes n g.coded k in
      let d = All-contains IsCode others m h.coded l in
      elim (proper_or_equal most_items (tuple_of_code m) (tuple_of_code n) d.tuple.rising c.tuple.rising has) [
        | inl e ↦ code-same m n d c e
        | inr r ↦
            let low = subset-proper r.0 (tuple_of_code n) r.1 in
            let e = ap (λ (u : List ℕ). length u) r.2 in
            let p = size-same m d in
            let q = size-same n c in
            let less : size_of_code m < size_of_code n = omega arith in
            none m (smaller m n l k less) has
      ]

  within-first : (n : ℕ) → NoneWithin others n → NoneWithin (take place others) n
  within-first n none m l has = none m (member-of_take place others m l) has

  pub Gains-smaller : Gains before codes (take place others) after → Gains before codes others after
  Gains-smaller f n = (
    λ k. elim ((f n).0 k) [ inl old ↦ inl old | inr new ↦ inr (new.0, within-all n new.0 new.1) ],
    λ k. (f n).1 (elim k [ inl old ↦ inl old | inr new ↦ inr (new.0, within-first n new.1) ]),
  )

-- all codes of a list, beside an empty one
pub Gains-all : (before codes : List ℕ) → Gains before codes [] (before ++ codes)
Gains-all before codes n = (
  λ k. elim (Contains-append_cases before codes n k) [ inl old ↦ inl old | inr new ↦ inr (new, λ m l has. absurd (Contains-nil m l)) ],
  λ k. elim k [ inl old ↦ Contains-append_left before codes n old | inr new ↦ Contains-append_right before codes n new.0 ],
)

pub Gains-none : (before others : List ℕ) → Gains before [] others before
Gains-none before others n = (λ k. inl k, λ k. elim k [ inl old ↦ old | inr new ↦ absurd (Contains-nil n new.0) ])

-- one code more
module _ (before codes others after : List ℕ) (i : ℕ) (l : i < length codes) (h : Gains before (take i codes) others after) where
  next-cases : (n : ℕ) → Contains (take (i + 1) codes) n → Contains (take i codes) n ⊎ (get_or codes i 0 ≡ n)
  next-cases n k =
      let P : List ℕ → Type 0 = λ xs. Contains xs n in
      Contains-push_cases (take i codes) (get_or codes i 0) n (subst P (take_more codes i 0 l) k)

  next-old : (n : ℕ) → Contains (take i codes) n → Contains (take (i + 1) codes) n
  next-old n k =
      let P : List ℕ → Type 0 = λ xs. Contains xs n in
      subst P (sym (take_more codes i 0 l)) (Contains-append_left (take i codes) (get_or codes i 0 ∷ []) n k)

  next-new : Contains (take (i + 1) codes) (get_or codes i 0)
  next-new =
      let P : List ℕ → Type 0 = λ xs. Contains xs (get_or codes i 0) in
      subst P (sym (take_more codes i 0 l)) (Contains-push (take i codes) (get_or codes i 0))

  pub Gains-kept : NoneWithin others (get_or codes i 0) → Gains before (take (i + 1) codes) others (after ++ get_or codes i 0 ∷ [])
  Gains-kept none n = (
    λ k. elim (Contains-push_cases after (get_or codes i 0) n k) [
      | inl there ↦ elim ((h n).0 there) [ inl old ↦ inl old | inr new ↦ inr (next-old n new.0, new.1) ]
      | inr e ↦ inr (subst (Contains (take (i + 1) codes)) e next-new, subst (NoneWithin others) e none)
    ],
    λ k. elim k [
      | inl old ↦ Contains-append_left after (get_or codes i 0 ∷ []) n ((h n).1 (inl old))
      | inr new ↦ elim (next-cases n new.0) [
        | inl there ↦ Contains-append_left after (get_or codes i 0 ∷ []) n ((h n).1 (inr (there, new.1)))
        | inr e ↦ subst (Contains (after ++ get_or codes i 0 ∷ [])) e (Contains-push after (get_or codes i 0))
      ]
    ],
  )

  pub Gains-skipped : (NoneWithin others (get_or codes i 0) → ⊥) → Gains before (take (i + 1) codes) others after
  Gains-skipped some n = (
    λ k. elim ((h n).0 k) [ inl old ↦ inl old | inr new ↦ inr (next-old n new.0, new.1) ],
    λ k. elim k [
      | inl old ↦ (h n).1 (inl old)
      | inr new ↦ elim (next-cases n new.0) [
        | inl there ↦ (h n).1 (inr (there, new.1))
        | inr e ↦ absurd (some (subst (NoneWithin others) (sym e) new.1))
      ]
    ],
  )
