-- What the words at the end say.
use Rattle.std.proofs.Common.{◌≡◌, ◌≢◌, ◌↔◌, ℕ, zero, suc, ◌+◌, ◌<◌, ◌≤◌, ◌^◌, ◌⊎◌, List, [], ◌∷◌, ◌++◌, length, Contains, eqb, ap, sym, ◌∙◌, inl, inr, arith, subst}
use Rattle.std.proofs.lemmas.Bool.{cases_eq, eq-eqb, ne_eqb}
use Rattle.std.specs.Prelude.{IsPermutation}
use Rattle.std.proofs.lemmas.List.Elements.{Contains-push, Contains-push_cases, Contains-append_left}
use Rattle.std.proofs.lemmas.List.Sorted.{Contains-permutation, IsPermutation-sym}
use mathlib.Core.Option.{some, some-injective, some-ne-none}
use lib.ListN.{get_elem?}
use Rattle.tuple_model.specs.Limits.{most_items, most_size}
use Rattle.tuple_model.specs.Tuples.{IsTuple, IsSubset, subset}
use Rattle.tuple_model.specs.Antichains.{Covers, IsAntichain}
use Rattle.tuple_model.proofs.Antichains.{IsSubset-trans, Covers-added, Covers-member, member-covered, proper_or_equal, answer-from_antichain}
use Rattle.tuple_model.proofs.Subsets.{member-from_subset, subset-proper}
use Rattle.tuple_order.specs.Codes.{code_of}
use Rattle.tuple_order.proofs.Codes.{code_of-unique, code_of-large}
use Rattle.antichain_list.specs.Lists.{MatchAdded}
use Rattle.antichain_list.specs.declared.antichain.Added.{Added}
use Rattle.antichain_list.specs.declared.antichain.Added.TheVariants.{Kept, Covered}
use Rattle.cover_core.specs.declared.state.View.{View}
use Rattle.cover_core.specs.Core.{Asked, Has, times, one_if}
use Rattle.cover_core.proofs.Ends.{Closes}
use Rattle.cover_core.proofs.Law.{IsTuple-large, fails-from_fits}
use Rattle.cover_core.proofs.Changing.{at_less, same_at}
use Rattle.cover_core.proofs.Moved.{code_of-not_zero}
use Rattle.claim_store.specs.Closing.{CoversCode, CoversCodes, CoversWords, Ends, HasWords, IsLeastMade, IsMade}

-- a number that a list has somewhere, as a count and as a member
pub has-from_times : (n : ℕ) (xs : List ℕ) → 0 < times n xs → Has n xs
has-from_times n [] l = absurd (omega arith)
has-from_times n (x ∷ xs) l = elim (cases_eq x n) [
  | inl same ↦ inl same
  | inr other ↦ let e : one_if (eqb x n) ≡ 0 = ap one_if (ne_eqb x n other) in inr (has-from_times n xs (omega arith))
]

pub times-from_has : (n : ℕ) (xs : List ℕ) → Has n xs → 0 < times n xs
times-from_has n [] h = absurd h
times-from_has n (x ∷ xs) (inl e) = let k : one_if (eqb x n) ≡ 1 = ap one_if (eq-eqb x n e) in omega arith
times-from_has n (x ∷ xs) (inr h) = let k = times-from_has n xs h in omega arith

pub at-from_has : (n : ℕ) (xs : List ℕ) → Has n xs → (place : ℕ) × (get_elem? xs place ≡ some n)
at-from_has n [] h = absurd h
at-from_has n (x ∷ xs) (inl e) = (0, ap (λ (y : ℕ). some y) e)
at-from_has n (x ∷ xs) (inr h) = let k = at-from_has n xs h in (suc k.0, k.1)

pub has-from_at : (n : ℕ) (xs : List ℕ) (place : ℕ) → get_elem? xs place ≡ some n → Has n xs
has-from_at n [] place e = absurd (some-ne-none n (sym e))
has-from_at n (x ∷ xs) zero e = inl (some-injective x n e)
has-from_at n (x ∷ xs) (suc place) e = inr (has-from_at n xs place e)

-- a code that is added
pub adds-none : (live : List (List ℕ)) (code : ℕ) → ((t : List ℕ) → IsTuple most_items most_size t → code_of t ≡ code → ⊥) → CoversCode live code live
adds-none live code none t = ((λ c. inl c), (λ k. elim k [ inl c ↦ c | inr w ↦ absurd (none w.tuple w.fits w.coded) ]))

pub adds-tuple : (live live' : List (List ℕ)) (code : ℕ) (s : List ℕ) (added : Added) → IsTuple most_items most_size s → code_of s ≡ code → MatchAdded live live' s added → CoversCode live code live'
adds-tuple live live' code s added fits coded match t = (
  (λ c. elim (more.0 c) [ inl old ↦ inl old | inr has ↦ inr record { tuple = s; fits = fits; coded = coded; subset = has } ]),
  (λ k. more.1 (elim k [
    | inl c ↦ inl c
    | inr w ↦
        let is : w.tuple ≡ s = code_of-unique w.tuple s w.fits fits (w.coded ∙ sym coded) in
        let P : List ℕ → Type 0 = λ u. IsSubset u t in
        inr (subst P is w.subset)
  ])),
)
  where
    now : (added : Added) → MatchAdded live live' s added → (u : List ℕ) → Covers live' u ↔ (Covers live u ⊎ IsSubset s u)
    now Kept m u = Covers-added live s live' m.1 u
    now (Covered r) m u = (
      (λ c. let P : List (List ℕ) → Type 0 = λ l. Covers l u in inl (subst P m.1 c)),
      (λ k. let P : List (List ℕ) → Type 0 = λ l. Covers l u in subst P (sym m.1) (elim k [
        | inl c ↦ c
        | inr has ↦ (r, m.0.member, IsSubset-trans r s u m.0.subset has)
      ])),
    )

    more : Covers live' t ↔ (Covers live t ⊎ IsSubset s t)
    more = now added match t

-- the codes of the words, word by word
pub has-none : (words : List ℕ) → HasWords words 0 []
has-none words word = ((λ k. let none = k.1 in absurd (omega arith)), (λ h. let l = h.1.1 in absurd (omega arith)))

pub has-empty : (words codes : List ℕ) (place word : ℕ) → get_elem? words (suc place) ≡ some word → word ≡ 0 → HasWords words place codes → HasWords words (place + 1) codes
has-empty words codes place word at empty has n = (
  (λ k. let h = (has n).0 k in let l = h.1.1 in (h.0, (h.1.0, omega arith, h.1.2))),
  (λ h. elim (cases_eq h.1.0 place) [
    | inl same ↦
        let F : ℕ → Type 0 = λ p. get_elem? words (suc p) ≡ some n in
        absurd (h.0 (same_at words (suc place) n word (subst F same h.1.2) at ∙ empty))
    | inr apart ↦ let l = h.1.1 in (has n).1 (h.0, (h.1.0, omega arith, h.1.2))
  ]),
)

pub has-more : (words codes : List ℕ) (place word : ℕ) → get_elem? words (suc place) ≡ some word → word ≢ 0 → HasWords words place codes → HasWords words (place + 1) (codes ++ word ∷ [])
has-more words codes place word at filled has n = (
  (λ k. elim (Contains-push_cases codes word n k) [
    | inl old ↦ let h = (has n).0 old in let l = h.1.1 in (h.0, (h.1.0, omega arith, h.1.2))
    | inr same ↦
        let P : ℕ → Type 0 = λ m. (m ≢ 0) × ((p : ℕ) × (p < place + 1) × (get_elem? words (suc p) ≡ some m)) in
        subst P same (filled, (place, omega arith, at))
  ]),
  (λ h. elim (cases_eq h.1.0 place) [
    | inl same ↦
        let F : ℕ → Type 0 = λ p. get_elem? words (suc p) ≡ some n in
        let is : word ≡ n = same_at words (suc place) word n at (subst F same h.1.2) in
        let P : ℕ → Type 0 = λ m. Contains (codes ++ word ∷ []) m in
        subst P is (Contains-push codes word)
    | inr apart ↦ let l = h.1.1 in Contains-append_left codes (word ∷ []) n ((has n).1 (h.0, (h.1.0, omega arith, h.1.2)))
  ]),
)

pub has-sorted : (words codes sorted : List ℕ) (places : ℕ) → IsPermutation codes sorted → HasWords words places codes → HasWords words places sorted
has-sorted words codes sorted places moved has n = (
  (λ k. (has n).0 (Contains-permutation sorted codes n (IsPermutation-sym codes sorted moved) k)),
  (λ h. Contains-permutation codes sorted n moved ((has n).1 h)),
)

-- what tuples with these codes cover, code by code
pub covers-start : CoversCodes [] []
covers-start t = ((λ c. let none = c.1.1 in absurd (omega arith)), (λ h. let none = h.2.1 in absurd (omega arith)))

pub covers-more : (codes more : List ℕ) (code : ℕ) (live live' : List (List ℕ)) → more ≡ codes ++ code ∷ [] → CoversCode live code live' → CoversCodes codes live → CoversCodes more live'
covers-more codes more code live live' is adds covers t = (
  (λ c. elim ((adds t).0 c) [
    | inl old ↦
        let h = (covers t).0 old in
        (h.0, h.1, subst (λ (xs : List ℕ). Contains xs (code_of h.0)) (sym is) (Contains-append_left codes (code ∷ []) (code_of h.0) h.2), h.3)
    | inr w ↦
        let P : ℕ → Type 0 = λ n. Contains more n in
        (w.tuple, w.fits, subst P (sym w.coded) (subst (λ (xs : List ℕ). Contains xs code) (sym is) (Contains-push codes code)), w.subset)
  ]),
  (λ h. (adds t).1 (elim (Contains-push_cases codes code (code_of h.0) (subst (λ (xs : List ℕ). Contains xs (code_of h.0)) is h.2)) [
    | inl old ↦ inl ((covers t).1 (h.0, h.1, old, h.3))
    | inr same ↦ inr record { tuple = h.0; fits = h.1; coded = sym same; subset = h.3 }
  ])),
)

-- the words and their codes cover the same
pub covers-words : (words codes : List ℕ) (places : ℕ) (live : List (List ℕ)) → HasWords words places codes → CoversCodes codes live → CoversWords words places live
covers-words words codes places live has covers t = (
  (λ c. let h = (covers t).0 c in let w = (has (code_of h.0)).0 h.2 in record { tuple = h.0; fits = h.1; place = w.1.0; below = w.1.1; at = w.1.2; subset = h.3 }),
  (λ h. (covers t).1 (h.tuple, h.fits, (has (code_of h.tuple)).1 ((λ e. code_of-not_zero h.tuple e), (h.place, h.below, h.at)), h.subset)),
)

-- an antichain that covers just what the made tuples cover has exactly those of them without a made proper subset
module _ (made : List ℕ) (live : List (List ℕ)) (antichain : IsAntichain live) (covers : (t : List ℕ) → Covers live t ↔ ((s : List ℕ) × IsMade made s × IsSubset s t)) where
  covered : (s : List ℕ) → IsMade made s → Covers live s
  covered s m = (covers s).1 (s, m, λ item k. k)

  -- a made tuple within a member is the member
  member-made : (s t : List ℕ) → Contains live t → IsMade made s → IsSubset s t → s ≡ t
  member-made s t k m has = member-covered live most_items s t antichain m.0.rising k has (covered s m)

  least-from_member : (t : List ℕ) → Contains live t → IsLeastMade made t
  least-from_member t k =
      let r = (covers t).0 (Covers-member live t k) in (
        subst (IsMade made) (member-made r.0 t k r.1 r.2) r.1,
        (λ number l m.
            let e = member-made (subset number t) t k m (member-from_subset number t) in
            let smaller = subset-proper number t l in
            let n = ap (λ (u : List ℕ). length u) e in
            absurd (omega arith)),
      )

  member-from_least : (t : List ℕ) → IsLeastMade made t → Contains live t
  member-from_least t least =
      let c = covered t least.0 in
      let f = (least-from_member c.0 c.1).0 in
      elim (proper_or_equal most_items c.0 t f.0.rising least.0.0.rising c.2) [
        | inl e ↦ subst (Contains live) e c.1
        | inr r ↦ absurd (least.1 r.0 r.1 (subst (IsMade made) (sym r.2) f))
      ]

  pub least-from_covers : (t : List ℕ) → Contains live t ↔ IsLeastMade made t
  least-from_covers t = (least-from_member t, member-from_least t)

-- the end, from what the last view knows
module _ (a : Asked) (v : View) (cursor : ℕ) (rest : List ℕ) (few : a.items ≤ most_items) (small : a.size ≤ most_size) (closes : Closes a v cursor rest) where
  -- what is made is what stands there
  made-from_place : (place : ℕ) (s : List ℕ) → get_elem? rest place ≡ some (code_of s) → Has (code_of s) v.made
  made-from_place place s at = has-from_times (code_of s) v.made (go (code_of s) (code_of-large s) (times-from_has (code_of s) rest (has-from_at (code_of s) rest place at)))
    where
      go : (n : ℕ) → 2 ^ 62 ≤ n → 0 < times n rest → 0 < times n v.made
      go zero l k = absurd (omega arith)
      go (suc n) l k = let m = closes.made n in omega arith

  place-from_made : (s : List ℕ) → Has (code_of s) v.made → (place : ℕ) × (get_elem? rest place ≡ some (code_of s))
  place-from_made s h = at-from_has (code_of s) rest (has-from_times (code_of s) rest (go (code_of s) (code_of-large s) (times-from_has (code_of s) v.made h)))
    where
      go : (n : ℕ) → 2 ^ 62 ≤ n → 0 < times n v.made → 0 < times n rest
      go zero l k = absurd (omega arith)
      go (suc n) l k = let m = closes.made n in omega arith

  pub ends : (width words : ℕ) (live : List (List ℕ)) → words ≡ width → length rest ≡ width → IsAntichain live → CoversWords (cursor ∷ rest) width live → Ends a width v record { live = live; cursor = cursor; words = words }
  ends width words live same long antichain covers = record {
    low = closes.low;
    most = closes.most;
    words = same;
    antichain = antichain;
    live = least-from_covers v.made live antichain (λ t. (
      (λ c. let h = (covers t).0 c in (h.tuple, (h.fits, made-from_place h.place h.tuple h.at), h.subset)),
      (λ k. let p = place-from_made k.0 k.1.1 in let l = at_less rest p.0 (code_of k.0) p.1 in
          (covers t).1 record { tuple = k.0; fits = k.1.0; place = p.0; below = omega arith; at = p.1; subset = k.2 }),
    ));
    answer = λ none done. answer-from_antichain a.Fails a.items a.size live antichain (λ t. (
      (λ c.
          let h = (covers t).0 c in
          let z : code_of h.tuple ≢ 0 = λ e. let l = code_of-large h.tuple in omega arith in
          let f = fails-from_fits a cursor h.tuple few small h.fits (closes.fitting h.place (code_of h.tuple) h.at z) in
          (h.tuple, f.0, f.1, h.subset)),
      (λ h.
          let m = closes.met none done h.0 h.1 h.2 in
          let l = at_less rest m.place (code_of m.subset) m.stored in
          (covers t).1 record { tuple = m.subset; fits = IsTuple-large a.items a.size m.subset few small m.within.tuple; place = m.place; below = omega arith; at = m.stored; subset = IsSubset-trans m.subset h.0 t m.within.subset h.3 }),
    ));
  }
