-- Counts that are raised one after the other are as if raised at once.
use Rattle.std.proofs.Common.{◌≡◌, ℕ, zero, suc, ◌+◌, ◌-◌, ◌^◌, ◌<◌, ◌≤◌, min, eqb, List, [], ◌∷◌, ◌++◌, map, length, set, get_or, refl, ap, sym, subst, ◌∙◌, inl, inr, arith}
use Rattle.std.specs.Prelude.{count_by}
use Rattle.std.proofs.lemmas.Bool.{eqb-true}
use Rattle.std.proofs.lemmas.Bool.Decides.{eqb_tells}
use Rattle.std.proofs.lemmas.List.{length-set, get_or-set_same, get_or-set_other}
use Rattle.std.proofs.lemmas.List.FromFn.{length-map-range_with_len, get_or-map-range_with_len, fill_by_all}
use Rattle.std.proofs.lemmas.List.Sums.{sum_by-append}
use Rattle.list_laws.proofs.Counts.{one_if, count_by-cons}
use Rattle.tallies.specs.Counting.{raised, raised_at}

-- how often a place is listed
abbrev pub times : List ℕ → ℕ → ℕ
times listed k = count_by (λ place. eqb place k) listed

raised-add : (m n count : ℕ) → raised (m + n) count ≡ raised n (raised m count)
raised-add m zero count = let e : m + zero ≡ m = omega arith in ap (λ (i : ℕ). raised i count) e
raised-add m (suc n) count =
    let e : m + suc n ≡ suc (m + n) = omega arith in
    ap (λ (i : ℕ). raised i count) e ∙ ap (λ (c : ℕ). min (c + 1) (2 ^ 64 - 1)) (raised-add m n count)

pub length-raised_at : (listed counts : List ℕ) → length (raised_at listed counts) ≡ length counts
length-raised_at listed counts =
    length-map-range_with_len (λ k. raised (times listed k) (get_or counts k 0)) 0 (length counts)

count_at : (listed counts : List ℕ) (k : ℕ) → k < length counts → get_or (raised_at listed counts) k 0 ≡ raised (times listed k) (get_or counts k 0)
count_at listed counts k h =
    get_or-map-range_with_len (λ j. raised (times listed j) (get_or counts j 0)) 0 (length counts) k k 0 h (omega arith)

pub raised_at-append : (xs ys counts : List ℕ) → raised_at (xs ++ ys) counts ≡ raised_at ys (raised_at xs counts)
raised_at-append xs ys counts =
    let first = raised_at xs counts in
    let same = length-raised_at xs counts in
    fill_by_all (λ k. raised (times ys k) (get_or first k 0)) (raised_at (xs ++ ys) counts) (length first) 0
    (length-raised_at (xs ++ ys) counts ∙ sym same)
    (λ k h.
    let below : k < length counts = subst (λ n. k < n) same h in
    count_at (xs ++ ys) counts k below
    ∙ ap (λ (n : ℕ). raised n (get_or counts k 0)) (sum_by-append (λ place. one_if (eqb place k)) xs ys)
    ∙ raised-add (times xs k) (times ys k) (get_or counts k 0)
    ∙ ap (raised (times ys k)) (sym (count_at xs counts k below)))

-- a place that is listed once
times-one : (place k : ℕ) → times (place ∷ []) k ≡ one_if (eqb place k)
times-one place k = let e = count_by-cons (λ p. eqb p k) place [] in omega arith

pub set_raised : (counts : List ℕ) (place count : ℕ) → place < length counts →
    count ≡ min (get_or counts place 0 + 1) (2 ^ 64 - 1) → set counts place count ≡ raised_at (place ∷ []) counts
set_raised counts place count h e =
    fill_by_all (λ k. raised (times (place ∷ []) k) (get_or counts k 0)) (set counts place count) (length counts) 0
    (length-set counts place count)
    (λ k below. elim (eqb_tells place k) [
      | inl same ↦
          ap (λ (i : ℕ). get_or (set counts place count) i 0) (sym same.1)
          ∙ get_or-set_same counts place count 0 h
          ∙ e
          ∙ ap (λ (i : ℕ). raised 1 (get_or counts i 0)) same.1
          ∙ ap (λ (n : ℕ). raised n (get_or counts k 0)) (sym (times-one place k ∙ ap one_if same.0))
      | inr other ↦
          get_or-set_other counts place k count 0 (λ s. other.1 (sym s))
          ∙ ap (λ (n : ℕ). raised n (get_or counts k 0)) (sym (times-one place k ∙ ap one_if other.0))
    ])

pub past_raised : (counts : List ℕ) (place : ℕ) → length counts ≤ place → counts ≡ raised_at (place ∷ []) counts
past_raised counts place h =
    fill_by_all (λ k. raised (times (place ∷ []) k) (get_or counts k 0)) counts (length counts) 0 refl
    (λ k below. elim (eqb_tells place k) [
      | inl same ↦ let d : ⊥ = omega arith in absurd d
      | inr other ↦ ap (λ (n : ℕ). raised n (get_or counts k 0)) (sym (times-one place k ∙ ap one_if other.0))
    ])

pub none_raised : (counts : List ℕ) → counts ≡ raised_at [] counts
none_raised counts = fill_by_all (λ k. get_or counts k 0) counts (length counts) 0 refl (λ k below. refl)
