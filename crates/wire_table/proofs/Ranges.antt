-- The numbers below a bound, and those of them that pass a test.
use Rattle.std.proofs.Common.{◌≡◌, ◌+◌, ◌<◌, ℕ, Bool, true, false, List, [], ◌∷◌, ◌++◌, ap, sym, ◌∙◌, subst, inl, inr, arith, Contains, append-nil, map-id}
use Rattle.std.specs.List.{All, filter, range_with_len}
use Rattle.std.proofs.lemmas.Bool.{false≢true, cond_both, cond-true, cond-false}
use Rattle.std.proofs.lemmas.List.FromFn.{length-range_with_len, get_or-range_with_len, map-range_with_len_more}
use Rattle.std.proofs.lemmas.List.Elements.{All-contains, All-contains_itself, All-weaker, filter_passes, filter-append}
use Rattle.list_laws.proofs.Members.{Contains-cons_head, Contains-cons_tail, Contains-cons_cases}
use Rattle.list_laws.proofs.Once.{Once}

-- the numbers below a bound
pub Contains-range : (n i : ℕ) → i < n → Contains (range_with_len 0 n) i
Contains-range n i l = let e = get_or-range_with_len 0 n i i l in (i, omega (arith, length-range_with_len 0 n), omega arith)

pub lt-from_range : (n i : ℕ) → Contains (range_with_len 0 n) i → i < n
lt-from_range n i c =
    let l : c.0 < n = omega (arith, length-range_with_len 0 n) in
    let e = get_or-range_with_len 0 n c.0 i l in
    let s = c.2 in
    omega arith

-- what holds of each number below a bound
pub All-range : (n : ℕ) (P : ℕ → Type 0) → ((i : ℕ) → i < n → P i) → All P (range_with_len 0 n)
All-range n P h = All-weaker (Contains (range_with_len 0 n)) P (λ i c. h i (lt-from_range n i c)) (range_with_len 0 n) (All-contains_itself (range_with_len 0 n))

pub Once-range : (n : ℕ) → Once (range_with_len 0 n)
Once-range n i j d l m e =
    let k : j < n = omega (arith, length-range_with_len 0 n) in
    let a = get_or-range_with_len 0 n i d (omega arith) in
    let b = get_or-range_with_len 0 n j d k in
    omega arith

-- what passes a test is kept
pub Contains-filter : {X : Type 0} (p : X → Bool) (xs : List X) (x : X) → Contains xs x → p x ≡ true → Contains (filter p xs) x
Contains-filter p [] x h t = h
Contains-filter {X} p (y ∷ xs) x h t =
    let more : Contains xs x → Contains (filter p xs) x = λ k. Contains-filter p xs x k t in
    cond_both (p y) (y ∷ filter p xs) (filter p xs) (λ (zs : List X). Contains zs x)
    (λ holds. elim (Contains-cons_cases y xs x h) [
      | inl e ↦ subst (Contains (y ∷ filter p xs)) e (Contains-cons_head y (filter p xs))
      | inr k ↦ Contains-cons_tail y (filter p xs) x (more k)
    ])
    (λ fails. elim (Contains-cons_cases y xs x h) [ inl e ↦ absurd (false≢true (sym fails ∙ ap p e ∙ t)) | inr k ↦ more k ])

-- a kept element passes the test
pub passes-from_filter : {X : Type 0} (p : X → Bool) (xs : List X) (x : X) → Contains (filter p xs) x → p x ≡ true
passes-from_filter {X} p xs x h = All-contains (λ (z : X). p z ≡ true) (filter p xs) x (filter_passes p xs) h

-- the numbers below one more
pub range_more : (n : ℕ) → range_with_len 0 (n + 1) ≡ range_with_len 0 n ++ n ∷ []
range_more n = sym (map-id (range_with_len 0 (n + 1))) ∙ map-range_with_len_more (λ (x : ℕ). x) 0 n n (omega arith) ∙ ap (λ (xs : List ℕ). xs ++ n ∷ []) (map-id (range_with_len 0 n))

module _ (p : ℕ → Bool) (n : ℕ) where
  filter-range_more : filter p (range_with_len 0 (n + 1)) ≡ filter p (range_with_len 0 n) ++ filter p (n ∷ [])
  filter-range_more = ap (filter p) (range_more n) ∙ filter-append p (range_with_len 0 n) (n ∷ [])

  pub filter-range_keeps : p n ≡ true → filter p (range_with_len 0 (n + 1)) ≡ filter p (range_with_len 0 n) ++ n ∷ []
  filter-range_keeps h = filter-range_more ∙ ap (λ (xs : List ℕ). filter p (range_with_len 0 n) ++ xs) (cond-true (p n) (n ∷ []) [] h)

  pub filter-range_leaves : p n ≡ false → filter p (range_with_len 0 (n + 1)) ≡ filter p (range_with_len 0 n)
  filter-range_leaves h =
      filter-range_more ∙ ap (λ (xs : List ℕ). filter p (range_with_len 0 n) ++ xs) (cond-false (p n) (n ∷ []) [] h) ∙ append-nil (filter p (range_with_len 0 n))
