-- A sum of monomials in the order of their keys: what it keeps to, and that one monomial more leaves it so.
use Rattle.std.proofs.Common.{◌≡◌, ℕ, ◌+◌, ◌-◌, ◌<◌, ◌≤◌, Bool, true, false, cond, eqb, List, [], ◌∷◌, ◌++◌, length, take, get_or, refl, ap, sym, ◌∙◌, subst, inl, inr, arith, Some, None, Option}
use Rattle.std.specs.Prelude.{slice_get}
use Rattle.std.specs.List.{All, AllWithin}
use Rattle.std.specs.List.Sorted.{IsSorted}
use Rattle.std.specs.Ordering.{nat_cmp, is_lt}
use Rattle.std.proofs.lemmas.Bool.{cases_eq, false≢true, true≢false}
use Rattle.std.proofs.lemmas.Bool.Decides.{eqb_tells}
use Rattle.std.proofs.lemmas.Cmp.{nat_cmp_total}
use Rattle.std.proofs.lemmas.Map.Keys.{ge_from_not_lt}
use Rattle.std.proofs.lemmas.Option.{slice_get_within, slice_get-get_or, get_or_from_slice_get}
use Rattle.std.proofs.lemmas.List.{take_more, get_or_read}
use Rattle.std.proofs.lemmas.List.Elements.{All-take, All-push, All-weaker}
use Rattle.std.proofs.lemmas.List.MinMax.{ranks_by}
use Rattle.std.proofs.lemmas.List.Quantifiers.{all_pairs_push}
use Rattle.std.proofs.lemmas.List.Sorted.{sorted_far}
use Rattle.std.proofs.lemmas.List.Sums.{sum_by_push, sum_by_more}
use Rattle.std.proofs.Math.Seq.{take-length}
use Rattle.list_laws.proofs.Counts.{one_if}
use Rattle.list_laws.proofs.Members.{AllPairs-take}
use Rattle.anf.specs.Polynomials.{set_of}
use Rattle.anf.specs.Keys.{key_of, HaveKey}
use Rattle.anf.specs.Reduction.{is_same, ends_in, with_monomial, HaveRisingKeys, times, HaveSameParities}
use Rattle.anf.proofs.Keys.{same_from_keys}

-- the keys of monomials don't fall
abbrev pub AreSorted : List (List ℕ) → Type 0
AreSorted ms = IsSorted (λ a b. nat_cmp (key_of a) (key_of b)) ms

-- no monomial from the i-th on has a key below that of this one
abbrev NoneBelow : List (List ℕ) → ℕ → List ℕ → Type 0
NoneBelow all i m = AllWithin (λ w. key_of m ≤ key_of w) all i (length all)

-- kept is the sum of the first i of all monomials
pub record IsSumSoFar (all kept : List (List ℕ)) (i : ℕ) : Type 0 where
  pub keys : All HaveKey kept
  pub rising : HaveRisingKeys kept
  pub later : All (NoneBelow all i) kept
  pub parities : HaveSameParities kept (take i all)

-- a list is its front and its last element
split_last : (xs : List (List ℕ)) (w : List ℕ) → slice_get xs (length xs - 1) ≡ Some w → xs ≡ take (length xs - 1) xs ++ w ∷ []
split_last xs w e =
    let n = length xs - 1 in
    let l = slice_get_within xs n w e in
    let whole : n + 1 ≡ length xs = omega arith in
    sym (take-length xs)
    ∙ ap (λ (k : ℕ). take k xs) (sym whole)
    ∙ take_more xs n w l
    ∙ ap (λ (v : List ℕ). take n xs ++ v ∷ []) (get_or_from_slice_get xs n w w e)

-- the next monomial cancels the last one
popped : (all kept : List (List ℕ)) (i : ℕ) (x w : List ℕ) → i < length all → x ≡ get_or all i x → slice_get kept (length kept - 1) ≡ Some w →
    w ≡ x → IsSumSoFar all kept i → IsSumSoFar all (take (length kept - 1) kept) (i + 1)
popped all kept i x w l is last same h =
    let n = length kept - 1 in
    let split = split_last kept w last in
    record {
      keys = All-take HaveKey n kept h.keys;
      rising = AllPairs-take (λ (a b : List ℕ). key_of a < key_of b) n kept h.rising;
      later = All-take (NoneBelow all (i + 1)) n kept (All-weaker (NoneBelow all i) (NoneBelow all (i + 1)) (λ k b j d m u. b j d (omega arith) u) kept h.later);
      parities = λ m.
          let f : List ℕ → ℕ = λ v. one_if (eqb (set_of v) m) in
          let here : times m kept ≡ times m (take n kept) + f w = ap (times m) split ∙ sum_by_push f (take n kept) w in
          let there = sum_by_more f all i x l in
          let at_x = ap f is in
          let at_w = ap f same in
          let before = h.parities m in
          omega arith;
    }

-- the next monomial is put after the last one
pushed : (all kept : List (List ℕ)) (i : ℕ) (x : List ℕ) → i < length all → x ≡ get_or all i x → AreSorted all → ends_in kept x ≡ false →
    HaveKey x → IsSumSoFar all kept i → IsSumSoFar all (kept ++ x ∷ []) (i + 1)
pushed all kept i x l is sorted differs has h =
    let n = length kept - 1 in
    let last_less : (d : List ℕ) → n < length kept → key_of (get_or kept n d) < key_of x = λ d m.
    let w = get_or kept n d in
    let test : eqb (key_of w) (key_of x) ≡ false = ap (is_same x) (sym (slice_get-get_or kept n d m)) ∙ differs in
    let below = subst (λ (v : List ℕ). key_of w ≤ key_of v) (sym is) (h.later n d m i x (omega arith) l) in
    elim (eqb_tells (key_of w) (key_of x)) [ inl same ↦ absurd (true≢false (sym same.0 ∙ test)) | inr other ↦ let o = other.1 in omega arith ] in
    record {
      keys = All-push HaveKey kept x h.keys has;
      rising = all_pairs_push (λ (a b : List ℕ). key_of a < key_of b) kept x h.rising (λ k d m.
          let e = last_less d (omega arith) in
          elim (cases_eq k n) [
            | inl same ↦ let s = ap (λ (j : ℕ). key_of (get_or kept j d)) same in omega arith
            | inr other ↦ let r = h.rising k n d (omega arith) (omega arith) in omega arith
          ]);
      later = All-push (NoneBelow all (i + 1)) kept x
          (All-weaker (NoneBelow all i) (NoneBelow all (i + 1)) (λ k b j d m u. b j d (omega arith) u) kept h.later)
          (λ j d m u.
          let read = ap key_of (get_or_read all i x l is d) in
          let far = ge_from_not_lt (key_of (get_or all j d)) (key_of (get_or all i d))
          (sorted_far (λ a b. is_lt (nat_cmp (key_of a) (key_of b))) (ranks_by nat_cmp_total key_of) all sorted i j d (omega arith) u) in
          omega arith);
      parities = λ m.
          let f : List ℕ → ℕ = λ v. one_if (eqb (set_of v) m) in
          let here = sum_by_push f kept x in
          let there = sum_by_more f all i x l in
          let same = ap f is in
          let before = h.parities m in
          omega arith;
    }

-- a monomial that passes the test of being the same is there, and has the same key
same_last : (x : List ℕ) (o : Option (List ℕ)) → is_same x o ≡ true → (w : List ℕ) × (o ≡ Some w) × (key_of w ≡ key_of x)
same_last x None e = absurd (false≢true e)
same_last x (Some w) e = (w, refl, elim (eqb_tells (key_of w) (key_of x)) [ inl same ↦ same.1 | inr other ↦ absurd (true≢false (sym e ∙ other.0)) ])

-- one monomial more, by what the test of the last one answers
more_by : (all kept : List (List ℕ)) (i : ℕ) (x : List ℕ) → i < length all → x ≡ get_or all i x → AreSorted all → HaveKey x →
    IsSumSoFar all kept i → (b : Bool) → ends_in kept x ≡ b → IsSumSoFar all (cond b (take (length kept - 1) kept) (kept ++ x ∷ [])) (i + 1)
more_by all kept i x l is sorted has h true e =
    let n = length kept - 1 in
    let w = same_last x (slice_get kept n) e in
    let at_w = get_or_from_slice_get kept n w.0 w.0 w.1 in
    let has_w = subst HaveKey at_w (h.keys n w.0 (slice_get_within kept n w.0 w.1)) in
    popped all kept i x w.0 l is w.1 (same_from_keys w.0 x has_w has w.2) h
more_by all kept i x l is sorted has h false e = pushed all kept i x l is sorted e has h

-- one monomial more
pub IsSumSoFar-more : (all kept : List (List ℕ)) (i : ℕ) (x : List ℕ) → i < length all → x ≡ get_or all i x → AreSorted all → All HaveKey all →
    IsSumSoFar all kept i → IsSumSoFar all (with_monomial kept x) (i + 1)
IsSumSoFar-more all kept i x l is sorted keys h = more_by all kept i x l is sorted (subst HaveKey (sym is) (keys i x l)) h (ends_in kept x) refl

-- the sum of all monomials
pub IsSumSoFar-all : (all kept : List (List ℕ)) (i : ℕ) → i ≡ length all → IsSumSoFar all kept i → HaveSameParities kept all
IsSumSoFar-all all kept i e h = subst (HaveSameParities kept) (ap (λ (k : ℕ). take k all) e ∙ take-length all) h.parities
