-- The codes of all subsets by doubling: the last item joins each subset of the others.
use Rattle.std.proofs.Common.{◌≡◌, ℕ, zero, suc, ◌+◌, ◌-◌, ◌*◌, ◌/◌, ◌%◌, ◌^◌, ◌<◌, ◌≤◌, cond, eqb, true, false, List, [], ◌∷◌, ◌++◌, length, replicate, take, drop, get_or, refl, ap, sym, ◌∙◌, inl, inr, arith, subst, pow-suc, length-take-le, take-append-drop}
use Rattle.std.proofs.lemmas.Bool.{cases_lt}
use Rattle.std.proofs.lemmas.List.{take_more}
use Rattle.tuple_model.specs.Limits.{most_items, most_size}
use Rattle.tuple_model.specs.Tuples.{IsTuple, subset}
use Rattle.tuple_model.proofs.Subsets.{IsTuple-subset}
use Rattle.tuple_order.specs.Codes.{code_of, HasRoom, code_with}
use Rattle.tuple_order.proofs.Keeping.{IsTuple-prefix}
use Rattle.tuple_order.proofs.Digits.{code_of-more, HasRoom-code_of}

subset-without : (k : ℕ) (s : List ℕ) (item : ℕ) → k < 2 ^ length s → subset k (s ++ item ∷ []) ≡ subset k s
subset-without k [] item l = let z : k ≡ 0 = omega arith in ap (λ (n : ℕ). cond (eqb (n % 2) 1) (item ∷ []) []) z
subset-without k (x ∷ s) item l =
    let h : subset (k / 2) (s ++ item ∷ []) ≡ subset (k / 2) s = subset-without (k / 2) s item (omega (arith, pow-suc 2 (length s))) in
    ap (λ (u : List ℕ). cond (eqb (k % 2) 1) (x ∷ u) u) h

subset-with : (k : ℕ) (s : List ℕ) (item : ℕ) → k < 2 ^ length s → subset (k + 2 ^ length s) (s ++ item ∷ []) ≡ subset k s ++ item ∷ []
subset-with k [] item l = let z : k ≡ 0 = omega arith in ap (λ (n : ℕ). cond (eqb ((n + 1) % 2) 1) (item ∷ []) []) z
subset-with k (x ∷ s) item l =
    let p = pow-suc 2 (length s) in
    let n = k + 2 ^ suc (length s) in
    let half : n / 2 ≡ k / 2 + 2 ^ length s = omega arith in
    let bit : n % 2 ≡ k % 2 = omega arith in
    let h : subset (n / 2) (s ++ item ∷ []) ≡ subset (k / 2) s ++ item ∷ [] =
    ap (λ (i : ℕ). subset i (s ++ item ∷ [])) half ∙ subset-with (k / 2) s item (omega arith) in
    ap (λ (b : ℕ). cond (eqb b 1) (x ∷ subset (n / 2) (s ++ item ∷ [])) (subset (n / 2) (s ++ item ∷ []))) bit
    ∙ ap (λ (u : List ℕ). cond (eqb (k % 2) 1) (x ∷ u) u) h
    ∙ elim (eqb (k % 2) 1) as (λ b. cond b (x ∷ (subset (k / 2) s ++ item ∷ [])) (subset (k / 2) s ++ item ∷ []) ≡ cond b (x ∷ subset (k / 2) s) (subset (k / 2) s) ++ item ∷ []) [
      | true ↦ refl
      | false ↦ refl
    ]

-- The codes of the subsets of a tuple's first items, each at its number, and 0 after them.
pub record Known (t codes : List ℕ) (i known : ℕ) : Type 0 where
  pub wide : length codes ≡ 64
  pub count : known ≡ 2 ^ i
  pub done : (k : ℕ) → k < known → get_or codes k 0 ≡ code_of (subset k (take i t))
  pub rest : (k : ℕ) → known ≤ k → get_or codes k 0 ≡ 0

pub Known-none : (t : List ℕ) → Known t (2 ^ 62 ∷ replicate 63 0) 0 1
unfolding code_of
Known-none t = record {
  wide = refl;
  count = refl;
  done = λ k l. let z : k ≡ 0 = omega arith in ap (λ (n : ℕ). get_or (2 ^ 62 ∷ replicate 63 0) n 0) z ∙ sym (ap (λ (n : ℕ). code_of (subset n [])) z);
  rest = λ k l.
      let one : suc (k - 1) ≡ k = omega arith in
      ap (λ (n : ℕ). get_or (2 ^ 62 ∷ replicate 63 0) n 0) (sym one) ∙ zeros 63 (k - 1);
}
  where
    zeros : (n k : ℕ) → ◌≡◌ {A = ℕ} (get_or (replicate n 0) k 0) 0
    zeros zero k = refl
    zeros (suc n) zero = refl
    zeros (suc n) (suc k) = zeros n k

module _ {t codes : List ℕ} {i known : ℕ} (h : Known t codes i known) (tuple : IsTuple most_items most_size t) (l : i < length t) where
  longer : take (i + 1) t ≡ take i t ++ get_or t i 0 ∷ []
  longer = take_more t i 0 l

  size : length (take i t) ≡ i
  size = length-take-le i t (omega arith)

  IsTuple-first : (j : ℕ) → IsTuple most_items most_size (take j t)
  IsTuple-first j = IsTuple-prefix most_items most_size (take j t) (drop j t) (subst (IsTuple most_items most_size) (sym (take-append-drop j t)) tuple)

  number_small : (k : ℕ) → k < known → k < 2 ^ length (take i t)
  number_small k m = let e = h.count in let p = ap (λ (n : ℕ). 2 ^ n) size in omega arith

  with_last : (k : ℕ) → k < known → subset (k + known) (take (i + 1) t) ≡ subset k (take i t) ++ get_or t i 0 ∷ []
  with_last k m =
      let e : k + known ≡ k + 2 ^ length (take i t) = let c = h.count in let p = ap (λ (n : ℕ). 2 ^ n) size in omega arith in
      ap (subset (k + known)) longer ∙ ap (λ (n : ℕ). subset n (take i t ++ get_or t i 0 ∷ [])) e ∙ subset-with k (take i t) (get_or t i 0) (number_small k m)

  IsTuple-with_last : (k : ℕ) → k < known → IsTuple most_items most_size (subset k (take i t) ++ get_or t i 0 ∷ [])
  IsTuple-with_last k m =
      subst (IsTuple most_items most_size) (with_last k m) (IsTuple-subset most_items most_size (k + known) (take (i + 1) t) (IsTuple-first (i + 1)))

  pub Known-short : (k : ℕ) → k < known → HasRoom (get_or codes k 0)
  Known-short k m =
      let s = subset k (take i t) in
      subst HasRoom (sym (h.done k m)) (HasRoom-code_of s (get_or t i 0) (IsTuple-subset most_items most_size k (take i t) (IsTuple-first i)) (IsTuple-with_last k m))

  pub Known-doubled : (now : List ℕ) → length now ≡ 64 →
      ((k : ℕ) → k < known → get_or now k 0 ≡ get_or codes k 0) →
      ((k : ℕ) → k < known → get_or now (k + known) 0 ≡ code_with (get_or codes k 0) (get_or t i 0)) →
      ((k : ℕ) → 2 * known ≤ k → get_or now k 0 ≡ get_or codes k 0) →
      Known t now (i + 1) (known * 2)
  Known-doubled now wide kept more after = record {
    wide = wide;
    count = let c = h.count in let p = pow-suc 2 i in let e : 2 ^ suc i ≡ 2 ^ (i + 1) = ap (λ (n : ℕ). 2 ^ n) (let z : suc i ≡ i + 1 = omega arith in z) in omega arith;
    done = λ k m. elim (cases_lt k known) [
      | inl less ↦
          kept k less ∙ h.done k less
          ∙ ap code_of (sym (ap (subset k) longer ∙ subset-without k (take i t) (get_or t i 0) (number_small k less)))
      | inr most ↦
          let j = k - known in
          let back : j + known ≡ k = omega arith in
          let below : j < known = omega arith in
          let s = subset j (take i t) in
          ap (λ (n : ℕ). get_or now n 0) (sym back) ∙ more j below
          ∙ ap (λ (code : ℕ). code_with code (get_or t i 0)) (h.done j below)
          ∙ code_of-more s (get_or t i 0) (IsTuple-subset most_items most_size j (take i t) (IsTuple-first i)) (IsTuple-with_last j below)
          ∙ ap code_of (sym (with_last j below))
          ∙ ap (λ (n : ℕ). code_of (subset n (take (i + 1) t))) back
    ];
    rest = λ k m. after k (omega arith) ∙ h.rest k (omega arith);
  }
