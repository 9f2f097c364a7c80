-- The keys of monomials: each gives back its variables, and keys compare as the lists of variables do.
use Rattle.std.proofs.Common.{◌≡◌, ℕ, zero, suc, ◌+◌, ◌-◌, ◌*◌, ◌/◌, ◌%◌, ◌^◌, ◌<◌, ◌≤◌, min, List, [], ◌∷◌, length, refl, ap, sym, ◌∙◌, subst, inl, inr, arith, Ordering}
use Rattle.std.specs.Prelude.{slice_index}
use Rattle.std.specs.List.{All}
use Rattle.std.specs.List.Sorted.{IsStrictlyIncreasing}
use Rattle.std.specs.Cmp.Lexicographic.{slice_cmp, nat_list_cmp_total}
use Rattle.std.specs.FinMap.{slice_cmp-IsAntisymmetric, nat_cmp-IsAntisymmetric}
use Rattle.std.specs.Ordering.{nat_cmp, ordering_then, ordering_reverse, is_lt}
use Rattle.std.specs.Cmp.{nat_cmp_is}
use Rattle.std.proofs.lemmas.Bool.Decides.{nat_tests}
use Rattle.std.proofs.lemmas.Bool.{cases_lt, cases_eq, false≢true}
use Rattle.std.proofs.Math.Nat.{mul-le-mul_right}
use Rattle.std.specs.declared.cmp.Ordering.TheVariants.{Less, Equal, Greater}
use Rattle.std.proofs.lemmas.List.Elements.{All-tail}
use Rattle.anf.specs.Keys.{digit_at, key_of, digits_of_key, each_once, variables_of_key, IsKey, HaveKey}

-- a number of four digits gives its digits back
digits_of_number : (a b c d n : ℕ) → a < 2 ^ 16 → b < 2 ^ 16 → c < 2 ^ 16 → d < 2 ^ 16 → n ≡ a * 2 ^ 48 + b * 2 ^ 32 + c * 2 ^ 16 + d →
    digits_of_key n ≡ a ∷ b ∷ c ∷ d ∷ []
digits_of_number a b c d n la lb lc ld e =
    let first : n / 2 ^ 48 ≡ a = omega arith in
    let second : n / 2 ^ 32 % 2 ^ 16 ≡ b = omega arith in
    let third : n / 2 ^ 16 % 2 ^ 16 ≡ c = omega arith in
    let fourth : n % 2 ^ 16 ≡ d = omega arith in
    cc

-- the digits of some variables, each once, are these
pub each_once-digits : (vs : List ℕ) → IsStrictlyIncreasing vs → 0 < length vs → length vs ≤ 4 →
    each_once (digit_at vs 0 ∷ digit_at vs 1 ∷ digit_at vs 2 ∷ digit_at vs 3 ∷ []) ≡ vs
each_once-digits [] rising some few = absurd (omega arith)
each_once-digits (a ∷ []) rising some few = grind (arith, nat_tests)
each_once-digits (a ∷ b ∷ []) rising some few = let l = rising 0 (omega arith) in grind (arith, nat_tests)
each_once-digits (a ∷ b ∷ c ∷ []) rising some few =
    let l = rising 0 (omega arith) in
    let m = rising 1 (omega arith) in
    grind (arith, nat_tests)
each_once-digits (a ∷ b ∷ c ∷ d ∷ []) rising some few =
    let l = rising 0 (omega arith) in
    let m = rising 1 (omega arith) in
    let n = rising 2 (omega arith) in
    grind (arith, nat_tests)
each_once-digits (a ∷ b ∷ c ∷ d ∷ e ∷ vs) rising some few = absurd (omega arith)

-- the same where they are read at their places
pub each_once-places : (vs : List ℕ) (second third : ℕ) → IsStrictlyIncreasing vs → 0 < length vs → length vs ≤ 4 →
    second ≡ min (length vs - 1) 1 → third ≡ min (length vs - 1) 2 →
    each_once (slice_index vs 0 ∷ slice_index vs second ∷ slice_index vs third ∷ slice_index vs (length vs - 1) ∷ []) ≡ vs
each_once-places vs second third rising some few is_second is_third =
    let last = length vs - 1 in
    let at : ℕ → ℕ → ℕ → ℕ → List ℕ = λ i j k l. each_once (slice_index vs i ∷ slice_index vs j ∷ slice_index vs k ∷ slice_index vs l ∷ []) in
    let is_first : 0 ≡ min last 0 = omega arith in
    let is_fourth : last ≡ min last 3 = omega arith in
    ap (λ (i : ℕ). at i second third last) is_first
    ∙ ap (λ (j : ℕ). at (min last 0) j third last) is_second
    ∙ ap (λ (k : ℕ). at (min last 0) (min last 1) k last) is_third
    ∙ ap (at (min last 0) (min last 1) (min last 2)) is_fourth
    ∙ each_once-digits vs rising some few

-- each of the variables has 16 bits
abbrev AreFit : List ℕ → Type 0
AreFit vs = All (λ v. v < 2 ^ 16) vs

-- so each digit has
digit-fit : (vs : List ℕ) (place : ℕ) → 0 < length vs → AreFit vs → digit_at vs place < 2 ^ 16
digit-fit vs place some fit = fit (min (length vs - 1) place) 0 (omega arith)

-- the variables with the key of some variables are these
pub variables_of_key-key_of : (vs : List ℕ) → HaveKey vs → variables_of_key (key_of vs) ≡ vs
variables_of_key-key_of vs h =
    let fit : (place : ℕ) → digit_at vs place < 2 ^ 16 = λ place. digit-fit vs place h.some h.fit in
    ap each_once (digits_of_number (digit_at vs 0) (digit_at vs 1) (digit_at vs 2) (digit_at vs 3) (key_of vs) (fit 0) (fit 1) (fit 2) (fit 3) refl)
    ∙ each_once-digits vs h.rising h.some h.few

-- the key of some variables is a key
pub IsKey-of : (vs : List ℕ) → HaveKey vs → IsKey (key_of vs)
IsKey-of vs h = ap key_of (variables_of_key-key_of vs h)

-- so different variables have different keys
pub same_from_keys : (us vs : List ℕ) → HaveKey us → HaveKey vs → key_of us ≡ key_of vs → us ≡ vs
same_from_keys us vs a b e = sym (variables_of_key-key_of us a) ∙ ap variables_of_key e ∙ variables_of_key-key_of vs b

-- one above the greatest number of so many digits
abbrev place : ℕ → ℕ
place zero = 1
place (suc n) = 65536 * place n

-- the number of n digits that are some variables and then the last one of them, or the one before them, again
abbrev key_from : ℕ → ℕ → List ℕ → ℕ
key_from zero last vs = 0
key_from (suc n) last [] = last * place n + key_from n last []
key_from (suc n) last (v ∷ vs) = v * place n + key_from n v vs

-- a product with a larger number
times-larger : (a b p : ℕ) → a < b → a * p + p ≤ b * p
times-larger a b p l = let h = mul-le-mul_right p l in grind arith

key_from-bound : (n last : ℕ) (vs : List ℕ) → last < 2 ^ 16 → AreFit vs → key_from n last vs < place n
key_from-bound zero last vs l fit = omega arith
key_from-bound (suc n) last [] l fit =
    let i = key_from-bound n last [] l fit in
    let m = times-larger last 65536 (place n) l in
    omega arith
key_from-bound (suc n) last (v ∷ vs) l fit =
    let below = fit 0 0 (omega arith) in
    let i = key_from-bound n v vs below (All-tail (λ v. v < 2 ^ 16) v vs fit) in
    let m = times-larger v 65536 (place n) below in
    omega arith

-- what rises does so from its second element on
rising-tail : (v : ℕ) (vs : List ℕ) → IsStrictlyIncreasing (v ∷ vs) → IsStrictlyIncreasing vs
rising-tail v vs h k l =
    let e : suc k + 1 ≡ suc (k + 1) = omega arith in
    subst (λ (j : ℕ). slice_index vs k < slice_index (v ∷ vs) j) e (h (suc k) (omega arith))

-- lists of which one comes first have keys in this order
key_from-less : (n last : ℕ) (us vs : List ℕ) → length us ≤ n → length vs ≤ n → last < 2 ^ 16 → AreFit us → AreFit vs → IsStrictlyIncreasing vs →
    (length us ≡ 0 → 0 < length vs → last < slice_index vs 0) → slice_cmp nat_cmp us vs ≡ Less → key_from n last us < key_from n last vs
key_from-less n last [] [] few_u few_v l fit_u fit_v rising above e = absurd (false≢true (ap is_lt e))
key_from-less n last (u ∷ us) [] few_u few_v l fit_u fit_v rising above e = absurd (false≢true (ap is_lt e))
key_from-less zero last us (v ∷ vs) few_u few_v l fit_u fit_v rising above e = absurd (omega arith)
key_from-less (suc n) last [] (v ∷ vs) few_u few_v l fit_u fit_v rising above e =
    let b = key_from-bound n last [] l fit_u in
    let m = times-larger last v (place n) (above refl (omega arith)) in
    omega arith
key_from-less (suc n) last (u ∷ us) (v ∷ vs) few_u few_v l fit_u fit_v rising above e = elim (cases_lt u v) [
  | inl less ↦
      let b = key_from-bound n u us (fit_u 0 0 (omega arith)) (All-tail (λ v. v < 2 ^ 16) u us fit_u) in
      let m = times-larger u v (place n) less in
      omega arith
  | inr more ↦ elim (cases_eq u v) [
    | inl same ↦
        let first = nat_cmp_is u v Equal same in
        let rest = ap (λ o. ordering_then o (slice_cmp nat_cmp us vs)) first ∙ e in
        let after : length us ≡ 0 → 0 < length vs → u < slice_index vs 0 = λ none some. let r = rising 0 (omega arith) in omega arith in
        let i = key_from-less n u us vs (omega arith) (omega arith) (fit_u 0 0 (omega arith)) (All-tail (λ v. v < 2 ^ 16) u us fit_u)
        (All-tail (λ v. v < 2 ^ 16) v vs fit_v) (rising-tail v vs rising) after rest in
        let s = ap (λ (w : ℕ). w * place n + key_from n w vs) same in
        omega arith
    | inr other ↦
        let first = nat_cmp_is u v Greater (omega arith) in
        absurd (false≢true (ap is_lt (ap (λ o. ordering_then o (slice_cmp nat_cmp us vs)) first ∙ e)))
  ]
]

key_of-key_from : (vs : List ℕ) → 0 < length vs → length vs ≤ 4 → key_of vs ≡ key_from 4 0 vs
key_of-key_from [] some few = absurd (omega arith)
key_of-key_from (a ∷ []) some few = omega arith
key_of-key_from (a ∷ b ∷ []) some few = omega arith
key_of-key_from (a ∷ b ∷ c ∷ []) some few = omega arith
key_of-key_from (a ∷ b ∷ c ∷ d ∷ []) some few = omega arith
key_of-key_from (a ∷ b ∷ c ∷ d ∷ e ∷ vs) some few = absurd (omega arith)

-- variables whose key is below another come first in lexicographic order
less_by : (us vs : List ℕ) → HaveKey us → HaveKey vs → key_of us < key_of vs → (o : Ordering) → slice_cmp nat_cmp us vs ≡ o → slice_cmp nat_cmp us vs ≡ Less
less_by us vs a b l Less e = e
less_by us vs a b l Equal e = absurd (let same = ap key_of (slice_cmp-IsAntisymmetric nat_cmp-IsAntisymmetric us vs e) in omega arith)
less_by us vs a b l Greater e =
    let back : slice_cmp nat_cmp vs us ≡ Less = nat_list_cmp_total.antisymm vs us ∙ ap ordering_reverse e in
    let none : length vs ≡ 0 → 0 < length us → 0 < slice_index us 0 = λ empty _. absurd (let s = b.some in omega arith) in
    let m = key_from-less 4 0 vs us b.few a.few (omega arith) b.fit a.fit a.rising none back in
    absurd (omega (arith, m, key_of-key_from us a.some a.few, key_of-key_from vs b.some b.few))

pub less_from_keys : (us vs : List ℕ) → HaveKey us → HaveKey vs → key_of us < key_of vs → slice_cmp nat_cmp us vs ≡ Less
less_from_keys us vs a b l = less_by us vs a b l (slice_cmp nat_cmp us vs) refl
