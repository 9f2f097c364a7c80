-- Lists of variables, and the sets that they stand for.
use Rattle.std.proofs.Common.{◌≡◌, ℕ, ◌^◌, ◌<◌, List, [], ◌∷◌, refl, ap, sym, ◌∙◌, subst, inl, inr, arith, Contains}
use Rattle.std.specs.List.{All, AllPairs}
use Rattle.std.specs.List.Sorted.{IsStrictlyIncreasing}
use Rattle.std.specs.Int.{bit_at}
use Rattle.std.proofs.lemmas.Bool.Decides.{eqb_tells}
use Rattle.std.proofs.lemmas.Nat.Bits.{bit_at-lt, bit_at_or, bit_at-zero, bit_at-pow_same, bit_at-pow_other}
use Rattle.std.proofs.lemmas.List.Elements.{All-contains}
use Rattle.std.proofs.lemmas.List.Kept.{AllPairs-from_increasing}
use Rattle.list_laws.proofs.Members.{Contains-cons_head, Contains-cons_tail, Contains-cons_cases, AllPairs-head, AllPairs-tail}
use Rattle.anf.specs.Polynomials.{set_of}

-- a variable of a list is in its set
pub bit_from_Contains : (vs : List ℕ) (v : ℕ) → Contains vs v → bit_at (set_of vs) v ≡ 1
bit_from_Contains [] v h = absurd (omega arith)
bit_from_Contains (w ∷ vs) v h =
    let e = bit_at_or (2 ^ w) (set_of vs) v in
    let l = bit_at-lt (2 ^ w) v in
    let m = bit_at-lt (set_of vs) v in
    elim (Contains-cons_cases w vs v h) [
      | inl same ↦ let s : bit_at (2 ^ w) v ≡ 1 = ap (λ (u : ℕ). bit_at (2 ^ u) v) same ∙ bit_at-pow_same v in omega arith
      | inr later ↦ let i = bit_from_Contains vs v later in omega arith
    ]

-- a variable of a list's set is in the list
pub Contains-from_bit : (vs : List ℕ) (v : ℕ) → bit_at (set_of vs) v ≡ 1 → Contains vs v
Contains-from_bit [] v h = absurd (let z = bit_at-zero v in omega arith)
Contains-from_bit (w ∷ vs) v h = elim (eqb_tells v w) [
  | inl same ↦ subst (Contains (w ∷ vs)) (sym same.1) (Contains-cons_head w vs)
  | inr other ↦
      let e = bit_at_or (2 ^ w) (set_of vs) v in
      let z = bit_at-pow_other w v other.1 in
      Contains-cons_tail w vs v (Contains-from_bit vs v (omega arith))
]

-- rising lists with the same members are the same
same_from_members : (us vs : List ℕ) → AllPairs (λ a b. a < b) us → AllPairs (λ a b. a < b) vs → ((v : ℕ) → Contains us v → Contains vs v) → ((v : ℕ) → Contains vs v → Contains us v) → us ≡ vs
same_from_members [] [] a b h k = refl
same_from_members [] (v ∷ vs) a b h k = absurd (let n = k v (Contains-cons_head v vs) in omega arith)
same_from_members (u ∷ us) [] a b h k = absurd (let n = h u (Contains-cons_head u us) in omega arith)
same_from_members (u ∷ us) (v ∷ vs) a b h k =
    let R : ℕ → ℕ → Type 0 = λ a b. a < b in
    let below_us : All (λ x. u < x) us = AllPairs-head R u us a in
    let below_vs : All (λ x. v < x) vs = AllPairs-head R v vs b in
    let e : u ≡ v = elim (Contains-cons_cases v vs u (h u (Contains-cons_head u us))) [
      | inl same ↦ sym same
      | inr more ↦ elim (Contains-cons_cases u us v (k v (Contains-cons_head v vs))) [
        | inl same ↦ same
        | inr less ↦ absurd (let m = All-contains (λ (x : ℕ). v < x) vs u below_vs more in let l = All-contains (λ (x : ℕ). u < x) us v below_us less in omega arith)
      ]
    ] in
    let there : (x : ℕ) → Contains us x → Contains vs x = λ x m. elim (Contains-cons_cases v vs x (h x (Contains-cons_tail u us x m))) [
      | inl same ↦ absurd (let l = All-contains (λ (x : ℕ). u < x) us x below_us m in omega arith)
      | inr more ↦ more
    ] in
    let back : (x : ℕ) → Contains vs x → Contains us x = λ x m. elim (Contains-cons_cases u us x (k x (Contains-cons_tail v vs x m))) [
      | inl same ↦ absurd (let l = All-contains (λ (x : ℕ). v < x) vs x below_vs m in omega arith)
      | inr more ↦ more
    ] in
    let i = same_from_members us vs (AllPairs-tail R u us a) (AllPairs-tail R v vs b) there back in
    cc

-- a rising list is known by its set
pub same_from_sets : (us vs : List ℕ) → IsStrictlyIncreasing us → IsStrictlyIncreasing vs → set_of us ≡ set_of vs → us ≡ vs
same_from_sets us vs a b e =
    same_from_members us vs (AllPairs-from_increasing us a) (AllPairs-from_increasing vs b)
    (λ v h. Contains-from_bit vs v (ap (λ (s : ℕ). bit_at s v) (sym e) ∙ bit_from_Contains us v h))
    (λ v h. Contains-from_bit us v (ap (λ (s : ℕ). bit_at s v) e ∙ bit_from_Contains vs v h))
