-- Where a code may be stored.
use Rattle.std.proofs.Common.{◌≡◌, ◌≢◌, ℕ, zero, suc, ◌+◌, ◌-◌, ◌*◌, ◌/◌, ◌%◌, ◌<◌, ◌≤◌, ◌^◌, ◌⊎◌, inl, inr, List, length, refl, ap, sym, ◌∙◌, arith, subst, mod-eq_of_lt}
use Rattle.std.proofs.Math.Nat.{mul-div_cancel, div-lt_iff_lt-mul, mul_comm, mod-lt, mod-eq-sub-mod, pow-le-pow_right}
use Rattle.std.proofs.lemmas.Nat.{pow_pos, pow-add}
use Rattle.std.proofs.lemmas.Bool.{cases_lt}
use Rattle.tuple_model.specs.Tuples.{HasRank}
use Rattle.tuple_model.proofs.Ranks.{IsTuple-from_rank, rank-unique}
use Rattle.tuple_order.specs.Codes.{code_of}
use Rattle.cover_core.specs.declared.state.View.{View}
use Rattle.cover_core.specs.declared.state.State.{State}
use Rattle.cover_core.specs.Core.{Asked, Covers, Has, home_of, path}
use Rattle.cover_core.specs.Effects.{PassedBy}
use Rattle.cover_core.specs.Machine.{MayPublish}

-- so many words fit 2 ^ 64 evenly
blocks : (width k : ℕ) → width ≡ 2 ^ k → width < 2 ^ 32 → (2 ^ 64 / width ≡ 2 ^ (64 - k)) × (2 ^ (64 - k) * width ≡ 2 ^ 64)
blocks width k e small =
    let low : k < 32 = elim (cases_lt k 32) [
      | inl less ↦ less
      | inr more ↦ let p : 2 ^ 32 ≤ 2 ^ k = pow-le-pow_right {n = 2} (omega arith) {i = 32} {j = k} more in absurd (omega arith)
    ] in
    let sum : 64 - k + k ≡ 64 = omega arith in
    let whole : 2 ^ (64 - k) * width ≡ 2 ^ 64 = ap (λ (n : ℕ). 2 ^ (64 - k) * n) e ∙ sym (pow-add 2 (64 - k) k) ∙ ap (λ (n : ℕ). 2 ^ n) sum in
    let some : 0 < width = let p = pow_pos k in omega (arith, p) in
    (ap (λ (n : ℕ). n / width) (sym whole) ∙ mul-div_cancel (2 ^ (64 - k)) {n = width} some, whole)

-- in a table of a power of two words each path begins within
pub homed : (code width k : ℕ) → width ≡ 2 ^ k → width < 2 ^ 32 → home_of width code < width
unfolding home_of
homed code width k e small =
    let b = blocks width k e small in
    let block = 2 ^ (64 - k) in
    let x = code * 11400714819323198485 % 2 ^ 64 in
    let most : x < 2 ^ 64 = mod-lt (code * 11400714819323198485) {m = 2 ^ 64} (omega arith) in
    let low : x / block < width = (div-lt_iff_lt-mul {k = block} {x = x} {y = width} (pow_pos (64 - k))).1 (let f = b.1 in omega (arith, f, mul_comm width block)) in
    let P : ℕ → Type 0 = λ n. x / n < width in
    subst P (sym b.0) low

pub home-is : (code width x block : ℕ) → x ≡ code * 11400714819323198485 % 2 ^ 64 → block ≡ 2 ^ 64 / width → x / block ≡ home_of width code
unfolding home_of
home-is code width x block e f = ap (λ (n : ℕ). n / block) e ∙ ap (λ (n : ℕ). code * 11400714819323198485 % 2 ^ 64 / n) f

-- a step that goes on with the first place after the last
turn : (h k n : ℕ) → h < n → k < n → ((h + k < n) × ((h + k) % n ≡ h + k)) ⊎ ((n ≤ h + k) × ((h + k) % n ≡ h + k - n))
turn h k n low short = elim (cases_lt (h + k) n) [
  | inl less ↦ inl (less, mod-eq_of_lt less)
  | inr more ↦ let back : h + k - n < n = omega arith in inr (more, mod-eq-sub-mod {n = h + k} {m = n} more ∙ mod-eq_of_lt back)
]

pub step-once : (h j k n : ℕ) → h < n → j < n → k < n → (h + j) % n ≡ (h + k) % n → j ≡ k
step-once h j k n low short short' e = elim (turn h j n low short) [
  | inl a ↦ elim (turn h k n low short') [ inl b ↦ omega (arith, a.1, b.1, e, a.0, b.0) | inr b ↦ absurd (omega (arith, a.1, b.1, e, a.0, b.0)) ]
  | inr a ↦ elim (turn h k n low short') [ inl b ↦ absurd (omega (arith, a.1, b.1, e, a.0, b.0)) | inr b ↦ omega (arith, a.1, b.1, e, a.0, b.0) ]
]

pub step-on : (h p n : ℕ) → h ≤ p → p < n → (h + (p - h)) % n ≡ p
step-on h p n l m = let e : h + (p - h) ≡ p = omega arith in ap (λ (y : ℕ). y % n) e ∙ mod-eq_of_lt m

pub step-over : (h p n : ℕ) → p < h → h < n → (h + (p + (n - h))) % n ≡ p
step-over h p n l m =
    let e : h + (p + (n - h)) - n ≡ p = omega arith in
    let small : h + (p + (n - h)) - n < n = omega arith in
    mod-eq-sub-mod {n = h + (p + (n - h))} {m = n} (omega arith) ∙ mod-eq_of_lt small ∙ e

-- another code at one place more
pub passed-one : (n c k : ℕ) (v : View) (seen : List (ℕ × ℕ)) (p : ℕ) → v.seen ≡ seen → p ≡ path n c k → ((other : ℕ) × Has (p, other) seen × (other ≢ c)) → (other : ℕ) × Has (path n c k, other) v.seen × (other ≢ c)
passed-one n c k v seen p e at h =
    let P : List (ℕ × ℕ) → Type 0 = λ l. Has (path n c k, h.0) l in
    let Q : ℕ → Type 0 = λ q. Has (q, h.0) seen in
    (h.0, subst P (sym e) (subst Q at h.1), h.2)

pub passed-back : (n c k : ℕ) (v : View) (seen : List (ℕ × ℕ)) (p : ℕ) → v.seen ≡ seen → p ≡ path n c k → ((other : ℕ) × Has (path n c k, other) v.seen × (other ≢ c)) → (other : ℕ) × Has (p, other) seen × (other ≢ c)
passed-back n c k v seen p e at h =
    let P : List (ℕ × ℕ) → Type 0 = λ l. Has (p, h.0) l in
    let Q : ℕ → Type 0 = λ q. Has (q, h.0) v.seen in
    (h.0, subst P e (subst Q (sym at) h.1), h.2)

-- What MayPublish says of the one rank and the one step

pub publish-fits : (a : Asked) (s : State) (v : View) (place : ℕ) (t : List ℕ) → MayPublish a s v place t → (rank : ℕ) → HasRank a.items a.size t rank → Covers rank v
publish-fits a s v place t h rank ranked =
    let P : ℕ → Type 0 = λ r. Covers r v in
    subst P (rank-unique a.items a.size h.rank rank t h.ranked ranked) h.covered

pub publish-passed : (a : Asked) (s : State) (v : View) (width place step k : ℕ) (t : List ℕ) (code : ℕ) → width ≡ 2 ^ k → width < 2 ^ 32 → length s.words ≡ width → code ≡ code_of t → path width code step ≡ place → step < width → MayPublish a s v place t → PassedBy width code step v
publish-passed a s v width place step k t code e small wide coded at short h =
    let P : ℕ → Type 0 = λ c. PassedBy width c step v in
    let on : place ≡ path width (code_of t) h.step = h.on_path ∙ ap (λ (n : ℕ). path n (code_of t) h.step) wide in
    let on' : path width (code_of t) step ≡ path width (code_of t) h.step = ap (λ (c : ℕ). path width c step) (sym coded) ∙ at ∙ on in
    let less : h.step < width = let l = h.short in omega arith in
    let same : step ≡ h.step = step-once (home_of width (code_of t)) step h.step width (homed (code_of t) width k e small) short less on' in
    let Q : ℕ → Type 0 = λ j. PassedBy width (code_of t) j v in
    let R : ℕ → Type 0 = λ n. PassedBy n (code_of t) h.step v in
    subst P (sym coded) (subst Q (sym same) (subst R wide h.passed))

pub may_publish : (a : Asked) (s : State) (v : View) (width place step rank : ℕ) (t : List ℕ) (code : ℕ) → length s.words ≡ width → code ≡ code_of t → a.Fails t → HasRank a.items a.size t rank → Covers rank v → path width code step ≡ place → step < width → place < width → PassedBy width code step v → MayPublish a s v place t
may_publish a s v width place step rank t code wide coded fails ranked covered at short inside passed =
    let same : path width code step ≡ path (length s.words) (code_of t) step = ap (λ (c : ℕ). path width c step) coded ∙ ap (λ (n : ℕ). path n (code_of t) step) (sym wide) in
    let P : ℕ → Type 0 = λ c. PassedBy width c step v in
    let Q : ℕ → Type 0 = λ n. PassedBy n (code_of t) step v in
    record {
      fails = fails;
      rank = rank;
      ranked = ranked;
      covered = covered;
      step = step;
      short = omega arith;
      inside = omega arith;
      on_path = sym at ∙ same;
      passed = subst Q (sym wide) (subst P coded passed);
    }

pub rank-of : (items size items' size' : ℕ) (t : List ℕ) (rank : ℕ) → items ≡ items' → size ≡ size' → HasRank items size t rank → HasRank items' size' t rank
rank-of items size items' size' t rank e f h =
    let P : ℕ → Type 0 = λ n. HasRank n size t rank in
    let Q : ℕ → Type 0 = λ n. HasRank items' n t rank in
    subst Q f (subst P e h)
