-- Codes and tuples: each tuple is read off from its code, and codes are ordered as the tuples are.
use Rattle.std.proofs.Common.{◌≡◌, ℕ, zero, suc, ◌+◌, ◌-◌, ◌*◌, ◌/◌, ◌%◌, ◌^◌, ◌<◌, ◌≤◌, List, [], ◌∷◌, length, refl, ap, sym, ◌∙◌, inl, inr, arith, pow-suc}
use Rattle.std.proofs.Math.Nat.{mul-le-mul_right, mul-div_cancel, one-le-pow}
use Rattle.std.proofs.lemmas.Nat.{div-mul-add}
use Rattle.tuple_model.specs.Limits.{most_items, most_size}
use Rattle.tuple_model.specs.Tuples.{IsRising, IsTuple, ComesFirst, IsBefore}
use Rattle.tuple_model.proofs.Ranks.{IsBefore-cases}
use Rattle.tuple_order.specs.Codes.{digits, code_of, items_of_digits, tuple_of_code}

-- the worth of the next digit
pub worth-next : (r : ℕ) → 512 ^ suc r / 512 ≡ 512 ^ r
worth-next r = ap (λ (n : ℕ). n / 512) (pow-suc 512 r) ∙ mul-div_cancel (512 ^ r) {n = 512} (omega arith)

pub digits-cons : (r item : ℕ) (items : List ℕ) → digits (512 ^ suc r) (item ∷ items) ≡ (item + 1) * 512 ^ suc r + digits (512 ^ r) items
digits-cons r item items = ap (λ (worth : ℕ). (item + 1) * 512 ^ suc r + digits worth items) (worth-next r)

-- so many digits are worth less than one of the place before
pub digits-small : (r low : ℕ) (t : List ℕ) → length t ≤ suc r → IsRising low 511 t → digits (512 ^ r) t < 512 ^ suc r
digits-small r low [] l h = let p : 1 ≤ 512 ^ suc r = one-le-pow (suc r) 512 (omega arith) in omega arith
digits-small zero low (x ∷ []) l h = let k = h.1 in omega arith
digits-small zero low (x ∷ y ∷ t) l h = absurd (omega arith)
digits-small (suc r) low (x ∷ t) l h =
    let i : digits (512 ^ r) t < 512 ^ suc r = digits-small r (suc x) t (omega arith) h.2 in
    let small : x + 1 ≤ 511 = let k = h.1 in omega arith in
    let m : (x + 1) * 512 ^ suc r ≤ 511 * 512 ^ suc r = mul-le-mul_right (512 ^ suc r) small in
    omega (arith, pow-suc 512 (suc r), digits-cons r x t)

-- the items of a tuple, read off from a number that has its digits after any others
items-from_digits : (r high low : ℕ) (t : List ℕ) → length t ≤ suc r → IsRising low 511 t →
    items_of_digits (length t) (512 ^ r) (high * 512 ^ suc r + digits (512 ^ r) t) ≡ t
items-from_digits r high low [] l h = refl
items-from_digits zero high low (x ∷ []) l h =
    let k = h.1 in
    let first : (high * 512 + ((x + 1) * 1 + 0)) / 1 % 512 - 1 ≡ x = omega arith in
    ap (λ (item : ℕ). item ∷ []) first
items-from_digits zero high low (x ∷ y ∷ t) l h = absurd (omega arith)
items-from_digits (suc r) high low (x ∷ t) l h =
    let k = h.1 in
    let w = 512 ^ suc r in
    let code = high * 512 ^ suc (suc r) + digits (512 ^ suc r) (x ∷ t) in
    let small : digits (512 ^ r) t < w = digits-small r (suc x) t (omega arith) h.2 in
    let p : high * 512 ^ suc (suc r) ≡ high * (w * 512) = ap (λ (n : ℕ). high * n) (pow-suc 512 (suc r)) in
    let q : high * (w * 512) + (x + 1) * w ≡ (high * 512 + (x + 1)) * w = grind arith in
    let e : code ≡ (high * 512 + (x + 1)) * w + digits (512 ^ r) t = omega (arith, digits-cons r x t) in
    let d : code / w ≡ high * 512 + (x + 1) = ap (λ (n : ℕ). n / w) e ∙ div-mul-add (high * 512 + (x + 1)) w (digits (512 ^ r) t) small in
    let first : code / w % 512 - 1 ≡ x = ap (λ (n : ℕ). n % 512 - 1) d ∙ omega arith in
    let rest : items_of_digits (length t) (w / 512) code ≡ t =
    ap (λ (worth : ℕ). items_of_digits (length t) worth code) (worth-next r)
    ∙ ap (items_of_digits (length t) (512 ^ r)) e
    ∙ items-from_digits r (high * 512 + (x + 1)) (suc x) t (omega arith) h.2 in
    cc

-- the size stands in the code
pub code_of-size : (t : List ℕ) → IsTuple most_items most_size t → code_of t / 2 ^ 54 % 256 ≡ length t
unfolding code_of
code_of-size t h =
    let l : length t ≤ 6 = h.short in
    let d : digits (2 ^ 45) t < 2 ^ 54 = digits-small 5 0 t l h.rising in
    omega arith

pub tuple_of_code-code_of : (t : List ℕ) → IsTuple most_items most_size t → tuple_of_code (code_of t) ≡ t
unfolding code_of tuple_of_code
tuple_of_code-code_of t h =
    let l : length t ≤ 6 = h.short in
    let d : digits (2 ^ 45) t < 2 ^ 54 = digits-small 5 0 t l h.rising in
    let high = 2 ^ 8 + length t in
    let e : code_of t ≡ high * 512 ^ 6 + digits (512 ^ 5) t = omega arith in
    ap (λ (n : ℕ). items_of_digits n (2 ^ 45) (code_of t)) (code_of-size t h)
    ∙ ap (items_of_digits (length t) (2 ^ 45)) e
    ∙ items-from_digits 5 high 0 t l h.rising

digits-before : (r low other : ℕ) (s t : List ℕ) → length s ≡ length t → length s ≤ suc r → IsRising low 511 s → IsRising other 511 t →
    ComesFirst s t → digits (512 ^ r) s < digits (512 ^ r) t
digits-before r low other [] t e l g h f = absurd f
digits-before r low other (x ∷ s) [] e l g h f = absurd f
digits-before zero low other (x ∷ y ∷ s) t e l g h f = absurd (omega arith)
digits-before zero low other (x ∷ []) (y ∷ z ∷ t) e l g h f = absurd (omega arith)
digits-before zero low other (x ∷ []) (y ∷ []) e l g h (inl less) = omega arith
digits-before zero low other (x ∷ []) (y ∷ []) e l g h (inr same) = absurd same.1
digits-before (suc r) low other (x ∷ s) (y ∷ t) e l g h (inl less) =
    let small : digits (512 ^ r) s < 512 ^ suc r = digits-small r (suc x) s (omega arith) g.2 in
    let m : (x + 1 + 1) * 512 ^ suc r ≤ (y + 1) * 512 ^ suc r = mul-le-mul_right (512 ^ suc r) (let k : x + 1 + 1 ≤ y + 1 = omega arith in k) in
    let d : (x + 1 + 1) * 512 ^ suc r ≡ (x + 1) * 512 ^ suc r + 512 ^ suc r = grind arith in
    omega (arith, digits-cons r x s, digits-cons r y t)
digits-before (suc r) low other (x ∷ s) (y ∷ t) e l g h (inr same) =
    let i = digits-before r (suc x) (suc y) s t (omega arith) (omega arith) g.2 h.2 same.1 in
    let m = ap (λ (z : ℕ). (z + 1) * 512 ^ suc r) same.0 in
    omega (arith, digits-cons r x s, digits-cons r y t)

pub code_of-before : (s t : List ℕ) → IsTuple most_items most_size s → IsTuple most_items most_size t → IsBefore s t → code_of s < code_of t
unfolding code_of
code_of-before s t g h (inl shorter) =
    let d : digits (2 ^ 45) s < 2 ^ 54 = digits-small 5 0 s g.short g.rising in
    omega arith
code_of-before s t g h (inr same) =
    let e = same.0 in
    let d : digits (2 ^ 45) s < digits (2 ^ 45) t = digits-before 5 0 0 s t e g.short g.rising h.rising same.1 in
    omega arith

pub code_of-small : (t : List ℕ) → IsTuple most_items most_size t → code_of t < 2 ^ 63
unfolding code_of
code_of-small t h =
    let l = h.short in
    let d : digits (2 ^ 45) t < 2 ^ 54 = digits-small 5 0 t h.short h.rising in
    omega arith

-- a code is never 0, since each has bit 62
pub code_of-large : (t : List ℕ) → 2 ^ 62 ≤ code_of t
unfolding code_of
code_of-large t = omega arith

pub IsBefore-from_code_of : (s t : List ℕ) → IsTuple most_items most_size s → IsTuple most_items most_size t → code_of s < code_of t → IsBefore s t
IsBefore-from_code_of s t g h l = elim (IsBefore-cases most_items most_size s t g h) [
  | inl before ↦ before
  | inr (inl same) ↦ let e = ap code_of same in absurd (omega arith)
  | inr (inr after) ↦ let m = code_of-before t s h g after in absurd (omega arith)
]

pub code_of-unique : (s t : List ℕ) → IsTuple most_items most_size s → IsTuple most_items most_size t → code_of s ≡ code_of t → s ≡ t
code_of-unique s t g h e = sym (tuple_of_code-code_of s g) ∙ ap tuple_of_code e ∙ tuple_of_code-code_of t h

-- what is read off from a code is its tuple
pub items-from_code : (t : List ℕ) (code size : ℕ) → IsTuple most_items most_size t → code_of t ≡ code → size ≡ code / 2 ^ 54 % 256 →
    items_of_digits size (2 ^ 45) code ≡ t
unfolding tuple_of_code
items-from_code t code size h e f =
    ap (λ (n : ℕ). items_of_digits n (2 ^ 45) code) f ∙ ap tuple_of_code (sym e) ∙ tuple_of_code-code_of t h
