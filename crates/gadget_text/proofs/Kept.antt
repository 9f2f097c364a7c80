-- The kept part of a line, by where the next `#` stands.
use Rattle.std.proofs.Common.{◌≡◌, ◌+◌, ℕ, zero, suc, [], ◌∷◌, Bool, true, false, not, List, cond, length, take, drop, refl, ap, arith}
use Rattle.std.specs.List.{position_or_len}
use Rattle.gadget_text.specs.Bytes.{is_blank, is_hash}
use Rattle.gadget_text.specs.Lines.{kept_part, before_hash}
use Rattle.gadget_text.proofs.Blanks.{blanks}

before_by_cases : (hash : Bool) (b : ℕ) (bs : List ℕ) (k : ℕ) → k ≡ cond (not hash) (1 + position_or_len is_hash bs) 0 → ((j : ℕ) → j ≡ position_or_len is_hash bs → take j bs ≡ before_hash bs) →
    take k (b ∷ bs) ≡ cond hash [] (b ∷ before_hash bs)
before_by_cases true b bs zero e ih = refl
before_by_cases true b bs (suc k) e ih = absurd (omega (arith, e))
before_by_cases false b bs zero e ih = absurd (omega (arith, e))
before_by_cases false b bs (suc k) e ih = ap (λ (z : List ℕ). b ∷ z) (ih k (omega (arith, e)))

-- what stands before the next `#`, by its index
before_is : (bs : List ℕ) (k : ℕ) → k ≡ position_or_len is_hash bs → take k bs ≡ before_hash bs
before_is [] zero e = refl
before_is [] (suc k) e = refl
before_is (b ∷ bs) k e = before_by_cases (is_hash b) b bs k e (before_is bs)

kept_by_cases : (blank : Bool) (b : ℕ) (bs : List ℕ) (n k : ℕ) → n ≡ cond blank (1 + blanks bs) 0 → k ≡ n + 1 + position_or_len is_hash (drop (n + 1) (b ∷ bs)) →
    ((m j : ℕ) → m ≡ blanks bs → j ≡ m + 1 + position_or_len is_hash (drop (m + 1) bs) → take j bs ≡ kept_part bs) →
    take k (b ∷ bs) ≡ b ∷ cond blank (kept_part bs) (before_hash bs)
kept_by_cases blank b bs n zero e f ih = absurd (omega (arith, f))
kept_by_cases true b bs zero (suc k) e f ih = absurd (omega (arith, e))
kept_by_cases true b bs (suc n) (suc k) e f ih =
    let s : suc n + 1 ≡ suc (n + 1) = omega arith in
    let d : position_or_len is_hash (drop (suc n + 1) (b ∷ bs)) ≡ position_or_len is_hash (drop (n + 1) bs) = ap (λ (z : ℕ). position_or_len is_hash (drop z (b ∷ bs))) s in
    ap (λ (z : List ℕ). b ∷ z) (ih n k (omega (arith, e)) (omega (arith, f, d)))
kept_by_cases false b bs zero (suc k) e f ih = ap (λ (z : List ℕ). b ∷ z) (before_is bs k (omega (arith, f)))
kept_by_cases false b bs (suc n) (suc k) e f ih = absurd (omega (arith, e))

-- the kept part ends where the next `#` after the first byte that is no blank stands
pub kept_before : (xs : List ℕ) (n k : ℕ) → n ≡ blanks xs → k ≡ n + 1 + position_or_len is_hash (drop (n + 1) xs) → take k xs ≡ kept_part xs
kept_before [] n zero e f = refl
kept_before [] n (suc k) e f = refl
kept_before (b ∷ bs) n k e f = kept_by_cases (is_blank b) b bs n k e f (kept_before bs)

whole_by_cases : (blank : Bool) (b : ℕ) (bs : List ℕ) → cond blank (1 + blanks bs) 0 ≡ 1 + length bs → (blanks bs ≡ length bs → bs ≡ kept_part bs) →
    b ∷ bs ≡ b ∷ cond blank (kept_part bs) (before_hash bs)
whole_by_cases true b bs e ih = ap (λ (z : List ℕ). b ∷ z) (ih (omega (arith, e)))
whole_by_cases false b bs e ih = absurd (omega (arith, e))

-- a line that has only blanks is kept whole
pub kept_whole : (xs : List ℕ) → blanks xs ≡ length xs → xs ≡ kept_part xs
kept_whole [] e = refl
kept_whole (b ∷ bs) e = whole_by_cases (is_blank b) b bs (omega (arith, e)) (kept_whole bs)
