-- One step through the items of a tuple, of which those with a bit set are kept.
use Rattle.std.proofs.Common.{◌≡◌, ℕ, suc, ◌+◌, ◌/◌, ◌%◌, ◌<◌, List, [], ◌∷◌, ◌++◌, length, drop, get_or, ap, sym, ◌∙◌, arith, subst, append_assoc, length-append, drop-cons}
use Rattle.tuple_model.specs.Tuples.{IsRising, IsTuple, subset}
use Rattle.tuple_model.proofs.Subsets.{subset-odd, subset-even}

IsRising-prefix : (low high : ℕ) (s t : List ℕ) → IsRising low high (s ++ t) → IsRising low high s
IsRising-prefix low high [] t h = tt
IsRising-prefix low high (x ∷ s) t h = (h.0, h.1, IsRising-prefix (suc x) high s t h.2)

pub IsTuple-prefix : (items size : ℕ) (s t : List ℕ) → IsTuple items size (s ++ t) → IsTuple items size s
IsTuple-prefix items size s t h = record { short = omega (arith, h.short, length-append s t); rising = IsRising-prefix 0 items s t h.rising }

rest_at : (t : List ℕ) (i : ℕ) → i < length t → drop i t ≡ get_or t i 0 ∷ drop (i + 1) t
rest_at t i l =
    let e : suc i ≡ i + 1 = omega arith in
    drop-cons t i 0 l ∙ ap (λ (k : ℕ). get_or t i 0 ∷ drop k t) e

pub kept_odd : (kept t : List ℕ) (bits i : ℕ) → i < length t → bits % 2 ≡ 1 →
    (kept ++ get_or t i 0 ∷ []) ++ subset (bits / 2) (drop (i + 1) t) ≡ kept ++ subset bits (drop i t)
kept_odd kept t bits i l e =
    append_assoc kept (get_or t i 0 ∷ []) (subset (bits / 2) (drop (i + 1) t))
    ∙ ap (λ (s : List ℕ). kept ++ s) (sym (ap (subset bits) (rest_at t i l) ∙ subset-odd bits (get_or t i 0) (drop (i + 1) t) e))

pub kept_even : (kept t : List ℕ) (bits i : ℕ) → i < length t → (bits % 2 ≡ 1 → ⊥) →
    kept ++ subset (bits / 2) (drop (i + 1) t) ≡ kept ++ subset bits (drop i t)
kept_even kept t bits i l n =
    let e : bits % 2 ≡ 0 = omega arith in
    ap (λ (s : List ℕ). kept ++ s) (sym (ap (subset bits) (rest_at t i l) ∙ subset-even bits (get_or t i 0) (drop (i + 1) t) e))

-- what was kept and one more item make a tuple, since they begin one
pub IsTuple-kept : (items size : ℕ) (kept t whole : List ℕ) (bits i : ℕ) → IsTuple items size whole → i < length t → bits % 2 ≡ 1 →
    kept ++ subset bits (drop i t) ≡ whole → IsTuple items size (kept ++ get_or t i 0 ∷ [])
IsTuple-kept items size kept t whole bits i h l odd e =
    let rest = subset (bits / 2) (drop (i + 1) t) in
    IsTuple-prefix items size (kept ++ get_or t i 0 ∷ []) rest (subst (IsTuple items size) (sym (kept_odd kept t bits i l odd ∙ e)) h)
