-- The carriage return that is a line's last byte.
use Rattle.std.proofs.Common.{◌≡◌, ◌≢◌, ◌+◌, ℕ, zero, suc, [], ◌∷◌, get_or, Bool, List, cond, length, take, eqb, refl, sym, ap, arith}
use Rattle.std.proofs.lemmas.Bool.{ne_eqb}
use Rattle.gadget_text.specs.Lines.{without_return}

-- a line whose last byte is a carriage return is cut before it
pub return_dropped : (xs : List ℕ) (k d : ℕ) → k + 1 ≡ length xs → get_or xs k d ≡ 13 → take k xs ≡ without_return xs
return_dropped [] k d e h = absurd (omega arith)
return_dropped (b ∷ []) zero d e h = sym (ap (λ (z : ℕ). cond (eqb z 13) [] (b ∷ [])) h)
return_dropped (b ∷ []) (suc k) d e h = absurd (omega arith)
return_dropped (b ∷ c ∷ xs) zero d e h = absurd (omega arith)
return_dropped (b ∷ c ∷ xs) (suc k) d e h = ap (λ (z : List ℕ). b ∷ z) (return_dropped (c ∷ xs) k d (omega arith) h)

-- a line whose last byte is another one stays
pub return_stays : (xs : List ℕ) (k d : ℕ) → k + 1 ≡ length xs → get_or xs k d ≢ 13 → xs ≡ without_return xs
return_stays [] k d e h = refl
return_stays (b ∷ []) zero d e h = sym (ap (λ (z : Bool). cond z [] (b ∷ [])) (ne_eqb b 13 h))
return_stays (b ∷ []) (suc k) d e h = absurd (omega arith)
return_stays (b ∷ c ∷ xs) zero d e h = absurd (omega arith)
return_stays (b ∷ c ∷ xs) (suc k) d e h = ap (λ (z : List ℕ). b ∷ z) (return_stays (c ∷ xs) k d (omega arith) h)
