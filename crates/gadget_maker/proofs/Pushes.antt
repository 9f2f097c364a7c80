-- One more row of a text made from rows.
use Rattle.std.proofs.Common.{◌≡◌, ◌≤◌, ℕ, ◌+◌, ◌-◌, zero, suc, ◌++◌, List, ap, sym, ◌∙◌, append_assoc, arith, append-nil}
use Rattle.std.specs.Prelude.{flat_map}
use Rattle.std.specs.List.{range_with_len}

-- the range grows at its end
flat_map-more : (f : ℕ → List ℕ) (a k : ℕ) → flat_map f (range_with_len a k) ++ f (a + k) ≡ flat_map f (range_with_len a (k + 1))
flat_map-more f a zero = ap f (let e : a + 0 ≡ a = omega arith in e) ∙ sym (append-nil (f a))
flat_map-more f a (suc k) = append_assoc (f a) (flat_map f (range_with_len (a + 1) k)) (f (a + suc k)) ∙ ap (λ xs. f a ++ xs) (ap (λ n. flat_map f (range_with_len (a + 1) k) ++ f n) (let e : a + suc k ≡ (a + 1) + k = omega arith in e) ∙ flat_map-more f (a + 1) k) ∙ ap (λ n. flat_map f (range_with_len a n)) (let e : suc (k + 1) ≡ suc k + 1 = omega arith in e)

pub flat_map-push : (f : ℕ → List ℕ) (old now new : List ℕ) (a i : ℕ) → a ≤ i → now ≡ old ++ flat_map f (range_with_len a (i - a)) → new ≡ now ++ f i
    → new ≡ old ++ flat_map f (range_with_len a (i + 1 - a))
flat_map-push f old now new a i l e h =
    let at : a + (i - a) ≡ i = omega arith in
    let len : i - a + 1 ≡ i + 1 - a = omega arith in
    h ∙ ap (λ xs. xs ++ f i) e ∙ append_assoc old (flat_map f (range_with_len a (i - a))) (f i)
    ∙ ap (λ xs. old ++ xs) (ap (λ n. flat_map f (range_with_len a (i - a)) ++ f n) (sym at) ∙ flat_map-more f a (i - a) ∙ ap (λ n. flat_map f (range_with_len a n)) len)
