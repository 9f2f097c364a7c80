-- Products of two rows of numbers: sums, multiples, rows that agree, and rows that begin with zeros.
use Rattle.std.proofs.Common.{◌≡◌, ℕ, zero, suc, ◌+◌, ◌-◌, ◌*◌, ◌<◌, ◌≤◌, refl, ap, sym, ◌∙◌, arith}
use Rattle.wire_counts.specs.Ways.{convolution}

pub convolution-same : (a a' b b' : ℕ → ℕ) (n : ℕ) → ((k : ℕ) → k ≤ n → a k ≡ a' k) → ((k : ℕ) → k ≤ n → b k ≡ b' k) → convolution a b n ≡ convolution a' b' n
convolution-same a a' b b' zero e f = let x = e 0 (omega arith) in let y = f 0 (omega arith) in cc
convolution-same a a' b b' (suc n) e f =
    let x = e 0 (omega arith) in
    let y = f (suc n) (omega arith) in
    let r = convolution-same (λ k. a (suc k)) (λ k. a' (suc k)) b b' n (λ k l. e (suc k) (omega arith)) (λ k l. f k (omega arith)) in
    cc

pub convolution-add_left : (a a' b : ℕ → ℕ) (n : ℕ) → convolution (λ k. a k + a' k) b n ≡ convolution a b n + convolution a' b n
convolution-add_left a a' b zero = omega arith
convolution-add_left a a' b (suc n) =
    let r = convolution-add_left (λ k. a (suc k)) (λ k. a' (suc k)) b n in
    grind arith

pub convolution-add_right : (a b b' : ℕ → ℕ) (n : ℕ) → convolution a (λ k. b k + b' k) n ≡ convolution a b n + convolution a b' n
convolution-add_right a b b' zero = grind arith
convolution-add_right a b b' (suc n) =
    let r = convolution-add_right (λ k. a (suc k)) b b' n in
    grind arith

pub convolution-none : (b : ℕ → ℕ) (n : ℕ) → convolution (λ k. 0) b n ≡ 0
convolution-none b zero = omega arith
convolution-none b (suc n) = let r = convolution-none b n in omega arith

pub convolution-none_right : (a : ℕ → ℕ) (n : ℕ) → convolution a (λ k. 0) n ≡ 0
convolution-none_right a zero = omega arith
convolution-none_right a (suc n) = let r = convolution-none_right (λ k. a (suc k)) n in omega arith

pub convolution-times : (a b : ℕ → ℕ) (c n : ℕ) → convolution a (λ k. c * b k) n ≡ c * convolution a b n
convolution-times a b c zero = grind arith
convolution-times a b c (suc n) =
    let r = convolution-times (λ k. a (suc k)) b c n in
    grind arith

-- where the second row begins with zeros, the product does, and goes on as the product with what follows them
pub convolution-zeros : (a b : ℕ → ℕ) (n : ℕ) → ((k : ℕ) → k ≤ n → b k ≡ 0) → convolution a b n ≡ 0
convolution-zeros a b n e = convolution-same a a b (λ k. 0) n (λ k l. refl) e ∙ convolution-none_right a n

pub convolution-after_zeros : (a b : ℕ → ℕ) (zeros n : ℕ) → ((k : ℕ) → k < zeros → b k ≡ 0) → convolution a b (n + zeros) ≡ convolution a (λ k. b (k + zeros)) n
convolution-after_zeros a b zero zero e = omega arith
convolution-after_zeros a b (suc zeros) zero e =
    let r = convolution-zeros (λ k. a (suc k)) b zeros (λ k l. e k (omega arith)) in
    let f : 0 + suc zeros ≡ suc zeros = omega arith in
    let g = ap (convolution a b) f in
    let h = ap (λ (n : ℕ). a 0 * b n) f in
    omega arith
convolution-after_zeros a b zeros (suc n) e =
    let r = convolution-after_zeros (λ k. a (suc k)) b zeros n e in
    let f : suc n + zeros ≡ suc (n + zeros) = omega arith in
    let g = ap (convolution a b) f in
    let h = ap (λ (m : ℕ). a 0 * b m) f in
    omega arith

-- the last terms of a product, as many as are still to come
abbrev pub terms : (ℕ → ℕ) → (ℕ → ℕ) → ℕ → ℕ → ℕ
terms a b n zero = 0
terms a b n (suc left) = a (n - left) * b left + terms a b n left

terms-convolution : (a b : ℕ → ℕ) (passed left : ℕ) → terms a b (passed + left) (suc left) ≡ convolution (λ k. a (passed + k)) b left
terms-convolution a b passed zero =
    let e : passed + 0 - 0 ≡ passed + 0 = omega arith in
    let f = ap (λ (k : ℕ). a k * b 0) e in
    omega arith
terms-convolution a b passed (suc left) =
    let e : passed + suc left - suc left ≡ passed + 0 = omega arith in
    let f = ap (λ (k : ℕ). a k * b (suc left)) e in
    let g : passed + suc left ≡ suc passed + left = omega arith in
    let h = ap (λ (n : ℕ). terms a b n (suc left)) g in
    let r = terms-convolution a b (suc passed) left in
    let s = convolution-same (λ k. a (suc passed + k)) (λ k. a (passed + suc k)) b b left (λ k l. ap a (let z : suc passed + k ≡ passed + suc k = omega arith in z)) (λ k l. refl) in
    omega arith

pub terms-all : (a b : ℕ → ℕ) (n : ℕ) → terms a b n (n + 1) ≡ convolution a b n
terms-all a b n =
    let e : n + 1 ≡ suc n = omega arith in
    let f : 0 + n ≡ n = omega arith in
    ap (terms a b n) e ∙ sym (ap (λ (m : ℕ). terms a b m (suc n)) f) ∙ terms-convolution a b 0 n
    ∙ convolution-same (λ k. a (0 + k)) a b b n (λ k l. ap a (let z : 0 + k ≡ k = omega arith in z)) (λ k l. refl)

pub terms-step : (a b : ℕ → ℕ) (n taken : ℕ) → taken ≤ n → terms a b n (n + 1 - taken) ≡ a taken * b (n - taken) + terms a b n (n + 1 - (taken + 1))
terms-step a b n taken l =
    let e : n + 1 - taken ≡ suc (n - taken) = omega arith in
    let f : n + 1 - (taken + 1) ≡ n - taken = omega arith in
    let g : n - (n - taken) ≡ taken = omega arith in
    ap (terms a b n) e ∙ ap (λ (k : ℕ). a k * b (n - taken) + terms a b n (n - taken)) g ∙ ap (λ (k : ℕ). a taken * b (n - taken) + terms a b n k) (sym f)
