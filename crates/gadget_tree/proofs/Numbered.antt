-- A fact of each element of a list and its number, where the elements are numbered from some number on.
use Rattle.std.proofs.Common.{◌≡◌, ◌<◌, ◌+◌, ℕ, zero, suc, List, [], ◌∷◌, ◌++◌, length, get_or, subst, arith}
use Rattle.std.specs.List.{AllZip}

-- P holds of each element and its number, where the first has number n
abbrev pub AllFrom : {A : Type 0} → (ℕ → A → Type 0) → ℕ → List A → Type 0
AllFrom P n [] = Unit {0}
AllFrom P n (x ∷ xs) = P n x × AllFrom P (n + 1) xs

-- the same from an equal number on
AllFrom-same : {A : Type 0} (P : ℕ → A → Type 0) (m n : ℕ) (xs : List A) → m ≡ n → AllFrom P m xs → AllFrom P n xs
AllFrom-same P m n xs e h = subst (λ k. AllFrom P k xs) e h

-- more elements after these
pub AllFrom-append : {A : Type 0} (P : ℕ → A → Type 0) (n : ℕ) (xs ys : List A) → AllFrom P n xs → AllFrom P (n + length xs) ys → AllFrom P n (xs ++ ys)
AllFrom-append P n [] ys h k = AllFrom-same P (n + 0) n ys (omega arith) k
AllFrom-append P n (x ∷ xs) ys h k = (h.0, AllFrom-append P (n + 1) xs ys h.1 (AllFrom-same P (n + suc (length xs)) (n + 1 + length xs) ys (omega arith) k))

-- the first of two parts, and the second
pub AllFrom-append_left : {A : Type 0} (P : ℕ → A → Type 0) (n : ℕ) (xs ys : List A) → AllFrom P n (xs ++ ys) → AllFrom P n xs
AllFrom-append_left P n [] ys h = tt
AllFrom-append_left P n (x ∷ xs) ys h = (h.0, AllFrom-append_left P (n + 1) xs ys h.1)

pub AllFrom-append_right : {A : Type 0} (P : ℕ → A → Type 0) (n : ℕ) (xs ys : List A) → AllFrom P n (xs ++ ys) → AllFrom P (n + length xs) ys
AllFrom-append_right P n [] ys h = AllFrom-same P n (n + 0) ys (omega arith) h
AllFrom-append_right P n (x ∷ xs) ys h = AllFrom-same P (n + 1 + length xs) (n + suc (length xs)) ys (omega arith) (AllFrom-append_right P (n + 1) xs ys h.1)

-- a part in the middle, after so many elements
pub AllFrom-middle : {A : Type 0} (P : ℕ → A → Type 0) (n : ℕ) (xs ys zs : List A) → length xs ≡ n → AllFrom P 0 (xs ++ ys ++ zs) → AllFrom P n ys
AllFrom-middle P n xs ys zs e h =
    AllFrom-same P (0 + length xs) n ys (omega arith) (AllFrom-append_right P 0 xs ys (AllFrom-append_left P 0 (xs ++ ys) zs h))

-- each element by its place
pub AllFrom-get_or : {A : Type 0} (P : ℕ → A → Type 0) (n : ℕ) (xs : List A) → AllFrom P n xs → (k : ℕ) (d : A) → k < length xs → P (n + k) (get_or xs k d)
AllFrom-get_or P n [] h k d l = absurd (omega arith)
AllFrom-get_or P n (x ∷ xs) h zero d l = subst (λ m. P m x) (let e : n ≡ n + 0 = omega arith in e) h.0
AllFrom-get_or P n (x ∷ xs) h (suc k) d l = subst (λ m. P m (get_or xs k d)) (let e : n + 1 + k ≡ n + suc k = omega arith in e) (AllFrom-get_or P (n + 1) xs h.1 k d (omega arith))

pub AllFrom-from_get_or : {A : Type 0} (P : ℕ → A → Type 0) (n : ℕ) (xs : List A) → ((k : ℕ) (d : A) → k < length xs → P (n + k) (get_or xs k d)) → AllFrom P n xs
AllFrom-from_get_or P n [] h = tt
AllFrom-from_get_or P n (x ∷ xs) h = (
  subst (λ m. P m x) (let e : n + 0 ≡ n = omega arith in e) (h 0 x (omega arith)),
  AllFrom-from_get_or P (n + 1) xs (λ k d l. subst (λ m. P m (get_or xs k d)) (let e : n + suc k ≡ n + 1 + k = omega arith in e) (h (suc k) d (omega arith))),
)

-- two lists that are equally long, where what holds of the two elements with a number relates them
pub AllZip-numbered : {A B : Type 0} (P : ℕ → A → Type 0) (Q : ℕ → B → Type 0) (R : A → B → Type 0) → ((k : ℕ) (x : A) (y : B) → P k x → Q k y → R x y) →
    (n : ℕ) (xs : List A) (ys : List B) → length xs ≡ length ys → AllFrom P n xs → AllFrom Q n ys → AllZip R xs ys
AllZip-numbered P Q R relate n [] [] e h k = tt
AllZip-numbered P Q R relate n [] (y ∷ ys) e h k = absurd (omega arith)
AllZip-numbered P Q R relate n (x ∷ xs) [] e h k = absurd (omega arith)
AllZip-numbered P Q R relate n (x ∷ xs) (y ∷ ys) e h k = (relate n x y h.0 k.0, AllZip-numbered P Q R relate (n + 1) xs ys (omega arith) h.1 k.1)
