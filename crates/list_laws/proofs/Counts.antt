-- How many elements of a list pass a test, and maps of maps.
use Rattle.std.proofs.Common.{◌≡◌, ℕ, ◌+◌, ◌≤◌, Bool, true, false, cond, List, [], ◌∷◌, ◌++◌, map, length, refl, ap, sym, ◌∙◌, inl, inr, arith}
use Rattle.std.specs.Prelude.{count_by}
use Rattle.std.proofs.lemmas.Bool.{cases_Bool}
use Rattle.std.proofs.lemmas.List.Sums.{sum_by-append, sum_by-cons}

-- a test as a number
abbrev pub one_if : Bool → ℕ
one_if b = cond b 1 0

pub count_by-cons : {A : Type 0} (p : A → Bool) (x : A) (xs : List A) → count_by p (x ∷ xs) ≡ one_if (p x) + count_by p xs
count_by-cons p x xs = sum_by-cons (λ z. one_if (p z)) x xs

pub count_by-middle : {A : Type 0} (p : A → Bool) (xs : List A) (y : A) (ys : List A) → count_by p (xs ++ y ∷ ys) ≡ one_if (p y) + count_by p (xs ++ ys)
count_by-middle {A} p xs y ys =
    let f : A → ℕ = λ z. one_if (p z) in
    let e = sum_by-append f xs (y ∷ ys) in
    let e' = sum_by-append f xs ys in
    let h = count_by-cons p y ys in
    omega arith

pub count_by-map : {A B : Type 0} (f : A → B) (p : B → Bool) (xs : List A) → count_by p (map f xs) ≡ count_by (λ (x : A). p (f x)) xs
count_by-map f p [] = refl
count_by-map {A} f p (x ∷ xs) =
    count_by-cons p (f x) (map f xs) ∙ ap (λ (n : ℕ). one_if (p (f x)) + n) (count_by-map f p xs) ∙ sym (count_by-cons (λ (y : A). p (f y)) x xs)

pub map-map : {A B C : Type 0} (g : B → C) (f : A → B) (h : A → C) → ((x : A) → g (f x) ≡ h x) → (xs : List A) → map g (map f xs) ≡ map h xs
map-map g f h e [] = refl
map-map g f h e (x ∷ xs) = let i = map-map g f h e xs in let k = e x in cc

-- a test that passes everywhere, and one that passes nowhere
pub count_by-all : {A : Type 0} (p : A → Bool) → ((x : A) → p x ≡ true) → (xs : List A) → count_by p xs ≡ length xs
count_by-all p h [] = refl
count_by-all p h (x ∷ xs) = let e = count_by-cons p x xs in let e' = ap one_if (h x) in let i = count_by-all p h xs in omega arith

pub count_by-none : {A : Type 0} (p : A → Bool) → ((x : A) → p x ≡ false) → (xs : List A) → count_by p xs ≡ 0
count_by-none p h [] = refl
count_by-none p h (x ∷ xs) = let e = count_by-cons p x xs in let e' = ap one_if (h x) in let i = count_by-none p h xs in omega arith

pub count_by-le : {A : Type 0} (p q : A → Bool) → ((x : A) → p x ≡ true → q x ≡ true) → (xs : List A) → count_by p xs ≤ count_by q xs
count_by-le p q h [] = omega arith
count_by-le p q h (x ∷ xs) =
    let i = count_by-le p q h xs in
    let e = count_by-cons p x xs in
    let f = count_by-cons q x xs in
    elim (cases_Bool (p x)) [
      | inl holds ↦ let u = ap one_if holds in let v = ap one_if (h x holds) in omega arith
      | inr fails ↦ let u = ap one_if fails in omega arith
    ]

pub count_by-agree : {A : Type 0} (p q : A → Bool) → ((x : A) → p x ≡ q x) → (xs : List A) → count_by p xs ≡ count_by q xs
count_by-agree p q h [] = refl
count_by-agree p q h (x ∷ xs) =
    count_by-cons p x xs ∙ ap (λ (b : Bool). one_if b + count_by p xs) (h x) ∙ ap (λ (n : ℕ). one_if (q x) + n) (count_by-agree p q h xs) ∙ sym (count_by-cons q x xs)

pub map-same : {A B : Type 0} (f g : A → B) → ((a : A) → f a ≡ g a) → (xs : List A) → map f xs ≡ map g xs
map-same f g h [] = refl
map-same f g h (x ∷ xs) = let i = map-same f g h xs in let k = h x in cc
