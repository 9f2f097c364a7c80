-- Sums over a list: of a mapped list, of values that agree, and what is left after a place.
use Rattle.std.proofs.Common.{◌≡◌, ℕ, ◌+◌, List, [], ◌∷◌, map, length, Contains, refl, ap, sym, ◌∙◌, arith}
use Rattle.std.specs.List.{sum_by}
use Rattle.std.proofs.lemmas.List.Sums.{sum_by-cons}
use Rattle.list_laws.proofs.Members.{Contains-cons_head, Contains-cons_tail}

pub sum_by-map : {X Y : Type 0} (f : Y → ℕ) (h : X → Y) (xs : List X) → sum_by f (map h xs) ≡ sum_by (λ x. f (h x)) xs
sum_by-map f h [] = refl
sum_by-map f h (x ∷ xs) =
    sum_by-cons f (h x) (map h xs) ∙ ap (λ (n : ℕ). f (h x) + n) (sum_by-map f h xs) ∙ sym (sum_by-cons (λ x. f (h x)) x xs)

pub sum_by-same : {X : Type 0} (f g : X → ℕ) (xs : List X) → ((x : X) → Contains xs x → f x ≡ g x) → sum_by f xs ≡ sum_by g xs
sum_by-same f g [] e = refl
sum_by-same f g (x ∷ xs) e =
    let r = sum_by-same f g xs (λ y k. e y (Contains-cons_tail x xs y k)) in
    let h = e x (Contains-cons_head x xs) in
    let a = sum_by-cons f x xs in
    let b = sum_by-cons g x xs in
    omega arith

-- one more for each element
pub sum_by-one : {X : Type 0} (xs : List X) → sum_by (λ (x : X). 1) xs ≡ length xs
sum_by-one [] = refl
sum_by-one {X} (x ∷ xs) = let r = sum_by-one xs in let e = sum_by-cons (λ (x : X). 1) x xs in omega arith
