-- Members of lists, and facts of each pair of places in a list, for `∷`, `++`, `map` and `take`.
use Rattle.std.proofs.Common.{◌≡◌, ℕ, zero, suc, ◌<◌, ◌+◌, ◌⊎◌, List, [], ◌∷◌, ◌++◌, map, length, take, drop, refl, ap, sym, ◌∙◌, subst, inl, inr, arith, Contains, get_or, length-append}
use Rattle.std.specs.List.{All, AllPairs}
use Rattle.std.proofs.Math.ListN.{length-map, get_or-map}
use Rattle.std.proofs.lemmas.List.{take-append-drop, get_or_append_left, get_or-append-add}
use Rattle.std.proofs.lemmas.List.Elements.{All-append, All-map, Contains-get_or}
use Rattle.std.proofs.lemmas.List.Kept.{AllPairs-cons}

pub Contains-cons_head : {X : Type 0} (x : X) (xs : List X) → Contains (x ∷ xs) x
Contains-cons_head x xs = (0, omega arith, refl)

pub Contains-cons_tail : {X : Type 0} (y : X) (xs : List X) (x : X) → Contains xs x → Contains (y ∷ xs) x
Contains-cons_tail y xs x h = (suc h.0, omega arith, h.2)

cons_cases : {X : Type 0} (y : X) (xs : List X) (x : X) (k : ℕ) → k < length (y ∷ xs) → get_or (y ∷ xs) k x ≡ x → (y ≡ x) ⊎ Contains xs x
cons_cases y xs x zero l e = inl e
cons_cases y xs x (suc k) l e = inr (k, omega arith, e)

pub Contains-cons_cases : {X : Type 0} (y : X) (xs : List X) (x : X) → Contains (y ∷ xs) x → (y ≡ x) ⊎ Contains xs x
Contains-cons_cases y xs x h = cons_cases y xs x h.0 h.1 h.2

pub Contains-map : {X Y : Type 0} (f : X → Y) (xs : List X) (x : X) → Contains xs x → Contains (map f xs) (f x)
Contains-map f xs x h = (h.0, omega (arith, length-map xs f), get_or-map f xs h.0 x ∙ ap f h.2)

pub Contains-from_map : {X Y : Type 0} (f : X → Y) (xs : List X) (y : Y) → Contains (map f xs) y → (x : X) × Contains xs x × (f x ≡ y)
Contains-from_map f [] y h = absurd (omega arith)
Contains-from_map f (z ∷ xs) y h = elim (Contains-cons_cases (f z) (map f xs) y h) [
  | inl e ↦ (z, Contains-cons_head z xs, e)
  | inr k ↦ let r = Contains-from_map f xs y k in (r.0, Contains-cons_tail z xs r.0 r.1, r.2)
]

pub AllPairs-head : {X : Type 0} (R : X → X → Type 0) (x : X) (xs : List X) → AllPairs R (x ∷ xs) → All (R x) xs
AllPairs-head R x xs a k d l = a 0 (suc k) d (omega arith) (omega arith)

pub AllPairs-tail : {X : Type 0} (R : X → X → Type 0) (x : X) (xs : List X) → AllPairs R (x ∷ xs) → AllPairs R xs
AllPairs-tail R x xs a i j d l m = a (suc i) (suc j) d (omega arith) (omega arith)

pub AllPairs-append : {X : Type 0} (R : X → X → Type 0) (xs ys : List X) → AllPairs R xs → AllPairs R ys →
    ((x y : X) → Contains xs x → Contains ys y → R x y) → AllPairs R (xs ++ ys)
AllPairs-append R [] ys a b h = b
AllPairs-append R (x ∷ xs) ys a b h =
    AllPairs-cons R x (xs ++ ys)
    (All-append (R x) xs ys (AllPairs-head R x xs a) (λ k d l. h x (get_or ys k d) (Contains-cons_head x xs) (Contains-get_or ys k d l)))
    (AllPairs-append R xs ys (AllPairs-tail R x xs a) b (λ u v k l. h u v (Contains-cons_tail x xs u k) l))

pub AllPairs-map : {X Y : Type 0} (R : X → X → Type 0) (S : Y → Y → Type 0) (f : X → Y) → ((x y : X) → R x y → S (f x) (f y)) → (xs : List X) →
    AllPairs R xs → AllPairs S (map f xs)
AllPairs-map R S f h [] a = λ i j d l m. absurd (omega arith)
AllPairs-map R S f h (x ∷ xs) a =
    AllPairs-cons S (f x) (map f xs)
    (All-map (S (f x)) f xs (λ k d l. h x (get_or xs k d) (AllPairs-head R x xs a k d l)))
    (AllPairs-map R S f h xs (AllPairs-tail R x xs a))

-- each pair is related more weakly, where the elements are known to be members
pub AllPairs-weaker : {X : Type 0} (R S : X → X → Type 0) (xs : List X) → ((x y : X) → Contains xs x → Contains xs y → R x y → S x y) →
    AllPairs R xs → AllPairs S xs
AllPairs-weaker R S xs h a i j d l m =
    h (get_or xs i d) (get_or xs j d) (Contains-get_or xs i d (omega arith)) (Contains-get_or xs j d m) (a i j d l m)

-- a fact of each pair of places in two lists, in each of them
pub AllPairs-append_left : {X : Type 0} (R : X → X → Type 0) (xs ys : List X) → AllPairs R (xs ++ ys) → AllPairs R xs
AllPairs-append_left R xs ys a i j d l m =
    let n = length-append xs ys in
    subst (λ x. R x (get_or xs j d)) (get_or_append_left xs ys d i (omega arith))
    (subst (R (get_or (xs ++ ys) i d)) (get_or_append_left xs ys d j m) (a i j d l (omega arith)))

pub AllPairs-append_right : {X : Type 0} (R : X → X → Type 0) (xs ys : List X) → AllPairs R (xs ++ ys) → AllPairs R ys
AllPairs-append_right R xs ys a i j d l m =
    let n = length-append xs ys in
    subst (λ x. R x (get_or ys j d)) (get_or-append-add xs ys i d)
    (subst (R (get_or (xs ++ ys) (length xs + i) d)) (get_or-append-add xs ys j d) (a (length xs + i) (length xs + j) d (omega arith) (omega arith)))

-- what holds of each pair of a list holds of each pair of its first elements
pub AllPairs-take : {X : Type 0} (R : X → X → Type 0) (n : ℕ) (xs : List X) → AllPairs R xs → AllPairs R (take n xs)
AllPairs-take {X} R n xs o =
    let P : List X → Type 0 = AllPairs R in
    AllPairs-append_left R (take n xs) (drop n xs) (subst P (sym (take-append-drop n xs)) o)
