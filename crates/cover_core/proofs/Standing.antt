-- How far a function of a list only passes its elements on: from there on it does what it does to the rest.
use Rattle.std.proofs.Common.{◌≡◌, ℕ, zero, suc, ◌+◌, ◌-◌, ◌<◌, ◌≤◌, ◌⊎◌, ⊎_elim, inl, inr, Bool, true, false, cond, ◌&&◌, eqb, ltb, List, [], ◌∷◌, ◌++◌, length, get_or, take, drop, map, set, refl, ap, sym, ◌∙◌, arith, subst}
use Rattle.std.specs.List.{insert, remove}
use Rattle.std.proofs.lemmas.List.{append_assoc}
use Rattle.std.proofs.lemmas.List.{drop_more, take-append-drop, get_or-map, length-map}
use Rattle.std.proofs.lemmas.Bool.{eq-eqb, le-ltb, eqb-true, false≢true}
use Rattle.std.proofs.Math.Seq.{take-suc}
use Rattle.cover_core.specs.Core.{Has}
use Rattle.cover_core.specs.Effects.{comes_first, put_bare, put_pair, put_pairs, same_pair, take_out}
use Rattle.cover_core.proofs.Lists.{same_pair-true}

-- the function leaves the first n elements of the list alone
abbrev pub PassesOn : {X : Type 0} → (List X → List X) → ℕ → List X → Type 0
PassesOn f n xs = f xs ≡ take n xs ++ f (drop n xs)

pub passes-first : {X : Type 0} (f : List X → List X) (xs : List X) → PassesOn f 0 xs
passes-first f xs = refl

-- what stands at a place, and the rest
pub read-drop : {X : Type 0} (xs : List X) (n : ℕ) (y : X) → n < length xs → y ≡ get_or xs n y → drop n xs ≡ y ∷ drop (n + 1) xs
read-drop xs n y l e = drop_more xs n y l ∙ ap (λ z. z ∷ drop (n + 1) xs) (sym e)

pub take-read : {X : Type 0} (xs : List X) (n : ℕ) (y : X) → n < length xs → y ≡ get_or xs n y → take (n + 1) xs ≡ take n xs ++ y ∷ []
take-read xs n y l e =
    let one : n + 1 ≡ suc n = omega arith in
    ap (λ k. take k xs) one ∙ take-suc xs n y l ∙ ap (λ z. take n xs ++ z ∷ []) (sym e)

pub passes-next : {X : Type 0} (f : List X → List X) (xs : List X) (n : ℕ) (y : X) → n < length xs → y ≡ get_or xs n y → f (y ∷ drop (n + 1) xs) ≡ y ∷ f (drop (n + 1) xs) → PassesOn f n xs → PassesOn f (n + 1) xs
passes-next f xs n y l e on h =
    let rest = f (drop (n + 1) xs) in
    let start = take n xs in
    h ∙ ap (λ zs. start ++ f zs) (read-drop xs n y l e) ∙ ap (λ zs. start ++ zs) on ∙ sym (append_assoc start (y ∷ []) rest) ∙ ap (λ zs. zs ++ rest) (sym (take-read xs n y l e))

pub passes-insert : {X : Type 0} (f : List X → List X) (xs : List X) (n : ℕ) (x y : X) → n < length xs → y ≡ get_or xs n y → f (y ∷ drop (n + 1) xs) ≡ x ∷ y ∷ drop (n + 1) xs → PassesOn f n xs → f xs ≡ insert xs n x
passes-insert f xs n x y l e on h =
    h ∙ ap (λ zs. take n xs ++ f zs) (read-drop xs n y l e) ∙ ap (λ zs. take n xs ++ zs) on ∙ ap (λ zs. take n xs ++ x ∷ zs) (sym (read-drop xs n y l e))

pub passes-same : {X : Type 0} (f : List X → List X) (xs : List X) (n : ℕ) (y : X) → n < length xs → y ≡ get_or xs n y → f (y ∷ drop (n + 1) xs) ≡ y ∷ drop (n + 1) xs → PassesOn f n xs → f xs ≡ xs
passes-same f xs n y l e on h =
    h ∙ ap (λ zs. take n xs ++ f zs) (read-drop xs n y l e) ∙ ap (λ zs. take n xs ++ zs) on ∙ ap (λ zs. take n xs ++ zs) (sym (read-drop xs n y l e)) ∙ take_drop n xs
  where
    take_drop : {Y : Type 0} (k : ℕ) (ys : List Y) → take k ys ++ drop k ys ≡ ys
    take_drop k ys = take-append-drop k ys

pub passes-remove : {X : Type 0} (f : List X → List X) (xs : List X) (n : ℕ) (y : X) → n < length xs → y ≡ get_or xs n y → f (y ∷ drop (n + 1) xs) ≡ drop (n + 1) xs → PassesOn f n xs → f xs ≡ remove xs n
passes-remove f xs n y l e on h =
    let one : n + 1 ≡ suc n = omega arith in
    h ∙ ap (λ zs. take n xs ++ f zs) (read-drop xs n y l e) ∙ ap (λ zs. take n xs ++ zs) on ∙ ap (λ k. take n xs ++ drop k xs) one

pub passes-set : {X : Type 0} (f : List X → List X) (xs : List X) (n : ℕ) (x y : X) → n < length xs → y ≡ get_or xs n y → f (y ∷ drop (n + 1) xs) ≡ x ∷ drop (n + 1) xs → PassesOn f n xs → f xs ≡ set xs n x
passes-set f xs n x y l e on h =
    let one : n + 1 ≡ suc n = omega arith in
    h ∙ ap (λ zs. take n xs ++ f zs) (read-drop xs n y l e) ∙ ap (λ zs. take n xs ++ zs) on ∙ ap (λ k. take n xs ++ x ∷ drop k xs) one ∙ put x xs n l
  where
    put : {X : Type 0} (x : X) (xs : List X) (n : ℕ) → n < length xs → take n xs ++ x ∷ drop (suc n) xs ≡ set xs n x
    put x [] n l = absurd (omega arith)
    put x (z ∷ xs) zero l = refl
    put x (z ∷ xs) (suc n) l = ap (λ zs. z ∷ zs) (put x xs n (omega arith))

-- what is read of a list of pairs
pub read_pair : {X : Type 0} (f : X → ℕ × ℕ) (xs : List X) (n : ℕ) (y : X) (here : ℕ × ℕ) → n < length xs → y ≡ get_or xs n y → here ≡ f y → (n < length (map f xs)) × (here ≡ get_or (map f xs) n here)
read_pair f xs n y here l e is = (omega (arith, length-map xs f), is ∙ ap f e ∙ sym (get_or-map f xs n y here l))

pub put_pair-same : (x y : ℕ × ℕ) (ys : List (ℕ × ℕ)) → same_pair x y ≡ true → put_pair x (y ∷ ys) ≡ y ∷ ys
put_pair-same x y ys e = ap (λ (b : Bool). cond b (y ∷ ys) (cond (comes_first x y) (x ∷ y ∷ ys) (y ∷ put_pair x ys))) e

pub put_pair-first : (x y : ℕ × ℕ) (ys : List (ℕ × ℕ)) → same_pair x y ≡ false → comes_first x y ≡ true → put_pair x (y ∷ ys) ≡ x ∷ y ∷ ys
put_pair-first x y ys e h = ap (λ (b : Bool). cond b (y ∷ ys) (cond (comes_first x y) (x ∷ y ∷ ys) (y ∷ put_pair x ys))) e ∙ ap (λ (b : Bool). cond b (x ∷ y ∷ ys) (y ∷ put_pair x ys)) h

pub put_pair-later : (x y : ℕ × ℕ) (ys : List (ℕ × ℕ)) → same_pair x y ≡ false → comes_first x y ≡ false → put_pair x (y ∷ ys) ≡ y ∷ put_pair x ys
put_pair-later x y ys e h = ap (λ (b : Bool). cond b (y ∷ ys) (cond (comes_first x y) (x ∷ y ∷ ys) (y ∷ put_pair x ys))) e ∙ ap (λ (b : Bool). cond b (x ∷ y ∷ ys) (y ∷ put_pair x ys)) h

pub take_out-same : (x y : ℕ × ℕ) (ys : List (ℕ × ℕ)) → same_pair x y ≡ true → take_out x (y ∷ ys) ≡ ys
take_out-same x y ys e = ap (λ (b : Bool). cond b ys (y ∷ take_out x ys)) e

pub take_out-later : (x y : ℕ × ℕ) (ys : List (ℕ × ℕ)) → same_pair x y ≡ false → take_out x (y ∷ ys) ≡ y ∷ take_out x ys
take_out-later x y ys e = ap (λ (b : Bool). cond b ys (y ∷ take_out x ys)) e

-- a pair is the same as itself
pub same_pair-refl : (x y : ℕ × ℕ) → y ≡ x → same_pair x y ≡ true
same_pair-refl x y e =
    let F : ℕ × ℕ → Type 0 = λ z. same_pair x z ≡ true in
    let B : Bool → Type 0 = λ b. (b && eqb x.1 x.1) ≡ true in
    subst F (sym e) (subst B (sym (eq-eqb x.0 x.0 refl)) (eq-eqb x.1 x.1 refl))

-- a pair that stands in what follows this place stands after it, where another stands there
pub has-later : (x y : ℕ × ℕ) (xs : List (ℕ × ℕ)) (n : ℕ) → n < length xs → y ≡ get_or xs n y → same_pair x y ≡ false → Has x (drop n xs) → Has x (drop (n + 1) xs)
has-later x y xs n l e apart h =
    let P : List (ℕ × ℕ) → Type 0 = λ zs. Has x zs in
    ⊎_elim (λ (q : y ≡ x). absurd (false≢true (sym apart ∙ same_pair-refl x y q))) (λ (k : Has x (drop (n + 1) xs)). k) (subst P (read-drop xs n y l e) h)

pub has-read : (x y : ℕ × ℕ) (xs : List (ℕ × ℕ)) (n : ℕ) → n < length xs → y ≡ get_or xs n y → same_pair x y ≡ true → Has x xs
has-read x y [] n l e same = absurd (omega arith)
has-read x y (z ∷ zs) zero l e same = inl (sym e ∙ sym (same_pair-true x y same))
has-read x y (z ∷ zs) (suc n) l e same = inr (has-read x y zs n (omega arith) e same)

pub put_bare-here : (p m : ℕ) (y : ℕ × ℕ) (ys : List (ℕ × ℕ)) → p ≡ y.0 → put_bare p m (y ∷ ys) ≡ (p, m) ∷ ys
put_bare-here p m y ys e =
    ap (λ (b : Bool). cond b (y ∷ put_bare p m ys) (cond (eqb y.0 p) ((p, m) ∷ ys) ((p, m) ∷ y ∷ ys))) (not_lt y.0 p (sym e))
    ∙ ap (λ (b : Bool). cond b ((p, m) ∷ ys) ((p, m) ∷ y ∷ ys)) (eq-eqb y.0 p (sym e))
  where
    not_lt : (a b : ℕ) → a ≡ b → ltb a b ≡ false
    not_lt a b e = le-ltb a b (omega arith)

-- what is read doesn't depend on what would stand past the end
pub get_or-any : {X : Type 0} (xs : List X) (n : ℕ) (d e : X) → n < length xs → get_or xs n d ≡ get_or xs n e
get_or-any [] n d e l = absurd (omega arith)
get_or-any (x ∷ xs) zero d e l = refl
get_or-any (x ∷ xs) (suc n) d e l = get_or-any xs n d e (omega arith)

pub map-insert : {X Y : Type 0} (f : X → Y) (xs : List X) (n : ℕ) (x : X) → map f (insert xs n x) ≡ insert (map f xs) n (f x)
map-insert f xs zero x = refl
map-insert f [] (suc n) x = refl
map-insert f (y ∷ ys) (suc n) x = ap (λ zs. f y ∷ zs) (map-insert f ys n x)

pub map-remove : {X Y : Type 0} (f : X → Y) (xs : List X) (n : ℕ) → map f (remove xs n) ≡ remove (map f xs) n
map-remove f [] zero = refl
map-remove f [] (suc n) = refl
map-remove f (y ∷ ys) zero = refl
map-remove f (y ∷ ys) (suc n) = ap (λ zs. f y ∷ zs) (map-remove f ys n)

-- the last element of a list of ranges joins first
pub ranges-more : {X : Type 0} (f : X → ℕ × ℕ) (xs : List X) (other l l' l0 : List (ℕ × ℕ)) (n : ℕ) (x : X) → 0 < n → n ≤ length xs → x ≡ get_or xs (n - 1) x → map f xs ≡ other → l' ≡ put_pair (f x) l → l ≡ put_pairs (drop n other) l0 → l' ≡ put_pairs (drop (n - 1) other) l0
ranges-more f xs other l l' l0 n x some within read is on h =
    let back : n - 1 + 1 ≡ n = omega arith in
    let less : n - 1 < length (map f xs) = omega (arith, length-map xs f) in
    let r = read_pair f xs (n - 1) x (f x) (omega arith) read refl in
    let e = read-drop (map f xs) (n - 1) (f x) r.0 r.1 in
    on ∙ ap (put_pair (f x)) h ∙ ap (λ k. put_pair (f x) (put_pairs (drop k other) l0)) (sym back) ∙ ap (λ zs. put_pair (f x) (put_pairs (drop (n - 1 + 1) zs) l0)) (sym is) ∙ ap (λ zs. put_pairs zs l0) (sym e) ∙ ap (λ zs. put_pairs (drop (n - 1) zs) l0) is
