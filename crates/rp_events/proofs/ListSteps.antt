-- One step of a walk through a list.
use Rattle.std.proofs.Common.{◌≡◌, ℕ, zero, suc, ◌+◌, ◌<◌, List, [], ◌∷◌, ◌++◌, map, length, take, drop, get_or, ap, sym, ◌∙◌, arith, append_assoc, append-nil}
use Rattle.std.specs.Prelude.{flat_map}
use Rattle.std.proofs.Math.Seq.{drop-cons}
use Rattle.std.proofs.Math.ListN.{length-map}
use Rattle.std.proofs.lemmas.List.{get_or-map}

pub flat_map-next : {X Y : Type 0} (f : X → List Y) (xs : List X) (i : ℕ) (x : X) → i < length xs → x ≡ get_or xs i x →
    flat_map f (take (i + 1) xs) ≡ flat_map f (take i xs) ++ f x
flat_map-next f [] i x l e = absurd (omega arith)
flat_map-next f (y ∷ ys) zero x l e = append-nil (f y) ∙ ap f (sym e)
flat_map-next {X} {Y} f (y ∷ ys) (suc i) x l e =
    let s : suc i + 1 ≡ suc (i + 1) = omega arith in
    let i' = flat_map-next f ys i x (omega arith) e in
    ap (λ (n : ℕ). flat_map f (take n (y ∷ ys))) s
    ∙ ap (λ (zs : List Y). f y ++ zs) i' ∙ sym (append_assoc (f y) (flat_map f (take i ys)) (f x))

pub drop-map-next : {X Y : Type 0} (f : X → Y) (xs : List X) (i : ℕ) (x : X) → i < length xs → x ≡ get_or xs i x →
    drop i (map f xs) ≡ f x ∷ drop (i + 1) (map f xs)
drop-map-next {X} {Y} f xs i x l e =
    let s : suc i ≡ i + 1 = omega arith in
    drop-cons (map f xs) i (f x) (omega (arith, length-map xs f))
    ∙ ap (λ (y : Y). y ∷ drop (suc i) (map f xs)) (get_or-map f xs i x (f x) l ∙ ap f (sym e))
    ∙ ap (λ (n : ℕ). f x ∷ drop n (map f xs)) s
