-- What holds of two lists, place by place.
use Rattle.std.proofs.Common.{◌≡◌, ℕ, zero, suc, ◌+◌, ◌<◌, List, [], ◌∷◌, ◌++◌, length, take, get_or, refl, ap, sym, ◌∙◌, subst, arith}
use Rattle.std.specs.List.{AllZip}
use Rattle.std.proofs.lemmas.List.{take_more}
use Rattle.std.proofs.lemmas.Slice.Zip.{all_zipped_more}

-- one place more
pub AllZip-more : {X Y : Type 0} (R : X → Y → Type 0) (xs : List X) (ys zs : List Y) (i : ℕ) (x : X) (y : Y) → i < length xs → x ≡ get_or xs i x →
    zs ≡ ys ++ y ∷ [] → AllZip R (take i xs) ys → R x y → AllZip R (take (i + 1) xs) zs
AllZip-more {X} {Y} R xs ys zs i x y l is pushed all one =
    let P : List X → Type 0 = λ ws. AllZip R ws (ys ++ y ∷ []) in
    subst (AllZip R (take (i + 1) xs)) (sym pushed)
    (subst P (ap (λ (w : X). take i xs ++ w ∷ []) is ∙ sym (take_more xs i x l)) (all_zipped_more R (take i xs) ys x y all one))

pub length-all_zip : {X Y : Type 0} (R : X → Y → Type 0) (xs : List X) (ys : List Y) → AllZip R xs ys → length xs ≡ length ys
length-all_zip R [] [] h = refl
length-all_zip R [] (y ∷ ys) h = absurd h
length-all_zip R (x ∷ xs) [] h = absurd h
length-all_zip R (x ∷ xs) (y ∷ ys) h = ap suc (length-all_zip R xs ys h.1)

-- what holds at one place
pub AllZip-at : {X Y : Type 0} (R : X → Y → Type 0) (xs : List X) (ys : List Y) (i : ℕ) (d : X) (e : Y) → AllZip R xs ys → i < length xs → R (get_or xs i d) (get_or ys i e)
AllZip-at R [] ys i d e h l = absurd (omega arith)
AllZip-at R (x ∷ xs) [] i d e h l = absurd h
AllZip-at R (x ∷ xs) (y ∷ ys) zero d e h l = h.0
AllZip-at R (x ∷ xs) (y ∷ ys) (suc i) d e h l = AllZip-at R xs ys i d e h.1 (omega arith)
