-- One more item of a list made from a function of the index.
use Rattle.std.proofs.Common.{◌≡◌, ℕ, ◌+◌, ◌++◌, List, [], ◌∷◌, map, ap, sym, ◌∙◌, append_assoc, arith}
use Rattle.std.specs.List.{range_with_len}
use Rattle.std.proofs.lemmas.List.FromFn.{map-range_with_len_more}

pub map-range_push : {X : Type 0} (f : ℕ → X) (xs ys : List X) (i : ℕ) (x : X) → ys ≡ xs ++ map f (range_with_len 0 i) → x ≡ f i → ys ++ x ∷ [] ≡ xs ++ map f (range_with_len 0 (i + 1))
map-range_push f xs ys i x e s =
    let m = map-range_with_len_more f 0 i i (omega arith) in
    ap (λ l. l ++ x ∷ []) e ∙ ap (λ y. (xs ++ map f (range_with_len 0 i)) ++ y ∷ []) s
    ∙ append_assoc xs (map f (range_with_len 0 i)) (f i ∷ []) ∙ ap (λ l. xs ++ l) (sym m)
