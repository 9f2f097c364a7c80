-- Lemmas on bytes that are known or not: one piece after another is one piece.
use Rattle.std.proofs.Common.{◌≡◌, ℕ, ◌+◌, List, ◌++◌, take, drop, Option, None, Some, refl, sym, ap, ◌∙◌, append_assoc}
use Rattle.std.proofs.Math.Seq.{take-add}
use Rattle.std.specs.Io.KnownBytes.{prepend_known, append_known}

pub prepend_known-prepend_known : (xs ys : List ℕ) (known : Option (List ℕ)) → prepend_known xs (prepend_known ys known) ≡ prepend_known (xs ++ ys) known
prepend_known-prepend_known xs ys None = refl
prepend_known-prepend_known xs ys (Some zs) = ap (λ (bytes : List ℕ). Some bytes) (sym (append_assoc xs ys zs))

-- a piece of the list that comes after the bytes before it
pub prepend_known_more : (known middle after : Option (List ℕ)) (xs ys : List ℕ) → known ≡ prepend_known xs middle → middle ≡ prepend_known ys after → known ≡ prepend_known (xs ++ ys) after
prepend_known_more known middle after xs ys h k = h ∙ ap (prepend_known xs) k ∙ prepend_known-prepend_known xs ys after

pub append_known-append_known : (known : Option (List ℕ)) (xs ys : List ℕ) → append_known (append_known known xs) ys ≡ append_known known (xs ++ ys)
append_known-append_known None xs ys = refl
append_known-append_known (Some zs) xs ys = ap (λ (bytes : List ℕ). Some bytes) (append_assoc zs xs ys)

-- a piece of the list after its first n items
pub append_known_more : (known middle : Option (List ℕ)) (xs : List ℕ) (n m : ℕ) → middle ≡ append_known known (take n xs) → append_known middle (take m (drop n xs)) ≡ append_known known (take (n + m) xs)
append_known_more known middle xs n m h =
    ap (λ (before : Option (List ℕ)). append_known before (take m (drop n xs))) h ∙ append_known-append_known known (take n xs) (take m (drop n xs))
    ∙ ap (λ (bytes : List ℕ). append_known known bytes) (sym (take-add n m xs))
