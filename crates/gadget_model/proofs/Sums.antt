-- The laws of the sum over GF(2).
use Rattle.std.proofs.Common.{◌≡◌, Bool, true, false, ◌&&◌, refl, ap, sym, ◌∙◌}
use Rattle.gadget_model.specs.Bits.{add}

pub add-false : (a : Bool) → add a false ≡ a
add-false true = refl
add-false false = refl

pub add-same : (a : Bool) → add a a ≡ false
add-same true = refl
add-same false = refl

pub add-comm : (a b : Bool) → add a b ≡ add b a
add-comm true true = refl
add-comm true false = refl
add-comm false true = refl
add-comm false false = refl

pub add-assoc : (a b c : Bool) → add (add a b) c ≡ add a (add b c)
add-assoc true true true = refl
add-assoc true true false = refl
add-assoc true false c = refl
add-assoc false b c = refl

-- (a + b) + (c + d) = (a + c) + (b + d)
pub add-middle : (a b c d : Bool) → add (add a b) (add c d) ≡ add (add a c) (add b d)
add-middle a b c d =
    add-assoc a b (add c d) ∙ ap (add a) (sym (add-assoc b c d) ∙ ap (λ (z : Bool). add z d) (add-comm b c) ∙ add-assoc c b d) ∙ sym (add-assoc a c (add b d))

pub and-add_left : (a b c : Bool) → (add a b && c) ≡ add (a && c) (b && c)
and-add_left false b c = refl
and-add_left true false c = sym (add-false c)
and-add_left true true c = sym (add-same c)
