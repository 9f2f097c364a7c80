-- The test of lists of bits is equality.
use Rattle.std.proofs.Common.{◌≡◌, Bool, true, false, List, [], ◌∷◌, refl, ap}
use Rattle.gadget_model.specs.Bits.{same_bits}

pub same_bits-self : (a : List Bool) → same_bits a a ≡ true
same_bits-self [] = refl
same_bits-self (true ∷ as') = same_bits-self as'
same_bits-self (false ∷ as') = same_bits-self as'

pub same_bits-true : (a b : List Bool) → same_bits a b ≡ true → a ≡ b
same_bits-true [] [] e = refl
same_bits-true [] (b ∷ bs) e = cc
same_bits-true (a ∷ as') [] e = cc
same_bits-true (true ∷ as') (true ∷ bs) e = ap (λ (z : List Bool). true ∷ z) (same_bits-true as' bs e)
same_bits-true (true ∷ as') (false ∷ bs) e = cc
same_bits-true (false ∷ as') (true ∷ bs) e = cc
same_bits-true (false ∷ as') (false ∷ bs) e = ap (λ (z : List Bool). false ∷ z) (same_bits-true as' bs e)
