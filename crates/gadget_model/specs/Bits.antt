-- Bits and lists of bits.
use Rattle.std.specs.Prelude.{ℕ, zero, suc, Bool, true, false, not, ◌&&◌, List, [], ◌∷◌, ◌++◌, map}

-- the sum over GF(2): the exclusive or
abbrev pub add : Bool → Bool → Bool
add false b = b
add true b = not b

-- whether two lists of bits are the same list
abbrev pub same_bits : List Bool → List Bool → Bool
same_bits [] [] = true
same_bits [] (b ∷ bs) = false
same_bits (a ∷ as') [] = false
same_bits (a ∷ as') (b ∷ bs) = not (add a b) && same_bits as' bs

-- all lists of n bits, in counting order: each way in which n random bits may fall, once
abbrev pub assignments : ℕ → List (List Bool)
assignments zero = [] ∷ []
assignments (suc n) = map (λ r. false ∷ r) (assignments n) ++ map (λ r. true ∷ r) (assignments n)
