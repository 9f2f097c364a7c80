-- Sums of lists of bits over GF(2). A choice is a list of bits too: it takes the values at the places where it is true.
use Rattle.std.specs.Prelude.{Bool, false, ◌&&◌, List, [], ◌∷◌}
use Rattle.gadget_model.specs.Bits.{add}

-- two lists of bits added place by place; where one of them has ended, the rest of the other stays
abbrev pub add_bits : List Bool → List Bool → List Bool
add_bits [] bs = bs
add_bits (a ∷ as') [] = a ∷ as'
add_bits (a ∷ as') (b ∷ bs) = add a b ∷ add_bits as' bs

-- the sum of the values that the choice takes; places that only one of the two lists has count for nothing
abbrev pub chosen_sum : List Bool → List Bool → Bool
chosen_sum [] values = false
chosen_sum (taken ∷ choice) [] = false
chosen_sum (taken ∷ choice) (value ∷ values) = add (taken && value) (chosen_sum choice values)
