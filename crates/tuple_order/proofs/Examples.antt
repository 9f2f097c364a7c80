-- The definitions at small tuples, by computing.
use Rattle.std.proofs.Common.{◌≡◌, [], ◌∷◌, refl}
use Rattle.tuple_order.specs.Codes.{code_of, tuple_of_code}

code_of-none : code_of [] ≡ 0x4000_0000_0000_0000
unfolding code_of
code_of-none = refl

code_of-first : code_of (0 ∷ []) ≡ 0x4040_2000_0000_0000
unfolding code_of
code_of-first = refl

code_of-first_two : code_of (0 ∷ 1 ∷ []) ≡ 0x4080_2020_0000_0000
unfolding code_of
code_of-first_two = refl

tuple_of_code-first_two : tuple_of_code 0x4080_2020_0000_0000 ≡ 0 ∷ 1 ∷ []
unfolding tuple_of_code
tuple_of_code-first_two = refl
