-- A code for each tuple, a word that orders as the tuples do, and back.
use Rattle.std.specs.Prelude.{ℕ, zero, suc, ◌+◌, ◌*◌, ◌-◌, ◌/◌, ◌%◌, ◌^◌, ◌<◌, List, [], ◌∷◌, length}
use Rattle.tuple_model.specs.Limits.{most_size}

-- Each item plus one is a digit to base 512; the first has this worth.
abbrev pub digits : ℕ → List ℕ → ℕ
digits worth [] = 0
digits worth (item ∷ items) = (item + 1) * worth + digits (worth / 512) items

-- The code of a tuple: bit 62, then its size, then a digit for each item. So it is neither 0 nor as large as 2 ^ 63.
unfoldable pub code_of : List ℕ → ℕ
code_of t = 2 ^ 62 + length t * 2 ^ 54 + digits (2 ^ 45) t

-- so many items, read off from the digits, the first of this worth
abbrev pub items_of_digits : ℕ → ℕ → ℕ → List ℕ
items_of_digits zero worth code = []
items_of_digits (suc size) worth code = (code / worth % 512 - 1) ∷ items_of_digits size (worth / 512) code

-- the size of the tuple with a code
abbrev pub size_of_code : ℕ → ℕ
size_of_code code = code / 2 ^ 54 % 256

-- the tuple with a code; for a number that is no code it means nothing
unfoldable pub tuple_of_code : ℕ → List ℕ
tuple_of_code code = items_of_digits (size_of_code code) (2 ^ 45) code

-- the code of a tuple that has room for one item more
abbrev pub HasRoom : ℕ → Type 0
HasRoom code = (code < 2 ^ 63) × (size_of_code code < most_size)

-- the code of a tuple with one item more, above its items, from its own code
abbrev pub code_with : ℕ → ℕ → ℕ
code_with code item = code + 2 ^ 54 + (item + 1) * 2 ^ (45 - 9 * size_of_code code)
