-- The names of variables.
use Rattle.std.specs.Prelude.{◌≡◌, ℕ, Bool, false, ◌&&◌, ◌||◌, ◌==◌, IsTrue, List, [], ◌∷◌}
use Rattle.std.specs.List.{list_all, slice_split, join_with_byte}
use Rattle.std.specs.Char.{is_ascii_alphabetic, is_ascii_digit}

-- a letter or `_`
abbrev pub starts_stem : ℕ → Bool
starts_stem b = is_ascii_alphabetic b || b == 95

-- a letter, a digit or `_`
abbrev pub continues_stem : ℕ → Bool
continues_stem b = starts_stem b || is_ascii_digit b

-- a stem is a letter or `_`, and then letters, digits and `_`
abbrev pub is_stem : List ℕ → Bool
is_stem [] = false
is_stem (b ∷ bs) = starts_stem b && list_all continues_stem bs

-- one digit or more
abbrev pub is_number : List ℕ → Bool
is_number [] = false
is_number (b ∷ bs) = list_all is_ascii_digit (b ∷ bs)

-- the parts of a name are a stem, and then numbers
abbrev pub are_name_parts : List (List ℕ) → Bool
are_name_parts [] = false
are_name_parts (stem ∷ numbers) = is_stem stem && list_all is_number numbers

-- a name is a stem, and then numbers with a dot in front of each
unfoldable pub is_name : List ℕ → Bool
is_name word = are_name_parts (slice_split (λ b. b == 46) word)

-- the word is a stem and then numbers, with dots between them
pub record IsStemWithNumbers (word stem : List ℕ) (numbers : List (List ℕ)) : Type 0 where
  pub is_stem : IsTrue (is_stem stem)
  pub are_numbers : IsTrue (list_all is_number numbers)
  pub is_word : word ≡ join_with_byte 46 (stem ∷ numbers)
