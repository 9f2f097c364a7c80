-- The keys of monomials: whole numbers by which monomials are sorted. A monomial has at least one variable and at most
-- four, and its key has a digit of 16 bits for each of four places, the first one highest. The variables stand in the
-- first places, and the last variable fills the places that are left.
use Rattle.std.specs.Prelude.{◌≡◌, ℕ, ◌+◌, ◌-◌, ◌*◌, ◌/◌, ◌%◌, ◌^◌, ◌<◌, ◌≤◌, ◌==◌, min}
use Rattle.std.specs.Prelude.{List, [], ◌∷◌, length, slice_index, All}
use Rattle.std.specs.List.{dedup}
use Rattle.std.specs.List.Sorted.{IsStrictlyIncreasing}
use Rattle.anf.specs.Monomials.{most_in_monomial}

-- the digit at a place
abbrev pub digit_at : List ℕ → ℕ → ℕ
digit_at variables place = slice_index variables (min (length variables - 1) place)

-- the key of some variables
abbrev pub key_of : List ℕ → ℕ
key_of vs = digit_at vs 0 * 2 ^ 48 + digit_at vs 1 * 2 ^ 32 + digit_at vs 2 * 2 ^ 16 + digit_at vs 3

-- the digits of a key
abbrev pub digits_of_key : ℕ → List ℕ
digits_of_key key = key / 2 ^ 48 ∷ key / 2 ^ 32 % 2 ^ 16 ∷ key / 2 ^ 16 % 2 ^ 16 ∷ key % 2 ^ 16 ∷ []

-- digits in order, without those that are equal to the one before
abbrev pub each_once : List ℕ → List ℕ
each_once digits = dedup (λ a b. a == b) digits

-- the variables with a key
abbrev pub variables_of_key : ℕ → List ℕ
variables_of_key key = each_once (digits_of_key key)

-- a number is the key of its variables
abbrev pub IsKey : ℕ → Type 0
IsKey number = key_of (variables_of_key number) ≡ number

-- what variables keep to that have a key: they rise, there are some but few enough, and each has 16 bits
pub record HaveKey (variables : List ℕ) : Type 0 where
  pub rising : IsStrictlyIncreasing variables
  pub some : 0 < length variables
  pub few : length variables ≤ most_in_monomial
  pub fit : All (λ v. v < 2 ^ 16) variables
