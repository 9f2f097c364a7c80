-- The names and the variables of shares and randoms, and variables by their names.
use Rattle.std.specs.Prelude.{◌≢◌, ℕ, ◌+◌, ◌*◌, Bool, true, not, ◌&&◌, List, [], ◌∷◌, ◌++◌, map, slice_index_or, flat_map, AllPairs, decimal, Option, Some, None}
use Rattle.std.specs.List.{list_any, position_or_len, range_with_len}
use Rattle.std.specs.Str.{bytes_eq}
use Rattle.gadget_model.specs.Circuit.{share, random, Variable}
use Rattle.gadget_headers.specs.Headers.{Listed, Preamble}

-- the name of a share: the stem, and the index in decimal
abbrev pub share_name : List ℕ → ℕ → List ℕ
share_name stem index = stem ++ decimal index

-- the names of the n shares of each stem, by stem and then index
abbrev pub share_names : ℕ → List (List ℕ) → List (List ℕ)
share_names n stems = flat_map (λ stem. map (share_name stem) (range_with_len 0 n)) stems

abbrev pub names_of : List Variable → List (List ℕ)
names_of variables = map (λ v. v.name) variables

-- the name of the variable with a number
abbrev pub name_at : List Variable → ℕ → List ℕ
name_at variables k = slice_index_or (names_of variables) k []

-- whether a name is one of these
abbrev pub is_among : List (List ℕ) → List ℕ → Bool
is_among names name = list_any (bytes_eq name) names

-- the place of a name among these
abbrev pub place_of : List (List ℕ) → List ℕ → ℕ
place_of names name = position_or_len (bytes_eq name) names

-- no two names are equal
abbrev pub are_distinct : List (List ℕ) → Bool
are_distinct [] = true
are_distinct (name ∷ names) = not (is_among names name) && are_distinct names

-- the same, as a fact
abbrev pub AreDistinct : List (List ℕ) → Type 0
AreDistinct names = AllPairs (λ a b. a ≢ b) names

-- the variables of the n shares of input k, which a line lists
abbrev pub shares_of_input : ℕ → ℕ → ℕ → List ℕ → List Variable
shares_of_input line n k stem =
    map (λ i. record { name = share_name stem i; node = share (16 * k + i); line = line }) (range_with_len 0 n)

-- the variables of the input shares, by input and then index, from input k on
abbrev pub share_variables : ℕ → ℕ → ℕ → List (List ℕ) → List Variable
share_variables line n k [] = []
share_variables line n k (stem ∷ stems) = shares_of_input line n k stem ++ share_variables line n (k + 1) stems

-- the variables of the randoms, which a line lists, from random k on
abbrev pub random_variables : ℕ → ℕ → List (List ℕ) → List Variable
random_variables line k [] = []
random_variables line k (name ∷ names) =
    record { name = name; node = random k; line = line } ∷ random_variables line (k + 1) names

abbrev pub listed_randoms : Option Listed → List Variable
listed_randoms None = []
listed_randoms (Some listed) = random_variables listed.line 0 listed.stems

-- the variables that the headers name: the input shares, and then the randoms
abbrev pub header_variables : Preamble → List Variable
header_variables h = share_variables h.inputs.line h.shares 0 h.inputs.stems ++ listed_randoms h.randoms
