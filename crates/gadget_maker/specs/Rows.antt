-- The lines of the demonstration gadgets, row by row.
use Rattle.std.specs.Prelude.{ℕ, ◌+◌, ◌-◌, nat_lt, if◌then◌else◌, List, [], ◌∷◌, ◌++◌, map, flat_map, codes, Option, Some, None}
use Rattle.std.specs.List.{range_with_len}
use Rattle.gadget_maker.specs.Texts.{Text, digit, indexed, paired, below}
use Rattle.gadget_maker.specs.Texts.{masked_products, product_of_pair, text_of}
use Rattle.gadget_maker.specs.declared.name.Name.{Name}

-- the bytes of a second index, where there is one
abbrev pub other_text : Option ℕ → Text
other_text None = []
other_text (Some digit) = digit ∷ []

-- the bytes of a name
abbrev pub name_text : Name → Text
name_text n = n.stem ∷ n.index ∷ other_text n.other

-- a line that assigns to a name two others with a sign between them
abbrev pub assignment_line : Text → Text → ℕ → Text → Text
assignment_line name a sign b = name ++ codes " = " ++ a ++ 32 ∷ sign ∷ 32 ∷ b ++ 10 ∷ []

-- the numbers above i and below n
abbrev pub above : ℕ → ℕ → List ℕ
above n i = range_with_len (i + 1) (n - (i + 1))

-- the words of the randoms of a row
abbrev pub random_row : ℕ → ℕ → Text
random_row n i = flat_map (λ j. 32 ∷ paired (codes "r") i j) (above n i)

-- the products of a row
abbrev pub product_row : ℕ → ℕ → Text
product_row n i = flat_map (λ j. product_of_pair (i, j) ++ 10 ∷ []) (below n)

-- the masked products of a row
abbrev pub masked_row : ℕ → ℕ → Text
masked_row n i = flat_map (λ j. text_of (masked_products (i, j))) (above n i)

-- the k-th of the numbers other than i
abbrev pub other : ℕ → ℕ → ℕ
other i k = if nat_lt k i then k else k + 1

-- the name of the k-th sum of share i, of which the last is a share of the output
abbrev pub sum_name : ℕ → Text → ℕ → ℕ → Text
sum_name n output i k = if nat_lt (k + 2) n then paired (codes "s") i (other i k) else indexed output i

-- the k-th step of the running sum of share i
abbrev pub sum_step : ℕ → Text → (ℕ → ℕ → Text) → ℕ → ℕ → Text × Text
sum_step n output term i k = (sum_name n output i k, term i (other i k))

-- its steps from the k-th on
abbrev pub sum_steps_from : ℕ → Text → (ℕ → ℕ → Text) → ℕ → ℕ → List (Text × Text)
sum_steps_from n output term i k = map (sum_step n output term i) (range_with_len k (n - 1 - k))
