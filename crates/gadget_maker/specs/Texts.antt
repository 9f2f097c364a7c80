-- The texts of the demonstration gadgets, line by line: the multiplication of Ishai, Sahai and Wagner (CRYPTO 2003),
-- and a refreshing of shares in which each pair of shares has a random of its own.
use Rattle.std.specs.Prelude.{ℕ, ◌+◌, ◌-◌, ◌==◌, not, nat_lt, if◌then◌else◌, List, [], ◌∷◌, ◌++◌, map, flat_map, take, codes}
use Rattle.std.specs.List.{filter, range_with_len, zip}

abbrev pub Text : Type 0
Text = List ℕ

-- an index, which is one digit since there are few shares
abbrev pub digit : ℕ → Text
digit i = (48 + i) ∷ []

-- a name with one index
abbrev pub indexed : Text → ℕ → Text
indexed stem i = stem ++ digit i

-- a name with two indices
abbrev pub paired : Text → ℕ → ℕ → Text
paired stem i j = stem ++ digit i ++ digit j

-- the numbers below n
abbrev pub below : ℕ → List ℕ
below n = range_with_len 0 n

-- all pairs of numbers below n, in lexicographic order
abbrev pub pairs : ℕ → List (ℕ × ℕ)
pairs n = flat_map (λ i. map (λ j. (i, j)) (below n)) (below n)

-- those of them that rise
abbrev pub rising_pairs : ℕ → List (ℕ × ℕ)
rising_pairs n = filter (λ p. nat_lt p.0 p.1) (pairs n)

-- the numbers below n other than i
abbrev pub others : ℕ → ℕ → List ℕ
others n i = filter (λ j. not (j == i)) (below n)

-- the line of a header with its words
abbrev pub header : Text → List Text → Text
header word names = word ++ flat_map (λ name. codes " " ++ name) names

-- the line that assigns a sum
abbrev pub sum_line : Text → Text → Text → Text
sum_line name a b = name ++ codes " = " ++ a ++ codes " + " ++ b

-- the line that assigns a product
abbrev pub product_line : Text → Text → Text → Text
product_line name a b = name ++ codes " = " ++ a ++ codes " * " ++ b

-- the lines of a running sum that begins with `sum`: each step has the name of the new sum and the term that it adds
abbrev pub running_sum : Text → List (Text × Text) → List Text
running_sum sum [] = []
running_sum sum (step ∷ steps) = sum_line step.0 sum step.1 ∷ running_sum step.0 steps

-- The steps of the running sum of share i: `term i j` is added for each other j, rising. Each sum but the last has the
-- name `s` with i and j; the last is share i of the output.
abbrev pub sum_steps : ℕ → Text → (ℕ → ℕ → Text) → ℕ → List (Text × Text)
sum_steps n output term i =
    zip (map (paired (codes "s") i) (take (n - 2) (others n i)) ++ indexed output i ∷ []) (map (term i) (others n i))

-- the random of a pair, whichever of the two comes first
abbrev pub random_of : ℕ → ℕ → Text
random_of i j = if nat_lt i j then paired (codes "r") i j else paired (codes "r") j i

-- the header lines of a gadget of n shares with a random for each rising pair
abbrev pub headers : ℕ → List Text → Text → List Text
headers n inputs output =
    header (codes "#SHARES") (digit n ∷ [])
    ∷ header (codes "#IN") inputs
    ∷ header (codes "#RANDOMS") (map (λ p. paired (codes "r") p.0 p.1) (rising_pairs n))
    ∷ header (codes "#OUT") (output ∷ [])
    ∷ []

-- the product of share i of `a` and share j of `b`
abbrev pub product_of_pair : ℕ × ℕ → Text
product_of_pair (i, j) = product_line (paired (codes "p") i j) (indexed (codes "a") i) (indexed (codes "b") j)

-- the random of a rising pair masks the one product of the pair, and then the other
abbrev pub masked_products : ℕ × ℕ → List Text
masked_products (i, j) =
    sum_line (paired (codes "u") i j) (paired (codes "r") i j) (paired (codes "p") i j)
    ∷ sum_line (paired (codes "r") j i) (paired (codes "u") i j) (paired (codes "p") j i)
    ∷ []

-- the lines of the multiplication
abbrev pub isw_lines : ℕ → List Text
isw_lines n =
    headers n (codes "a" ∷ codes "b" ∷ []) (codes "c")
    ++ map product_of_pair (pairs n)
    ++ flat_map masked_products (rising_pairs n)
    ++ flat_map (λ i. running_sum (paired (codes "p") i i) (sum_steps n (codes "c") (paired (codes "r")) i)) (below n)

-- the lines of the refreshing
abbrev pub refresh_lines : ℕ → List Text
refresh_lines n =
    headers n (codes "a" ∷ []) (codes "d")
    ++ flat_map (λ i. running_sum (indexed (codes "a") i) (sum_steps n (codes "d") random_of i)) (below n)

-- each line ends with a line feed
abbrev pub text_of : List Text → Text
text_of lines = flat_map (λ line. line ++ 10 ∷ []) lines

-- the text of the multiplication of n shares
unfoldable pub isw_text : ℕ → Text
isw_text n = text_of (isw_lines n)

-- the text of the refreshing of n shares
unfoldable pub refresh_text : ℕ → Text
refresh_text n = text_of (refresh_lines n)
