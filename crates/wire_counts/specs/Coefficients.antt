-- How many sets of wires fail: the coefficients of a failure function (Belaïd, Coron, Prouff, Rivain and Taleb,
-- CRYPTO 2020).
use Rattle.std.specs.Prelude.{◌≡◌, ℕ, zero, suc, ◌≤◌, nat_eq, List, [], ◌∷◌, ◌++◌, map, flat_map, length, slice_index}
use Rattle.std.specs.List.{dedup, range_with_len}
use Rattle.tuple_model.specs.Minimal.{Picks}
use Rattle.wire_table.specs.Items.{Item}

-- A wire: the number of the item that stands for it, and which of that item's wires it is.
pub record Wire : Type 0 where
  pub item : ℕ
  pub copy : ℕ

-- for how many wires each of the items stands
abbrev pub weights_of : List Item → List ℕ
weights_of items = map (λ item. item.weight) items

-- the wires of an item with this weight
abbrev pub copies : ℕ → ℕ → List Wire
copies weight item = map (λ copy. record { item = item; copy = copy }) (range_with_len 0 weight)

-- all wires of items with these weights, in order
abbrev pub item_wires : List ℕ → List Wire
item_wires weights = flat_map (λ item. copies (slice_index weights item) item) (range_with_len 0 (length weights))

-- all sets of so many of the elements, each in their order: those with the first element, and those without it
abbrev pub sets_of_size : {X : Type 0} → ℕ → List X → List (List X)
sets_of_size zero xs = [] ∷ []
sets_of_size (suc size) [] = []
sets_of_size (suc size) (x ∷ xs) = map (λ set. x ∷ set) (sets_of_size size xs) ++ sets_of_size (suc size) xs

-- the tuple of the items of a set of wires, each item once
abbrev pub items_of_wires : List Wire → List ℕ
items_of_wires set = dedup nat_eq (map (λ wire. wire.item) set)

-- Out of all sets of i wires, n fail: so many are picked as those whose items fail.
pub record IsCoefficient (Fails : List ℕ → Type 0) (weights : List ℕ) (i n : ℕ) : Type 0 where
  pub failing : List (List Wire)
  pub picked : Picks (λ set. Fails (items_of_wires set)) (sets_of_size i (item_wires weights)) failing
  pub count : length failing ≡ n

-- the coefficients for sets of 0 up to `size` wires, in order
pub record AreCoefficients (Fails : List ℕ → Type 0) (weights : List ℕ) (size : ℕ) (numbers : List ℕ) : Type 0 where
  pub all : length numbers ≡ suc size
  pub each : (i : ℕ) → i ≤ size → IsCoefficient Fails weights i (slice_index numbers i)
