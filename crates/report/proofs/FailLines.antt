-- The lines of failing tuples.
use Rattle.std.proofs.Common.{◌≡◌, ℕ, ◌+◌, ◌<◌, List, [], ◌∷◌, ◌++◌, map, length, get_or, take, Some, ap, ◌∙◌, sym, subst}
use Rattle.std.specs.List.{slice_get}
use Rattle.std.proofs.lemmas.List.{take_more, get_or-map, length-map}
use Rattle.std.proofs.lemmas.Option.{slice_get_within, get_or_from_slice_get}
use Rattle.wire_table.specs.declared.item.Item as code
use Rattle.wire_table.specs.Items.{Item}
use Rattle.wire_table.specs.CodeItems.{item_of}
use Rattle.report.specs.Report.{item_name}

-- the name at a place is that of the item itself, whatever stands for the names past the items
pub name_at : (items : List code.Item) (i : ℕ) (item : code.Item) (other : List ℕ) → i < length items →
    get_or (map (λ (a : Item). a.name) (map item_of items)) i other ≡ (get_or items i item).name
name_at items i item other h =
    let below : i < length (map item_of items) = subst (λ n. i < n) (sym (length-map items item_of)) h in
    get_or-map (λ (a : Item). a.name) (map item_of items) i (item_of item) other below
    ∙ ap (λ (a : Item). a.name) (get_or-map item_of items i item (item_of item) h)

-- the name that a report gives an item is that of the item itself
pub item_name_at : (items : List code.Item) (i : ℕ) (item : code.Item) → i < length items →
    item_name (map item_of items) i ≡ (get_or items i item).name
item_name_at items i item h = name_at items i item [] h

-- one element more of a list
pub take-one_more : {X : Type 0} (xs : List X) (k : ℕ) (x : X) → slice_get xs k ≡ Some x → take (k + 1) xs ≡ take k xs ++ x ∷ []
take-one_more {X} xs k x e =
    take_more xs k x (slice_get_within xs k x e) ∙ ap (λ (y : X). take k xs ++ y ∷ []) (get_or_from_slice_get xs k x x e)
