-- How many items of a tuple are no shares of outputs, by one item more.
use Rattle.std.proofs.Common.{◌≡◌, ◌+◌, ◌<◌, ◌≤◌, ℕ, Bool, true, false, List, map, length, get_or, take, refl, ap, sym, ◌∙◌, arith}
use Rattle.std.specs.Int.{from_bool}
use Rattle.std.proofs.lemmas.List.{get_or-map}
use Rattle.std.proofs.lemmas.List.Sums.{sum_by_more}
use Rattle.list_laws.proofs.Counts.{one_if}
use Rattle.wire_table.specs.Items.{Item}
use Rattle.wire_table.specs.CodeItems.{item_of}
use Rattle.wire_table.specs.declared.item.Item as code
use Rattle.wire_table.specs.declared.item.ItemKind.{ItemKind}
use Rattle.wire_table.specs.declared.item.ItemKind.TheVariants.{Internal}
use Rattle.wire_table.proofs.ItemReads.{item_at, within_items}
use Rattle.notions.specs.Notions.{kind_at, internal_count, is_internal}

-- the kind of an item of the code's list
pub kind_at-list : (list : List code.Item) (i : ℕ) (item : code.Item) → i < length list → item ≡ get_or list i item → kind_at (map item_of list) i ≡ item.kind
kind_at-list list i item l is =
    get_or-map (λ (x : Item). x.kind) (map item_of list) i (item_of item) Internal (within_items list i item l is)
    ∙ ap (λ (x : Item). x.kind) (item_at list i item l is)

-- the count of one item more
pub internal_count-more : (items : List Item) (t : List ℕ) (k : ℕ) (kind : ItemKind) (n m : ℕ) → k < length t → n ≡ internal_count items (take k t) →
    kind_at items (get_or t k 0) ≡ kind → m ≡ one_if (is_internal kind) → n + m ≡ internal_count items (take (k + 1) t)
internal_count-more items t k kind n m l e f h =
    let p : ℕ → ℕ = λ i. one_if (is_internal (kind_at items i)) in
    let s : internal_count items (take (k + 1) t) ≡ internal_count items (take k t) + p (get_or t k 0) = sum_by_more p t k 0 l in
    let u : p (get_or t k 0) ≡ m = ap (λ (x : ItemKind). one_if (is_internal x)) f ∙ sym h in
    omega arith

pub from_bool-one_if : (b : Bool) → from_bool b ≡ one_if b
from_bool-one_if true = refl
from_bool-one_if false = refl

pub one_if-le : (b : Bool) (m : ℕ) → m ≡ one_if b → m ≤ 1
one_if-le true m e = omega arith
one_if-le false m e = omega arith
