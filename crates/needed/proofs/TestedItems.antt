-- The places of a tuple's items among what all items observe.
use Rattle.std.proofs.Common.{◌≡◌, ◌<◌, ℕ, List, length, get_or, ap, sym, ◌∙◌, subst}
use Rattle.std.specs.List.{All}
use Rattle.std.proofs.Math.ListN.{length-map}
use Rattle.std.proofs.lemmas.List.Elements.{Contains-get_or}
use Rattle.tuple_model.specs.Tuples.{IsTuple}
use Rattle.tuple_model.proofs.Rising.{IsRising-member}
use Rattle.wire_table.specs.Tables.{Table}
use Rattle.wire_table.specs.Items.{Item}
use Rattle.needed.specs.TestedItems.{TestedItems, tested_items}

module _ (size : ℕ) (t ts : List ℕ) (are : ts ≡ t) where
  -- each item of a tuple is one of the items
  pub IsTuple-below : (n : ℕ) → IsTuple n size t → All (λ i. i < n) ts
  IsTuple-below n tuple =
      subst (All (λ i. i < n)) (sym are) (λ k d l. (IsRising-member 0 n t (get_or t k d) tuple.rising (Contains-get_or t k d l)).1)

  pub IsTuple-observed : (scratch : TestedItems) (table : Table) (items : List Item) → scratch ≡ tested_items table items → IsTuple (length items) size t →
      All (λ i. i < length scratch.observed) ts
  IsTuple-observed scratch table items fits tuple =
      let n : length scratch.observed ≡ length items =
      ap (λ (s : TestedItems). length s.observed) fits ∙ length-map items (λ (item : Item). item.variables) in
      subst (λ (m : ℕ). All (λ i. i < m) ts) (sym n) (IsTuple-below (length items) tuple)
