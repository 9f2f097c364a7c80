-- Lists of the code's items with one item more.
use Rattle.std.proofs.Common.{◌≡◌, ◌+◌, ℕ, Bool, true, false, List, [], ◌∷◌, ◌++◌, map, ap, sym, ◌∙◌, append_assoc}
use Rattle.std.specs.List.{filter, range_with_len}
use Rattle.std.proofs.lemmas.List.{map-append}
use Rattle.wire_table.specs.Items.{Item}
use Rattle.wire_table.specs.CodeItems.{item_of}
use Rattle.wire_table.specs.declared.item.Item as code
use Rattle.wire_table.proofs.Ranges.{range_more, filter-range_keeps, filter-range_leaves}

-- one item more at the end
module _ (f : ℕ → Item) (before : List Item) (n : ℕ) where
  pub push_item : (ks : List ℕ) (items new : List code.Item) (item : code.Item) → map item_of items ≡ before ++ map f ks → item_of item ≡ f n → new ≡ items ++ item ∷ [] →
      map item_of new ≡ before ++ map f (ks ++ n ∷ [])
  push_item ks items new item e g h =
      ap (map item_of) h ∙ map-append item_of items (item ∷ []) ∙ ap (λ (xs : List Item). xs ++ item_of item ∷ []) e ∙ ap (λ (x : Item). (before ++ map f ks) ++ x ∷ []) g
      ∙ append_assoc before (map f ks) (f n ∷ []) ∙ ap (λ (xs : List Item). before ++ xs) (sym (map-append f ks (n ∷ [])))

  pub push_next : (items new : List code.Item) (item : code.Item) → map item_of items ≡ before ++ map f (range_with_len 0 n) → item_of item ≡ f n → new ≡ items ++ item ∷ [] →
      map item_of new ≡ before ++ map f (range_with_len 0 (n + 1))
  push_next items new item e g h =
      push_item (range_with_len 0 n) items new item e g h ∙ ap (λ (ks : List ℕ). before ++ map f ks) (sym (range_more n))

  pub push_kept : (p : ℕ → Bool) (items new : List code.Item) (item : code.Item) → p n ≡ true → map item_of items ≡ before ++ map f (filter p (range_with_len 0 n)) →
      item_of item ≡ f n → new ≡ items ++ item ∷ [] → map item_of new ≡ before ++ map f (filter p (range_with_len 0 (n + 1)))
  push_kept p items new item k e g h =
      push_item (filter p (range_with_len 0 n)) items new item e g h ∙ ap (λ (ks : List ℕ). before ++ map f ks) (sym (filter-range_keeps p n k))

  pub skip_left : (p : ℕ → Bool) (items : List code.Item) → p n ≡ false → map item_of items ≡ before ++ map f (filter p (range_with_len 0 n)) →
      map item_of items ≡ before ++ map f (filter p (range_with_len 0 (n + 1)))
  skip_left p items k e = e ∙ ap (λ (ks : List ℕ). before ++ map f ks) (sym (filter-range_leaves p n k))
