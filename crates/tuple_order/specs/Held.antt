-- How a tuple is held in a fixed number of places, so that it takes no memory of its own.
use Rattle.std.specs.Prelude.{◌≡◌, ℕ, ◌-◌, ◌≤◌, List, ◌++◌, length, take, drop, replicate}
use Rattle.std.proofs.Common.{ap, sym, ◌∙◌, subst, take-append-drop, length-take-le}
use Rattle.tuple_model.specs.Limits.{most_items, most_size}
use Rattle.tuple_model.specs.Tuples.{IsRising}

-- The first places hold the items of a tuple, and the rest are zero. So equal tuples have equal places.
pub record IsHeld (places : List ℕ) (size : ℕ) : Type 0 where
  pub six : length places ≡ most_size
  pub short : size ≤ most_size
  pub rising : IsRising 0 most_items (take size places)
  pub zeros : drop size places ≡ replicate (most_size - size) 0

-- The places and the size follow from the items.
pub length-held : (places : List ℕ) (size : ℕ) → IsHeld places size → length (take size places) ≡ size
length-held places size h =
    let P : ℕ → Type 0 = λ n. size ≤ n in
    length-take-le size places (subst P (sym h.six) h.short)

pub places-held : (places : List ℕ) (size : ℕ) → IsHeld places size → take size places
    ++ replicate (most_size - length (take size places)) 0 ≡ places
places-held places size h =
    ap (λ (n : ℕ). take size places ++ replicate (most_size - n) 0) (length-held places size h)
    ∙ ap (λ (r : List ℕ). take size places ++ r) (sym h.zeros)
    ∙ take-append-drop size places
