-- A tuple's places after a step has written its first ones anew.
use Rattle.std.proofs.Common.{◌≡◌, ℕ, suc, ◌+◌, ◌-◌, ◌<◌, ◌≤◌, List, ◌++◌, length, take, drop, replicate, Some, None, ap, sym, ◌∙◌, arith, subst, length-append, length-drop, length-take-le, drop-drop, take_at, drop_at, take-append-drop}
use Rattle.std.proofs.lemmas.List.{drop-replicate}
use borrow.Rule.Slice.PartMut.{post_of}
use Rattle.tuple_model.specs.Tuples.{IsRising, IsTuple}
use Rattle.tuple_model.proofs.Rising.{IsRising-to_higher}
use Rattle.tuple_order.specs.Held.{IsHeld, length-held}
use Rattle.tuple_order.specs.Steps.{numbers_from, next_of_size}
use Rattle.tuple_order.proofs.Raising.{length-numbers_from}
use Rattle.tuple_order.proofs.Walk.{next_tuple}
use Rattle.tuple_order.proofs.Stepping.{IsTuple-next, next_tuple-raised, next_tuple-longer}

zeros_after : (places : List ℕ) (size more : ℕ) → IsHeld places size → drop (size + more) places ≡ replicate (6 - (size + more)) 0
zeros_after places size more h =
    let e : 6 - size - more ≡ 6 - (size + more) = omega arith in
    rw (← drop-drop more size places, h.zeros, drop-replicate {X = ℕ} more (6 - size) 0, e)

-- at least as many of the first places are written as the tuple had items
IsHeld-written : (places written : List ℕ) (size n : ℕ) → IsHeld places size → size ≤ n → n ≤ 6 → length written ≡ n → IsRising 0 511 written →
    IsHeld (written ++ drop n places) n
IsHeld-written places written size n h l m e r =
    let s : size + (n - size) ≡ n = omega arith in
    let Z : ℕ → Type 0 = λ k. drop k places ≡ replicate (6 - k) 0 in
    record {
      six = omega (arith, h.six, length-append written (drop n places), length-drop n places);
      short = m;
      rising = subst (IsRising 0 511) (sym (take_at written (drop n places) n e)) r;
      zeros = drop_at written (drop n places) n e ∙ subst Z s (zeros_after places size (n - size) h);
    }

IsRising-from_IsTuple : (items size : ℕ) (t : List ℕ) → items ≤ 511 → IsTuple items size t → IsRising 0 511 t
IsRising-from_IsTuple items size t l h = IsRising-to_higher 0 items 511 t l h.rising

-- what a step finds: a tuple t, and the places that hold its n items
pub record Found (items size : ℕ) (t places : List ℕ) (n held : ℕ) : Type 0 where
  pub few : items ≤ 511
  pub short : size ≤ 6
  pub fits : IsTuple items size t
  pub holds : IsHeld places n
  pub view : take n places ≡ t
  pub same : held ≡ n

module _ {items size : ℕ} {t places : List ℕ} {n held : ℕ} (f : Found items size t places n held) where
  pub held_items : take held places ≡ t
  held_items = ap (λ (k : ℕ). take k places) f.same ∙ f.view

  pub length-held_items : length t ≡ n
  length-held_items = ap (λ (s : List ℕ). length s) (sym f.view) ∙ length-held places n f.holds

  -- the places are as they were where the first ones were written as they were
  pub same_places : (written : List ℕ) → written ≡ take held places → written ++ post_of 0 held places ≡ places
  same_places written e = ap (λ (w : List ℕ). w ++ drop held places) e ∙ take-append-drop held places

  pub Found-same_places : (written : List ℕ) → written ≡ take held places → Found items size t (written ++ post_of 0 held places) n held
  Found-same_places written e = let P : List ℕ → Type 0 = λ p. Found items size t p n held in subst P (sym (same_places written e)) f

  -- where the next list of the same size is written
  module _ (written : List ℕ) (raised : next_of_size items (take held places) ≡ Some written) (count : length written ≡ length (take held places)) where
    raised-next : next_tuple items size t ≡ Some written
    raised-next = next_tuple-raised items size t written (ap (next_of_size items) (sym held_items) ∙ raised)

    raised-length : length written ≡ n
    raised-length = count ∙ ap (λ (s : List ℕ). length s) held_items ∙ length-held_items

    pub raised-tuple : IsTuple items size written
    raised-tuple = IsTuple-next items size t written f.fits raised-next

    pub raised-view : take n (written ++ post_of 0 held places) ≡ written
    raised-view = take_at written (drop held places) n raised-length

    pub raised-view_next : next_tuple items size t ≡ Some (take n (written ++ post_of 0 held places))
    raised-view_next = raised-next ∙ ap (λ (s : List ℕ). Some s) (sym raised-view)

    pub raised-held : IsHeld (written ++ post_of 0 held places) n
    raised-held =
        let P : ℕ → Type 0 = λ k. IsHeld (written ++ drop k places) n in
        subst P (sym f.same)
        (IsHeld-written places written n n f.holds (omega arith) f.holds.short raised-length (IsRising-from_IsTuple items size written f.few raised-tuple))

  -- where the first tuple with one more item is written
  module _ (written : List ℕ) (last : next_of_size items (take held places) ≡ None) (less : n < size) (room : n < items)
      (count : written ≡ numbers_from 0 (length (take (held + 1) places))) where
    longer-count : length (take (held + 1) places) ≡ suc (length t)
    longer-count =
        let l = length-held_items in
        length-take-le (held + 1) places (omega (arith, f.holds.six, f.same, f.short)) ∙ omega (arith, f.same)

    longer-written : written ≡ numbers_from 0 (suc (length t))
    longer-written = count ∙ ap (numbers_from 0) longer-count

    longer-next : next_tuple items size t ≡ Some written
    longer-next =
        let l = length-held_items in
        next_tuple-longer items size t (ap (next_of_size items) (sym held_items) ∙ last) (omega arith) (omega arith)
        ∙ ap (λ (s : List ℕ). Some s) (sym longer-written)

    longer-length : length written ≡ n + 1
    longer-length =
        let l = length-held_items in
        ap (λ (s : List ℕ). length s) longer-written ∙ length-numbers_from 0 (suc (length t)) ∙ omega arith

    pub longer-tuple : IsTuple items size written
    longer-tuple = IsTuple-next items size t written f.fits longer-next

    pub longer-view : take (n + 1) (written ++ post_of 0 (held + 1) places) ≡ written
    longer-view = take_at written (drop (held + 1) places) (n + 1) longer-length

    pub longer-view_next : next_tuple items size t ≡ Some (take (n + 1) (written ++ post_of 0 (held + 1) places))
    longer-view_next = longer-next ∙ ap (λ (s : List ℕ). Some s) (sym longer-view)

    pub longer-held : IsHeld (written ++ post_of 0 (held + 1) places) (n + 1)
    longer-held =
        let P : ℕ → Type 0 = λ k. IsHeld (written ++ drop (k + 1) places) (n + 1) in
        subst P (sym f.same)
        (IsHeld-written places written n (n + 1) f.holds (omega arith) (omega (arith, f.short)) longer-length (IsRising-from_IsTuple items size written f.few longer-tuple))
