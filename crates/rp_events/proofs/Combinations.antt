-- The lists that the combinations of places give are the rising ones.
use Rattle.std.proofs.Common.{◌≡◌, ℕ, zero, suc, ◌+◌, ◌-◌, ◌<◌, List, [], ◌∷◌, ◌++◌, map, length, refl, ap, sym, ◌∙◌, arith, subst, length-append, append_assoc, get_or}
use Rattle.std.specs.Prelude.{flat_map, Some, Ok, Result, Contains}
use Rattle.std.specs.List.{range_with_len}
use Rattle.std.specs.declared.ops.Range.{Range}
use Rattle.std.proofs.lemmas.List.{map-id}
use Rattle.std.specs.Iterator.Runs.{WholeRun, YieldsRun}
use Rattle.std.specs.declared.vec.Vec.{Vec}
use Rattle.std.proofs.iter.Yields.{nat_range_steps}
use Rattle.std.proofs.lemmas.Iterator.{items_from_drains, YieldsList-from_range}
use Rattle.std.proofs.lemmas.List.FromFn.{get_or-range_with_len}
use Rattle.std.proofs.lemmas.List.Elements.{Contains-append_right}
use Rattle.list_laws.proofs.Members.{Contains-cons_head}
use Rattle.tuple_model.specs.Tuples.{rising, IsRising}
use Rattle.tuple_model.proofs.Rising.{IsRisingOfSize-from_member}
use Rattle.itertools.specs.Odometer.{numbers, ways}
use Rattle.itertools.specs.Pool.{ascending_low, ascending_high, ClonesAt, reads_pool, pool_steps, combination_left}
use Rattle.itertools.specs.declared.combinations.Combinations.{Combinations}
use Rattle.itertools.proofs.PoolLemmas.{ascending_low-more}

-- where fewer numbers are left than are wanted there is no list
pub rising-none : (size room low : ℕ) → room < size → rising size room low ≡ []
rising-none zero room low l = absurd (omega arith)
rising-none (suc size) zero low l = refl
rising-none (suc size) (suc room) low l =
    let a = rising-none size room (suc low) (omega arith) in
    let b = rising-none (suc size) room (suc low) (omega arith) in
    rw (a, b) refl

-- the lists by their first numbers: these go up to where enough are left
by_first : (size n : ℕ) (W : ℕ → List (List ℕ)) → ((d : ℕ) → W d ≡ rising size (n - (d + 1)) (d + 1)) →
    (room low count : ℕ) → room ≡ n - low → count ≡ n - size - low →
    flat_map (λ d. map (λ ds. d ∷ ds) (W d)) (numbers low count) ≡ rising (suc size) room low
by_first size n W h zero low zero r c = refl
by_first size n W h zero low (suc count) r c = absurd (omega arith)
by_first size n W h (suc room) low zero r c = sym (rising-none (suc size) (suc room) low (omega arith))
by_first size n W h (suc room) low (suc count) r c =
    let i : flat_map (λ d. map (λ ds. d ∷ ds) (W d)) (numbers (low + 1) count) ≡ rising (suc size) room (low + 1) =
    by_first size n W h room (low + 1) count (omega arith) (omega arith) in
    let e : n - (low + 1) ≡ room = omega arith in
    let s : low + 1 ≡ suc low = omega arith in
    rw (i, h low, e, s) refl

pub ways-rising : (n k size : ℕ) (p : List ℕ) → length p + size ≡ k →
    ways ascending_low (ascending_high n k) size p ≡ rising size (n - ascending_low p) (ascending_low p)
ways-rising n k zero p e = refl
ways-rising n k (suc size) p e =
    by_first size n (λ d. ways ascending_low (ascending_high n k) size (p ++ d ∷ []))
    (λ d. let i = ways-rising n k size (p ++ d ∷ []) (let l = length-append p (d ∷ []) in omega arith) in rw (ascending_low-more p d) at i)
    (n - ascending_low p) (ascending_low p) (ascending_high n k p - ascending_low p) refl (omega arith)

-- a range that is run through gives its numbers
pub whole-range : (n : ℕ) (s : Range ℕ) → s ≡ record { start = 0; end = n } → (xs : List ℕ) →
    WholeRun nat_range_steps s (λ p. xs ≡ p.items) → xs ≡ range_with_len 0 n
unfolding YieldsRun
whole-range n s e xs w =
    let run = w.0 in
    let gave = run.gave.0 in
    let listed = items_from_drains run.items (gave.0, gave.1, λ _. gave.2 w.2) (YieldsList-from_range {s = run.from} 0 n n (w.1 ∙ e) (omega arith)) in
    w.3 ∙ sym (map-id run.items) ∙ listed

module _ (clones : ℕ → ℕ → Type 0) (same : (x y : ℕ) → clones x y → y ≡ x) where
  same_items : (n low : ℕ) (places items : List ℕ) → ClonesAt clones (range_with_len 0 n) places items → IsRising low n places → items ≡ places
  same_items n low [] [] h r = refl
  same_items n low [] (v ∷ vs) h r = elim h [ ]
  same_items n low (d ∷ ds) [] h r = elim h [ ]
  same_items n low (d ∷ ds) (v ∷ vs) h r =
      let e = same (get_or (range_with_len 0 n) d v) v h.0 in
      let g = get_or-range_with_len 0 n d v r.1 in
      let i = same_items n (suc d) ds vs h.1 r.2 in
      let k : v ≡ d = omega arith in
      cc

  -- one set more was given: what is done and what is left are all sets still
  pub next_set : {Z E : Type 0} (n size : ℕ) (done : List (List ℕ)) (s t : Combinations ℕ Z) (item : Result (Vec ℕ Z) E) (v : Vec ℕ Z) → item ≡ Ok v →
      pool_steps combination_left (λ s. s.pool.items) (reads_pool clones) s (Some item) t →
      done ++ combination_left s ≡ rising size n 0 → s.pool.items ≡ range_with_len 0 n →
      ((done ++ v.items ∷ []) ++ combination_left t ≡ rising size n 0) × (t.pool.items ≡ range_with_len 0 n)
  next_set {Z} {E} n size done s t item v is h all pool =
      let P : Result (Vec ℕ Z) E → Type 0 = λ r. pool_steps combination_left (λ s. s.pool.items) (reads_pool clones) s (Some r) t in
      let step = subst P is h in
      let places = step.1.0 in
      let left = step.1.1 in
      let rest : done ++ (places ∷ combination_left t) ≡ rising size n 0 = ap (λ (xs : List (List ℕ)). done ++ xs) (sym left) ∙ all in
      let among : Contains (rising size n 0) places =
      subst (λ (xs : List (List ℕ)). Contains xs places) rest
      (Contains-append_right done (places ∷ combination_left t) places (Contains-cons_head places (combination_left t))) in
      let z : 0 + n ≡ n = omega arith in
      let rises = subst (λ (high : ℕ). IsRising 0 high places) z (IsRisingOfSize-from_member size n 0 places among).1 in
      let given = subst (λ (xs : List ℕ). ClonesAt clones xs places v.items) pool step.1.2 in
      let e = same_items n 0 places v.items given rises in (
        append_assoc done (v.items ∷ []) (combination_left t)
            ∙ ap (λ (xs : List ℕ). done ++ (xs ∷ combination_left t)) e ∙ rest,
        sym step.0 ∙ pool,
      )
