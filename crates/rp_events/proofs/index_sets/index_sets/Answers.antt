use Rattle.std.proofs.Common.{◌≡◌, ℕ, ◌-◌, ◌++◌, [], ◌∷◌, List, map, length, ap, refl, ◌∙◌, arith}
use Rattle.std.specs.List.{range_with_len}
use Rattle.std.proofs.lemmas.List.{map-append}
use Rattle.std.proofs.lemmas.List.FromFn.{length-range_with_len}
use Rattle.itertools.specs.Pool.{combination_left, ascending_low, ascending_high}
use Rattle.itertools.specs.Odometer.{ways}
use Rattle.tuple_model.specs.Tuples.{rising}
use Rattle.rp_events.proofs.Combinations.{ways-rising, whole-range, next_set}
use Rattle.rp_events.proofs.index_sets.index_sets.Goals as goal

pub loop-set-init : goal.loop-set-init
loop-set-init c =
    let n = c.args.n in
    let size = c.args.size in
    let found = c.in_ok-set-items.set-items in
    let begins = c.into_iter-set-iterator.ensures.into_iter_gives in
    let pool : found.pool.items ≡ range_with_len 0 n = whole-range n _ refl _ c.in_ok-set-items.ensures.pool in
    let long : length found.pool.items ≡ n = ap length pool ∙ length-range_with_len 0 n in
    let k = c.from.result in
    let high = ap (λ (m : ℕ). ways ascending_low (ascending_high m k) k []) (found.pool.ok.0 ∙ long) in
    let places : combination_left found ≡ rising size n 0 =
    c.in_ok-set-items.ensures.places ∙ high ∙ ways-rising n k k [] (omega arith)
    ∙ ap (λ (m : ℕ). rising k m 0) (let z : n - 0 ≡ n = omega arith in z) ∙ ap (λ (m : ℕ). rising m n 0) c.from.ensures in
    let none = ap (map (λ set. set.items)) c.new-sets.ensures.items in
    record {
      left = ap (λ (xs : List (List ℕ)). xs ++ combination_left c.into_iter-set-iterator.result) none ∙ ap combination_left begins ∙ places;
      pool = ap (λ s. s.pool.items) begins ∙ pool;
    }

pub loop-set-preserved : goal.loop-set-preserved
loop-set-preserved c =
    let n = c.args.n in
    let size = c.args.size in
    let done = map (λ set. set.items) c.loop-set.sets.items in
    let v = c.in_ok-set.field-0 in
    let next =
    next_set (λ x y. y ≡ x) (λ x y e. e) n size done c.loop-set.set-iterator c.next.new.self c.in-Some.set v
    c.in_ok-set.was c.in-Some.ensures.steps c.loop-set.invariant.left c.loop-set.invariant.pool in
    let pushed = ap (map (λ set. set.items)) c.in_ok-push.ensures.items ∙ map-append (λ set. set.items) c.loop-set.sets.items (v ∷ []) in
    record {
      left = ap (λ (xs : List (List ℕ)). xs ++ combination_left c.next.new.self) pushed ∙ next.0;
      pool = next.1;
    }
