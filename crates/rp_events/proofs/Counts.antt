-- How many events there are.
use Rattle.std.proofs.Common.{◌≡◌, ℕ, zero, suc, ◌+◌, ◌*◌, ◌^◌, ◌≤◌, List, [], ◌∷◌, map, length, ap, sym, ◌∙◌, arith, length-append, mul-add, add-mul, suc-mul, mul-zero, zero-mul, mul_assoc, mul-le-mul}
use Rattle.std.specs.Prelude.{flat_map, replicate}
use Rattle.std.specs.List.{sum_by}
use Rattle.std.proofs.Math.ListN.{length-map}
use Rattle.std.proofs.Math.Nat.{pow-zero, pow-suc, pow-succ'}
use Rattle.std.proofs.lemmas.Grind.{flat_map-append}
use Rattle.std.proofs.lemmas.List.Sums.{sum_by-cons}
use Rattle.gadget_model.specs.Circuit.{Circuit}
use Rattle.wire_table.specs.declared.which.Which.{Which}
use Rattle.rp_events.specs.declared.rp.Rp.{Rp}
use Rattle.rp_events.specs.declared.rp.Rp.TheVariants.{Rpc, Rpe}
use Rattle.rp_events.specs.Events.{Event, Given, all_but_one, exactly, index_sets, selections, event_with, exact_choices, mode_choices, whiches, events_of, event_count}
use Rattle.rp_events.specs.Choices.{each_which, events_by}

length-flat_map_same : {X Y : Type 0} (f : X → List Y) (n : ℕ) → ((x : X) → length (f x) ≡ n) → (xs : List X) →
    length (flat_map f xs) ≡ length xs * n
length-flat_map_same f n h [] = sym (zero-mul n)
length-flat_map_same f n h (x ∷ xs) =
    let i = length-flat_map_same f n h xs in
    let e = h x in
    let a = length-append (f x) (flat_map f xs) in
    let m : suc (length xs) * n ≡ length xs * n + n = suc-mul (length xs) n in
    omega arith

length-selections-cons : {X : Type 0} (xs : List X) (rest : List (List X)) → length (selections (xs ∷ rest)) ≡ length xs * length (selections rest)
length-selections-cons {X} xs rest =
    length-flat_map_same (λ (x : X). map (λ (others : List X). x ∷ others) (selections rest)) (length (selections rest))
    (λ x. length-map (selections rest) (λ (others : List X). x ∷ others)) xs

length-selections-replicate : {X : Type 0} (xs : List X) (k : ℕ) → length (selections (replicate k xs)) ≡ length xs ^ k
length-selections-replicate xs zero = sym (pow-zero (length xs))
length-selections-replicate xs (suc k) =
    length-selections-cons xs (replicate k xs)
    ∙ ap (λ (n : ℕ). length xs * n) (length-selections-replicate xs k) ∙ sym (pow-succ' (length xs) k)

module _ (g : Circuit) (rp : Rp) (asked : List Which) where
  abbrev by : List (List Given) → List Event
  by = events_by g rp asked

  length-events_by : (modes : List (List Given)) → length (by modes) ≡ length (selections modes) * length asked
  length-events_by modes =
      length-flat_map_same (each_which g rp asked) (length asked) (λ given. length-map asked (event_with g rp given)) (selections modes)

  length-events_by-cons : (one : List Given) (modes : List (List Given)) → length (by (one ∷ modes)) ≡ length one * length (by modes)
  length-events_by-cons one modes =
      length-events_by (one ∷ modes) ∙ ap (λ (n : ℕ). n * length asked) (length-selections-cons one modes)
      ∙ mul_assoc (length one) (length (selections modes)) (length asked)
      ∙ ap (λ (n : ℕ). length one * n) (sym (length-events_by modes))

  after_one : (one : List Given) (lists : List (List (List Given))) →
      length (flat_map by (map (λ modes. one ∷ modes) lists)) ≡ length one * length (flat_map by lists)
  after_one one [] = sym (mul-zero (length one))
  after_one one (modes ∷ lists) =
      let e = length-append (by (one ∷ modes)) (flat_map by (map (λ modes. one ∷ modes) lists)) in
      let f = length-append (by modes) (flat_map by lists) in
      let a = length-events_by-cons one modes in
      let i = after_one one lists in
      let m : length one * (length (by modes) + length (flat_map by lists)) ≡ length one * length (by modes) + length one * length (flat_map by lists) =
      mul-add (length one) (length (by modes)) (length (flat_map by lists)) in
      e ∙ ap (λ (n : ℕ). n + length (flat_map by (map (λ modes. one ∷ modes) lists))) a
      ∙ ap (λ (n : ℕ). length one * length (by modes) + n) i ∙ sym m ∙ ap (λ (n : ℕ). length one * n) (sym f)

  after_each : (ones : List (List Given)) (lists : List (List (List Given))) →
      length (flat_map by (flat_map (λ one. map (λ modes. one ∷ modes) lists) ones)) ≡ sum_by length ones * length (flat_map by lists)
  after_each [] lists = sym (zero-mul (length (flat_map by lists)))
  after_each (one ∷ ones) lists =
      let L = length (flat_map by lists) in
      let front = map (λ modes. one ∷ modes) lists in
      let back = flat_map (λ one. map (λ modes. one ∷ modes) lists) ones in
      ap length (flat_map-append by front back)
      ∙ length-append (flat_map by front) (flat_map by back)
      ∙ ap (λ (n : ℕ). n + length (flat_map by back)) (after_one one lists)
      ∙ ap (λ (n : ℕ). length one * L + n) (after_each ones lists)
      ∙ sym (add-mul (length one) (sum_by length ones) L)
      ∙ ap (λ (n : ℕ). n * L) (sym (sum_by-cons length one ones))

  pub count-events_by : (choices : List (List Given)) (k : ℕ) →
      length (flat_map by (selections (replicate k choices))) ≡ sum_by length choices ^ k * length asked
  count-events_by choices zero =
      let e : length (flat_map by ([] ∷ [])) ≡ length (map (event_with g rp []) asked) =
      length-append (by []) [] ∙ (let z = length-append (each_which g rp asked []) [] in omega arith) in
      e ∙ length-map asked (event_with g rp []) ∙ (let o : length asked ≡ 1 * length asked = omega arith in o)
      ∙ ap (λ (n : ℕ). n * length asked) (sym (pow-zero (sum_by length choices)))
  count-events_by choices (suc k) =
      let s = sum_by length choices in
      after_each choices (selections (replicate k choices))
      ∙ ap (λ (n : ℕ). s * n) (count-events_by choices k)
      ∙ sym (mul_assoc s (s ^ k) (length asked))
      ∙ ap (λ (n : ℕ). n * length asked) (sym (pow-succ' s k))

pub event_count-Rpc : (g : Circuit) (t : ℕ) → event_count Rpc g t ≡ length (index_sets g.shares t) ^ length g.outputs
unfolding events_of
event_count-Rpc g t =
    length-map (selections (replicate (length g.outputs) (exact_choices g t))) _
    ∙ length-selections-replicate (exact_choices g t) (length g.outputs)
    ∙ ap (λ (n : ℕ). n ^ length g.outputs) (length-map (index_sets g.shares t) exactly)

pub event_count-Rpe : (g : Circuit) (t : ℕ) → event_count Rpe g t ≡ (length (index_sets g.shares t) + 1) ^ length g.outputs * length (whiches g)
unfolding events_of
event_count-Rpe g t =
    let e : sum_by length (mode_choices g t) ≡ length (index_sets g.shares t) + 1 =
    (let a = sum_by-cons length (exact_choices g t) ((all_but_one ∷ []) ∷ []) in
    let m = length-map (index_sets g.shares t) exactly in
    omega arith) in
    count-events_by g Rpe (whiches g) (mode_choices g t) (length g.outputs)
    ∙ ap (λ (n : ℕ). n ^ length g.outputs * length (whiches g)) e

-- the powers of at most two outputs fit
pub power-few : (n k : ℕ) → n ≤ 65537 → k ≤ 2 → n ^ k ≤ 4295098369
power-few n zero l m = let e = pow-zero n in omega arith
power-few n (suc zero) l m = let e : n ^ 1 ≡ n ^ 0 * n = pow-suc n 0 in
    let z = ap (λ (a : ℕ). a * n) (pow-zero n) in omega arith
power-few n (suc (suc zero)) l m =
    let e : n ^ 2 ≡ n ^ 1 * n = pow-suc n 1 in
    let f : n ^ 1 ≡ n ^ 0 * n = pow-suc n 0 in
    let z = ap (λ (a : ℕ). a * n) (pow-zero n) in
    let a : n ^ 1 ≤ 65537 = omega arith in
    let b : n ^ 1 * n ≤ 65537 * 65537 = mul-le-mul a l in
    omega arith
power-few n (suc (suc (suc k))) l m = absurd (omega arith)
