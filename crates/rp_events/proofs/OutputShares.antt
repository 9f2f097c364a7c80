-- The variables of a set of output shares are few, and they are of the gadget.
use Rattle.std.proofs.Common.{◌≡◌, ◌+◌, ◌*◌, ◌/◌, ◌%◌, ◌<◌, ◌≤◌, ℕ, Bool, true, false, eqb, cond, List, [], ◌∷◌, ◌++◌, map, length, ap, sym, ◌∙◌, arith}
use Rattle.std.specs.Int.{bit_at}
use Rattle.std.specs.List.{All, filter, range_with_len}
use Rattle.std.proofs.Math.ListN.{length-map}
use Rattle.std.proofs.Math.Nat.{mul_comm}
use Rattle.std.proofs.lemmas.Bool.{eqb-true}
use Rattle.std.proofs.lemmas.Nat.{mul-add-lt}
use Rattle.std.proofs.lemmas.List.{append-nil, map-id, map-append}
use Rattle.std.proofs.lemmas.List.FromFn.{length-range_with_len, filter_of_map_range_with_len_more}
use Rattle.std.proofs.lemmas.List.Elements.{All-map, All-weaker, filter_passes}
use Rattle.std.proofs.lemmas.List.Sums.{length-filter, count_by-le-length}
use Rattle.gadget_model.specs.Circuit.{Circuit}
use Rattle.gadget_tree.specs.Gadgets.{IsGadget}
use Rattle.needed.specs.Others.{most_others}
use Rattle.rp_events.specs.Failing.{output_variable, shares_in}
use Rattle.rp_events.specs.Questions.{IsOutputSet}

pub length-shares_in-le : (g : Circuit) (set : ℕ) → length (shares_in g set) ≤ most_others
length-shares_in-le g set =
    let p : ℕ → Bool = λ k. eqb (bit_at set k) 1 in
    let a = length-map (filter p (range_with_len 0 32)) (output_variable g) in
    let b = length-filter p (range_with_len 0 32) in
    let d = count_by-le-length p (range_with_len 0 32) in
    let c = length-range_with_len 0 32 in
    omega arith

-- the place of a share of an output
output_place-lt : (g : Circuit) → IsGadget g → (k : ℕ) → k / 16 < length g.outputs → k % 16 < g.shares →
    g.shares * (k / 16) + k % 16 < length g.output_shares
output_place-lt g is k l m =
    let a = mul-add-lt (k / 16) g.shares (k % 16) (length g.outputs) l m in
    let b = mul_comm g.shares (k / 16) in
    let c = mul_comm (length g.outputs) g.shares in
    let e = is.all_outputs in
    omega arith

pub shares_in-below : (g : Circuit) → IsGadget g → (set : ℕ) → IsOutputSet g set → All (λ v. v < length g.variables) (shares_in g set)
shares_in-below g is set outputs =
    let p : ℕ → Bool = λ k. eqb (bit_at set k) 1 in
    let below : (k : ℕ) → p k ≡ true → output_variable g k < length g.variables = λ k h.
    let o = outputs k (eqb-true (bit_at set k) 1 h) in
    is.outputs_exist (g.shares * (k / 16) + k % 16) 0 (output_place-lt g is k o.0 o.1) in
    All-map (λ v. v < length g.variables) (output_variable g) (filter p (range_with_len 0 32))
    (All-weaker (λ k. p k ≡ true) (λ k. output_variable g k < length g.variables) below (filter p (range_with_len 0 32)) (filter_passes p (range_with_len 0 32)))

-- the variables of those shares in a set that have numbers below a bound
abbrev pub shares_below : Circuit → ℕ → ℕ → List ℕ
shares_below g set n = map (output_variable g) (filter (λ k. eqb (bit_at set k) 1) (range_with_len 0 n))

-- one number more
pub shares_below-more : (g : Circuit) (set n : ℕ) →
    shares_below g set (n + 1) ≡ shares_below g set n ++ map (output_variable g) (cond (eqb (bit_at set n) 1) (n ∷ []) [])
shares_below-more g set n =
    let p : ℕ → Bool = λ k. eqb (bit_at set k) 1 in
    let same : (m : ℕ) → filter p (map (λ (k : ℕ). k) (range_with_len 0 m)) ≡ filter p (range_with_len 0 m) = λ m. ap (filter p) (map-id (range_with_len 0 m)) in
    let e = filter_of_map_range_with_len_more p (λ (k : ℕ). k) 0 n n (omega arith) in
    ap (map (output_variable g)) (sym (same (n + 1)) ∙ e ∙ ap (λ (ks : List ℕ). ks ++ cond (p n) (n ∷ []) []) (same n))
    ∙ map-append (output_variable g) (filter p (range_with_len 0 n)) (cond (p n) (n ∷ []) [])

-- a share that is in the set, and one that isn't
pub shares_below-push : (g : Circuit) (set n v : ℕ) (vars : List ℕ) → eqb (bit_at set n) 1 ≡ true → v ≡ output_variable g n → vars ≡ shares_below g set n →
    vars ++ v ∷ [] ≡ shares_below g set (n + 1)
shares_below-push g set n v vars has is before =
    ap (λ (xs : List ℕ). xs ++ v ∷ []) before
    ∙ ap (λ (w : ℕ). shares_below g set n ++ w ∷ []) is
    ∙ sym (shares_below-more g set n ∙ ap (λ (b : Bool). shares_below g set n ++ map (output_variable g) (cond b (n ∷ []) [])) has)

pub shares_below-skip : (g : Circuit) (set n : ℕ) (vars : List ℕ) → eqb (bit_at set n) 1 ≡ false → vars ≡ shares_below g set n → vars ≡ shares_below g set (n + 1)
shares_below-skip g set n vars misses before =
    before ∙ sym (append-nil (shares_below g set n))
    ∙ sym (shares_below-more g set n ∙ ap (λ (b : Bool). shares_below g set n ++ map (output_variable g) (cond b (n ∷ []) [])) misses)
