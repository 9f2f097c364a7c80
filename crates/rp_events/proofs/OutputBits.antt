-- Each bit of an event's sets stands for a share of an output.
use Rattle.std.proofs.Common.{◌≡◌, ℕ, ◌+◌, ◌-◌, ◌*◌, ◌/◌, ◌%◌, ◌^◌, ◌<◌, ◌≤◌, List, [], ◌∷◌, map, length, refl, ap, sym, ◌∙◌, inl, inr, arith, get_or, pow_mono}
use Rattle.std.specs.Prelude.{flat_map, replicate}
use Rattle.std.specs.List.{All}
use Rattle.std.specs.Int.{bit_at}
use Rattle.std.proofs.Math.ListN.{length-map}
use Rattle.std.proofs.lemmas.Bool.{cases_lt}
use Rattle.std.proofs.lemmas.Nat.{pow-add}
use Rattle.std.proofs.lemmas.Nat.Bits.{bit_at_above, bit_at_cat_low, bit_at_cat_high}
use Rattle.std.proofs.lemmas.List.{length-replicate}
use Rattle.std.proofs.lemmas.List.Elements.{All-nil, All-cons, All-head, All-tail, All-append, All-map, All-replicate}
use Rattle.gadget_model.specs.Circuit.{Circuit}
use Rattle.tuple_model.specs.Tuples.{IsRising}
use Rattle.wire_table.specs.declared.which.Which.{Which}
use Rattle.rp_events.specs.declared.rp.Rp.{Rp}
use Rattle.rp_events.specs.declared.rp.Rp.TheVariants.{Rpc, Rpe}
use Rattle.rp_events.specs.Events.{Given, chosen, selections, set_from, event_with}
use Rattle.rp_events.specs.Questions.{IsOutputSet, AreOutputSets}
use Rattle.rp_events.specs.Choices.{shares_at, each_which, events_by, modes_of, whiches_of, events_from}
use Rattle.rp_events.proofs.ShareSums.{shares_at-cons, shares_at-room}
use Rattle.rp_events.proofs.SelectedEvents.{All-selections, lengths-selections}

-- the bits of the first output's shares
below_pow : (n : ℕ) (t : List ℕ) → IsRising 0 n t → shares_at 0 t < 2 ^ n
below_pow n t r =
    let room = shares_at-room 0 0 n t r (omega arith) in
    let e : 16 * 0 + n ≡ n = omega arith in
    let p = ap (λ (m : ℕ). 2 ^ m) e in
    omega arith

bit_below : (n : ℕ) (t : List ℕ) → IsRising 0 n t → (k : ℕ) → bit_at (shares_at 0 t) k ≡ 1 → k < n
bit_below n t r k h = elim (cases_lt k n) [
  | inl l ↦ l
  | inr l ↦ let z = bit_at_above (shares_at 0 t) n k (below_pow n t r) (omega arith) in absurd (omega (arith, z, h))
]

second_output : (t : List ℕ) → shares_at 1 t ≡ shares_at 0 t * 2 ^ 16
second_output [] = refl
second_output (x ∷ t) =
    let a = shares_at-cons 1 x t in
    let b = shares_at-cons 0 x t in
    let i = second_output t in
    let e : 16 * 0 + x ≡ x = omega arith in
    let p = ap (λ (m : ℕ). 2 ^ m) e in
    let q : 2 ^ (16 + x) ≡ 2 ^ 16 * 2 ^ x = pow-add 2 16 x in
    omega arith

one_output : (outputs n : ℕ) (t : List ℕ) → 1 ≤ outputs → n ≤ 16 → IsRising 0 n t → (k : ℕ) → bit_at (shares_at 0 t + 0) k ≡ 1 →
    (k / 16 < outputs) × (k % 16 < n)
one_output outputs n t o l r k h =
    let e : shares_at 0 t + 0 ≡ shares_at 0 t = omega arith in
    let b = bit_below n t r k (ap (λ (m : ℕ). bit_at m k) (sym e) ∙ h) in
    (omega arith, omega arith)

two_outputs : (outputs n : ℕ) (s t : List ℕ) → 2 ≤ outputs → n ≤ 16 → IsRising 0 n s → IsRising 0 n t → (k : ℕ) →
    bit_at (shares_at 0 s + (shares_at 1 t + 0)) k ≡ 1 → (k / 16 < outputs) × (k % 16 < n)
two_outputs outputs n s t o l q r k h =
    let second = second_output t in
    let e : shares_at 0 s + (shares_at 1 t + 0) ≡ shares_at 0 t * 2 ^ 16 + shares_at 0 s = omega arith in
    let g = ap (λ (m : ℕ). bit_at m k) (sym e) ∙ h in
    let P : Type 0 = (k / 16 < outputs) × (k % 16 < n) in
    elim (cases_lt k 16) as (λ _. P) [
      | inl low ↦
          let b = bit_below n s q k (sym (bit_at_cat_low (shares_at 0 t) 16 (shares_at 0 s) k low) ∙ g) in
          (omega arith, omega arith)
      | inr high ↦
          let high' : 16 ≤ k = omega arith in
          let small = below_pow n s q in
          let wide : 2 ^ n ≤ 2 ^ 16 = pow_mono l in
          let fits : shares_at 0 s < 2 ^ 16 = omega arith in
          let b = bit_below n t r (k - 16) (sym (bit_at_cat_high (shares_at 0 t) 16 (shares_at 0 s) k fits high') ∙ g) in
          (omega arith, omega arith)
    ]

-- what the limits on gadgets say
pub record IsSmall (g : Circuit) : Type 0 where
  pub shares : g.shares ≤ 16
  pub some : 1 ≤ length g.outputs
  pub outputs : length g.outputs ≤ 2

is_output_set : (g : Circuit) → IsSmall g → (one : List (List ℕ)) → length one ≡ length g.outputs → All (IsRising 0 g.shares) one → IsOutputSet g (set_from 0 one)
is_output_set g small [] l r = absurd (omega (arith, l, small.some))
is_output_set g small (s ∷ []) l r =
    one_output (length g.outputs) g.shares s small.some small.shares (All-head (IsRising 0 g.shares) s [] r)
is_output_set g small (s ∷ t ∷ []) l r =
    two_outputs (length g.outputs) g.shares s t (omega (arith, l)) small.shares (All-head (IsRising 0 g.shares) s (t ∷ []) r)
    (All-head (IsRising 0 g.shares) t [] (All-tail (IsRising 0 g.shares) s (t ∷ []) r))
is_output_set g small (s ∷ t ∷ u ∷ rest) l r = absurd (omega (arith, l, small.outputs))

-- what an output may be given means indices of its shares
abbrev pub HasShares : ℕ → Given → Type 0
HasShares n given = All (IsRising 0 n) (chosen n given)

module _ (g : Circuit) (small : IsSmall g) where
  of_event : (rp : Rp) (which : Which) (given : List Given) → length given ≡ length g.outputs → All (HasShares g.shares) given →
      AreOutputSets g (event_with g rp given which)
  of_event rp which given l h =
      let lists = map (chosen g.shares) given in
      let rise = All-selections (IsRising 0 g.shares) lists (All-map (All (IsRising 0 g.shares)) (chosen g.shares) given h) in
      let long = lengths-selections lists in
      All-map (IsOutputSet g) (set_from 0) (selections lists)
      (λ k d m. is_output_set g small (get_or (selections lists) k d) (long k d m ∙ length-map given (chosen g.shares) ∙ l) (rise k d m))

  All-flat_map : {X Y : Type 0} (P : Y → Type 0) (f : X → List Y) (xs : List X) → All (λ x. All P (f x)) xs → All P (flat_map f xs)
  All-flat_map P f [] h = All-nil P
  All-flat_map {X} P f (x ∷ xs) h =
      let Q : X → Type 0 = λ x. All P (f x) in
      All-append P (f x) (flat_map f xs) (All-head Q x xs h) (All-flat_map P f xs (All-tail Q x xs h))

  of_modes : (rp : Rp) (asked : List Which) (modes : List (List Given)) → length modes ≡ length g.outputs → All (All (HasShares g.shares)) modes →
      All (AreOutputSets g) (events_by g rp asked modes)
  of_modes rp asked modes l h =
      let has = All-selections (HasShares g.shares) modes h in
      let long = lengths-selections modes in
      All-flat_map (AreOutputSets g) (each_which g rp asked) (selections modes)
      (λ k d m. All-map (AreOutputSets g) (event_with g rp (get_or (selections modes) k d)) asked
      (λ j e n. of_event rp (get_or asked j e) (get_or (selections modes) k d) (long k d m ∙ l) (has k d m)))

  pub of_events_from : (rp : Rp) (exact free : List Given) → All (HasShares g.shares) exact → All (HasShares g.shares) free →
      All (AreOutputSets g) (events_from rp g exact free)
  of_events_from rp exact free e f =
      let modes = replicate (length g.outputs) (modes_of rp exact free) in
      let P = All (HasShares g.shares) in
      let both : All P (modes_of rp exact free) = of_rp rp in
      let has = All-selections P modes (All-replicate (All P) (length g.outputs) (modes_of rp exact free) both) in
      let long = lengths-selections modes in
      All-flat_map (AreOutputSets g) (events_by g rp (whiches_of rp g)) (selections modes)
      (λ k d m. of_modes rp (whiches_of rp g) (get_or (selections modes) k d) (long k d m ∙ length-replicate (length g.outputs) (modes_of rp exact free)) (has k d m))
    where
      of_rp : (rp : Rp) → All (All (HasShares g.shares)) (modes_of rp exact free)
      of_rp Rpc = All-cons (All (HasShares g.shares)) exact [] e (All-nil (All (HasShares g.shares)))
      of_rp Rpe = All-cons (All (HasShares g.shares)) exact (free ∷ []) e (All-cons (All (HasShares g.shares)) free [] f (All-nil (All (HasShares g.shares))))
