-- Sets of shares as sums of powers of 2.
use Rattle.std.proofs.Common.{◌≡◌, ℕ, suc, ◌+◌, ◌*◌, ◌^◌, ◌<◌, ◌≤◌, List, [], ◌∷◌, ◌++◌, map, length, refl, ap, sym, ◌∙◌, arith, pow_mono, ◌%◌, get_or, drop, drop_of_length-le}
use Rattle.std.specs.Prelude.{flat_map}
use Rattle.std.specs.List.{All}
use Rattle.std.proofs.Math.Nat.{pow-suc}
use Rattle.std.proofs.Math.Seq.{drop-cons}
use Rattle.std.proofs.Math.ListN.{length-map}
use Rattle.std.proofs.lemmas.Nat.{one_shl}
use Rattle.std.proofs.Math.Pow.{pow_pos}
use Rattle.std.proofs.lemmas.List.Sums.{sum_by-cons}
use Rattle.std.proofs.lemmas.List.{map-append}
use Rattle.std.proofs.lemmas.Grind.{flat_map-append}
use Rattle.std.proofs.lemmas.List.Elements.{All-nil, All-cons, All-get_or, All-append, All-map, All-head, All-tail}
use Rattle.list_laws.proofs.Counts.{map-map}
use Rattle.tuple_model.specs.Tuples.{IsRising}
use Rattle.rp_events.specs.Events.{selections, set_from}
use Rattle.rp_events.specs.Choices.{shares_at}
use Rattle.rp_events.proofs.ListSteps.{drop-map-next}

pub shares_at-cons : (output index : ℕ) (indices : List ℕ) → shares_at output (index ∷ indices) ≡ 2 ^ (16 * output + index) + shares_at output indices
shares_at-cons output index indices = sum_by-cons (λ (x : ℕ). x) (2 ^ (16 * output + index)) (map (λ index. 2 ^ (16 * output + index)) indices)

pub IsRising-below : (low high : ℕ) (t : List ℕ) → IsRising low high t → All (λ x. x < high) t
IsRising-below low high [] r = All-nil (λ x. x < high)
IsRising-below low high (x ∷ t) r = All-cons (λ y. y < high) x t r.1 (IsRising-below (suc x) high t r.2)

-- indices from `low` on and below `high` make a sum that leaves room for one at `low` more
pub shares_at-room : (output low high : ℕ) (t : List ℕ) → IsRising low high t → low ≤ high →
    shares_at output t + 2 ^ (16 * output + low) ≤ 2 ^ (16 * output + high)
shares_at-room output low high [] r l =
    let p : 2 ^ (16 * output + low) ≤ 2 ^ (16 * output + high) = pow_mono (let k : 16 * output + low ≤ 16 * output + high = omega arith in k) in
    omega arith
shares_at-room output low high (x ∷ t) r l =
    let i = shares_at-room output (suc x) high t r.2 (omega arith) in
    let e : 16 * output + suc x ≡ suc (16 * output + x) = omega arith in
    let p = ap (λ (n : ℕ). 2 ^ n) e ∙ pow-suc 2 (16 * output + x) in
    let q : 2 ^ (16 * output + low) ≤ 2 ^ (16 * output + x) = pow_mono (let k : 16 * output + low ≤ 16 * output + x = omega arith in k) in
    let c = shares_at-cons output x t in
    omega arith

pub shares_at-below : (output high : ℕ) (t : List ℕ) → IsRising 0 high t → high ≤ 16 → shares_at output t + 2 ^ (16 * output) ≤ 2 ^ (16 * output + high)
shares_at-below output high t r l =
    let a = shares_at-room output 0 high t r (omega arith) in
    let e : 16 * output + 0 ≡ 16 * output = omega arith in
    let p = ap (λ (n : ℕ). 2 ^ n) e in
    omega arith

-- one index more: the shift and the sum fit
pub record FitsNext (output index shares i : ℕ) (indices : List ℕ) : Type 0 where
  pub shift : 16 * output + index < 32
  pub sum : shares + (1 * 2 ^ (16 * output + index)) % 4294967296 < 4294967296
  pub next : shares + (1 * 2 ^ (16 * output + index)) % 4294967296 + shares_at output (drop (i + 1) indices) ≡ shares_at output indices

pub fits_next : (output index shares i : ℕ) (indices : List ℕ) → output < 2 → i < length indices → IsRising 0 16 indices → index ≡ get_or indices i 0 →
    shares + shares_at output (drop i indices) ≡ shares_at output indices → FitsNext output index shares i indices
fits_next output index shares i indices o l r e known =
    let x = get_or indices i 0 in
    let small : x < 16 = All-get_or (λ x. x < 16) indices i 0 l (IsRising-below 0 16 indices r) in
    let shift : 16 * output + index < 32 = omega arith in
    let whole : (1 * 2 ^ (16 * output + index)) % 4294967296 ≡ 2 ^ (16 * output + index) = one_shl (16 * output + index) 32 shift in
    let cut = ap (shares_at output) (drop-cons indices i 0 l) ∙ shares_at-cons output x (drop (suc i) indices) in
    let power = ap (λ (n : ℕ). 2 ^ (16 * output + n)) e in
    let s : suc i ≡ i + 1 = omega arith in
    let rest = ap (λ (n : ℕ). shares_at output (drop n indices)) s in
    let room = shares_at-below output 16 indices r (omega arith) in
    let top : 2 ^ (16 * output + 16) ≤ 2 ^ 32 = pow_mono (let k : 16 * output + 16 ≤ 32 = omega arith in k) in
    let low : 0 < 2 ^ (16 * output) = pow_pos (16 * output) in
    record { shift = shift; sum = omega arith; next = omega arith }

joined_below : (output set : ℕ) (choices : List (List ℕ)) → set < 2 ^ (16 * output) → All (IsRising 0 16) choices →
    All (λ n. n < 2 ^ (16 * (output + 1))) (map (λ indices. set + shares_at output indices) choices)
joined_below output set choices l h =
    All-map (λ n. n < 2 ^ (16 * (output + 1))) (λ (indices : List ℕ). set + shares_at output indices) choices
    (λ k d m.
    let b = shares_at-below output 16 (get_or choices k d) (h k d m) (omega arith) in
    let e : 16 * output + 16 ≡ 16 * (output + 1) = omega arith in
    let p = ap (λ (n : ℕ). 2 ^ n) e in
    omega arith)

pub all_joined_below : (output : ℕ) (sets : List ℕ) (choices : List (List ℕ)) → All (λ set. set < 2 ^ (16 * output)) sets → All (IsRising 0 16) choices →
    All (λ n. n < 2 ^ (16 * (output + 1))) (flat_map (λ set. map (λ indices. set + shares_at output indices) choices) sets)
all_joined_below output [] choices b h = All-nil (λ n. n < 2 ^ (16 * (output + 1)))
all_joined_below output (set ∷ sets) choices b h =
    All-append (λ n. n < 2 ^ (16 * (output + 1))) (map (λ indices. set + shares_at output indices) choices)
    (flat_map (λ set. map (λ indices. set + shares_at output indices) choices) sets)
    (joined_below output set choices (All-head (λ set. set < 2 ^ (16 * output)) set sets b) h)
    (all_joined_below output sets choices (All-tail (λ set. set < 2 ^ (16 * output)) set sets b) h)

-- what comes of these sets, where one set of indices of each further output joins each
abbrev pub sets_from_here : ℕ → List ℕ → List (List (List ℕ)) → List ℕ
sets_from_here output sets lists = flat_map (λ set. map (λ rest. set + set_from output rest) (selections lists)) sets

join_next : (output set : ℕ) (choices : List (List ℕ)) (rests : List (List (List ℕ))) →
    map (λ rest. set + set_from output rest) (flat_map (λ indices. map (λ others. indices ∷ others) rests) choices)
    ≡ flat_map (λ joined. map (λ rest. joined + set_from (output + 1) rest) rests) (map (λ indices. set + shares_at output indices) choices)
join_next output set [] rests = refl
join_next output set (indices ∷ choices) rests =
    let f = λ (rest : List (List ℕ)). set + set_from output rest in
    let front = map (λ (others : List (List ℕ)). indices ∷ others) rests in
    let back = flat_map (λ (indices : List ℕ). map (λ (others : List (List ℕ)). indices ∷ others) rests) choices in
    map-append f front back
    ∙ ap (λ (ys : List ℕ). ys ++ map f back)
    (map-map f (λ (others : List (List ℕ)). indices ∷ others) (λ (rest : List (List ℕ)). set + shares_at output indices + set_from (output + 1) rest)
    (λ rest. omega arith) rests)
    ∙ ap (λ (ys : List ℕ). map (λ (rest : List (List ℕ)). set + shares_at output indices + set_from (output + 1) rest) rests ++ ys) (join_next output set choices rests)

pub sets_from_here-next : (output : ℕ) (sets : List ℕ) (choices : List (List ℕ)) (lists : List (List (List ℕ))) →
    sets_from_here output sets (choices ∷ lists)
    ≡ sets_from_here (output + 1) (flat_map (λ set. map (λ indices. set + shares_at output indices) choices) sets) lists
sets_from_here-next output [] choices lists = refl
sets_from_here-next output (set ∷ sets) choices lists =
    let joined = λ (set : ℕ). map (λ (indices : List ℕ). set + shares_at output indices) choices in
    let go = λ (set : ℕ). map (λ (rest : List (List ℕ)). set + set_from (output + 1) rest) (selections lists) in
    ap (λ (ys : List ℕ). ys ++ sets_from_here output sets (choices ∷ lists)) (join_next output set choices (selections lists))
    ∙ ap (λ (ys : List ℕ). flat_map go (joined set) ++ ys) (sets_from_here-next output sets choices lists)
    ∙ sym (flat_map-append go (joined set) (flat_map joined sets))

pub sets_from_here-end : (output : ℕ) (sets : List ℕ) → sets_from_here output sets [] ≡ sets
sets_from_here-end output [] = refl
sets_from_here-end output (set ∷ sets) =
    let e : set + 0 ≡ set = omega arith in
    ap (λ (n : ℕ). n ∷ sets_from_here output sets []) e ∙ ap (λ (ys : List ℕ). set ∷ ys) (sets_from_here-end output sets)

module _ {C : Type 0} (meant : C → List (List ℕ)) (given : List C) where
  pub sets_next : (output : ℕ) (choice : C) (before held after whole : List ℕ) → output < length given → choice ≡ get_or given output choice → held ≡ before →
      after ≡ flat_map (λ set. map (λ indices. set + shares_at output indices) (meant choice)) held →
      sets_from_here output before (drop output (map meant given)) ≡ whole → sets_from_here (output + 1) after (drop (output + 1) (map meant given)) ≡ whole
  sets_next output choice before held after whole l e h a known =
      let rest = drop (output + 1) (map meant given) in
      let joined = λ (sets : List ℕ). flat_map (λ set. map (λ indices. set + shares_at output indices) (meant choice)) sets in
      ap (λ (sets : List ℕ). sets_from_here (output + 1) sets rest) (a ∙ ap joined h)
      ∙ sym (sets_from_here-next output before (meant choice) rest)
      ∙ ap (sets_from_here output before) (sym (drop-map-next meant given output choice l e)) ∙ known

  pub sets_end : (output : ℕ) (sets whole : List ℕ) → length given ≤ output → sets_from_here output sets (drop output (map meant given)) ≡ whole → sets ≡ whole
  sets_end output sets whole l known =
      sym (sets_from_here-end output sets)
      ∙ ap (sets_from_here output sets) (sym (drop_of_length-le (map meant given) {i = output} (omega (arith, length-map given meant)))) ∙ known
