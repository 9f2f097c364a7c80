-- The sets of wires are all sets of so many wires of the items, each once, and their items are those of the wires.
use Rattle.std.proofs.Common.{◌≡◌, ◌↔◌, ℕ, zero, suc, ◌+◌, ◌-◌, ◌<◌, ◌≤◌, List, map, length, Contains, refl, ap, sym, ◌∙◌, inl, inr, arith, subst}
use Rattle.std.specs.Prelude.{flat_map, slice_index, nat_eq}
use Rattle.std.specs.List.{AllPairs, range_with_len}
use Rattle.std.proofs.lemmas.List.Elements.{All-contains, All-contains_itself, All-weaker, Contains-append_left, Contains-append_right, Contains-append_cases}
use Rattle.std.proofs.lemmas.List.FromFn.{length-range_with_len, get_or-range_with_len}
use Rattle.std.proofs.lemmas.List.Kept.{Contains-dedup_nat, Contains-from_dedup}
use Rattle.std.proofs.lemmas.Bool.{cases_eq}
use Rattle.list_laws.proofs.Members.{Contains-map, Contains-from_map, AllPairs-append, AllPairs-map, AllPairs-weaker}
use Rattle.list_laws.proofs.Once.{Once, Contains-nil}
use Rattle.tuple_model.specs.Tuples.{IsTuple}
use Rattle.wire_counts.specs.Coefficients.{Wire, copies, item_wires, sets_of_size, items_of_wires}
use Rattle.wire_counts.specs.Laws.{IsEarlier, IsWireSet}
use Rattle.wire_counts.proofs.Agreeing.{IsTuple-items}
use Rattle.wire_counts.proofs.Sublists.{length-set_of_size, member-from_set, Once-sets_of_size, AllPairs-set_of_size, set_of_size-from_members}

IsEarlier-one_way : (a b : Wire) → IsEarlier a b → IsEarlier b a → ⊥
IsEarlier-one_way a b (inl h) (inl k) = omega arith
IsEarlier-one_way a b (inl h) (inr k) = let e = k.0 in omega arith
IsEarlier-one_way a b (inr h) (inl k) = let e = h.0 in omega arith
IsEarlier-one_way a b (inr h) (inr k) = let l = h.1 in let m = k.1 in omega arith

-- a number of the range
range-member : (low room i : ℕ) → low ≤ i → i < low + room → Contains (range_with_len low room) i
range-member low room i l m =
    let e : low + (i - low) ≡ i = omega arith in
    (i - low, let n = length-range_with_len low room in omega arith, get_or-range_with_len low room (i - low) i (omega arith) ∙ e)

member-range : (low room i : ℕ) → Contains (range_with_len low room) i → (low ≤ i) × (i < low + room)
member-range low room i h =
    let n = length-range_with_len low room in
    let l = h.1 in
    let e = get_or-range_with_len low room h.0 i (omega arith) in
    let f = h.2 in
    (omega arith, omega arith)

-- the wires of one item
abbrev wire_of : ℕ → ℕ → Wire
wire_of item copy = record { item = item; copy = copy }

copies-ordered : (weight item : ℕ) → AllPairs IsEarlier (copies weight item)
copies-ordered weight item =
    AllPairs-map (λ (a b : ℕ). a < b) IsEarlier (wire_of item) (λ a b l. inr (refl, l)) (range_with_len 0 weight)
    (λ i j d l m.
    let n = length-range_with_len 0 weight in
    let e = get_or-range_with_len 0 weight i d (omega arith) in
    let f = get_or-range_with_len 0 weight j d (omega arith) in
    omega arith)

copy-member : (weight item : ℕ) (wire : Wire) → Contains (copies weight item) wire → (item ≡ wire.item) × (wire.copy < weight)
copy-member weight item wire h =
    let r = Contains-from_map (wire_of item) (range_with_len 0 weight) wire h in
    let m = member-range 0 weight r.0 r.1 in
    let e = ap (λ (w : Wire). w.copy) r.2 in
    (ap (λ (w : Wire). w.item) r.2, omega arith)

member-copy : (weight : ℕ) (wire : Wire) → wire.copy < weight → Contains (copies weight wire.item) wire
member-copy weight wire l =
    Contains-map (wire_of wire.item) (range_with_len 0 weight) wire.copy (range-member 0 weight wire.copy (omega arith) (omega arith))

-- the wires of the items from low on
abbrev wires_from : (ℕ → ℕ) → ℕ → ℕ → List Wire
wires_from weight room low = flat_map (λ item. copies (weight item) item) (range_with_len low room)

wire-member : (weight : ℕ → ℕ) (room low : ℕ) (wire : Wire) → Contains (wires_from weight room low) wire →
    (low ≤ wire.item) × (wire.item < low + room) × (wire.copy < weight wire.item)
wire-member weight zero low wire h = absurd (Contains-nil wire h)
wire-member weight (suc room) low wire h = elim (Contains-append_cases (copies (weight low) low) (wires_from weight room (low + 1)) wire h) [
  | inl k ↦
      let r = copy-member (weight low) low wire k in
      let e = r.0 in
      (omega arith, omega arith, subst (λ (n : ℕ). wire.copy < weight n) e r.1)
  | inr k ↦ let r = wire-member weight room (low + 1) wire k in (omega arith, omega arith, r.2)
]

member-wire : (weight : ℕ → ℕ) (room low : ℕ) (wire : Wire) → low ≤ wire.item → wire.item < low + room → wire.copy < weight wire.item →
    Contains (wires_from weight room low) wire
member-wire weight zero low wire l m c = absurd (omega arith)
member-wire weight (suc room) low wire l m c = elim (cases_eq wire.item low) [
  | inl same ↦ Contains-append_left (copies (weight low) low) (wires_from weight room (low + 1)) wire
      (subst (λ (n : ℕ). Contains (copies (weight n) n) wire) same (member-copy (weight wire.item) wire c))
  | inr other ↦ Contains-append_right (copies (weight low) low) (wires_from weight room (low + 1)) wire
      (member-wire weight room (low + 1) wire (let n : low < wire.item = omega arith in omega arith) (omega arith) c)
]

wires-ordered : (weight : ℕ → ℕ) (room low : ℕ) → AllPairs IsEarlier (wires_from weight room low)
wires-ordered weight zero low = λ i j d l m. absurd (omega arith)
wires-ordered weight (suc room) low =
    AllPairs-append IsEarlier (copies (weight low) low) (wires_from weight room (low + 1)) (copies-ordered (weight low) low) (wires-ordered weight room (low + 1))
    (λ a b h k.
    let e = (copy-member (weight low) low a h).0 in
    let l = (wire-member weight room (low + 1) b k).0 in
    inl (omega arith))

module _ (weights : List ℕ) where
  abbrev IsWire : Wire → Type 0
  IsWire wire = (wire.item < length weights) × (wire.copy < slice_index weights wire.item)

  item_wires-ordered : AllPairs IsEarlier (item_wires weights)
  item_wires-ordered = wires-ordered (slice_index weights) (length weights) 0

  IsWireSet-from_member : (i : ℕ) (set : List Wire) → Contains (sets_of_size i (item_wires weights)) set → IsWireSet weights i set
  IsWireSet-from_member i set k = record {
    count = length-set_of_size i (item_wires weights) set k;
    wires = All-weaker (Contains set) IsWire
        (λ wire h. let r = wire-member (slice_index weights) (length weights) 0 wire (member-from_set i (item_wires weights) set k wire h) in (omega arith, r.2))
        set (All-contains_itself set);
    rising = AllPairs-set_of_size IsEarlier i (item_wires weights) set item_wires-ordered k;
  }

  member-from_IsWireSet : (i : ℕ) (set : List Wire) → IsWireSet weights i set → Contains (sets_of_size i (item_wires weights)) set
  member-from_IsWireSet i set h =
      set_of_size-from_members IsEarlier IsEarlier-one_way i (item_wires weights) set item_wires-ordered h.rising h.count
      (λ wire k.
      let r = All-contains IsWire set wire h.wires k in
      member-wire (slice_index weights) (length weights) 0 wire (omega arith) (let l = r.0 in omega arith) r.1)

  pub wire_sets-all : (i : ℕ) (set : List Wire) → Contains (sets_of_size i (item_wires weights)) set ↔ IsWireSet weights i set
  wire_sets-all i set = (IsWireSet-from_member i set, member-from_IsWireSet i set)

  pub wire_sets-once : (i : ℕ) → Once (sets_of_size i (item_wires weights))
  wire_sets-once i =
      Once-sets_of_size i (item_wires weights)
      (AllPairs-weaker IsEarlier (λ (a b : Wire). a ≡ b → ⊥) (item_wires weights)
      (λ a b k l h e. let r = subst (IsEarlier a) (sym e) h in IsEarlier-one_way a a r r) item_wires-ordered)

  pub IsTuple-from_IsWireSet : (i : ℕ) (set : List Wire) → IsWireSet weights i set → IsTuple (length weights) i (items_of_wires set)
  IsTuple-from_IsWireSet i set h = IsTuple-items weights i set (member-from_IsWireSet i set h)

pub items-members : (set : List Wire) (item : ℕ) → Contains (items_of_wires set) item ↔ Contains (map (λ wire. wire.item) set) item
items-members set item = (Contains-from_dedup nat_eq (map (λ wire. wire.item) set) item, Contains-dedup_nat (map (λ wire. wire.item) set) item)
