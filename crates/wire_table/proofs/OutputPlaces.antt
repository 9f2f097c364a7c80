-- Which share of an output a variable is, by its place among them.
use Rattle.std.proofs.Common.{◌≡◌, ◌≢◌, ◌+◌, ◌*◌, ◌%◌, ◌<◌, ◌≤◌, ℕ, Bool, true, false, not, eqb, cond, List, length, get_or, refl, ap, sym, ◌∙◌, subst, inl, inr, arith, Contains, Option, Some, None}
use Rattle.std.specs.Prelude.{option_map, is_none, is_some}
use Rattle.std.specs.List.{position, position_or_len}
use Rattle.std.proofs.lemmas.Bool.{eqb-true, eq-eqb, ne_eqb, cases_lt, lt-ltb, le-ltb, false≢true}
use Rattle.std.proofs.lemmas.Option.{none-some, same_Some}
use Rattle.std.proofs.lemmas.Nat.{mod-mul-add, mul-add-lt}
use Rattle.std.proofs.Math.Nat.{mul_comm, mod-lt}
use Rattle.std.proofs.lemmas.List.Elements.{Contains-get_or}
use Rattle.std.proofs.lemmas.List.Sums.{position_or_len_is, fails_before_first, passes_at_first}
use Rattle.gadget_model.specs.Circuit.{Circuit}
use Rattle.gadget_tree.specs.Gadgets.{IsGadget, IsOutOf}
use Rattle.wire_table.specs.Items.{output_index}

-- the first place at which a number stands in a list
abbrev place_of_number : ℕ → List ℕ → ℕ
place_of_number v xs = position_or_len (λ x. eqb x v) xs

-- the index, by the first place
index-at : (shares v : ℕ) (xs : List ℕ) → place_of_number v xs < length xs →
    option_map (λ place. place % shares) (position (λ x. eqb x v) xs) ≡ Some (place_of_number v xs % shares)
index-at shares v xs l =
    ap (λ (b : Bool). option_map (λ (place : ℕ). place % shares) (cond b (Some (place_of_number v xs)) None)) (lt-ltb (place_of_number v xs) (length xs) l)

index-past : (shares v : ℕ) (xs : List ℕ) → length xs ≤ place_of_number v xs → option_map (λ place. place % shares) (position (λ x. eqb x v) xs) ≡ None
index-past shares v xs l =
    ap (λ (b : Bool). option_map (λ (place : ℕ). place % shares) (cond b (Some (place_of_number v xs)) None)) (le-ltb (place_of_number v xs) (length xs) l)

-- a member has a place
place-within : (v : ℕ) (xs : List ℕ) → Contains xs v → place_of_number v xs < length xs
place-within v xs h = elim (cases_lt h.0 (place_of_number v xs)) [
  | inl before ↦ absurd (false≢true (sym (fails_before_first (λ x. eqb x v) xs h.0 v before) ∙ eq-eqb (get_or xs h.0 v) v h.2))
  | inr from ↦ let l = h.1 in omega arith
]

-- what has a place is a member
Contains-at_place : (v : ℕ) (xs : List ℕ) → place_of_number v xs < length xs → Contains xs v
Contains-at_place v xs l =
    subst (Contains xs) (eqb-true (get_or xs (place_of_number v xs) 0) v (passes_at_first (λ x. eqb x v) xs 0 l)) (Contains-get_or xs (place_of_number v xs) 0 l)

-- a variable with no index is no share of an output
pub not_output-from_None : (g : Circuit) (v : ℕ) → output_index g v ≡ None → Contains g.output_shares v → ⊥
not_output-from_None g v none h =
    let xs = g.output_shares in
    none-some (place_of_number v xs % g.shares) (sym none ∙ index-at g.shares v xs (place-within v xs h))

-- an index is one of a share
pub index-lt : (g : Circuit) (v index : ℕ) → 1 ≤ g.shares → output_index g v ≡ Some index → index < g.shares
index-lt g v index some e =
    let xs = g.output_shares in
    elim (cases_lt (place_of_number v xs) (length xs)) [
      | inl l ↦ let s = same_Some (place_of_number v xs % g.shares) index (sym (index-at g.shares v xs l) ∙ e) in let m = mod-lt (place_of_number v xs) {m = g.shares} (omega arith) in omega arith
      | inr l ↦ absurd (none-some index (sym (index-past g.shares v xs l) ∙ e))
    ]

-- the place of a share of an output
place-is : (xs : List ℕ) (v place : ℕ) → ((i j d : ℕ) → i < j → j < length xs → get_or xs i d ≢ get_or xs j d) → place < length xs →
    get_or xs place 0 ≡ v → place_of_number v xs ≡ place
place-is xs v place once l e =
    position_or_len_is (λ x. eqb x v) xs place 0 (omega arith) (λ k m. ne_eqb (get_or xs k 0) v (λ h. once k place 0 m l (h ∙ sym e)))
    (λ m. eq-eqb (get_or xs place 0) v e)

pub place-lt : (shares outputs output index n : ℕ) → n ≡ outputs * shares → output < outputs → index < shares → shares * output + index < n
place-lt shares outputs output index n e l m =
    let a = mul-add-lt output shares index outputs l m in
    let b = mul_comm shares output in
    let c = mul_comm outputs shares in
    omega arith

-- what the gadget answers has the index
pub output_index-from_IsOutOf : (g : Circuit) → IsGadget g → (v : ℕ) (r : Option (ℕ × ℕ)) → IsOutOf g v r → option_map (λ o. o.1) r ≡ output_index g v
output_index-from_IsOutOf g h v None out =
    let xs = g.output_shares in
    elim (cases_lt (place_of_number v xs) (length xs)) [
      | inl l ↦ absurd (out (Contains-at_place v xs l))
      | inr l ↦ sym (index-past g.shares v xs l)
    ]
output_index-from_IsOutOf g h v (Some (output, index)) out =
    let xs = g.output_shares in
    let place : ℕ = g.shares * output + index in
    let within : place < length xs = place-lt g.shares (length g.outputs) output index (length xs) h.all_outputs out.0 out.1 in
    let is = place-is xs v place h.distinct_outputs within out.2 in
    let m : place % g.shares ≡ index = ap (λ (n : ℕ). (n + index) % g.shares) (mul_comm g.shares output) ∙ mod-mul-add output g.shares index out.1 in
    sym (index-at g.shares v xs (omega arith) ∙ ap (λ (n : ℕ). Some (n % g.shares)) is ∙ ap Some m)

-- none stays none
none_by_map : (r : Option (ℕ × ℕ)) (b : Bool) → is_some r ≡ not b → is_none (option_map (λ o. o.1) r) ≡ b
none_by_map None true e = refl
none_by_map None false e = cc
none_by_map (Some o) true e = cc
none_by_map (Some o) false e = refl

-- whether it answers none
pub is_inner : (g : Circuit) → IsGadget g → (v : ℕ) (r : Option (ℕ × ℕ)) (b : Bool) → IsOutOf g v r → is_some r ≡ not b → is_none (output_index g v) ≡ b
is_inner g h v r b out e = ap is_none (sym (output_index-from_IsOutOf g h v r out)) ∙ none_by_map r b e

-- some stays some
some_by_map : (r : Option (ℕ × ℕ)) → is_some (option_map (λ o. o.1) r) ≡ is_some r
some_by_map None = refl
some_by_map (Some o) = refl

-- whether it answers some
pub is_output : (g : Circuit) → IsGadget g → (v : ℕ) (r : Option (ℕ × ℕ)) → IsOutOf g v r → is_some (output_index g v) ≡ is_some r
is_output g h v r out = ap is_some (sym (output_index-from_IsOutOf g h v r out)) ∙ some_by_map r
