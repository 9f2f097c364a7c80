-- The elements that a choice takes of a list.
use Rattle.std.proofs.Common.{◌≡◌, ℕ, zero, suc, ◌<◌, Bool, true, false, List, [], ◌∷◌, map, length, get_or, refl, ap, inl, inr, arith, Contains}
use Rattle.std.specs.List.{All, AllPairs}
use Rattle.std.proofs.lemmas.List.Elements.{All-cons, All-head, All-tail}
use Rattle.std.proofs.lemmas.List.Kept.{AllPairs-cons}
use Rattle.list_laws.proofs.Members.{Contains-cons_head, Contains-cons_tail, Contains-cons_cases, AllPairs-head, AllPairs-tail}
use Rattle.gadget_model.specs.Bits.{add}
use Rattle.gadget_model.specs.Polynomials.{set_product, polynomial_value}
use Rattle.bit_lists.specs.BitLists.{chosen_sum}

-- the elements at the places where the choice is true, in order
abbrev pub chosen : List Bool → List ℕ → List ℕ
chosen [] sets = []
chosen (taken ∷ choice) [] = []
chosen (true ∷ choice) (set ∷ sets) = set ∷ chosen choice sets
chosen (false ∷ choice) (set ∷ sets) = chosen choice sets

-- the sum of the chosen products is the value of the polynomial of the chosen sets
pub chosen_sum-products : (n : ℕ) (choice : List Bool) (sets : List ℕ) (x : ℕ → Bool) →
    chosen_sum choice (map (λ set. set_product n set x) sets) ≡ polynomial_value n (chosen choice sets) x
chosen_sum-products n [] sets x = refl
chosen_sum-products n (taken ∷ choice) [] x = refl
chosen_sum-products n (true ∷ choice) (set ∷ sets) x = ap (add (set_product n set x)) (chosen_sum-products n choice sets x)
chosen_sum-products n (false ∷ choice) (set ∷ sets) x = chosen_sum-products n choice sets x

-- an element at a place that is taken is chosen
pub Contains-chosen : (choice : List Bool) (sets : List ℕ) (j : ℕ) → j < length sets → get_or choice j false ≡ true → Contains (chosen choice sets) (get_or sets j 0)
Contains-chosen [] sets j l e = cc
Contains-chosen (taken ∷ choice) [] j l e = absurd (omega arith)
Contains-chosen (true ∷ choice) (set ∷ sets) zero l e = Contains-cons_head set (chosen choice sets)
Contains-chosen (true ∷ choice) (set ∷ sets) (suc j) l e = Contains-cons_tail set (chosen choice sets) (get_or sets j 0) (Contains-chosen choice sets j (omega arith) e)
Contains-chosen (false ∷ choice) (set ∷ sets) zero l e = cc
Contains-chosen (false ∷ choice) (set ∷ sets) (suc j) l e = Contains-chosen choice sets j (omega arith) e

-- an element stands at a place that is taken
abbrev pub IsTaken : List Bool → List ℕ → ℕ → Type 0
IsTaken choice sets set = (j : ℕ) × (j < length sets) × (get_or choice j false ≡ true) × (get_or sets j 0 ≡ set)

-- each chosen element is taken
pub taken_from_chosen : (choice : List Bool) (sets : List ℕ) (set : ℕ) → Contains (chosen choice sets) set → IsTaken choice sets set
taken_from_chosen [] sets set among = absurd (omega arith)
taken_from_chosen (taken ∷ choice) [] set among = absurd (omega arith)
taken_from_chosen (true ∷ choice) (first ∷ sets) set among = elim (Contains-cons_cases first (chosen choice sets) set among) [
  | inl e ↦ (0, omega arith, refl, e)
  | inr later ↦ let t = taken_from_chosen choice sets set later in (suc t.0, omega arith, t.2, t.3)
]
taken_from_chosen (false ∷ choice) (first ∷ sets) set among = let t = taken_from_chosen choice sets set among in (suc t.0, omega arith, t.2, t.3)

-- what holds of all elements holds of the chosen ones
pub All-chosen : (P : ℕ → Type 0) (choice : List Bool) (sets : List ℕ) → All P sets → All P (chosen choice sets)
All-chosen P [] sets all = λ k d l. absurd (omega arith)
All-chosen P (taken ∷ choice) [] all = λ k d l. absurd (omega arith)
All-chosen P (true ∷ choice) (set ∷ sets) all = All-cons P set (chosen choice sets) (All-head P set sets all) (All-chosen P choice sets (All-tail P set sets all))
All-chosen P (false ∷ choice) (set ∷ sets) all = All-chosen P choice sets (All-tail P set sets all)

-- what holds of each pair holds of each pair of chosen ones
pub AllPairs-chosen : (R : ℕ → ℕ → Type 0) (choice : List Bool) (sets : List ℕ) → AllPairs R sets → AllPairs R (chosen choice sets)
AllPairs-chosen R [] sets all = λ i j d l m. absurd (omega arith)
AllPairs-chosen R (taken ∷ choice) [] all = λ i j d l m. absurd (omega arith)
AllPairs-chosen R (true ∷ choice) (set ∷ sets) all =
    AllPairs-cons R set (chosen choice sets) (All-chosen (R set) choice sets (AllPairs-head R set sets all)) (AllPairs-chosen R choice sets (AllPairs-tail R set sets all))
AllPairs-chosen R (false ∷ choice) (set ∷ sets) all = AllPairs-chosen R choice sets (AllPairs-tail R set sets all)
