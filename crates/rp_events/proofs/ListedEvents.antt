-- What the code lists is what the task's events are.
use Rattle.std.proofs.Common.{◌≡◌, ℕ, zero, suc, ◌+◌, ◌-◌, ◌≤◌, Bor, Global, List, [], ◌∷◌, map, length, refl, ap, sym, subst, ◌∙◌, arith, append-nil, get_or}
use Rattle.std.specs.Prelude.{flat_map, replicate}
use Rattle.std.specs.List.{All}
use Rattle.std.specs.declared.vec.Vec.{Vec}
use Rattle.std.proofs.lemmas.List.Concat.{flat_map_single}
use Rattle.std.proofs.lemmas.List.Elements.{All-nil, All-cons, All-map, All-weaker, Contains-get_or}
use Rattle.gadget_model.specs.Circuit.{Circuit}
use Rattle.list_laws.proofs.Counts.{map-map}
use Rattle.gadget_tree.proofs.StepsMake.{All-from_map}
use Rattle.tuple_model.specs.Tuples.{IsRising}
use Rattle.tuple_model.proofs.Rising.{IsRisingOfSize-from_member}
use Rattle.wire_table.specs.declared.which.Which.TheVariants.{Any}
use Rattle.rp_events.specs.declared.rp.Rp.{Rp}
use Rattle.rp_events.specs.declared.rp.Rp.TheVariants.{Rpc, Rpe}
use Rattle.rp_events.specs.declared.choices.Choice.{Choice}
use Rattle.rp_events.specs.declared.choices.Choice.TheVariants.{Exactly, AllButOne}
use Rattle.rp_events.specs.Events.{Given, exactly, all_but_one, index_sets, selections, event_with, exact_choices, events_of}
use Rattle.rp_events.specs.Choices.{IsChoice, given_of, events_by, events_from, modes_of}
use Rattle.rp_events.proofs.OutputBits.{HasShares}

pub map-modes_of : {X Y : Type 0} (f : X → Y) (rp : Rp) (exact free : X) → map f (modes_of rp exact free) ≡ modes_of rp (f exact) (f free)
map-modes_of f Rpc exact free = refl
map-modes_of f Rpe exact free = refl

pub All-modes_of : {X : Type 0} (P : X → Type 0) (rp : Rp) (exact free : X) → P exact → P free → All P (modes_of rp exact free)
All-modes_of P Rpc exact free e f = All-cons P exact [] e (All-nil P)
All-modes_of P Rpe exact free e f = All-cons P exact (free ∷ []) e (All-cons P free [] f (All-nil P))

-- of lists of one element each there is one selection
selections-single : {X : Type 0} (x : X) (k : ℕ) → selections (replicate k (x ∷ [])) ≡ replicate k x ∷ []
selections-single x zero = refl
selections-single {X} x (suc k) = ap (λ (rests : List (List X)). flat_map (λ x. map (λ rest. x ∷ rest) rests) (x ∷ [])) (selections-single x k)

pub events_from-are : (rp : Rp) (g : Circuit) (t : ℕ) → events_from rp g (exact_choices g t) (all_but_one ∷ []) ≡ events_of rp g t
unfolding events_of
events_from-are Rpe g t = refl
events_from-are Rpc g t =
    let k = length g.outputs in
    let exact = exact_choices g t in
    ap (flat_map (events_by g Rpc (Any ∷ []))) (selections-single exact k)
    ∙ append-nil (events_by g Rpc (Any ∷ []) (replicate k exact))
    ∙ flat_map_single (λ (given : List Given). event_with g Rpc given Any) (selections (replicate k exact))

-- the sets of indices are of indices of shares
pub index_sets-rise : (n size : ℕ) → All (IsRising 0 n) (index_sets n size)
index_sets-rise n size k d l =
    let set = get_or (index_sets n size) k d in
    let z : 0 + n ≡ n = omega arith in
    subst (λ (high : ℕ). IsRising 0 high set) z (IsRisingOfSize-from_member size n 0 set (Contains-get_or (index_sets n size) k d l)).1

exact_is : (n : ℕ) (choice : Choice) (t : List ℕ) → n ≤ 16 → given_of choice ≡ exactly t → IsRising 0 n t → IsChoice n choice
exact_is n (Exactly indices) t l e r =
    let same : t ≡ indices.now = cc in
    record { few = l; meant = refl; below = All-cons (IsRising 0 n) indices.now [] (subst (IsRising 0 n) same r) (All-nil (IsRising 0 n)) }
exact_is n (AllButOne sets) t l e r = absurd (cc)

-- it gives exactly the indices of a set of shares
abbrev GivesSet : ℕ → Given → Type 0
GivesSet n given = (t : List ℕ) × (given ≡ exactly t) × IsRising 0 n t

pub exact_are : {Z : Type 0} (n : ℕ) (sets : List (Vec ℕ Z)) (choices : List Choice) → n ≤ 16 → map given_of choices ≡ map (λ set. exactly set.items) sets →
    All (IsRising 0 n) (map (λ set. set.items) sets) → All (IsChoice n) choices
exact_are {Z} n sets choices l e r =
    let rise = All-from_map (IsRising 0 n) (λ (set : Vec ℕ Z). set.items) sets r in
    let gives : All (GivesSet n) (map (λ (set : Vec ℕ Z). exactly set.items) sets) =
    All-map (GivesSet n) (λ (set : Vec ℕ Z). exactly set.items) sets (λ k d m. ((get_or sets k d).items, refl, rise k d m)) in
    let has = All-from_map (GivesSet n) given_of choices (subst (All (GivesSet n)) (sym e) gives) in
    All-weaker (λ choice. GivesSet n (given_of choice)) (IsChoice n) (λ choice h. exact_is n choice h.0 l h.1 h.2) choices has

pub all_have_shares : (n : ℕ) (choices : List Choice) → All (IsChoice n) choices → All (HasShares n) (map given_of choices)
all_have_shares n choices h =
    All-map (HasShares n) given_of choices
    (All-weaker (IsChoice n) (λ choice. HasShares n (given_of choice)) (λ choice is. subst (All (IsRising 0 n)) is.meant is.below) choices h)

-- the exact choices that the code makes: what `index_sets` and `exact_choices` say, under the names that they are passed by
pub exact_held : {Z : Type 0} (n shares t : ℕ) (sets held : List (Vec ℕ Z)) (choices passed : List Choice) → n ≤ 16 → shares ≡ n → held ≡ sets →
    map (λ set. set.items) sets ≡ index_sets shares t → map given_of choices ≡ map (λ set. exactly set.items) held → passed ≡ choices →
    All (IsChoice n) passed × (map given_of passed ≡ map exactly (index_sets n t))
exact_held {Z} n shares t sets held choices passed l s h m g p =
    let items = λ (set : Vec ℕ Z). set.items in
    let are : map items held ≡ index_sets n t = ap (map items) h ∙ m ∙ ap (λ (k : ℕ). index_sets k t) s in
    let rise = subst (All (IsRising 0 n)) (sym are) (index_sets-rise n t) in (
      subst (All (IsChoice n)) (sym p) (exact_are n held choices l g rise),
      ap (map given_of) p ∙ g ∙ sym (map-map exactly items (λ (set : Vec ℕ Z). exactly set.items) (λ set. refl) held) ∙ ap (map exactly) are,
    )

pub free_held : (n shares more : ℕ) (sets : List (Vec ℕ Global)) (passed : Bor (List (Vec ℕ Global))) → n ≤ 16 → shares ≡ n → more ≡ n → passed.now ≡ sets →
    map (λ set. set.items) sets ≡ index_sets shares (more - 1) → All (IsChoice n) (AllButOne passed ∷ [])
free_held n shares more sets passed l s r p m =
    let are : map (λ set. set.items) passed.now ≡ index_sets n (n - 1) =
    ap (map (λ (set : Vec ℕ Global). set.items)) p ∙ m ∙ ap (λ (k : ℕ). index_sets k (more - 1)) s ∙ ap (λ (k : ℕ). index_sets n (k - 1)) r in
    All-cons (IsChoice n) (AllButOne passed) [] (record { few = l; meant = are; below = subst (All (IsRising 0 n)) (sym are) (index_sets-rise n (n - 1)) })
    (All-nil (IsChoice n))
