-- Events ask about inputs that there may be, and so they are of their gadget.
use Rattle.std.proofs.Common.{◌≡◌, ℕ, eqb, List, [], ◌∷◌, map, length, subst, sym, arith}
use Rattle.std.specs.Prelude.{flat_map, replicate}
use Rattle.std.specs.List.{All}
use Rattle.std.proofs.lemmas.Bool.{cond_both}
use Rattle.std.proofs.lemmas.List.Elements.{All-append, All-cons, All-nil, All-map}
use Rattle.gadget_model.specs.Circuit.{Circuit}
use Rattle.wire_table.specs.declared.which.Which.{Which}
use Rattle.wire_table.specs.declared.which.Which.TheVariants.{Any, Input, Both}
use Rattle.rp_events.specs.declared.rp.Rp.{Rp}
use Rattle.rp_events.specs.declared.rp.Rp.TheVariants.{Rpc, Rpe}
use Rattle.rp_events.specs.Events.{Event, event_with, events_of, exact_choices, mode_choices, selections, whiches}
use Rattle.rp_events.specs.Questions.{IsEventOf, IsSmallWhich, AreOutputSets}

-- what holds of all parts holds of them joined
All-flat_map : {X Y : Type 0} (P : Y → Type 0) (f : X → List Y) → ((x : X) → All P (f x)) → (xs : List X) → All P (flat_map f xs)
All-flat_map P f each [] = All-nil P
All-flat_map P f each (x ∷ xs) = All-append P (f x) (flat_map f xs) (each x) (All-flat_map P f each xs)

small_whiches : (g : Circuit) → All IsSmallWhich (whiches g)
small_whiches g =
    let P : List Which → Type 0 = λ ws. All IsSmallWhich ws in
    cond_both (eqb (length g.inputs) 1) (Input 0 ∷ []) (Input 0 ∷ Input 1 ∷ Both ∷ []) P
    (λ one. All-cons IsSmallWhich (Input 0) [] (omega arith) (All-nil IsSmallWhich))
    (λ more. All-cons IsSmallWhich (Input 0) (Input 1 ∷ Both ∷ []) (omega arith)
    (All-cons IsSmallWhich (Input 1) (Both ∷ []) (omega arith) (All-cons IsSmallWhich Both [] tt (All-nil IsSmallWhich))))

events_of-small : (rp : Rp) (g : Circuit) (t : ℕ) → All (λ event. IsSmallWhich event.which) (events_of rp g t)
unfolding events_of
events_of-small Rpc g t =
    All-map (λ event. IsSmallWhich event.which) (λ given. event_with g Rpc given Any) (selections (replicate (length g.outputs) (exact_choices g t))) (λ k d l. tt)
events_of-small Rpe g t =
    let P : Event → Type 0 = λ event. IsSmallWhich event.which in
    All-flat_map P (λ modes. flat_map (λ given. map (event_with g Rpe given) (whiches g)) (selections modes))
    (λ modes. All-flat_map P (λ given. map (event_with g Rpe given) (whiches g)) (λ given. All-map P (event_with g Rpe given) (whiches g) (small_whiches g)) (selections modes))
    (selections (replicate (length g.outputs) (mode_choices g t)))

-- events whose sets are of output shares are of the gadget
pub all_of_gadget : (rp : Rp) (g : Circuit) (t : ℕ) (events : List Event) → events ≡ events_of rp g t → All (AreOutputSets g) events → All (IsEventOf g) events
all_of_gadget rp g t events are outputs =
    let small = subst (All (λ (event : Event). IsSmallWhich event.which)) (sym are) (events_of-small rp g t) in
    λ k d l. record { outputs = outputs k d l; which = small k d l }
