-- The sets of indices that choices mean.
use Rattle.std.proofs.Common.{◌≡◌, ℕ, List, [], ◌∷◌, map, refl, ap, ◌∙◌}
use Rattle.std.specs.List.{All}
use Rattle.std.proofs.lemmas.List.Elements.{All-head, All-tail, All-weaker}
use Rattle.tuple_model.specs.Tuples.{IsRising}
use Rattle.tuple_model.proofs.Rising.{IsRising-to_higher}
use Rattle.wire_table.specs.declared.which.Which.{Which}
use Rattle.rp_events.specs.declared.choices.Choice.{Choice}
use Rattle.rp_events.specs.Events.{Event, chosen}
use Rattle.rp_events.specs.Choices.{AreIndices, IsChoice, given_of, indices_meant}

pub all_meant : (n : ℕ) (given : List Choice) → All (IsChoice n) given → map indices_meant given ≡ map (chosen n) (map given_of given)
all_meant n [] h = refl
all_meant n (choice ∷ given) h =
    let head = (All-head (IsChoice n) choice given h).meant in
    let tail = all_meant n given (All-tail (IsChoice n) choice given h) in
    ap (λ (sets : List (List ℕ)). sets ∷ map indices_meant given) head
    ∙ ap (λ (lists : List (List (List ℕ))). chosen n (given_of choice) ∷ lists) tail

pub all_indices : (n : ℕ) (given : List Choice) → All (IsChoice n) given → All AreIndices given
all_indices n given h =
    All-weaker (IsChoice n) AreIndices
    (λ choice is. All-weaker (IsRising 0 n) (IsRising 0 16) (λ t r. IsRising-to_higher 0 n 16 t is.few r) (indices_meant choice) is.below) given h

pub same_event : (name other : List ℕ) (sets others : List ℕ) (which : Which) → name ≡ other → sets ≡ others →
    ◌≡◌ {A = Event} (record { name = name; sets = sets; which = which }) (record { name = other; sets = others; which = which })
same_event name other sets others which e f =
    ap (λ (n : List ℕ). record { name = n; sets = sets; which = which }) e
    ∙ ap (λ (s : List ℕ). record { name = other; sets = s; which = which }) f
