-- The observation of fewer probes is read off that of more.
use Rattle.std.proofs.Common.{◌≡◌, ℕ, Bool, false, List, [], ◌∷◌, map, get_or, refl, ap, ◌∙◌}
use Rattle.std.specs.Prelude.{Contains}
use Rattle.std.proofs.lemmas.List.{get_or-map}
use Rattle.list_laws.proofs.Members.{Contains-cons_head, Contains-cons_tail}

-- the bits that stand at some places
abbrev pub picked : List ℕ → List Bool → List Bool
picked places bits = map (λ j. get_or bits j false) places

-- places at which the values of the fewer probes stand among those of the probes, whatever the values are
pub places : (probes fewer : List ℕ) → ((v : ℕ) → Contains fewer v → Contains probes v) →
    (js : List ℕ) × ((f : ℕ → Bool) → picked js (map f probes) ≡ map f fewer)
places probes [] h = ([], (λ f. refl))
places probes (v ∷ fewer) h =
    let i = places probes fewer (λ w k. h w (Contains-cons_tail v fewer w k)) in
    let k = h v (Contains-cons_head v fewer) in (
      k.0 ∷ i.0,
      (λ f.
          ap (λ (b : Bool). b ∷ picked i.0 (map f probes)) (get_or-map f probes k.0 v false k.1 ∙ ap f k.2)
          ∙ ap (λ (bs : List Bool). f v ∷ bs) (i.1 f)),
    )
