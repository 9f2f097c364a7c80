-- The output shares of a file that misses none.
use Rattle.std.proofs.Common.{◌≡◌, ◌≢◌, ◌<◌, ◌+◌, ℕ, Bool, true, false, cond, not, ◌&&◌, List, [], ◌∷◌, ◌++◌, map, length, Option, Some, None, Ok, refl, sym, ap, ◌∙◌, Contains}
use Rattle.std.specs.Prelude.{All, AllPairs, option_map}
use Rattle.std.specs.List.{list_all, find, range_with_len}
use Rattle.std.proofs.lemmas.Bool.{and_parts}
use Rattle.std.proofs.lemmas.List.{map-append}
use Rattle.std.proofs.lemmas.List.Elements.{All-nil, All-cons, All-contains}
use Rattle.std.proofs.lemmas.List.Sums.{AllPass-from_list_all}
use Rattle.list_laws.proofs.Counts.{map-map}
use Rattle.list_laws.proofs.Members.{AllPairs-map, AllPairs-weaker}
use Rattle.gadget_model.specs.Circuit.{Variable, Circuit}
use Rattle.gadget_text.specs.Errors.{refuse_found, ◌>>◌}
use Rattle.gadget_headers.specs.Headers.{Preamble}
use Rattle.gadget_tree.specs.Variables.{share_name, share_names, names_of, name_at, is_among, place_of, AreDistinct}
use Rattle.gadget_tree.specs.File.{OutputShare, output_share, output_shares_from, flat_gadget, offence_of, first_missing, with_outputs}
use Rattle.gadget_tree.proofs.Names.{place_of_variable, name_at-place_of, place_once}

-- the name of a share
abbrev name_of : OutputShare → List ℕ
name_of share = share.name

-- the names of the output shares
names-output_shares_from : (n k : ℕ) (stems : List (List ℕ)) → map name_of (output_shares_from n k stems) ≡ share_names n stems
names-output_shares_from n k [] = refl
names-output_shares_from n k (stem ∷ stems) =
    map-append name_of (map (output_share k stem) (range_with_len 0 n)) (output_shares_from n (k + 1) stems)
    ∙ ap (λ (z : List (List ℕ)). z ++ map name_of (output_shares_from n (k + 1) stems)) (map-map name_of (output_share k stem) (share_name stem) (λ i. refl) (range_with_len 0 n))
    ∙ ap (λ (z : List (List ℕ)). map (share_name stem) (range_with_len 0 n) ++ z) (names-output_shares_from n (k + 1) stems)

-- where no share is missing, all names stand
none_missing : (names : List (List ℕ)) (shares : List OutputShare) → find (λ share. not (is_among names share.name)) shares ≡ None → list_all (is_among names) (map name_of shares) ≡ true
none_missing names [] e = refl
none_missing names (share ∷ shares) e = by_cases (is_among names share.name) e (none_missing names shares) where
  by_cases : (b : Bool) → cond (not b) (Some share) (find (λ s. not (is_among names s.name)) shares) ≡ None →
      (find (λ s. not (is_among names s.name)) shares ≡ None → list_all (is_among names) (map name_of shares) ≡ true) → b && list_all (is_among names) (map name_of shares) ≡ true
  by_cases true f ih = ih f
  by_cases false f ih = absurd cc

completed : (h : Preamble) (variables : List Variable) (g : Circuit) (o : Option OutputShare) → (refuse_found (option_map offence_of o) >> Ok (flat_gadget h variables)) ≡ Ok g → (o ≡ None) × (g ≡ flat_gadget h variables)
completed h variables g None e = (refl, let f = e in cc)
completed h variables g (Some share) e = absurd cc

-- the gadget at the end of a file is that of the headers and the variables, and all output shares are variables
pub outputs_made : (h : Preamble) (variables : List Variable) (g : Circuit) → with_outputs h variables ≡ Ok g →
    (g ≡ flat_gadget h variables) × (list_all (is_among (names_of variables)) (share_names h.shares h.outputs.stems) ≡ true)
outputs_made h variables g e =
    let shares = output_shares_from h.shares 0 h.outputs.stems in
    let c = completed h variables g (first_missing variables shares) e in (
      c.1,
      ap (list_all (is_among (names_of variables))) (sym (names-output_shares_from h.shares 0 h.outputs.stems)) ∙ none_missing (names_of variables) shares c.0,
    )

module _ (vs : List Variable) where
  -- the places of names that stand are numbers of variables
  pub places_exist : (names : List (List ℕ)) → list_all (is_among (names_of vs)) names ≡ true → All (λ v. v < length vs) (map (place_of (names_of vs)) names)
  places_exist [] e = All-nil (λ v. v < length vs)
  places_exist (name ∷ names) e =
      let p = and_parts (is_among (names_of vs) name) (list_all (is_among (names_of vs)) names) e in
      All-cons (λ v. v < length vs) (place_of (names_of vs) name) (map (place_of (names_of vs)) names) (place_of_variable vs name p.0) (places_exist names p.1)

  -- at them stand the names
  pub places_named : (names : List (List ℕ)) → list_all (is_among (names_of vs)) names ≡ true → names ≡ map (name_at vs) (map (place_of (names_of vs)) names)
  places_named [] e = refl
  places_named (name ∷ names) e =
      let p = and_parts (is_among (names_of vs) name) (list_all (is_among (names_of vs)) names) e in
      ap (λ (z : List ℕ). z ∷ names) (sym (name_at-place_of vs name p.0)) ∙ ap (λ (z : List (List ℕ)). name_at vs (place_of (names_of vs) name) ∷ z) (places_named names p.1)

  -- they differ where the names do
  pub places_apart : (names : List (List ℕ)) → AreDistinct names → list_all (is_among (names_of vs)) names ≡ true → AllPairs (λ v w. v ≢ w) (map (place_of (names_of vs)) names)
  places_apart names distinct e =
      let all = AllPass-from_list_all (is_among (names_of vs)) names e in
      let stands = λ (w : List ℕ) (h : Contains names w). All-contains (λ w. is_among (names_of vs) w ≡ true) names w all h in
      AllPairs-map (λ v w. place_of (names_of vs) v ≢ place_of (names_of vs) w) (λ v w. v ≢ w) (place_of (names_of vs)) (λ v w h. h) names
      (AllPairs-weaker (λ v w. v ≢ w) (λ v w. place_of (names_of vs) v ≢ place_of (names_of vs) w) names
      (λ v w h k differ same. differ (place_once (names_of vs) v w (stands v h) (stands w k) same)) distinct)
