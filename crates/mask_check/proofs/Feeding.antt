-- Tallies that are fed one after the other, and by one tuple after the other.
use Rattle.std.proofs.Common.{◌≡◌, ◌∙◌, ℕ, ◌+◌, ◌<◌, ◌≤◌, List, [], ◌∷◌, ◌++◌, map, take, drop, length, get_or, set, flat_map, Some, None, inl, inr, refl, ap, sym, subst, arith}
use Rattle.std.specs.List.{slice_get}
use Rattle.std.proofs.lemmas.List.{length-map, map-set, get_or-map, take_all, take_more, drop_all, append-nil, flat_map_more, map_more}
use Rattle.std.proofs.lemmas.List.Edits.{map_over_more}
use Rattle.std.proofs.lemmas.List.Sums.{fold-append}
use Rattle.std.proofs.lemmas.Option.{get_or_from_slice_get, none-some, slice_get_cases, slice_get_within}
use Rattle.std.proofs.lemmas.Grind.{flat_map-append}
use Rattle.tallies.proofs.Cells.{length-cells}
use Rattle.tallies.specs.declared.tally.TallyKind.{TallyKind}
use Rattle.tallies.specs.declared.tally.TallyKind.TheVariants.{Size, Item}
use Rattle.tallies.specs.Counting.{TallyState, cells, counted, fed, most_labels}

-- the first of these tallies after these tuples more, and the others as they were
abbrev pub fed_up_to : ℕ → List (List ℕ) → List TallyState → List TallyState
fed_up_to i tuples states = map (λ state. fed state tuples) (take i states) ++ drop i states

-- One object more, seen as a tally, is fed in its place.
pub fed_up_to-more : {T : Type 0} (seen : T → TallyState) (tuples : List (List ℕ)) (now old : List T) (i : ℕ) (x y : T) →
    i < length old → length now ≡ length old → x ≡ get_or now i x → seen y ≡ fed (seen x) tuples →
    map seen now ≡ fed_up_to i tuples (map seen old) → map seen (set now i y) ≡ fed_up_to (i + 1) tuples (map seen old)
fed_up_to-more seen tuples now old i x y below same at step so_far =
    let within : i < length (map seen old) = subst (λ n. i < n) (sym (length-map old seen)) below in
    let there : i < length now = subst (λ n. i < n) (sym same) below in
    map-set seen now i y
    ∙ ap (set (map seen now) i) step
    ∙ map_over_more (λ state. fed state tuples) (map seen old) (map seen now) i (seen x) within so_far
    (ap seen at ∙ sym (get_or-map seen now i x (seen x) there))

-- The vector that is left has all of the objects.
pub fed_up_to-all : {T : Type 0} (seen : T → TallyState) (tuples : List (List ℕ)) (now old : List T) (i size : ℕ) →
    length old ≤ i → length now ≡ length old → size ≡ length old →
    map seen now ≡ fed_up_to i tuples (map seen old) →
    map seen (take size (now ++ drop (length now) old)) ≡ map (λ state. fed state tuples) (map seen old)
fed_up_to-all seen tuples now old i size past same sized done =
    let states = map seen old in
    let nothing : drop (length now) old ≡ [] = drop_all (length now) old (omega arith) in
    let all : length states ≤ i = subst (λ n. n ≤ i) (sym (length-map old seen)) past in
    ap (λ (left : List _). map seen (take size (now ++ left))) nothing
    ∙ ap (λ (list : List _). map seen (take size list)) (append-nil now)
    ∙ ap (map seen) (take_all size now (omega arith))
    ∙ done
    ∙ ap (λ (left : List TallyState). map (λ state. fed state tuples) (take i states) ++ left) (drop_all i states all)
    ∙ append-nil (map (λ state. fed state tuples) (take i states))
    ∙ ap (map (λ state. fed state tuples)) (take_all i states all)

-- no tuple changes no tally
pub fed_nothing : (states : List TallyState) → states ≡ map (λ state. fed state []) states
fed_nothing [] = refl
fed_nothing (state ∷ states) = ap (λ (rest : List TallyState). state ∷ rest) (fed_nothing states)

fed_twice : (state : TallyState) (first second : List (List ℕ)) → fed (fed state first) second ≡ fed state (first ++ second)
fed_twice state first second =
    ap (λ (counts : List ℕ). record { kind = state.kind; counts = counts })
    (sym (fold-append (λ so_far t. counted state.kind t so_far) state.counts first second))

-- Tuples after tuples are fed as both, one after the other.
pub fed_then : (states : List TallyState) (first second : List (List ℕ)) →
    map (λ state. fed state second) (map (λ state. fed state first) states) ≡ map (λ state. fed state (first ++ second)) states
fed_then [] first second = refl
fed_then (state ∷ states) first second =
    ap (λ (fed_now : TallyState). fed_now ∷ map (λ s. fed s second) (map (λ s. fed s first) states)) (fed_twice state first second)
    ∙ ap (λ (rest : List TallyState). fed state (first ++ second) ∷ rest) (fed_then states first second)

-- More tuples were fed after those that were fed before.
pub fed_more : (was so_far now : List TallyState) (first second both : List (List ℕ)) → both ≡ first ++ second →
    so_far ≡ map (λ state. fed state first) was → now ≡ map (λ state. fed state second) so_far →
    now ≡ map (λ state. fed state both) was
fed_more was so_far now first second both joined before after =
    after
    ∙ ap (map (λ state. fed state second)) before
    ∙ fed_then was first second
    ∙ ap (λ (tuples : List (List ℕ)). map (λ state. fed state tuples) was) (sym joined)

-- The lines of one more of a list were added.
pub lines_more : {X : Type 0} (lines : X → List ℕ) (xs : List X) (k : ℕ) (x : X) (old so_far now : List ℕ) → slice_get xs k ≡ Some x →
    so_far ≡ old ++ flat_map lines (take k xs) → now ≡ so_far ++ lines x → now ≡ old ++ flat_map lines (take (k + 1) xs)
lines_more lines xs k x old so_far now at before added =
    added
    ∙ ap (λ (text : List ℕ). text ++ lines x) before
    ∙ flat_map_more lines old (take k xs) x
    ∙ ap (λ (next : _). old ++ flat_map lines (take k xs ++ next ∷ [])) (sym (get_or_from_slice_get xs k x x at))
    ∙ ap (λ (front : List _). old ++ flat_map lines front) (sym (take_more xs k x (slice_get_within xs k x at)))

-- The lines of a whole list were added.
pub lines_all : {X : Type 0} (lines : X → List ℕ) (xs : List X) (k : ℕ) (old now : List ℕ) → length xs ≤ k →
    now ≡ old ++ flat_map lines (take k xs) → now ≡ old ++ flat_map lines xs
lines_all lines xs k old now past added =
    added ∙ ap (λ (front : List _). old ++ flat_map lines front) (take_all k xs past)

-- What one more of a list gives comes after what those before it give.
pub parts_more : {X Y A : Type 0} (parts : Y → List A) (seen : X → Y) (xs : List X) (i : ℕ) (x : X) → i < length xs →
    x ≡ get_or xs i x → flat_map parts (map seen (take (i + 1) xs)) ≡ flat_map parts (map seen (take i xs)) ++ parts (seen x)
parts_more parts seen xs i x within at =
    let before = flat_map parts (map seen (take i xs)) in
    let last = seen (get_or xs i x) in
    ap (flat_map parts) (map_more seen xs i x within)
    ∙ flat_map-append parts (map seen (take i xs)) (last ∷ [])
    ∙ ap (λ (end : List _). before ++ end) (append-nil (parts last))
    ∙ ap (λ (y : _). before ++ parts (seen y)) (sym at)

-- The walk through the cells of a tally comes to their end.
pub few_cells : (kind : TallyKind) (counts : List ℕ) → length counts ≤ most_labels kind → length (cells kind counts) ≤ 65536
few_cells Size counts few = let same = length-cells Size counts in omega arith
few_cells Item counts few = let same = length-cells Item counts in omega arith

-- Past the last one there are no more.
pub none_left : {X : Type 0} (xs : List X) (k : ℕ) → slice_get xs k ≡ None → length xs ≤ k
none_left xs k none = elim (slice_get_cases xs k).1 [
  | inl there ↦ absurd (none-some there.0 (sym none ∙ there.2))
  | inr past ↦ past.0
]
