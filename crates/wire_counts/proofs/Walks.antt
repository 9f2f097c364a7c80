-- Steps of the code's loops: rows of numbers that are written one by one, and sums that grow tuple by tuple.
use Rattle.std.proofs.Common.{◌≡◌, ℕ, zero, suc, ◌+◌, ◌-◌, ◌%◌, ◌^◌, ◌<◌, ◌≤◌, List, [], ◌∷◌, ◌++◌, map, length, get_or, set, drop, cond, refl, ap, sym, ◌∙◌, inl, inr, arith, subst, append_assoc}
use Rattle.std.specs.Prelude.{All, slice_index}
use Rattle.std.proofs.lemmas.Bool.{cases_eq, lt-ltb, le-ltb}
use Rattle.std.proofs.lemmas.List.{drop_more, get_or-set_same, get_or-set_other, length-drop, length-set}
use Rattle.std.proofs.lemmas.List.Elements.{All-get_or}
use Rattle.std.proofs.Math.ListN.{length-map, get_or-map}
use Rattle.std.proofs.lemmas.Grind.{get_or_default_zero}
use Rattle.tuple_model.specs.Tuples.{IsRising, IsTuple}
use Rattle.tuple_model.proofs.Rising.{IsRising-from_higher}
use Rattle.wire_counts.specs.Ways.{ways_to_choose, convolution, exact_sets, sets_with, AddsSets}
use Rattle.wire_counts.proofs.Convolutions.{convolution-same}
use Rattle.wire_counts.proofs.Bounds.{sets_with-bounded}

-- one element more is pushed
pub pushed-next : {X Y : Type 0} (f : Y → ℕ) (g : X → Y) (xs : List X) (done all : List ℕ) (i : ℕ) (d : X) → i < length xs →
    done ++ map f (map g (drop i xs)) ≡ all → (done ++ f (g (get_or xs i d)) ∷ []) ++ map f (map g (drop (i + 1) xs)) ≡ all
pushed-next f g xs done all i d l h =
    append_assoc done (f (g (get_or xs i d)) ∷ []) (map f (map g (drop (i + 1) xs)))
    ∙ ap (λ ys. done ++ map f (map g ys)) (sym (drop_more xs i d l)) ∙ h

-- a row into which one more item is taken, from the highest place down
module _ (weight room : ℕ) (old now : List ℕ) where
  abbrev pub IsTakenIn : ℕ → Type 0
  IsTakenIn from = (k : ℕ) → from ≤ k → k ≤ room → slice_index now k ≡ convolution (ways_to_choose weight) (slice_index old) k

  abbrev pub IsAsBefore : ℕ → Type 0
  IsAsBefore to = (k : ℕ) → k < to → slice_index now k ≡ slice_index old k

pub convolution-as_before : (weight room : ℕ) (old now : List ℕ) (place to : ℕ) → place < to → IsAsBefore weight room old now to →
    convolution (ways_to_choose weight) (slice_index now) place ≡ convolution (ways_to_choose weight) (slice_index old) place
convolution-as_before weight room old now place to l h =
    convolution-same (ways_to_choose weight) (ways_to_choose weight) (slice_index now) (slice_index old) place (λ k m. refl) (λ k m. h k (omega arith))

pub IsTakenIn-next : (weight room : ℕ) (old now : List ℕ) (place to number : ℕ) → suc place ≡ to → place < length now →
    number ≡ convolution (ways_to_choose weight) (slice_index now) place → IsAsBefore weight room old now to → IsTakenIn weight room old now to →
    IsAsBefore weight room old (set now place number) place × IsTakenIn weight room old (set now place number) place
IsTakenIn-next weight room old now place to number e l is before taken = (
  (λ k m. get_or-set_other now place k number 0 (λ f. omega arith) ∙ before k (omega arith)),
  (λ k m r. elim (cases_eq k place) [
    | inl same ↦
        ap (λ (n : ℕ). get_or (set now place number) n 0) same ∙ get_or-set_same now place number 0 l ∙ is
        ∙ convolution-as_before weight room old now place to (omega arith) before ∙ ap (convolution (ways_to_choose weight) (slice_index old)) (sym same)
    | inr other ↦ get_or-set_other now place k number 0 other ∙ taken k (let n : place < k = omega arith in omega arith) r
  ]),
)

-- the row tells the sets of a tuple's items
abbrev pub AreSets : List ℕ → List ℕ → ℕ → List ℕ → Type 0
AreSets weights t room row = (more : ℕ) → more ≤ room → slice_index row more ≡ exact_sets weights t more

pub AreSets-none : (weights : List ℕ) (t row : List ℕ) (room place : ℕ) → length t ≤ place → slice_index row 0 ≡ 1 →
    ((k : ℕ) → 0 < k → slice_index row k ≡ 0) → AreSets weights (drop place t) room row
AreSets-none weights t row room place l one zeros =
    subst (λ u. AreSets weights u room row) (sym (none t place l)) (λ more m. at more) where
      none : (t : List ℕ) (place : ℕ) → length t ≤ place → drop place t ≡ []
      none [] zero l = refl
      none [] (suc place) l = refl
      none (x ∷ t) zero l = absurd (omega arith)
      none (x ∷ t) (suc place) l = none t place (omega arith)

      at : (more : ℕ) → slice_index row more ≡ exact_sets weights [] more
      at zero = one
      at (suc more) = zeros (suc more) (omega arith)

pub exact_sets-next : (weights t row : List ℕ) (room place : ℕ) → place < length t → AreSets weights (drop (place + 1) t) room row → (more : ℕ) → more ≤ room →
    convolution (ways_to_choose (slice_index weights (slice_index t place))) (slice_index row) more ≡ exact_sets weights (drop place t) more
exact_sets-next weights t row room place l h more m =
    convolution-same (ways_to_choose (slice_index weights (slice_index t place))) (ways_to_choose (slice_index weights (slice_index t place)))
    (slice_index row) (exact_sets weights (drop (place + 1) t)) more (λ k n. refl) (λ k n. h k (omega arith))
    ∙ ap (λ (u : List ℕ). exact_sets weights u more) (sym (drop_more t place 0 l))

IsRising-drop : (low high place : ℕ) (t : List ℕ) → IsRising low high t → IsRising low high (drop place t)
IsRising-drop low high zero t h = h
IsRising-drop low high (suc place) [] h = tt
IsRising-drop low high (suc place) (x ∷ t) h = IsRising-from_higher low (suc x) high (drop place t) (omega arith) (IsRising-drop (suc x) high place t h.2)

pub sets_with-more : (weights t : List ℕ) (more : ℕ) → sets_with weights t (more + length t) ≡ exact_sets weights t more
sets_with-more weights t more =
    let e : more + length t - length t ≡ more = omega arith in
    (unfolded (more + length t) (omega arith)) ∙ ap (exact_sets weights t) e where
      unfolded : (i : ℕ) → length t ≤ i → sets_with weights t i ≡ exact_sets weights t (i - length t)
      unfolded i l = ap (λ c. cond c 0 (exact_sets weights t (i - length t))) (le-ltb i (length t) l)

pub exact_sets-bounded : (weights t : List ℕ) (place more : ℕ) → length weights ≤ 511 → All (λ weight. weight ≤ 4096) weights → IsTuple (length weights) 6 t →
    length t + more ≤ 6 → exact_sets weights (drop place t) more < 2 ^ 128
exact_sets-bounded weights t place more few small is l =
    let d = length-drop place t in
    let b = sets_with-bounded weights (drop place t) (more + length (drop place t)) few small
    (record { short = let s = is.short in omega arith; rising = IsRising-drop 0 (length weights) place t is.rising }) (omega arith) in
    let e = sets_with-more weights (drop place t) more in
    omega arith

-- to the numbers before a place came the sets with exactly the tuple's items, and the others are as they were
pub record AddsBefore (weights t old now : List ℕ) (place : ℕ) : Type 0 where
  pub same : length now ≡ length old
  pub passed : (i : ℕ) → i < place → slice_index now i ≡ slice_index old i + sets_with weights t i
  pub left : (i : ℕ) → place ≤ i → slice_index now i ≡ slice_index old i

pub AddsBefore-start : (weights t old : List ℕ) (place : ℕ) → place ≡ length t → AddsBefore weights t old old place
AddsBefore-start weights t old place e = record {
  same = refl;
  passed = λ i l.
      let none : sets_with weights t i ≡ 0 = ap (λ c. cond c 0 (exact_sets weights t (i - length t))) (lt-ltb i (length t) (omega arith)) in
      omega arith;
  left = λ i l. refl;
}

pub AddsBefore-next : (weights t old now : List ℕ) (place term : ℕ) → place < length now → term ≡ sets_with weights t place →
    AddsBefore weights t old now place → AddsBefore weights t old (set now place (slice_index now place + term)) (place + 1)
AddsBefore-next weights t old now place term l e h =
    let number = slice_index now place + term in
    record {
      same = length-set now place number ∙ h.same;
      passed = λ i m. elim (cases_eq i place) [
        | inl same ↦
            let a = ap (λ (n : ℕ). get_or (set now place number) n 0) same ∙ get_or-set_same now place number 0 l in
            let b = h.left place (omega arith) in
            let c = ap (λ (n : ℕ). slice_index old n + sets_with weights t n) same in
            omega arith
        | inr other ↦ get_or-set_other now place i number 0 other ∙ h.passed i (omega arith)
      ];
      left = λ i m. get_or-set_other now place i number 0 (λ f. omega arith) ∙ h.left i (omega arith);
    }

pub AddsSets-end : (weights t old now : List ℕ) (size place : ℕ) → size < place → AddsBefore weights t old now place → AddsSets weights size t old now
AddsSets-end weights t old now size place l h = λ i m. h.passed i (omega arith)

-- the sums before a place are there
abbrev pub AreAddedBefore : List ℕ → List ℕ → List ℕ → ℕ → Type 0
AreAddedBefore xs ys sums place = (i : ℕ) → i < place → slice_index sums i ≡ (slice_index xs i + slice_index ys i) % 2 ^ 128

pub AreAdded-next : (xs ys sums : List ℕ) (place number : ℕ) → place < length sums → number ≡ (slice_index xs place + slice_index ys place) % 2 ^ 128 →
    AreAddedBefore xs ys sums place → AreAddedBefore xs ys (set sums place number) (place + 1)
AreAdded-next xs ys sums place number l e h i m = elim (cases_eq i place) [
  | inl same ↦
      ap (λ (n : ℕ). get_or (set sums place number) n 0) same ∙ get_or-set_same sums place number 0 l ∙ e
      ∙ ap (λ (n : ℕ). (slice_index xs n + slice_index ys n) % 2 ^ 128) (sym same)
  | inr other ↦ get_or-set_other sums place i number 0 other ∙ h i (omega arith)
]

-- what an element of a mapped list is at most
pub weight-at : {X Y : Type 0} (f : Y → ℕ) (g : X → Y) (xs : List X) (i : ℕ) (x : X) (most : ℕ) → i < length xs → get_or xs i x ≡ x →
    All (λ weight. weight ≤ most) (map f (map g xs)) → f (g x) ≤ most
weight-at f g xs i x most l e small =
    let a = length-map xs g in
    let b = length-map (map g xs) f in
    let n = All-get_or (λ weight. weight ≤ most) (map f (map g xs)) i (f (g x)) (omega arith) small in
    let c = get_or-map f (map g xs) i (g x) ∙ ap f (get_or-map g xs i x ∙ ap g e) in
    omega arith

pub IsRising-at : (low high place : ℕ) (t : List ℕ) → IsRising low high t → place < length t → slice_index t place < high
IsRising-at low high place [] h l = absurd (omega arith)
IsRising-at low high zero (x ∷ t) h l = h.1
IsRising-at low high (suc place) (x ∷ t) h l = IsRising-at (suc x) high place t h.2 (omega arith)

-- what the row becomes with the item at the place before, which is found in a copy of the tuple
pub exact_sets-item : (weights t items row : List ℕ) (room to item weight : ℕ) → IsTuple (length weights) 6 t → items ≡ t → 0 < to → to ≤ length items →
    item ≡ slice_index items (to - 1) → weight ≡ get_or weights item weight → AreSets weights (drop to t) room row → (more : ℕ) → more ≤ room →
    convolution (ways_to_choose weight) (slice_index row) more ≡ exact_sets weights (drop (to - 1) t) more
exact_sets-item weights t items row room to item weight is same some within at found h more l =
    let n = ap length same in
    let e : to ≡ to - 1 + 1 = omega arith in
    let k = at ∙ ap (λ (xs : List ℕ). slice_index xs (to - 1)) same in
    let b = IsRising-at 0 (length weights) (to - 1) t is.rising (omega arith) in
    let w : weight ≡ slice_index weights (slice_index t (to - 1)) =
    found ∙ get_or_default_zero weights item weight (omega arith) ∙ ap (slice_index weights) k in
    ap (λ (n : ℕ). convolution (ways_to_choose n) (slice_index row) more) w
    ∙ exact_sets-next weights t row room (to - 1) (omega arith) (subst (λ (n : ℕ). AreSets weights (drop n t) room row) e h) more l
