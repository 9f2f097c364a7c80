-- Coefficients depend only on which tuples of few items fail, and there is one list of them.
use Rattle.std.proofs.Common.{◌≡◌, ◌↔◌, ℕ, zero, suc, ◌+◌, ◌<◌, ◌≤◌, List, [], ◌∷◌, ◌++◌, map, length, get_or, Contains, refl, ap, sym, ◌∙◌, inl, inr, arith, subst}
use Rattle.std.specs.Prelude.{flat_map, slice_index}
use Rattle.std.specs.List.{range_with_len}
use Rattle.std.proofs.lemmas.Bool.{cases_eq}
use Rattle.std.proofs.lemmas.List.Elements.{Contains-append_cases}
use Rattle.list_laws.proofs.Members.{Contains-cons_head, Contains-cons_tail, Contains-cons_cases, Contains-from_map}
use Rattle.list_laws.proofs.Once.{Contains-nil}
use Rattle.tuple_model.specs.Tuples.{IsRising, IsTuple, subset}
use Rattle.tuple_model.specs.Minimal.{Picks, IsAnswer}
use Rattle.tuple_model.specs.Antichains.{Covers}
use Rattle.tuple_model.proofs.Picking.{Picks-unique}
use Rattle.tuple_model.proofs.Rising.{IsRising-from_higher}
use Rattle.tuple_model.proofs.Subsets.{member-from_subset}
use Rattle.tuple_model.proofs.Answers.{answered, minimal-from_answer}
use Rattle.wire_counts.specs.Coefficients.{Wire, copies, item_wires, sets_of_size, items_of_wires, IsCoefficient, AreCoefficients}
use Rattle.wire_counts.specs.Laws.{IsInherited}
use Rattle.wire_counts.proofs.Sets.{join, join-equal, join-other, items_of_wires-cons, copies_from}

-- facts that agree on the elements pick the same
Picks-same : {X : Type 0} (P Q : X → Type 0) (xs picked : List X) → ((x : X) → Contains xs x → P x ↔ Q x) → Picks P xs picked → Picks Q xs picked
Picks-same P Q [] picked same h = h
Picks-same P Q (x ∷ xs) picked same (inl h) =
    inl ((same x (Contains-cons_head x xs)).0 h.0, h.1, h.2, Picks-same P Q xs h.1 (λ y k. same y (Contains-cons_tail x xs y k)) h.3)
Picks-same P Q (x ∷ xs) picked same (inr h) =
    inr ((λ q. h.0 ((same x (Contains-cons_head x xs)).1 q)), Picks-same P Q xs picked (λ y k. same y (Contains-cons_tail x xs y k)) h.1)

-- the wires' items never fall, from low on and below high
abbrev AreInOrder : ℕ → ℕ → List Wire → Type 0
AreInOrder low high [] = Unit {0}
AreInOrder low high (x ∷ xs) = (low ≤ x.item) × (x.item < high) × AreInOrder x.item high xs

AreInOrder-lower : (low more high : ℕ) (xs : List Wire) → low ≤ more → AreInOrder more high xs → AreInOrder low high xs
AreInOrder-lower low more high [] l h = tt
AreInOrder-lower low more high (x ∷ xs) l h = (omega arith, h.1, h.2)

AreInOrder-set : (low high size : ℕ) (xs set : List Wire) → AreInOrder low high xs → Contains (sets_of_size size xs) set → AreInOrder low high set × (length set ≡ size)
AreInOrder-set low high zero xs set h k = elim (Contains-cons_cases [] [] set k) [
  | inl e ↦ subst (λ (s : List Wire). AreInOrder low high s × (length s ≡ 0)) e (tt, refl)
  | inr n ↦ absurd (Contains-nil set n)
]
AreInOrder-set low high (suc size) [] set h k = absurd (Contains-nil set k)
AreInOrder-set low high (suc size) (x ∷ xs) set h k = elim (Contains-append_cases (map (λ (s : List Wire). x ∷ s) (sets_of_size size xs)) (sets_of_size (suc size) xs) set k) [
  | inl m ↦
      let r = Contains-from_map (λ (s : List Wire). x ∷ s) (sets_of_size size xs) set m in
      let i = AreInOrder-set x.item high size xs r.0 h.2 r.1 in
      subst (λ (s : List Wire). AreInOrder low high s × (length s ≡ suc size)) r.2 ((h.0, h.1, i.0), ap suc i.1)
  | inr m ↦ AreInOrder-set low high (suc size) xs set (AreInOrder-lower low x.item high xs h.0 h.2) m
]

-- a tuple whose first item, if there is one, is at least low
abbrev IsJoined : ℕ → ℕ → ℕ → List ℕ → Type 0
IsJoined low high size t = IsRising low high t × (length t ≤ size)

IsJoined-join : (low high size x : ℕ) (t : List ℕ) → low ≤ x → x < high → IsJoined x high size t → IsJoined low high (suc size) (join x t)
IsJoined-join low high size x [] l m h = ((l, m, tt), omega arith)
IsJoined-join low high size x (y ∷ t) l m h = elim (cases_eq x y) [
  | inl same ↦
      let e = h.0 in
      subst (IsJoined low high (suc size)) (sym (join-equal x y t same)) (IsRising-from_higher low x high (y ∷ t) l h.0, omega (arith, h.1))
  | inr other ↦
      let e = h.0.0 in
      subst (IsJoined low high (suc size)) (sym (join-other x y t other)) ((l, m, (omega arith, h.0.1, h.0.2)), omega (arith, h.1))
]

IsJoined-items : (low high : ℕ) (set : List Wire) → AreInOrder low high set → IsJoined low high (length set) (items_of_wires set)
IsJoined-items low high [] h = (tt, omega arith)
IsJoined-items low high (x ∷ set) h =
    subst (IsJoined low high (suc (length set))) (sym (items_of_wires-cons x set))
    (IsJoined-join low high (length set) x.item (items_of_wires set) h.0 h.1 (IsJoined-items x.item high set h.2))

AreInOrder-copies : (item start weight high : ℕ) (rest : List Wire) → item < high → AreInOrder item high rest → AreInOrder item high (copies_from item start weight ++ rest)
AreInOrder-copies item start zero high rest l h = h
AreInOrder-copies item start (suc weight) high rest l h = (omega arith, l, AreInOrder-copies item (start + 1) weight high rest l h)

AreInOrder-wires : (weight : ℕ → ℕ) (room low high : ℕ) → low + room ≡ high → AreInOrder low high (flat_map (λ item. copies (weight item) item) (range_with_len low room))
AreInOrder-wires weight zero low high e = tt
AreInOrder-wires weight (suc room) low high e =
    let rest = flat_map (λ item. copies (weight item) item) (range_with_len (low + 1) room) in
    AreInOrder-copies low 0 (weight low) high rest (omega arith)
    (AreInOrder-lower low (low + 1) high rest (omega arith) (AreInOrder-wires weight room (low + 1) high (omega arith)))

-- the items of a set of wires are a tuple of at most as many items
pub IsTuple-items : (weights : List ℕ) (i : ℕ) (set : List Wire) → Contains (sets_of_size i (item_wires weights)) set → IsTuple (length weights) i (items_of_wires set)
IsTuple-items weights i set h =
    let o = AreInOrder-set 0 (length weights) i (item_wires weights) set (AreInOrder-wires (slice_index weights) (length weights) 0 (length weights) (omega arith)) h in
    let j = IsJoined-items 0 (length weights) set o.0 in
    record { short = let l = j.1 in let e = o.1 in omega arith; rising = j.0 }

-- what a tuple of at most so many items means decides the coefficients
IsCoefficient-same : (Fails Other : List ℕ → Type 0) (weights : List ℕ) (i n : ℕ) →
    ((t : List ℕ) → IsTuple (length weights) i t → Fails t ↔ Other t) → IsCoefficient Fails weights i n → IsCoefficient Other weights i n
IsCoefficient-same Fails Other weights i n same h = record {
  failing = h.failing;
  picked = Picks-same (λ set. Fails (items_of_wires set)) (λ set. Other (items_of_wires set)) (sets_of_size i (item_wires weights)) h.failing
      (λ set k. same (items_of_wires set) (IsTuple-items weights i set k)) h.picked;
  count = h.count;
}

AreCoefficients-same : (Fails Other : List ℕ → Type 0) (weights : List ℕ) (size : ℕ) (numbers : List ℕ) →
    ((t : List ℕ) → IsTuple (length weights) size t → Fails t ↔ Other t) → AreCoefficients Fails weights size numbers → AreCoefficients Other weights size numbers
AreCoefficients-same Fails Other weights size numbers same h = record {
  all = h.all;
  each = λ i l. IsCoefficient-same Fails Other weights i (slice_index numbers i)
      (λ t k. same t (record { short = let m = k.short in omega arith; rising = k.rising })) (h.each i l);
}

-- where failing passes to supersets, a tuple fails exactly where it has a subset in the answer
fails-covered : (Fails : List ℕ → Type 0) (items size : ℕ) (answer : List (List ℕ)) → IsInherited Fails → IsAnswer Fails items size answer →
    (t : List ℕ) → IsTuple items size t → Fails t ↔ Covers answer t
fails-covered Fails items size answer inherited is t h = (
  (λ f. let r = answered Fails items size answer is t h f in (subset r.0 t, r.2, member-from_subset r.0 t)),
  (λ c. inherited c.0 t c.2 (minimal-from_answer Fails items size answer c.0 is c.1).1.fails),
)

module _ (Fails : List ℕ → Type 0) where
  pub coefficients-same : (weights : List ℕ) (size : ℕ) (answer : List (List ℕ)) (numbers : List ℕ) → IsInherited Fails →
      IsAnswer Fails (length weights) size answer → AreCoefficients Fails weights size numbers ↔ AreCoefficients (Covers answer) weights size numbers
  coefficients-same weights size answer numbers inherited is =
      let same = fails-covered Fails (length weights) size answer inherited is in (
        AreCoefficients-same Fails (Covers answer) weights size numbers same,
        AreCoefficients-same (Covers answer) Fails weights size numbers (λ t h. ((same t h).1, (same t h).0)),
      )

  coefficient-unique : (weights : List ℕ) (i n m : ℕ) → IsCoefficient Fails weights i n → IsCoefficient Fails weights i m → n ≡ m
  coefficient-unique weights i n m h k =
      sym h.count ∙ ap (λ (sets : List (List Wire)). length sets)
      (Picks-unique (λ set. Fails (items_of_wires set)) (sets_of_size i (item_wires weights)) h.failing k.failing h.picked k.picked) ∙ k.count

  pub coefficients-unique : (weights : List ℕ) (size : ℕ) (numbers others : List ℕ) → AreCoefficients Fails weights size numbers →
      AreCoefficients Fails weights size others → numbers ≡ others
  coefficients-unique weights size numbers others h k =
      alike numbers others (h.all ∙ sym k.all)
      (λ i l. let n = h.all in let m : i ≤ size = omega arith in coefficient-unique weights i (slice_index numbers i) (slice_index others i) (h.each i m) (k.each i m)) where
        alike : (xs ys : List ℕ) → length xs ≡ length ys → ((i : ℕ) → i < length xs → get_or xs i 0 ≡ get_or ys i 0) → xs ≡ ys
        alike [] [] e f = refl
        alike [] (y ∷ ys) e f = absurd (omega arith)
        alike (x ∷ xs) [] e f = absurd (omega arith)
        alike (x ∷ xs) (y ∷ ys) e f =
            let g : x ≡ y = f 0 (omega arith) in
            let r = alike xs ys (omega arith) (λ i l. f (suc i) (omega arith)) in
            cc
