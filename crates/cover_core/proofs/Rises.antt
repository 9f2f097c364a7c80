-- The lists of a view go on to rise when something is put into them or taken out of them.
use Rattle.std.specs.Prelude.{◌&&◌, ◌||◌}
use Rattle.std.proofs.Common.{◌≡◌, ◌≢◌, ℕ, ◌<◌, ◌⊎◌, ⊎_elim, Bool, true, false, cond, eqb, ltb, List, [], ◌∷◌, refl, ap, sym, ◌∙◌, inl, inr, arith, subst}
use Rattle.std.proofs.lemmas.Bool.{cases_lt, cases_eq, and_parts, or_cases, eqb-true, eqb-false, ltb-true, ltb-false, lt-ltb, eq-eqb}
use Rattle.cover_core.specs.Core.{Has, IsAt, IsBelow, IsPlaceBefore, IsRangeBefore, Rises}
use Rattle.cover_core.specs.Effects.{comes_first, put_bare, put_number, put_numbers, put_pair, put_pairs, same_pair, take_out}
use Rattle.cover_core.proofs.Changing.{same_at}
use Rattle.cover_core.proofs.Lists.{put_pair-from, same_pair-same, same_pair-true, take_out-from}
use Rattle.cover_core.proofs.Looked.{put_bare-from, put_bare-here, put_bare-on}

pub rises-weaker : {X : Type 0} (P Q : X → X → Type 0) (l : List X) → ((x y : X) → P x y → Q x y) → Rises P l → Rises Q l
rises-weaker P Q [] weaker h = h
rises-weaker P Q (x ∷ xs) weaker h = ((λ y k. weaker x y (h.0 y k)), rises-weaker P Q xs weaker h.1)

-- Ranges, and pairs of a place and a code

range-before : (x y : ℕ × ℕ) → comes_first x y ≡ true → IsRangeBefore x y
range-before x y e = elim (or_cases (ltb x.0 y.0) (eqb x.0 y.0 && ltb x.1 y.1) e) [
  | inl l ↦ inl (ltb-true x.0 y.0 l)
  | inr r ↦ let h = and_parts (eqb x.0 y.0) (ltb x.1 y.1) r in inr (eqb-true x.0 y.0 h.0, ltb-true x.1 y.1 h.1)
]

range-trans : (x y z : ℕ × ℕ) → IsRangeBefore x y → IsRangeBefore y z → IsRangeBefore x z
range-trans x y z (inl h) (inl k) = inl (omega arith)
range-trans x y z (inl h) (inr k) = let e = k.0 in inl (omega arith)
range-trans x y z (inr h) (inl k) = let e = h.0 in inl (omega arith)
range-trans x y z (inr h) (inr k) = let e = h.1 in let f = k.1 in inr (h.0 ∙ k.0, omega arith)

-- of two pairs that differ, one comes before the other
range-after : (x y : ℕ × ℕ) → same_pair x y ≡ false → comes_first x y ≡ false → IsRangeBefore y x
range-after x y apart late = elim (cases_lt y.0 x.0) [
  | inl less ↦ inl less
  | inr most ↦ elim (cases_eq x.0 y.0) [
    | inr other ↦
        let f : comes_first x y ≡ true = ap (λ (b : Bool). b || (eqb x.0 y.0 && ltb x.1 y.1)) (lt-ltb x.0 y.0 (omega arith)) in
        absurd (cc)
    | inl same ↦ elim (cases_lt y.1 x.1) [
      | inl less ↦ inr (sym same, less)
      | inr below ↦ elim (cases_eq x.1 y.1) [
        | inl also ↦
            let f : same_pair x y ≡ true = ap (λ (b : Bool). b && eqb x.1 y.1) (eq-eqb x.0 y.0 same) ∙ eq-eqb x.1 y.1 also in
            absurd (cc)
        | inr other ↦
            let g : (ltb x.0 y.0 || ltb x.1 y.1) ≡ true = or-right (ltb x.0 y.0) (ltb x.1 y.1) (lt-ltb x.1 y.1 (omega arith)) in
            let f : comes_first x y ≡ true = ap (λ (b : Bool). ltb x.0 y.0 || (b && ltb x.1 y.1)) (eq-eqb x.0 y.0 same) ∙ g in
            absurd (cc)
      ]
    ]
  ]
]
  where
    or-right : (b c : Bool) → c ≡ true → (b || c) ≡ true
    or-right true c e = refl
    or-right false c e = e

pub put_pair-rises : (x : ℕ × ℕ) (l : List (ℕ × ℕ)) → Rises IsRangeBefore l → Rises IsRangeBefore (put_pair x l)
put_pair-rises x [] h = ((λ y k. absurd k), tt)
put_pair-rises x (y ∷ ys) h = go (same_pair x y) refl (comes_first x y) refl (put_pair-rises x ys h.1)
  where
    go : (b : Bool) → same_pair x y ≡ b → (d : Bool) → comes_first x y ≡ d → Rises IsRangeBefore (put_pair x ys) → Rises IsRangeBefore (cond b (y ∷ ys) (cond d (x ∷ y ∷ ys) (y ∷ put_pair x ys)))
    go true e d f more = h
    go false e true f more = (
      (λ z k. ⊎_elim
          (λ (q : y ≡ z). subst (IsRangeBefore x) q (range-before x y f))
          (λ (m : Has z ys). range-trans x y z (range-before x y f) (h.0 z m)) k),
      h,
    )
    go false e false f more = (
      (λ z k. ⊎_elim
          (λ (q : x ≡ z). subst (IsRangeBefore y) q (range-after x y e f))
          (λ (m : Has z ys). h.0 z m)
          (put_pair-from z x ys k)),
      more,
    )

pub put_pairs-rises : (xs l : List (ℕ × ℕ)) → Rises IsRangeBefore l → Rises IsRangeBefore (put_pairs xs l)
put_pairs-rises [] l h = h
put_pairs-rises (x ∷ xs) l h = put_pair-rises x (put_pairs xs l) (put_pairs-rises xs l h)

pub take_out-rises : (x : ℕ × ℕ) (l : List (ℕ × ℕ)) → Rises IsRangeBefore l → Rises IsRangeBefore (take_out x l)
take_out-rises x [] h = h
take_out-rises x (y ∷ ys) h = go (same_pair x y) (take_out-rises x ys h.1)
  where
    go : (b : Bool) → Rises IsRangeBefore (take_out x ys) → Rises IsRangeBefore (cond b ys (y ∷ take_out x ys))
    go true more = h.1
    go false more = ((λ z k. h.0 z (take_out-from z x ys k)), more)

places-rise : (words : List ℕ) (l : List (ℕ × ℕ)) → ((x : ℕ × ℕ) → Has x l → IsAt words x.0 x.1 × (x.1 ≢ 0)) → Rises IsRangeBefore l → Rises IsPlaceBefore l
places-rise words [] all h = h
places-rise words (x ∷ xs) all h = (first, places-rise words xs (λ y k. all y (inr k)) h.1)
  where
    first : (y : ℕ × ℕ) → Has y xs → IsPlaceBefore x y
    first y k = ⊎_elim
        (λ (l : x.0 < y.0). l)
        (λ (e : (x.0 ≡ y.0) × (x.1 < y.1)).
        let F : ℕ → Type 0 = λ p. IsAt words p y.1 in
        let same = same_at words x.0 x.1 y.1 (all x (inl refl)).0 (subst F (sym e.0) (all y (inr k)).0) in
        let less = e.1 in absurd (omega arith))
        (h.0 y k)

ranges-from_places : (l : List (ℕ × ℕ)) → Rises IsPlaceBefore l → Rises IsRangeBefore l
ranges-from_places l = rises-weaker IsPlaceBefore IsRangeBefore l (λ x y h. inl h)

-- two pairs of one place are equal, since both stand in the table: so pairs rise by place
pub seen-put : (words : List ℕ) (x : ℕ × ℕ) (l : List (ℕ × ℕ)) → ((y : ℕ × ℕ) → Has y (put_pair x l) → IsAt words y.0 y.1 × (y.1 ≢ 0)) →
    Rises IsPlaceBefore l → Rises IsPlaceBefore (put_pair x l)
seen-put words x l all h = places-rise words (put_pair x l) all (put_pair-rises x l (ranges-from_places l h))

pub seen-puts : (words : List ℕ) (xs l : List (ℕ × ℕ)) → ((y : ℕ × ℕ) → Has y (put_pairs xs l) → IsAt words y.0 y.1 × (y.1 ≢ 0)) →
    Rises IsPlaceBefore l → Rises IsPlaceBefore (put_pairs xs l)
seen-puts words xs l all h = places-rise words (put_pairs xs l) all (put_pairs-rises xs l (ranges-from_places l h))

-- Places that were found empty

pub put_bare-rises : (p m : ℕ) (l : List (ℕ × ℕ)) → Rises IsPlaceBefore l → Rises IsPlaceBefore (put_bare p m l)
put_bare-rises p m [] h = ((λ y k. absurd k), tt)
put_bare-rises p m (y ∷ ys) h = go (ltb y.0 p) refl (eqb y.0 p) refl (put_bare-rises p m ys h.1)
  where
    go : (b : Bool) → ltb y.0 p ≡ b → (d : Bool) → eqb y.0 p ≡ d → Rises IsPlaceBefore (put_bare p m ys) →
        Rises IsPlaceBefore (cond b (y ∷ put_bare p m ys) (cond d ((p, m) ∷ ys) ((p, m) ∷ y ∷ ys)))
    go true e d f more = (
      (λ z k. ⊎_elim
          (λ (q : (p, m) ≡ z). subst (IsPlaceBefore y) q (ltb-true y.0 p e))
          (λ (n : Has z ys). h.0 z n)
          (put_bare-from p m ys z k)),
      more,
    )
    go false e true f more = ((λ z k. let l = h.0 z k in let same = eqb-true y.0 p f in omega arith), h.1)
    go false e false f more = (
      (λ z k. let far : p < y.0 = let l = ltb-false y.0 p e in let n = eqb-false y.0 p f in omega arith in ⊎_elim
          (λ (q : y ≡ z). subst (IsPlaceBefore (p, m)) q far)
          (λ (n : Has z ys). let l = h.0 z n in omega arith) k),
      h,
    )

-- Codes that were made

pub put_number-from : (d c : ℕ) (l : List ℕ) → Has d (put_number c l) → (c ≡ d) ⊎ Has d l
put_number-from d c [] h = h
put_number-from d c (y ∷ ys) h = go (ltb y c) (λ k. put_number-from d c ys k) h
  where
    go : (b : Bool) → (Has d (put_number c ys) → (c ≡ d) ⊎ Has d ys) → Has d (cond b (y ∷ put_number c ys) (c ∷ y ∷ ys)) → (c ≡ d) ⊎ Has d (y ∷ ys)
    go true more (inl e) = inr (inl e)
    go true more (inr k) = ⊎_elim (λ (e : c ≡ d). inl e) (λ (m : Has d ys). inr (inr m)) (more k)
    go false more h = h

pub put_numbers-from : (d : ℕ) (xs l : List ℕ) → Has d (put_numbers xs l) → Has d xs ⊎ Has d l
put_numbers-from d [] l h = inr h
put_numbers-from d (x ∷ xs) l h = ⊎_elim
    (λ (e : x ≡ d). inl (inl e))
    (λ (k : Has d (put_numbers xs l)). ⊎_elim (λ (m : Has d xs). inl (inr m)) (λ (m : Has d l). inr m) (put_numbers-from d xs l k))
    (put_number-from d x (put_numbers xs l) h)

pub put_number-rises : (c : ℕ) (l : List ℕ) → (Has c l → ⊥) → Rises IsBelow l → Rises IsBelow (put_number c l)
put_number-rises c [] new h = ((λ y k. absurd k), tt)
put_number-rises c (y ∷ ys) new h = go (ltb y c) refl (put_number-rises c ys (λ k. new (inr k)) h.1)
  where
    go : (b : Bool) → ltb y c ≡ b → Rises IsBelow (put_number c ys) → Rises IsBelow (cond b (y ∷ put_number c ys) (c ∷ y ∷ ys))
    go true e more = (
      (λ z k. ⊎_elim
          (λ (q : c ≡ z). subst (IsBelow y) q (ltb-true y c e))
          (λ (n : Has z ys). h.0 z n)
          (put_number-from z c ys k)),
      more,
    )
    go false e more = (
      (λ z k. let far : c < y = let l = ltb-false y c e in elim (cases_eq y c) [ inl same ↦ absurd (new (inl same)) | inr apart ↦ omega arith ] in ⊎_elim
          (λ (q : y ≡ z). subst (IsBelow c) q far)
          (λ (n : Has z ys). let l = h.0 z n in omega arith) k),
      h,
    )

pub put_numbers-rises : (xs l : List ℕ) → ((c : ℕ) → Has c xs → Has c l → ⊥) → Rises IsBelow xs → Rises IsBelow l → Rises IsBelow (put_numbers xs l)
put_numbers-rises [] l apart g h = h
put_numbers-rises (x ∷ xs) l apart g h = put_number-rises x (put_numbers xs l)
    (λ k. ⊎_elim
    (λ (m : Has x xs). let less = g.0 x m in absurd (omega arith))
    (λ (m : Has x l). apart x (inl refl) m)
    (put_numbers-from x xs l k))
    (put_numbers-rises xs l (λ c k m. apart c (inr k) m) g.1 h)

-- What was put in or taken out, as sets

has-split : {X : Type 0} (x y : X) (ys : List X) → Has x (y ∷ ys) → (y ≡ x) ⊎ Has x ys
has-split x y ys h = h

-- nothing comes before itself
range-not_itself : (x : ℕ × ℕ) → IsRangeBefore x x → ⊥
range-not_itself x (inl l) = omega arith
range-not_itself x (inr l) = let m = l.1 in omega arith

pub take_out-gone : (x : ℕ × ℕ) (l : List (ℕ × ℕ)) → Rises IsRangeBefore l → Has x (take_out x l) → ⊥
take_out-gone x [] h k = absurd k
take_out-gone x (y ∷ ys) h k = go (same_pair x y) refl (λ m. take_out-gone x ys h.1 m) k
  where
    go : (b : Bool) → same_pair x y ≡ b → (Has x (take_out x ys) → ⊥) → Has x (cond b ys (y ∷ take_out x ys)) → ⊥
    go true e more m =
        let F : ℕ × ℕ → Type 0 = λ z. IsRangeBefore z x in
        range-not_itself x (subst F (sym (same_pair-true x y e)) (h.0 x m))
    go false e more (inl q) =
        let f : same_pair x y ≡ true = same_pair-same x y (sym q) in absurd (cc)
    go false e more (inr m) = more m

pub put_bare-kept : (p m : ℕ) (l : List (ℕ × ℕ)) (x : ℕ × ℕ) → Has x l → x.0 ≢ p → Has x (put_bare p m l)
put_bare-kept p m l x h apart = ⊎_elim (λ (k : Has x (put_bare p m l)). k) (λ (e : x.0 ≡ p). absurd (apart e)) (put_bare-on p m l x h)

-- an older entry for the place is gone
pub put_bare-new : (p m : ℕ) (l : List (ℕ × ℕ)) (x : ℕ × ℕ) → Rises IsPlaceBefore l → Has x (put_bare p m l) → ((p, m) ≡ x) ⊎ (Has x l × (x.0 ≢ p))
put_bare-new p m l x h k = elim (cases_eq x.0 p) [
  | inr apart ↦ ⊎_elim (λ (e : (p, m) ≡ x). inl e) (λ (o : Has x l). inr (o, apart)) (put_bare-from p m l x k)
  | inl same ↦ inl (one-place (p, m) x (put_bare p m l) (put_bare-rises p m l h) (put_bare-here p m l) k (sym same))
]
  where
    one-place : (x y : ℕ × ℕ) (l : List (ℕ × ℕ)) → Rises IsPlaceBefore l → Has x l → Has y l → x.0 ≡ y.0 → x ≡ y
    one-place x y [] h j k e = absurd j
    one-place x y (z ∷ zs) h (inl f) (inl g) e = sym f ∙ g
    one-place x y (z ∷ zs) h (inl f) (inr k) e = let l = h.0 y k in let q = ap (λ (w : ℕ × ℕ). w.0) f in absurd (omega arith)
    one-place x y (z ∷ zs) h (inr j) (inl g) e = let l = h.0 x j in let q = ap (λ (w : ℕ × ℕ). w.0) g in absurd (omega arith)
    one-place x y (z ∷ zs) h (inr j) (inr k) e = one-place x y zs h.1 j k e

pub put_number-here : (c : ℕ) (l : List ℕ) → Has c (put_number c l)
put_number-here c [] = inl refl
put_number-here c (y ∷ ys) = elim (ltb y c) as (λ b. Has c (cond b (y ∷ put_number c ys) (c ∷ y ∷ ys))) [ true ↦ inr (put_number-here c ys) | false ↦ inl refl ]

pub put_number-on : (d c : ℕ) (l : List ℕ) → Has d l → Has d (put_number c l)
put_number-on d c [] h = absurd h
put_number-on d c (y ∷ ys) h = elim (ltb y c) as (λ b. Has d (cond b (y ∷ put_number c ys) (c ∷ y ∷ ys))) [
  | true ↦ ⊎_elim (λ (e : y ≡ d). inl e) (λ (k : Has d ys). inr (put_number-on d c ys k)) (has-split d y ys h)
  | false ↦ inr h
]

pub put_numbers-right : (d : ℕ) (xs l : List ℕ) → Has d l → Has d (put_numbers xs l)
put_numbers-right d [] l h = h
put_numbers-right d (x ∷ xs) l h = put_number-on d x (put_numbers xs l) (put_numbers-right d xs l h)

pub put_numbers-left : (d : ℕ) (xs l : List ℕ) → Has d xs → Has d (put_numbers xs l)
put_numbers-left d [] l h = absurd h
put_numbers-left d (x ∷ xs) l (inl e) = let F : ℕ → Type 0 = λ y. Has y (put_number x (put_numbers xs l)) in subst F e (put_number-here x (put_numbers xs l))
put_numbers-left d (x ∷ xs) l (inr h) = put_number-on d x (put_numbers xs l) (put_numbers-left d xs l h)
