-- Rising lists as sets: what is put into one or taken out of it.
use Rattle.std.proofs.Common.{◌≡◌, ◌≢◌, ◌↔◌, ℕ, ◌⊎◌, ⊎_elim, List, [], ◌∷◌, sym, inl, inr, subst}
use Rattle.cover_core.specs.Core.{Has, IsPlaceBefore, IsRangeBefore, Rises}
use Rattle.cover_core.specs.Effects.{put_bare, put_number, put_numbers, put_pair, put_pairs, take_out}
use Rattle.cover_core.specs.Laws.{HasBoth}
use Rattle.cover_core.proofs.Lists.{put_pair-from, put_pair-here, put_pair-on, put_pairs-from, put_pairs-left, put_pairs-right, take_out-from, take_out-on}
use Rattle.cover_core.proofs.Looked.{put_bare-here}
use Rattle.cover_core.proofs.Rises.{put_bare-kept, put_bare-new, put_number-from, put_number-here, put_number-on, put_numbers-from, put_numbers-left, put_numbers-right, take_out-gone}

one-has : {X : Type 0} (x y : X) (l : List X) → (x ≡ y) ⊎ Has y l → Has y (x ∷ []) ⊎ Has y l
one-has x y l h = ⊎_elim (λ (e : x ≡ y). inl (inl e)) (λ (k : Has y l). inr k) h

has-one : {X : Type 0} (x y : X) → Has y (x ∷ []) → x ≡ y
has-one x y (inl e) = e
has-one x y (inr k) = absurd k

pub pair-set : (x : ℕ × ℕ) (l : List (ℕ × ℕ)) → HasBoth (put_pair x l) (x ∷ []) l
pair-set x l y = (
  (λ h. one-has x y l (put_pair-from y x l h)),
  (λ h. ⊎_elim
      (λ (k : Has y (x ∷ [])). let P : ℕ × ℕ → Type 0 = λ z. Has z (put_pair x l) in subst P (has-one x y k) (put_pair-here x l))
      (λ (k : Has y l). put_pair-on y x l k) h),
)

pub pairs-set : (xs l : List (ℕ × ℕ)) → HasBoth (put_pairs xs l) xs l
pairs-set xs l y = (
  put_pairs-from y xs l,
  (λ h. ⊎_elim (λ (k : Has y xs). put_pairs-left y xs l k) (λ (k : Has y l). put_pairs-right y xs l k) h),
)

pub number-set : (n : ℕ) (l : List ℕ) → HasBoth (put_number n l) (n ∷ []) l
number-set n l y = (
  (λ h. one-has n y l (put_number-from y n l h)),
  (λ h. ⊎_elim
      (λ (k : Has y (n ∷ [])). let P : ℕ → Type 0 = λ z. Has z (put_number n l) in subst P (has-one n y k) (put_number-here n l))
      (λ (k : Has y l). put_number-on y n l k) h),
)

pub numbers-set : (ns l : List ℕ) → HasBoth (put_numbers ns l) ns l
numbers-set ns l y = (
  put_numbers-from y ns l,
  (λ h. ⊎_elim (λ (k : Has y ns). put_numbers-left y ns l k) (λ (k : Has y l). put_numbers-right y ns l k) h),
)

pub out-set : (x : ℕ × ℕ) (l : List (ℕ × ℕ)) → Rises IsRangeBefore l → (y : ℕ × ℕ) → Has y (take_out x l) ↔ (Has y l × (y ≢ x))
out-set x l rises y = (
  (λ h. (take_out-from y x l h, (λ e. let P : ℕ × ℕ → Type 0 = λ z. Has z (take_out x l) in take_out-gone x l rises (subst P e h)))),
  (λ h. ⊎_elim (λ (e : x ≡ y). absurd (h.1 (sym e))) (λ (k : Has y (take_out x l)). k) (take_out-on y x l h.0)),
)

pub bare-set : (p m : ℕ) (l : List (ℕ × ℕ)) → Rises IsPlaceBefore l → (y : ℕ × ℕ) → Has y (put_bare p m l) ↔ (((p, m) ≡ y) ⊎ (Has y l × (y.0 ≢ p)))
bare-set p m l rises y = (
  (λ h. put_bare-new p m l y rises h),
  (λ h. ⊎_elim
      (λ (e : (p, m) ≡ y). let P : ℕ × ℕ → Type 0 = λ z. Has z (put_bare p m l) in subst P e (put_bare-here p m l))
      (λ (k : Has y l × (y.0 ≢ p)). put_bare-kept p m l y k.0 k.1) h),
)
