-- The marks of all items that occur in a list's tuples, and the part of a tuple that has the marked ones.
use Rattle.std.proofs.Common.{◌≡◌, ℕ, suc, ◌+◌, ◌-◌, ◌*◌, ◌/◌, ◌^◌, ◌<◌, ◌≤◌, ◌⊎◌, Bool, true, false, cond, List, [], ◌∷◌, Option, Some, None, IfSome, IfNone, map, length, take, drop, set, get_or, refl, ap, sym, ◌∙◌, inl, inr, arith, subst, pow-suc, drop-cons, Contains}
use Rattle.std.proofs.Math.Nat.{pow-le-pow_right}
use Rattle.std.proofs.lemmas.Bool.{cases_eq}
use Rattle.std.proofs.lemmas.List.{take_more, length-drop, get_or-set_same, get_or-set_other}
use Rattle.std.proofs.lemmas.List.Elements.{Contains-push_cases}
use Rattle.list_laws.proofs.Members.{Contains-cons_head, Contains-cons_tail, Contains-cons_cases}
use Rattle.tuple_model.specs.Tuples.{IsSubset, subset}
use Rattle.tuple_model.specs.Antichains.{Covers, Adds}
use Rattle.tuple_model.proofs.Antichains.{IsSubset-trans}
use Rattle.tuple_model.proofs.Subsets.{subset-odd, subset-even}
use Rattle.tuple_order.specs.Codes.{tuple_of_code}
use Rattle.antichain_list.specs.Held.{IsMarked, AreMarked}
use Rattle.antichain_list.specs.Lists.{IsFirstSubset}

-- one item more is marked
marked-set : (marks : List Bool) (x item : ℕ) → x < length marks → (IsMarked marks item ⊎ (item ≡ x)) → IsMarked (set marks x true) item
marked-set marks x item l h = elim (cases_eq item x) [
  | inl same ↦ ap (λ (k : ℕ). get_or (set marks x true) k false) same ∙ get_or-set_same marks x true false l
  | inr other ↦ get_or-set_other marks x item true false other ∙ (elim h [ inl m ↦ m | inr same ↦ absurd (other same) ])
]

pub marked-more : (old marks : List Bool) (t : List ℕ) (i : ℕ) → i < length t → get_or t i 0 < length marks →
    ((item : ℕ) → (IsMarked old item ⊎ Contains (take i t) item) → IsMarked marks item) →
    (item : ℕ) → (IsMarked old item ⊎ Contains (take (i + 1) t) item) → IsMarked (set marks (get_or t i 0) true) item
marked-more old marks t i l small h item (inl m) = marked-set marks (get_or t i 0) item small (inl (h item (inl m)))
marked-more old marks t i l small h item (inr k) =
    let P : List ℕ → Type 0 = λ s. Contains s item in
    marked-set marks (get_or t i 0) item small (elim (Contains-push_cases (take i t) (get_or t i 0) item (subst P (take_more t i 0 l) k)) [
      | inl before ↦ inl (h item (inr before))
      | inr same ↦ inr (sym same)
    ])

-- the number of a subset that has all marked items
pub record NumbersMarked (marks : List Bool) (t : List ℕ) (number : ℕ) : Type 0 where
  pub small : number < 2 ^ length t
  pub has : (item : ℕ) → Contains t item → IsMarked marks item → Contains (subset number t) item

-- the number is 1 where the test is true, and 0 else
pub record IsDigit (b : Bool) (n : ℕ) : Type 0 where
  pub one : b ≡ true → n ≡ 1
  pub zero : b ≡ false → n ≡ 0

digit_is : (b : Bool) (n : ℕ) → IsDigit b n → n ≡ cond b 1 0
digit_is true n h = h.one refl
digit_is false n h = h.zero refl

pub digit-small : (b : Bool) (n : ℕ) → IsDigit b n → n ≤ 1
digit-small true n h = let e = h.one refl in omega arith
digit-small false n h = let e = h.zero refl in omega arith

pub NumbersMarked-none : (marks : List Bool) → NumbersMarked marks [] 0
NumbersMarked-none marks = record { small = omega arith; has = λ item k m. k }

pub NumbersMarked-more : (marks : List Bool) (x : ℕ) (t : List ℕ) (number : ℕ) (b : Bool) → get_or marks x false ≡ b → NumbersMarked marks t number →
    NumbersMarked marks (x ∷ t) (2 * number + cond b 1 0)
NumbersMarked-more marks x t number true e h =
    let p = pow-suc 2 (length t) in
    let l = h.small in
    let half : (2 * number + 1) / 2 ≡ number = omega arith in
    let f : subset (2 * number + 1) (x ∷ t) ≡ x ∷ subset number t = subset-odd (2 * number + 1) x t (omega arith) ∙ ap (λ (n : ℕ). x ∷ subset n t) half in
    record {
      small = omega arith;
      has = λ item k m.
          let P : List ℕ → Type 0 = λ s. Contains s item in
          subst P (sym f) (elim (Contains-cons_cases x t item k) [
            | inl same ↦ subst (Contains (x ∷ subset number t)) same (Contains-cons_head x (subset number t))
            | inr later ↦ Contains-cons_tail x (subset number t) item (h.has item later m)
          ]);
    }
NumbersMarked-more marks x t number false e h =
    let p = pow-suc 2 (length t) in
    let l = h.small in
    let half : (2 * number + 0) / 2 ≡ number = omega arith in
    let f : subset (2 * number + 0) (x ∷ t) ≡ subset number t = subset-even (2 * number + 0) x t (omega arith) ∙ ap (λ (n : ℕ). subset n t) half in
    record {
      small = omega arith;
      has = λ item k m.
          let P : List ℕ → Type 0 = λ s. Contains s item in
          subst P (sym f) (elim (Contains-cons_cases x t item k) [
            | inl same ↦ let n = subst (IsMarked marks) (sym same) m in cc
            | inr later ↦ h.has item later m
          ]);
    }

pub NumbersMarked-before : (marks : List Bool) (t : List ℕ) (place number : ℕ) (b : Bool) (n : ℕ) → 0 < place → place ≤ length t →
    get_or marks (get_or t (place - 1) 0) false ≡ b → IsDigit b n → NumbersMarked marks (drop place t) number → NumbersMarked marks (drop (place - 1) t) (2 * number + n)
NumbersMarked-before marks t place number b n some within e digit h =
    let next : suc (place - 1) ≡ place = omega arith in
    let f : drop (place - 1) t ≡ get_or t (place - 1) 0 ∷ drop place t =
    drop-cons t (place - 1) 0 (omega arith) ∙ ap (λ (k : ℕ). get_or t (place - 1) 0 ∷ drop k t) next in
    let P : List ℕ → Type 0 = λ s. NumbersMarked marks s (2 * number + n) in
    let Q : ℕ → Type 0 = λ m. NumbersMarked marks (get_or t (place - 1) 0 ∷ drop place t) (2 * number + m) in
    subst P (sym f) (subst Q (sym (digit_is b n digit)) (NumbersMarked-more marks (get_or t (place - 1) 0) (drop place t) number b e h))

-- there is room for one item more
pub number-small : (marks : List Bool) (t : List ℕ) (place number : ℕ) → length t ≤ 6 → 0 < place → place ≤ length t → NumbersMarked marks (drop place t) number → number < 32
number-small marks t place number short some within h =
    let p : 0 < 2 = omega arith in
    let short_rest : length (drop place t) ≤ 5 = omega (arith, length-drop place t) in
    let q : 2 ^ length (drop place t) ≤ 2 ^ 5 = pow-le-pow_right {n = 2} p short_rest in
    let l = h.small in
    omega arith

-- a part of a tuple with all its marked items stands for it
module _ (codes : List ℕ) (marks : List Bool) (t part : List ℕ) (marked : AreMarked marks codes) (within : IsSubset part t)
    (has : (item : ℕ) → Contains t item → IsMarked marks item → Contains part item) where
  subset-part : (s : List ℕ) → Contains (map tuple_of_code codes) s → IsSubset s t → IsSubset s part
  subset-part s k among item l = has item (among item l) (marked s k item l)

  IsFirstSubset-part : (s : List ℕ) → IsFirstSubset (map tuple_of_code codes) part s → IsFirstSubset (map tuple_of_code codes) t s
  IsFirstSubset-part s h = record {
    member = h.member;
    subset = IsSubset-trans s part t h.subset within;
    first = λ other k among. h.first other k (subset-part other k among);
  }

  Covers-part : Covers (map tuple_of_code codes) t → Covers (map tuple_of_code codes) part
  Covers-part c = (c.0, c.1, subset-part c.0 c.1 c.2)

  pub first-part : (r : Option (List ℕ)) → IfSome r (λ s. IsFirstSubset (map tuple_of_code codes) part s) → IfSome r (λ s. IsFirstSubset (map tuple_of_code codes) t s)
  first-part None h = tt
  first-part (Some s) h = IsFirstSubset-part s h

  pub none-part : (r : Option (List ℕ)) → IfNone r (Covers (map tuple_of_code codes) part → ⊥) → IfNone r (Covers (map tuple_of_code codes) t → ⊥)
  none-part None h = λ c. h (Covers-part c)
  none-part (Some s) h = tt

-- a tuple came in, and its items were marked
pub AreMarked-added : (codes t after : List ℕ) (marks more : List Bool) → Adds (map tuple_of_code codes) t (map tuple_of_code after) → AreMarked marks codes →
    ((item : ℕ) → (IsMarked marks item ⊎ Contains t item) → IsMarked more item) → AreMarked more after
AreMarked-added codes t after marks more added marked kept s k item l = elim ((added s).0 k) [
  | inl same ↦ let P : List ℕ → Type 0 = λ u. Contains u item in kept item (inr (subst P same l))
  | inr before ↦ kept item (inl (marked s before.0 item l))
]
