-- What a search for a variable says of a polynomial.
use Rattle.std.proofs.Common.{◌≡◌, ◌↔◌, ℕ, Bool, true, ◌||◌, List, [], ◌∷◌, ap, sym, ◌∙◌, subst, inl, inr, Contains}
use Rattle.std.specs.List.{list_any}
use Rattle.std.specs.Int.{bit_at}
use Rattle.std.proofs.lemmas.Bool.{cases_Bool, false≢true}
use Rattle.smallvec.specs.SmallVec.{SmallVec}
use Rattle.list_laws.proofs.Members.{Contains-cons_head, Contains-cons_tail, Contains-cons_cases, Contains-map, Contains-from_map}
use Rattle.list_laws.proofs.Once.{Contains-nil}
use Rattle.gadget_model.specs.Polynomials.{stands_in}
use Rattle.gadget_model.proofs.Polynomials.{stands_in-from_Contains, Contains-from_stands_in}
use Rattle.anf.specs.Polynomials.{set_of, Occurs}
use Rattle.anf.specs.Monomials.{sets_of}
use Rattle.anf.proofs.Sets.{bit_from_Contains, Contains-from_bit}

-- some element that passes
some_passes : {X : Type 0} (t : X → Bool) (xs : List X) → list_any t xs ≡ true → (x : X) × Contains xs x × (t x ≡ true)
some_passes t [] e = absurd (false≢true e)
some_passes t (x ∷ xs) e = elim (cases_Bool (t x)) [
  | inl here ↦ (x, Contains-cons_head x xs, here)
  | inr later ↦ let r = some_passes t xs (sym (ap (λ (b : Bool). b || list_any t xs) later) ∙ e) in (r.0, Contains-cons_tail x xs r.0 r.1, r.2)
]

-- some element passes where a member does
list_any-from_Contains : {X : Type 0} (t : X → Bool) (xs : List X) (x : X) → Contains xs x → t x ≡ true → list_any t xs ≡ true
list_any-from_Contains t [] x h p = absurd (Contains-nil x h)
list_any-from_Contains {X} t (y ∷ xs) x h p = elim (cases_Bool (t y)) [
  | inl here ↦ ap (λ (b : Bool). b || list_any t xs) here
  | inr later ↦ elim (Contains-cons_cases y xs x h) [
    | inl e ↦ absurd (false≢true (sym later ∙ ap t e ∙ p))
    | inr k ↦ ap (λ (b : Bool). b || list_any t xs) later ∙ list_any-from_Contains t xs x k p
  ]
]

-- a variable occurs where the search through the variables of each monomial finds it
pub Occurs-from_search : (ms : List (SmallVec ℕ)) (v : ℕ) → (list_any (λ m. stands_in v m.items) ms ≡ true) ↔ Occurs (sets_of ms) v
Occurs-from_search ms v = (
  (λ e.
      let r = some_passes (λ (m : SmallVec ℕ). stands_in v m.items) ms e in
      (set_of r.0.items, Contains-map (λ (m : SmallVec ℕ). set_of m.items) ms r.0 r.1, bit_from_Contains r.0.items v (Contains-from_stands_in r.0.items v r.2))),
  (λ h.
      let r = Contains-from_map (λ (m : SmallVec ℕ). set_of m.items) ms h.0 h.1 in
      let has = ap (λ (s : ℕ). bit_at s v) r.2 ∙ h.2 in
      list_any-from_Contains (λ (m : SmallVec ℕ). stands_in v m.items) ms r.0 r.1 (stands_in-from_Contains r.0.items v (Contains-from_bit r.0.items v has))),
)

-- the same of what a search answered, at the monomials of a polynomial
pub Occurs-from_answer : (ms : List (SmallVec ℕ)) (p : List ℕ) (v : ℕ) (r : Bool) → sets_of ms ≡ p → r ≡ list_any (λ m. stands_in v m.items) ms → (r ≡ true) ↔ Occurs p v
Occurs-from_answer ms p v r e is =
    subst (λ (b : Bool). (b ≡ true) ↔ Occurs p v) (sym is)
    (subst (λ (q : List ℕ). (list_any (λ m. stands_in v m.items) ms ≡ true) ↔ Occurs q v) e (Occurs-from_search ms v))
