-- The inner names of a line.
use Rattle.std.proofs.Common.{◌≡◌, ◌≤◌, ◌<◌, ◌+◌, ◌-◌, ◌^◌, ℕ, zero, suc, Bool, true, false, ◌||◌, List, [], ◌∷◌, ◌++◌, map, Decides, refl, sym, ap, ◌∙◌, append_assoc, arith}
use Rattle.std.specs.Prelude.{decimal}
use Rattle.std.specs.List.{list_any, range_with_len}
use Rattle.std.specs.Str.{bytes_eq}
use Rattle.std.specs.Cmp.Lexicographic.{nat_list_eq_equiv}
use Rattle.std.proofs.Math.Logic.{⊎_elim}
use Rattle.std.proofs.lemmas.List.{append_cancel_left}
use Rattle.std.proofs.lemmas.Bool.{or_cases, or_left, or_right, cases_eq, false_from_ne_true}
use Rattle.std.proofs.lemmas.Bool.Decides.{same_from_decides, Decides-like}
use Rattle.std.proofs.lemmas.Slice.Eq.{bytes_eq-Decides}
use Rattle.std.proofs.lemmas.List.Folds.{list_any-append}
use Rattle.gadget_tree.specs.Numerals.{continues_below}
use Rattle.gadget_tree.specs.Variables.{is_among}
use Rattle.gadget_tree.specs.Operations.{inner_name}
use Rattle.gadget_tree.specs.Made.{inner_names, names_made}
use Rattle.gadget_tree.proofs.Numerals.{IsNumberBelow, number-Decides}

-- a name is one of those that f makes of numbers
abbrev IsOf : (ℕ → List ℕ) → ℕ → ℕ → List ℕ → Type 0
IsOf f a n w = (k : ℕ) × (a ≤ k) × (k < a + n) × (w ≡ f k)

among-range : (f : ℕ → List ℕ) (w : List ℕ) (a n : ℕ) → is_among (map f (range_with_len a n)) w ≡ true → IsOf f a n w
among-range f w a zero e = absurd cc
among-range f w a (suc n) e =
    ⊎_elim (λ h. (a, omega arith, omega arith, (bytes_eq-Decides w (f a)).0 h))
    (λ h. let r = among-range f w (a + 1) n h in (r.0, omega (arith, r.1), omega (arith, r.2), r.3)) (or_cases (bytes_eq w (f a)) (is_among (map f (range_with_len (a + 1) n)) w) e)

range-among : (f : ℕ → List ℕ) (w : List ℕ) (a n : ℕ) → IsOf f a n w → is_among (map f (range_with_len a n)) w ≡ true
range-among f w a zero h = absurd (omega (arith, h.1, h.2))
range-among f w a (suc n) h =
    ⊎_elim (λ e. or_left (bytes_eq w (f a)) (is_among (map f (range_with_len (a + 1) n)) w) ((bytes_eq-Decides w (f a)).1 (h.3 ∙ ap f e)))
    (λ ne. or_right (bytes_eq w (f a)) (is_among (map f (range_with_len (a + 1) n)) w) (range-among f w (a + 1) n (h.0, omega (arith, h.1, ne), omega (arith, h.2), h.3))) (cases_eq h.0 a)

-- a word is an inner name
abbrev IsInner : List ℕ → ℕ → List ℕ → Type 0
IsInner name count w = (k : ℕ) × (1 ≤ k) × (k < count) × (w ≡ inner_name name k)

inner-Decides : (name : List ℕ) (count : ℕ) (w : List ℕ) → Decides (is_among (inner_names name count) w) (IsInner name count w)
inner-Decides name count w = (
  λ e. let h = among-range (inner_name name) w 1 (count - 1) e in (h.0, h.1, omega (arith, h.1, h.2), h.3),
  λ h. range-among (inner_name name) w 1 (count - 1) (h.0, h.1, omega (arith, h.2), h.3),
)

-- an inner name begins with the name and a dot
pub inner_is : (name : List ℕ) (k : ℕ) → inner_name name k ≡ name ++ 46 ∷ decimal k
inner_is name k = append_assoc name (46 ∷ []) (decimal k)

-- a word that doesn't begin with the name and a dot is none
pub not-inner : (name : List ℕ) (count : ℕ) (w : List ℕ) → ((digits : List ℕ) → w ≡ name ++ 46 ∷ digits → ⊥) → false ≡ is_among (inner_names name count) w
not-inner name count w h =
    sym (false_from_ne_true (is_among (inner_names name count) w) (λ e. let k = (inner-Decides name count w).0 e in h (decimal k.0) (k.3 ∙ inner_is name k.0)))

-- what stands after the name and a dot decides
pub inner-from_digits : (name : List ℕ) (count : ℕ) (w digits : List ℕ) → count < 2 ^ 64 → w ≡ name ++ 46 ∷ digits → continues_below count 0 digits ≡ is_among (inner_names name count) w
inner-from_digits name count w digits small e =
    same_from_decides (continues_below count 0 digits) (is_among (inner_names name count) w)
    (Decides-like (continues_below count 0 digits)
    (λ (h : IsNumberBelow count digits). let k : IsInner name count w = (h.0, h.1, h.2, e ∙ ap (λ (ds : List ℕ). name ++ 46 ∷ ds) h.3 ∙ sym (inner_is name h.0)) in k)
    (λ (h : IsInner name count w). let f : 46 ∷ digits ≡ 46 ∷ decimal h.0 = append_cancel_left name (46 ∷ digits) (46 ∷ decimal h.0) (sym e ∙ h.3 ∙ inner_is name h.0) in (h.0, h.1, h.2, cc))
    (number-Decides count digits (omega arith)))
    (inner-Decides name count w)

-- either of two tests
any-or : {X : Type 0} (p q : X → Bool) (xs : List X) → list_any (λ x. p x || q x) xs ≡ (list_any p xs || list_any q xs)
any-or p q [] = refl
any-or p q (x ∷ xs) = ap (λ (b : Bool). (p x || q x) || b) (any-or p q xs) ∙ or_swap (p x) (q x) (list_any p xs) (list_any q xs) where
  or_swap : (a b c d : Bool) → ((a || b) || (c || d)) ≡ ((a || c) || (b || d))
  or_swap true b c d = refl
  or_swap false true true d = refl
  or_swap false true false d = refl
  or_swap false false c d = refl

none-any : {X : Type 0} (xs : List X) → list_any (λ x. false) xs ≡ false
none-any [] = refl
none-any (x ∷ xs) = none-any xs

any-same : {X : Type 0} (p q : X → Bool) → ((x : X) → p x ≡ q x) → (xs : List X) → list_any p xs ≡ list_any q xs
any-same p q h [] = refl
any-same p q h (x ∷ xs) = ap (λ (b : Bool). b || list_any p xs) (h x) ∙ ap (λ (b : Bool). q x || b) (any-same p q h xs)

-- whether one of these names is among those is whether one of those is among these
pub swapped : (ns ms : List (List ℕ)) → list_any (is_among ns) ms ≡ list_any (is_among ms) ns
swapped [] ms = none-any ms
swapped (n ∷ ns) ms =
    any-or (λ (m : List ℕ). bytes_eq m n) (is_among ns) ms
    ∙ ap (λ (b : Bool). b || list_any (is_among ns) ms) (any-same (λ (m : List ℕ). bytes_eq m n) (bytes_eq n) (λ m. nat_list_eq_equiv.symm m n) ms)
    ∙ ap (λ (b : Bool). is_among ms n || b) (swapped ns ms)

-- some name is taken
pub some-taken : (names : List (List ℕ)) (name : List ℕ) (count : ℕ) → (list_any (is_among (inner_names name count)) names || is_among names name) ≡ list_any (is_among names) (names_made name count)
some-taken names name count =
    ap (λ (b : Bool). b || is_among names name) (swapped (inner_names name count) names)
    ∙ ap (λ (b : Bool). list_any (is_among names) (inner_names name count) || b) (sym (or-false (is_among names name)))
    ∙ sym (list_any-append (is_among names) (inner_names name count) (name ∷ []))
  where
    or-false : (b : Bool) → (b || false) ≡ b
    or-false true = refl
    or-false false = refl
