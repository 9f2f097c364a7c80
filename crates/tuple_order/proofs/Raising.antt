-- The step within a size, by the place of the last item that can be raised.
use Rattle.std.proofs.Common.{◌≡◌, ℕ, zero, suc, ◌+◌, ◌-◌, ◌<◌, ◌≤◌, Bool, cond, ltb, List, [], ◌∷◌, ◌++◌, length, take, drop, Option, Some, None, refl, ap, sym, ◌∙◌, inl, inr, arith, append-nil, length-drop, length-take-le, drop_of_length-le}
use borrow.Rule.Slice.PartMut.{mid_of, post_of, put_mid}
use Rattle.std.specs.Option.{option_or, option_map}
use Rattle.std.specs.List.{slice_index}
use Rattle.std.proofs.lemmas.Bool.{cases_lt, lt-ltb, le-ltb}
use Rattle.tuple_order.specs.Steps.{numbers_from, CanRaise, next_of_size}

pub length-numbers_from : (first n : ℕ) → length (numbers_from first n) ≡ n
length-numbers_from first zero = refl
length-numbers_from first (suc n) = ap suc (length-numbers_from (suc first) n)

pub numbers_from-more : (first n : ℕ) → numbers_from first (n + 1) ≡ numbers_from first n ++ (first + n) ∷ []
numbers_from-more first zero =
    let e : first ≡ first + 0 = omega arith in
    ap (λ (k : ℕ). k ∷ []) e
numbers_from-more first (suc n) =
    let s : suc n + 1 ≡ suc (n + 1) = omega arith in
    let e : suc first + n ≡ first + suc n = omega arith in
    ap (numbers_from first) s
    ∙ ap (λ (t : List ℕ). first ∷ t) (numbers_from-more (suc first) n ∙ ap (λ (k : ℕ). numbers_from (suc first) n ++ k ∷ []) e)

later_in_rest : (high x : ℕ) (xs : List ℕ) (place : ℕ) → CanRaise high xs place → CanRaise high (x ∷ xs) (suc place)
later_in_rest high x xs place h = (omega arith, omega arith)

pub next_of_size-none : (high : ℕ) (t : List ℕ) → ((place : ℕ) → CanRaise high t place → ⊥) → next_of_size high t ≡ None
next_of_size-none high [] none = refl
next_of_size-none high (x ∷ xs) none =
    let first : high ≤ suc x + length xs = elim (cases_lt (suc x + length xs) high) [
      | inl less ↦ absurd (none 0 (omega arith, omega arith))
      | inr most ↦ most
    ] in
    ap (λ (s : Option (List ℕ)). option_or (option_map (λ t. x ∷ t) s) (cond (ltb (suc x + length xs) high) (Some (numbers_from (suc x) (suc (length xs)))) None))
    (next_of_size-none high xs (λ place h. none (suc place) (later_in_rest high x xs place h)))
    ∙ ap (λ (b : Bool). cond b (Some (numbers_from (suc x) (suc (length xs)))) None) (le-ltb (suc x + length xs) high first)

pub next_of_size-raised : (high : ℕ) (t : List ℕ) (place : ℕ) → CanRaise high t place → ((later : ℕ) → place < later → CanRaise high t later → ⊥) →
    next_of_size high t ≡ Some (take place t ++ numbers_from (suc (slice_index t place)) (length t - place))
next_of_size-raised high [] place h last = absurd (omega arith)
next_of_size-raised high (x ∷ xs) zero h last =
    let less : suc x + length xs < high = omega arith in
    let all : suc (length xs) ≡ suc (length xs) - 0 = omega arith in
    ap (λ (s : Option (List ℕ)). option_or (option_map (λ t. x ∷ t) s) (cond (ltb (suc x + length xs) high) (Some (numbers_from (suc x) (suc (length xs)))) None))
    (next_of_size-none high xs (λ place k. last (suc place) (omega arith) (later_in_rest high x xs place k)))
    ∙ ap (λ (b : Bool). cond b (Some (numbers_from (suc x) (suc (length xs)))) None) (lt-ltb (suc x + length xs) high less)
    ∙ ap (λ (n : ℕ). Some (numbers_from (suc x) n)) all
next_of_size-raised high (x ∷ xs) (suc place) h last =
    let fewer : length xs - place ≡ suc (length xs) - suc place = omega arith in
    ap (λ (s : Option (List ℕ)). option_or (option_map (λ t. x ∷ t) s) (cond (ltb (suc x + length xs) high) (Some (numbers_from (suc x) (suc (length xs)))) None))
    (next_of_size-raised high xs place (omega arith, omega arith) (λ later l k. last (suc later) (omega arith) (later_in_rest high x xs later k)))
    ∙ ap (λ (n : ℕ). Some (x ∷ (take place xs ++ numbers_from (suc (slice_index xs place)) n))) fewer

-- the same, as the list with its last places written anew
pub next_of_size-written : (high : ℕ) (t written : List ℕ) (place : ℕ) → CanRaise high t place → ((later : ℕ) → place < later → CanRaise high t later → ⊥) →
    written ≡ numbers_from (slice_index t place + 1) (length (mid_of place (length t - place) t)) →
    next_of_size high t ≡ Some (put_mid place (length t - place) t written)
next_of_size-written high t written place h last e =
    let rest : length (drop place t) ≡ length t - place = length-drop place t in
    let count : length t - place ≡ length (mid_of place (length t - place) t) = sym (length-take-le (length t - place) (drop place t) (omega arith)) in
    let one : suc (slice_index t place) ≡ slice_index t place + 1 = omega arith in
    let none : post_of place (length t - place) t ≡ [] = drop_of_length-le (drop place t) (omega arith) in
    next_of_size-raised high t place h last
    ∙ ap (λ (n : ℕ). Some (take place t ++ numbers_from (suc (slice_index t place)) n)) count
    ∙ ap (λ (n : ℕ). Some (take place t ++ numbers_from n (length (mid_of place (length t - place) t)))) one
    ∙ ap (λ (w : List ℕ). Some (take place t ++ w)) (sym e ∙ sym (append-nil written) ∙ ap (λ (r : List ℕ). written ++ r) (sym none))
