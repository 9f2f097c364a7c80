-- Sums over GF(2) of a test's answers over a list: a sum tells whether an odd number of elements pass. What the sum is depends on
-- those elements alone that stand in the list an odd number of times.
use Rattle.std.proofs.Common.{◌≡◌, ◌↔◌, ℕ, zero, suc, ◌+◌, ◌<◌, ◌%◌, Bool, true, false, eqb, ◌&&◌, ◌||◌, List, [], ◌∷◌, ◌++◌, map, length, refl, ap, sym, ◌∙◌, inl, inr, arith, subst, Contains, bit_or, length-append}
use Rattle.std.specs.Prelude.{count_by}
use Rattle.std.proofs.lemmas.Bool.{false≢true, eq-eqb}
use Rattle.std.proofs.lemmas.Bool.Decides.{eqb_tells}
use Rattle.list_laws.proofs.Counts.{count_by-cons}
use Rattle.list_laws.proofs.Members.{Contains-cons_head, Contains-cons_tail}
use Rattle.list_laws.proofs.Once.{Once, Once-head, Once-tail, Contains-split}
use Rattle.gadget_model.specs.Bits.{add}
use Rattle.gadget_model.specs.Polynomials.{stands_in, odd_ones, unions}
use Rattle.gadget_model.proofs.Sums.{add-assoc, add-same, add-comm, and-add_left}
use Rattle.gadget_model.proofs.Polynomials.{stands_in-from_not_Contains, stands_in-same, once-odd_ones, odd-more, stands_in-odd_ones}

-- whether an odd number of elements pass a test
abbrev pub sum_over : (ℕ → Bool) → List ℕ → Bool
sum_over f [] = false
sum_over f (m ∷ ms) = add (f m) (sum_over f ms)

-- the sum by the count of those that pass
pub sum_over-odd : (f : ℕ → Bool) (ms : List ℕ) → sum_over f ms ≡ eqb (count_by f ms % 2) 1
sum_over-odd f [] = refl
sum_over-odd f (m ∷ ms) =
    ap (add (f m)) (sum_over-odd f ms) ∙ sym (odd-more (f m) (count_by f ms)) ∙ sym (ap (λ (k : ℕ). eqb (k % 2) 1) (count_by-cons f m ms))

-- tests that agree have the same sum
pub sum_over-agree : (f g : ℕ → Bool) → ((m : ℕ) → f m ≡ g m) → (ms : List ℕ) → sum_over f ms ≡ sum_over g ms
sum_over-agree f g same [] = refl
sum_over-agree f g same (m ∷ ms) = let e = same m in let i = sum_over-agree f g same ms in cc

-- the sum over two lists is the sum of the sums
pub sum_over-append : (f : ℕ → Bool) (ms ns : List ℕ) → sum_over f (ms ++ ns) ≡ add (sum_over f ms) (sum_over f ns)
sum_over-append f [] ns = refl
sum_over-append f (m ∷ ms) ns = ap (add (f m)) (sum_over-append f ms ns) ∙ sym (add-assoc (f m) (sum_over f ms) (sum_over f ns))

-- the sum over images is that of the test of images
pub sum_over-map : (f : ℕ → Bool) (h : ℕ → ℕ) (ms : List ℕ) → sum_over f (map h ms) ≡ sum_over (λ m. f (h m)) ms
sum_over-map f h [] = refl
sum_over-map f h (m ∷ ms) = ap (add (f (h m))) (sum_over-map f h ms)

-- an element in the middle may be added first
sum_over-middle : (f : ℕ → Bool) (front : List ℕ) (m : ℕ) (back : List ℕ) → sum_over f (front ++ m ∷ back) ≡ add (f m) (sum_over f (front ++ back))
sum_over-middle f [] m back = refl
sum_over-middle f (w ∷ front) m back =
    let rest = sum_over f (front ++ back) in
    ap (add (f w)) (sum_over-middle f front m back)
    ∙ sym (add-assoc (f w) (f m) rest)
    ∙ ap (λ (b : Bool). add b rest) (add-comm (f w) (f m))
    ∙ add-assoc (f m) (f w) rest

-- what stands in a list an odd number of times stands in it
Contains-from_sum_over : (m : ℕ) (ms : List ℕ) → sum_over (λ w. eqb w m) ms ≡ true → Contains ms m
Contains-from_sum_over m [] h = absurd (false≢true h)
Contains-from_sum_over m (w ∷ ms) h = elim (eqb_tells w m) [
  | inl same ↦ subst (Contains (w ∷ ms)) same.1 (Contains-cons_head w ms)
  | inr other ↦ Contains-cons_tail w ms m (Contains-from_sum_over m ms (sym (ap (λ (b : Bool). add b (sum_over (λ w. eqb w m) ms)) other.0) ∙ h))
]

-- what is added twice is gone
add-twice : (a b : Bool) → add a (add a b) ≡ b
add-twice a b = sym (add-assoc a a b) ∙ ap (λ (c : Bool). add c b) (add-same a)

-- where two bits sum to 0 and the first is 1, so is the second
add-second : (a b : Bool) → a ≡ true → add a b ≡ false → b ≡ true
add-second true true e h = refl
add-second true false e h = absurd (false≢true (sym h))
add-second false b e h = absurd (false≢true e)

-- two bits that sum to 0 are equal
same-from_add : (a b : Bool) → add a b ≡ false → a ≡ b
same-from_add true true h = refl
same-from_add true false h = absurd (false≢true (sym h))
same-from_add false b h = sym h

-- `even-counts` for lists of fewer than n elements: the first element goes together with another place where it stands
even-within : (n : ℕ) (ms : List ℕ) → length ms < n → ((m : ℕ) → sum_over (λ w. eqb w m) ms ≡ false) → (f : ℕ → Bool) → sum_over f ms ≡ false
even-within zero ms less even f = absurd (omega arith)
even-within (suc n) [] less even f = refl
even-within (suc n) (m ∷ ms) less even f =
    let twice = add-second (eqb m m) (sum_over (λ w. eqb w m) ms) (eq-eqb m m refl) (even m) in
    let r = Contains-split ms m (Contains-from_sum_over m ms twice) in
    let rest = r.0 ++ r.1 in
    let sums : (g : ℕ → Bool) → sum_over g (m ∷ ms) ≡ sum_over g rest = λ g.
    ap (λ (w : List ℕ). add (g m) (sum_over g w)) r.2 ∙ ap (add (g m)) (sum_over-middle g r.0 m r.1) ∙ add-twice (g m) (sum_over g rest) in
    let l = ap length r.2 in
    let l' = length-append r.0 (m ∷ r.1) in
    let l'' = length-append r.0 r.1 in
    sums f ∙ even-within n rest (omega arith) (λ w. sym (sums (λ v. eqb v w)) ∙ even w) f

-- where each element stands an even number of times, any test passes an even number of times
pub even-counts : (ms : List ℕ) → ((m : ℕ) → sum_over (λ w. eqb w m) ms ≡ false) → (f : ℕ → Bool) → sum_over f ms ≡ false
even-counts ms even f = even-within (length ms + 1) ms (omega arith) even f

-- two lists with the same elements an odd number of times have the same sums
pub sum_over-alike : (ms ns : List ℕ) → ((m : ℕ) → sum_over (λ w. eqb w m) ms ≡ sum_over (λ w. eqb w m) ns) → (f : ℕ → Bool) →
    sum_over f ms ≡ sum_over f ns
sum_over-alike ms ns alike f =
    let both : (m : ℕ) → sum_over (λ w. eqb w m) (ms ++ ns) ≡ false = λ m.
    sum_over-append (λ w. eqb w m) ms ns
    ∙ ap (λ (b : Bool). add b (sum_over (λ w. eqb w m) ns)) (alike m)
    ∙ add-same (sum_over (λ w. eqb w m) ns) in
    same-from_add (sum_over f ms) (sum_over f ns) (sym (sum_over-append f ms ns) ∙ even-counts (ms ++ ns) both f)

-- in a list without repeats an element stands an odd number of times where it stands at all
pub sum_over-once : (p : List ℕ) → Once p → (m : ℕ) → sum_over (λ w. eqb w m) p ≡ stands_in m p
sum_over-once [] once m = refl
sum_over-once (w ∷ p) once m =
    let i = sum_over-once p (Once-tail w p once) m in
    elim (eqb_tells w m) [
      | inl same ↦
          let none = i ∙ stands_in-from_not_Contains p m (λ h. Once-head w p once (subst (Contains p) (sym same.1) h)) in
          ap (λ (b : Bool). add b (sum_over (λ v. eqb v m) p)) same.0
          ∙ ap (add true) none
          ∙ sym (ap (λ (b : Bool). b || stands_in m p) same.0)
      | inr other ↦
          ap (λ (b : Bool). add b (sum_over (λ v. eqb v m) p)) other.0
          ∙ i
          ∙ sym (ap (λ (b : Bool). b || stands_in m p) other.0)
    ]

-- a sum over a set depends on its members alone
pub sum_over-same : (p q : List ℕ) → Once p → Once q → ((m : ℕ) → Contains p m ↔ Contains q m) → (f : ℕ → Bool) → sum_over f p ≡ sum_over f q
sum_over-same p q once once' same f =
    sum_over-alike p q (λ m. sum_over-once p once m ∙ stands_in-same p q same m ∙ sym (sum_over-once q once' m)) f

-- a sum over a list is one over its odd ones
pub sum_over-odd_ones : (ms : List ℕ) (f : ℕ → Bool) → sum_over f (odd_ones ms) ≡ sum_over f ms
sum_over-odd_ones ms f =
    sum_over-alike (odd_ones ms) ms
    (λ m. sum_over-once (odd_ones ms) (once-odd_ones ms) m ∙ stands_in-odd_ones ms m ∙ sym (sum_over-odd (λ w. eqb w m) ms)) f

-- a sum over unions is one over the one set of sums over the other
pub sum_over-unions : (f : ℕ → Bool) (p q : List ℕ) → sum_over f (unions p q) ≡ sum_over (λ a. sum_over (λ b. f (bit_or a b)) q) p
sum_over-unions f [] q = refl
sum_over-unions f (a ∷ p) q =
    sum_over-append f (map (bit_or a) q) (unions p q)
    ∙ ap (λ (s : Bool). add s (sum_over f (unions p q))) (sum_over-map f (bit_or a) q)
    ∙ ap (add (sum_over (λ b. f (bit_or a b)) q)) (sum_over-unions f p q)

-- which unions arise an odd number of times depends on the members of the two sets alone
pub unions-same : (p p' q q' : List ℕ) → Once p → Once p' → Once q → Once q' →
    ((m : ℕ) → Contains p m ↔ Contains p' m) → ((m : ℕ) → Contains q m ↔ Contains q' m) →
    (m : ℕ) → stands_in m (odd_ones (unions p q)) ≡ stands_in m (odd_ones (unions p' q'))
unions-same p p' q q' p_once p'_once q_once q'_once p_same q_same m =
    let test : ℕ → Bool = λ w. eqb w m in
    let odd : (s t : List ℕ) → stands_in m (odd_ones (unions s t)) ≡ sum_over (λ a. sum_over (λ b. test (bit_or a b)) t) s =
    λ s t. stands_in-odd_ones (unions s t) m ∙ sym (sum_over-odd test (unions s t)) ∙ sum_over-unions test s t in
    odd p q
    ∙ sum_over-same p p' p_once p'_once p_same (λ a. sum_over (λ b. test (bit_or a b)) q)
    ∙ sum_over-agree (λ a. sum_over (λ b. test (bit_or a b)) q) (λ a. sum_over (λ b. test (bit_or a b)) q')
    (λ a. sum_over-same q q' q_once q'_once q_same (λ b. test (bit_or a b))) p'
    ∙ sym (odd p' q')

-- a factor may be drawn out of a sum
pub sum_over-and_left : (x : Bool) (f : ℕ → Bool) (ms : List ℕ) → sum_over (λ m. x && f m) ms ≡ (x && sum_over f ms)
sum_over-and_left true f ms = refl
sum_over-and_left false f [] = refl
sum_over-and_left false f (m ∷ ms) = sum_over-and_left false f ms

pub sum_over-and_right : (f : ℕ → Bool) (x : Bool) (ms : List ℕ) → sum_over (λ m. f m && x) ms ≡ (sum_over f ms && x)
sum_over-and_right f x [] = refl
sum_over-and_right f x (m ∷ ms) = ap (add (f m && x)) (sum_over-and_right f x ms) ∙ sym (and-add_left (f m) (sum_over f ms) x)
