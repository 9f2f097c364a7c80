-- What the tests of a polynomial say of the class.
use Rattle.gadget_limits.specs.Limits.{most_monomials}
use Rattle.std.proofs.Common.{◌≡◌, ◌≢◌, ℕ, ◌<◌, ◌≤◌, ◌⊎◌, Bool, true, false, ◌&&◌, ltb, List, [], ◌∷◌, length, get_or, refl, ap, sym, ◌∙◌, subst, inl, inr, arith, Contains, Some}
use Rattle.std.specs.Prelude.{slice_get}
use Rattle.std.specs.List.{All}
use Rattle.std.specs.List.Sorted.{IsStrictlyIncreasing}
use Rattle.std.specs.Option.{option_map}
use Rattle.std.proofs.lemmas.Bool.{false≢true, ltb-true, true≢false, lt-ltb, and_parts}
use Rattle.std.proofs.lemmas.Bool.Decides.{eqb_tells}
use Rattle.std.proofs.lemmas.List.Folds.{Any-from_list_any, list_any-from_Any}
use Rattle.std.proofs.lemmas.List.Elements.{Contains-get_or}
use Rattle.std.proofs.lemmas.Option.{slice_get-map, slice_get-get_or}
use Rattle.smallvec.specs.SmallVec.{SmallVec}
use Rattle.list_laws.proofs.Members.{Contains-cons_head, Contains-cons_tail, Contains-cons_cases, Contains-map, Contains-from_map}
use Rattle.list_laws.proofs.Once.{length-same}
use Rattle.gadget_model.specs.Circuit.{Circuit, Node, Variable, share, random, copy, sum_of, product_of}
use Rattle.gadget_model.specs.Polynomials.{HasVariable, polynomial}
use Rattle.gadget_model.specs.Classes.{IsShare, IsRandom, MultipliesRandom, HasThreeShares, HasRandomProduct, HasDegreeAboveTwo, IsTooWide, random_product, degree, HasFault, IsFit}
use Rattle.gadget_model.proofs.WirePolynomials.{once-polynomial, leaves-polynomial}
use Rattle.gadget_tree.specs.declared.var.Var.{Var}
use Rattle.gadget_tree.specs.Gadgets.{IsGadget}
use Rattle.gadget_tree.specs.Seen.{variable_of, variables_of}
use Rattle.anf.specs.Polynomials.{IsSetOf, HasThreeVariables, HasFewVariables, set_of}
use Rattle.anf.specs.Monomials.{sets_of, AreRising}
use Rattle.anf.proofs.FewVariables.{HasThreeVariables-from_length}
use Rattle.anf.proofs.Sets.{bit_from_Contains, Contains-from_bit}
use Rattle.wire_table.specs.Refusals.{IsLineOf}
use Rattle.wire_table.specs.Terms.{node_at}
use Rattle.wire_table.specs.WirePolynomials.{is_random, has_random, multiplies_random, any_multiplies_random, any_above_two}
use Rattle.wire_table.proofs.Monomials.{node_at-is, node_at-node, length-variables_of, variable_within}

-- the line of the variable with a number
pub IsLineOf-at : (g : Circuit) (vars : List Var) (v i : ℕ) (d : Var) → variables_of vars ≡ g.variables → i ≡ v → v < length g.variables → IsLineOf g v (get_or vars i d).line
IsLineOf-at g vars v i d e same l =
    let n = length-variables_of g vars e in
    let P : ℕ → Type 0 = λ j. IsLineOf g j (get_or vars i d).line in
    subst P same (
      variable_of (get_or vars i d),
      ap (λ (vs : List Variable). slice_get vs i) (sym e)
          ∙ slice_get-map variable_of vars i
          ∙ ap (option_map variable_of) (slice_get-get_or vars i d (omega arith)),
      refl,
    )

-- the variables of a polynomial are input shares and randoms
abbrev pub HasLeaves : Circuit → List ℕ → Type 0
HasLeaves g p = (m v : ℕ) → Contains p m → HasVariable m v → IsShare g v ⊎ IsRandom g v

random_from_test : (node : Node) → is_random node ≡ true → (k : ℕ) × (node ≡ random k)
random_from_test (share k) h = absurd (false≢true h)
random_from_test (random k) h = (k, refl)
random_from_test (copy a) h = absurd (false≢true h)
random_from_test (sum_of a b) h = absurd (false≢true h)
random_from_test (product_of a b) h = absurd (false≢true h)

-- in a rising list of two or more there is another than one of them
other_of : (vs : List ℕ) (v : ℕ) → IsStrictlyIncreasing vs → 1 < length vs → (w : ℕ) × Contains vs w × (v ≢ w)
other_of [] v up more = absurd (omega arith)
other_of (a ∷ []) v up more = absurd (omega arith)
other_of (a ∷ b ∷ vs) v up more =
    let less : a < b = up 0 (omega arith) in
    elim (eqb_tells v a) [
      | inl same ↦ (b, Contains-cons_tail a (b ∷ vs) b (Contains-cons_head b vs), (λ e. let f = same.1 in absurd (omega arith)))
      | inr other ↦ (a, Contains-cons_head a (b ∷ vs), other.1)
    ]

-- two members make a list of two or more
pub two_members : (vs : List ℕ) (v w : ℕ) → Contains vs v → Contains vs w → v ≢ w → 1 < length vs
two_members [] v w p q other = absurd (omega (arith, p.1))
two_members (a ∷ []) v w p q other = elim (Contains-cons_cases a [] v p) [
  | inl e ↦ elim (Contains-cons_cases a [] w q) [ inl f ↦ absurd (other (sym e ∙ f)) | inr h ↦ absurd (omega (arith, h.1)) ]
  | inr h ↦ absurd (omega (arith, h.1))
]
two_members (a ∷ b ∷ vs) v w p q other = omega arith

-- the test of a monomial says whether it has a random and another variable
MultipliesRandom-from_test : (g : Circuit) (vars : List Var) → variables_of vars ≡ g.variables → (vs : List ℕ) → IsStrictlyIncreasing vs →
    All (λ v. v < length vars) vs → multiplies_random vars vs ≡ true → MultipliesRandom g (set_of vs)
MultipliesRandom-from_test g vars e vs up within h =
    let both = and_parts (ltb 1 (length vs)) (has_random vars vs) h in
    let any = Any-from_list_any (λ v. is_random (node_at vars v)) vs both.1 in
    let v = any.1 in
    let among : Contains vs v = (any.0, any.2, any.3) in
    let found = random_from_test (node_at vars v) any.4 in
    let P : ℕ → Type 0 = λ w. w < length vars in
    let less : v < length vars = subst P any.3 (within any.0 v any.2) in
    let other = other_of vs v up (ltb-true 1 (length vs) both.0) in (
      v,
      other.0,
      bit_from_Contains vs v among,
      (found.0, node_at-node g vars v e less ∙ ap (λ (n : Node). Some n) found.1),
      bit_from_Contains vs other.0 other.1,
      other.2,
    )

test_from_MultipliesRandom : (g : Circuit) (vars : List Var) → variables_of vars ≡ g.variables → (vs : List ℕ) → MultipliesRandom g (set_of vs) →
    multiplies_random vars vs ≡ true
test_from_MultipliesRandom g vars e vs (v, w, has, is, has', other) =
    let p = Contains-from_bit vs v has in
    let q = Contains-from_bit vs w has' in
    let is_one : is_random (node_at vars v) ≡ true = ap is_random (node_at-is g vars v (random is.0) e is.1) in
    let any = list_any-from_Any (λ v. is_random (node_at vars v)) vs (p.0, v, p.1, p.2, is_one) in
    ap (λ (b : Bool). b && has_random vars vs) (lt-ltb 1 (length vs) (two_members vs v w p q other)) ∙ any

-- the test of a polynomial says whether it has a random in a product
pub HasRandomProduct-from_test : (g : Circuit) (vars : List Var) → variables_of vars ≡ g.variables → (ms : List (SmallVec ℕ)) → AreRising ms →
    All (λ m. All (λ v. v < length vars) m.items) ms → any_multiplies_random vars ms ≡ true → HasRandomProduct g (sets_of ms)
HasRandomProduct-from_test g vars e ms rising within h =
    let f : SmallVec ℕ → ℕ = λ m. set_of m.items in
    let any = Any-from_list_any (λ m. multiplies_random vars m.items) ms h in
    let x = any.1 in
    let P : SmallVec ℕ → Type 0 = λ m. IsStrictlyIncreasing m.items in
    let Q : SmallVec ℕ → Type 0 = λ m. All (λ v. v < length vars) m.items in (
      f x,
      Contains-map f ms x (any.0, any.2, any.3),
      MultipliesRandom-from_test g vars e x.items (subst P any.3 (rising any.0 x any.2)) (subst Q any.3 (within any.0 x any.2)) any.4,
    )

pub test_from_HasRandomProduct : (g : Circuit) (vars : List Var) → variables_of vars ≡ g.variables → (ms : List (SmallVec ℕ)) →
    HasRandomProduct g (sets_of ms) → any_multiplies_random vars ms ≡ true
test_from_HasRandomProduct g vars e ms (m, among, mult) =
    let f : SmallVec ℕ → ℕ = λ m. set_of m.items in
    let r = Contains-from_map f ms m among in
    let P : ℕ → Type 0 = λ s. MultipliesRandom g s in
    list_any-from_Any (λ m. multiplies_random vars m.items) ms
    (r.1.0, r.0, r.1.1, r.1.2, test_from_MultipliesRandom g vars e r.0.items (subst P (sym r.2) mult))

one_of_two : (a b v : ℕ) → Contains (a ∷ b ∷ []) v → (a ≡ v) ⊎ (b ≡ v)
one_of_two a b v h = elim (Contains-cons_cases a (b ∷ []) v h) [
  | inl e ↦ inl e
  | inr k ↦ elim (Contains-cons_cases b [] v k) [ inl e ↦ inr e | inr m ↦ absurd (omega (arith, m.1)) ]
]

-- three members make a list of three or more
pub three_members : (vs : List ℕ) (u v w : ℕ) → u < v → v < w → Contains vs u → Contains vs v → Contains vs w → 2 < length vs
three_members [] u v w less more p q r = absurd (omega (arith, p.1))
three_members (a ∷ []) u v w less more p q r = absurd (let two = two_members (a ∷ []) u v p q (λ e. absurd (omega arith)) in omega arith)
three_members (a ∷ b ∷ []) u v w less more p q r =
    let x = one_of_two a b u p in
    let y = one_of_two a b v q in
    let z = one_of_two a b w r in
    absurd (grind arith)
three_members (a ∷ b ∷ c ∷ vs) u v w less more p q r = omega arith

-- three variables of a polynomial without random products are input shares
pub HasThreeShares-from_leaves : (g : Circuit) (p : List ℕ) → HasLeaves g p → (HasRandomProduct g p → ⊥) → (m : ℕ) → Contains p m → HasThreeVariables m → HasThreeShares g m
HasThreeShares-from_leaves g p leaves alone m among (u, v, w, less, more, a, b, c) =
    let share : (s t : ℕ) → HasVariable m s → HasVariable m t → s ≢ t → IsShare g s = λ s t has has' other.
    elim (leaves m s among has) [ inl is ↦ is | inr is' ↦ absurd (alone (m, among, (s, t, has, is', has', other))) ] in
    (u, v, w, less, more, a, share u v a b (λ e. absurd (omega arith)), b, share v w b c (λ e. absurd (omega arith)), c, share w u c a (λ e. absurd (omega arith)))

-- the test of a polynomial says whether it is of a degree above two
pub HasDegreeAboveTwo-from_test : (g : Circuit) (ms : List (SmallVec ℕ)) → AreRising ms → HasLeaves g (sets_of ms) → (HasRandomProduct g (sets_of ms) → ⊥) →
    any_above_two ms ≡ true → HasDegreeAboveTwo g (sets_of ms)
HasDegreeAboveTwo-from_test g ms rising leaves alone h =
    let f : SmallVec ℕ → ℕ = λ m. set_of m.items in
    let any = Any-from_list_any (λ m. ltb 2 (length m.items)) ms h in
    let x = any.1 in
    let P : SmallVec ℕ → Type 0 = λ m. IsStrictlyIncreasing m.items in
    let among = Contains-map f ms x (any.0, any.2, any.3) in (
      f x,
      among,
      HasThreeShares-from_leaves g (sets_of ms) leaves alone (f x) among
          (HasThreeVariables-from_length x.items (subst P any.3 (rising any.0 x any.2)) (ltb-true 2 (length x.items) any.4)),
    )

pub test_from_HasDegreeAboveTwo : (g : Circuit) (ms : List (SmallVec ℕ)) → HasDegreeAboveTwo g (sets_of ms) → any_above_two ms ≡ true
test_from_HasDegreeAboveTwo g ms (m, among, (u, v, w, less, more, a, u_share, b, v_share, c, w_share)) =
    let f : SmallVec ℕ → ℕ = λ m. set_of m.items in
    let r = Contains-from_map f ms m among in
    let vs = r.0.items in
    let in_list : (s : ℕ) → HasVariable m s → Contains vs s = λ s has. Contains-from_bit vs s (let P : ℕ → Type 0 = λ n. HasVariable n s in subst P (sym r.2) has) in
    list_any-from_Any (λ m. ltb 2 (length m.items)) ms
    (r.1.0, r.0, r.1.1, r.1.2, lt-ltb 2 (length vs) (three_members vs u v w less more (in_list u a) (in_list v b) (in_list w c)))

-- a polynomial over leaves without faults has few variables a monomial
pub HasFewVariables-from_fit : (g : Circuit) (p : List ℕ) → HasLeaves g p → (HasRandomProduct g p → ⊥) → (HasDegreeAboveTwo g p → ⊥) → HasFewVariables p
HasFewVariables-from_fit g p leaves alone few i d l three =
    let m = get_or p i d in
    let among = Contains-get_or p i d l in
    few (m, among, HasThreeShares-from_leaves g p leaves alone m among three)

-- faults of a polynomial are those of any other with its monomials
pub HasRandomProduct-along : (g : Circuit) (p q : List ℕ) → ((m : ℕ) → Contains p m → Contains q m) → HasRandomProduct g p → HasRandomProduct g q
HasRandomProduct-along g p q to (m, among, h) = (m, to m among, h)

pub HasDegreeAboveTwo-along : (g : Circuit) (p q : List ℕ) → ((m : ℕ) → Contains p m → Contains q m) → HasDegreeAboveTwo g p → HasDegreeAboveTwo g q
HasDegreeAboveTwo-along g p q to (m, among, h) = (m, to m among, h)

-- the polynomial that was computed is as wide as that of the variable
pub not_too_wide : (g : Circuit) (v : ℕ) (p : List ℕ) → IsSetOf (polynomial g v) p → length p ≤ most_monomials → IsTooWide (polynomial g v) → ⊥
not_too_wide g v p same few wide = let e = length-same p (polynomial g v) same.once (once-polynomial g v) same.same in omega arith

-- the polynomial of a variable is over leaves
pub HasLeaves-polynomial : (g : Circuit) → IsGadget g → (v : ℕ) (p : List ℕ) → IsSetOf (polynomial g v) p → HasLeaves g p
HasLeaves-polynomial g good v p same m w among has = leaves-polynomial g good.in_order v m w ((same.same m).0 among) has

leaf_within : (g : Circuit) (v : ℕ) → IsShare g v ⊎ IsRandom g v → v < length g.variables
leaf_within g v (inl (k, at)) = variable_within g v (share k) at
leaf_within g v (inr (k, at)) = variable_within g v (random k) at

-- the variables of the monomials are those of the gadget
pub monomials_within : (g : Circuit) (vars : List Var) → IsGadget g → variables_of vars ≡ g.variables → (v : ℕ) (ms : List (SmallVec ℕ)) →
    IsSetOf (polynomial g v) (sets_of ms) → All (λ m. All (λ w. w < length vars) m.items) ms
monomials_within g vars good e v ms same i d l j d' l' =
    let f : SmallVec ℕ → ℕ = λ m. set_of m.items in
    let m = get_or ms i d in
    let w = get_or m.items j d' in
    let n = length-variables_of g vars e in
    let leaf = HasLeaves-polynomial g good v (sets_of ms) same (f m) w (Contains-map f ms m (Contains-get_or ms i d l))
    (bit_from_Contains m.items w (Contains-get_or m.items j d' l')) in
    let less = leaf_within g w leaf in
    omega arith

-- what the two tests say of a variable
pub random_product_from_test : (g : Circuit) (vars : List Var) → IsGadget g → variables_of vars ≡ g.variables → (v : ℕ) (ms : List (SmallVec ℕ)) →
    IsSetOf (polynomial g v) (sets_of ms) → length (sets_of ms) ≤ most_monomials → AreRising ms → any_multiplies_random vars ms ≡ true → HasFault g v random_product
random_product_from_test g vars good e v ms same few rising h = (
  not_too_wide g v (sets_of ms) same few,
  HasRandomProduct-along g (sets_of ms) (polynomial g v) (λ m. (same.same m).0)
      (HasRandomProduct-from_test g vars e ms rising (monomials_within g vars good e v ms same) h),
)

no_random_product : (g : Circuit) (vars : List Var) → variables_of vars ≡ g.variables → (v : ℕ) (ms : List (SmallVec ℕ)) →
    IsSetOf (polynomial g v) (sets_of ms) → any_multiplies_random vars ms ≡ false → HasRandomProduct g (polynomial g v) → ⊥
no_random_product g vars e v ms same h has =
    true≢false
    (sym (test_from_HasRandomProduct g vars e ms (HasRandomProduct-along g (polynomial g v) (sets_of ms) (λ m. (same.same m).1) has)) ∙ h)

pub degree_from_tests : (g : Circuit) (vars : List Var) → IsGadget g → variables_of vars ≡ g.variables → (v : ℕ) (ms : List (SmallVec ℕ)) →
    IsSetOf (polynomial g v) (sets_of ms) → length (sets_of ms) ≤ most_monomials → AreRising ms → any_multiplies_random vars ms ≡ false → any_above_two ms ≡ true →
    HasFault g v degree
degree_from_tests g vars good e v ms same few rising none h = (
  not_too_wide g v (sets_of ms) same few,
  no_random_product g vars e v ms same none,
  HasDegreeAboveTwo-along g (sets_of ms) (polynomial g v) (λ m. (same.same m).0)
      (HasDegreeAboveTwo-from_test g ms rising (HasLeaves-polynomial g good v (sets_of ms) same)
      (λ has. no_random_product g vars e v ms same none (HasRandomProduct-along g (sets_of ms) (polynomial g v) (λ m. (same.same m).0) has)) h),
)

pub IsFit-from_tests : (g : Circuit) (vars : List Var) → variables_of vars ≡ g.variables → (v : ℕ) (ms : List (SmallVec ℕ)) →
    IsSetOf (polynomial g v) (sets_of ms) → length (sets_of ms) ≤ most_monomials → any_multiplies_random vars ms ≡ false → any_above_two ms ≡ false → IsFit g v
IsFit-from_tests g vars e v ms same few none h = (
  not_too_wide g v (sets_of ms) same few,
  no_random_product g vars e v ms same none,
  (λ has. true≢false (sym (test_from_HasDegreeAboveTwo g ms (HasDegreeAboveTwo-along g (polynomial g v) (sets_of ms) (λ m. (same.same m).1) has)) ∙ h)),
)
