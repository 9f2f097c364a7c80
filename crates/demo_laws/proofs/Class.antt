-- A gadget is in the class where each of its polynomials passes a test.
use Rattle.std.proofs.Common.{◌≡◌, ◌≢◌, ℕ, ◌<◌, ◌≤◌, ◌==◌, zero, suc, Bool, true, false, ◌&&◌, ◌||◌, not, List, [], ◌∷◌, length, map, refl, sym, ap, ◌∙◌, subst, arith, Contains, true≢false, inl, inr}
use Rattle.std.specs.Prelude.{Option, Some, None, slice_get, slice_index_or, nat_le}
use Rattle.std.specs.List.{list_all, list_any, filter, range_with_len}
use Rattle.std.specs.Int.{bit_at}
use Rattle.std.specs.Str.{bytes_eq}
use Rattle.std.proofs.lemmas.Bool.{and_parts, leb-true}
use Rattle.std.proofs.lemmas.Slice.Eq.{bytes_eq-Decides}
use Rattle.std.proofs.lemmas.List.Folds.{list_any-from_Any}
use Rattle.list_laws.proofs.Members.{Contains-from_map, Contains-cons_cases}
use Rattle.list_laws.proofs.Once.{Contains-nil}
use Rattle.gadget_limits.specs.Limits.{most_monomials}
use Rattle.gadget_model.specs.Circuit.{Node, share, random, copy, sum_of, product_of, Circuit, nodes, wires_from}
use Rattle.gadget_model.specs.Polynomials.{HasVariable, polynomial, polynomial_of}
use Rattle.gadget_model.specs.Classes.{IsRandom, HasThreeShares, MultipliesRandom, HasRandomProduct, HasDegreeAboveTwo, IsTooWide, IsFit, IsInClass}
use Rattle.anf.specs.Polynomials.{set_of}
use Rattle.anf.proofs.Sets.{Contains-from_bit}
use Rattle.wire_table.specs.WirePolynomials.{is_random}
use Rattle.wire_table.proofs.Faults.{two_members, three_members}

-- the polynomials of all variables
abbrev pub polynomials : Circuit → List (List ℕ)
polynomials g = wires_from [] polynomial_of [] (nodes g)

-- the variables below n that are in a monomial
abbrev pub variables_in : ℕ → ℕ → List ℕ
variables_in n m = filter (λ v. bit_at m v == 1) (range_with_len 0 n)

abbrev pub monomials_of : Circuit → List ℕ → List (List ℕ)
monomials_of g p = map (variables_in (length g.variables)) p

abbrev is_random_found : Option Node → Bool
is_random_found None = false
is_random_found (Some node) = is_random node

-- a monomial has at most two variables, and no random beside another variable
abbrev pub is_fit : List Node → List ℕ → Bool
is_fit ns vs = nat_le (length vs) 2 && (nat_le (length vs) 1 || not (list_any (λ v. is_random_found (slice_get ns v)) vs))

-- the polynomial is that of its monomials' variables, and is in the class
abbrev pub passes : Circuit → List ℕ → Bool
passes g p =
    bytes_eq (map set_of (monomials_of g p)) p
    && (nat_le (length p) most_monomials && list_all (is_fit (nodes g)) (monomials_of g p))

holds_at : {X : Type 0} (test : X → Bool) (xs : List X) (x : X) → list_all test xs ≡ true → Contains xs x → test x ≡ true
holds_at test [] x h c = absurd (Contains-nil x c)
holds_at test (y ∷ ys) x h c =
    let p = and_parts (test y) (list_all test ys) h in
    elim (Contains-cons_cases y ys x c) [
      | inl e ↦ subst (λ z. test z ≡ true) e p.0
      | inr d ↦ holds_at test ys x p.1 d
    ]

few_by : (n k : ℕ) → nat_le n k ≡ true → n ≤ k
few_by n k h = leb-true n k h

not_true : (b : Bool) → not b ≡ true → b ≡ true → ⊥
not_true true h e = true≢false (sym h)
not_true false h e = true≢false (sym e)

second : (a b : Bool) → (a ≡ true → ⊥) → a || b ≡ true → b ≡ true
second true b f h = absurd (f refl)
second false b f h = h

-- a monomial that passes is neither of three shares nor of a random and another variable
no_random_product : (g : Circuit) (vs : List ℕ) → is_fit (nodes g) vs ≡ true → MultipliesRandom g (set_of vs) → ⊥
no_random_product g vs h (v, w, has, is, has', other) =
    let p = and_parts (nat_le (length vs) 2) _ h in
    let among = Contains-from_bit vs v has in
    let two = two_members vs v w among (Contains-from_bit vs w has') other in
    let rest = second (nat_le (length vs) 1) _ (λ e. let few = few_by (length vs) 1 e in absurd (omega arith)) p.1 in
    not_true _ rest (list_any-from_Any (λ v. is_random_found (slice_get (nodes g) v)) vs (among.0, v, among.1, among.2, ap is_random_found is.1))

no_three_shares : (g : Circuit) (vs : List ℕ) → is_fit (nodes g) vs ≡ true → HasThreeShares g (set_of vs) → ⊥
no_three_shares g vs h (u, v, w, less, more, a, _, b, _, c, _) =
    let p = and_parts (nat_le (length vs) 2) _ h in
    let few = few_by (length vs) 2 p.0 in
    let three = three_members vs u v w less more (Contains-from_bit vs u a) (Contains-from_bit vs v b) (Contains-from_bit vs w c) in
    absurd (omega arith)

-- each monomial of a polynomial that passes is of variables that pass
variables_pass : (g : Circuit) (p : List ℕ) → passes g p ≡ true → (m : ℕ) → Contains p m → (vs : List ℕ) × (is_fit (nodes g) vs ≡ true) × (set_of vs ≡ m)
variables_pass g p h m among =
    let ms = monomials_of g p in
    let parts = and_parts (bytes_eq (map set_of ms) p) _ h in
    let same : map set_of ms ≡ p = (bytes_eq-Decides (map set_of ms) p).0 parts.0 in
    let all = (and_parts (nat_le (length p) most_monomials) _ parts.1).1 in
    let found = Contains-from_map set_of ms m (subst (λ (q : List ℕ). Contains q m) (sym same) among) in
    (found.0, holds_at (is_fit (nodes g)) ms found.0 all found.1, found.2)

fit : (g : Circuit) (p : List ℕ) → passes g p ≡ true → (IsTooWide p → ⊥) × (HasRandomProduct g p → ⊥) × (HasDegreeAboveTwo g p → ⊥)
fit g p h =
    let parts = and_parts (bytes_eq (map set_of (monomials_of g p)) p) _ h in
    let few = few_by (length p) most_monomials (and_parts (nat_le (length p) most_monomials) _ parts.1).0 in (
      (λ wide. absurd (omega arith)),
      (λ has. let vs = variables_pass g p h has.0 has.1 in no_random_product g vs.0 vs.1 (subst (MultipliesRandom g) (sym vs.2) has.2)),
      (λ has. let vs = variables_pass g p h has.0 has.1 in no_three_shares g vs.0 vs.1 (subst (HasThreeShares g) (sym vs.2) has.2)),
    )

at_place : (test : List ℕ → Bool) (ps : List (List ℕ)) (v : ℕ) → test [] ≡ true → list_all test ps ≡ true → test (slice_index_or ps v []) ≡ true
at_place test [] v e h = e
at_place test (p ∷ ps) zero e h = (and_parts (test p) (list_all test ps) h).0
at_place test (p ∷ ps) (suc v) e h = at_place test ps v e (and_parts (test p) (list_all test ps) h).1

-- the gadget is in the class
pub IsInClass-from_test : (g : Circuit) → list_all (passes g) (polynomials g) ≡ true → IsInClass g
unfolding polynomial
IsInClass-from_test g h v l = fit g (polynomial g v) (at_place (passes g) (polynomials g) v refl h)
