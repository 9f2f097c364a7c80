-- The polynomials that are computed are those of the gadget's variables.
use Rattle.gadget_limits.specs.Limits.{most_monomials}
use Rattle.std.proofs.Common.{◌≡◌, ◌≢◌, ◌↔◌, ℕ, ◌^◌, ◌<◌, ◌≤◌, Bool, List, [], ◌∷◌, ◌++◌, length, get_or, ap, sym, ◌∙◌, subst, inl, inr, arith, Contains, Some}
use Rattle.std.specs.Prelude.{slice_get}
use Rattle.std.specs.List.{All, AllPairs}
use Rattle.std.specs.Option.{option_map}
use Rattle.std.proofs.lemmas.Bool.{cases_lt}
use Rattle.std.proofs.lemmas.List.{get_or_append_left, get_or_push, get_or_default, length_push}
use Rattle.std.proofs.lemmas.Option.{slice_get-map, slice_get-get_or}
use Rattle.list_laws.proofs.Once.{Once, Once-cons, Contains-nil, length-same}
use Rattle.gadget_model.specs.Bits.{add}
use Rattle.gadget_model.specs.Circuit.{Circuit, Node, Variable, share, random, copy, sum_of, product_of, nodes, NamesEarlier}
use Rattle.gadget_model.specs.Polynomials.{stands_in, symmetric_difference, odd_ones, unions, polynomial_of, polynomial}
use Rattle.gadget_model.specs.Classes.{IsTooWide}
use Rattle.gadget_model.proofs.Polynomials.{stands_in-from_Contains, Contains-from_stands_in, stands_in-same, stands_in-symmetric_difference, once-symmetric_difference, once-odd_ones}
use Rattle.gadget_model.proofs.SumsOver.{unions-same}
use Rattle.gadget_model.proofs.WirePolynomials.{polynomial-node, once-polynomial}
use Rattle.gadget_tree.specs.declared.var.Var.{Var}
use Rattle.gadget_tree.specs.Gadgets.{IsGadget}
use Rattle.gadget_tree.specs.Seen.{node_of, variable_of, variables_of}
use Rattle.anf.specs.Polynomials.{IsSetOf, HasFewVariables}
use Rattle.wire_table.specs.Terms.{IsFitPolynomial}
use Rattle.wire_table.specs.WirePolynomials.{polynomial_at, IsPolynomialOf, ArePolynomials}
use Rattle.wire_table.proofs.Monomials.{length-variables_of}
use Rattle.wire_table.proofs.Faults.{HasLeaves-polynomial, HasRandomProduct-along, HasDegreeAboveTwo-along, HasFewVariables-from_fit}

-- two polynomials have the same monomials, each once
record Same (p q : List ℕ) : Type 0 where
  members : (m : ℕ) → Contains p m ↔ Contains q m
  once : Once p
  once' : Once q

members_from_tests : (p q : List ℕ) → ((m : ℕ) → stands_in m p ≡ stands_in m q) → (m : ℕ) → Contains p m ↔ Contains q m
members_from_tests p q same m = (
  (λ h. Contains-from_stands_in q m (sym (same m) ∙ stands_in-from_Contains p m h)),
  (λ h. Contains-from_stands_in p m (same m ∙ stands_in-from_Contains q m h)),
)

Same-single : (m : ℕ) → Same (m ∷ []) (m ∷ [])
Same-single m =
    let once : Once (m ∷ []) = Once-cons m [] (Contains-nil m) (λ i j d l k. absurd (omega (arith, k))) in
    record { members = λ w. ((λ h. h), (λ h. h)); once = once; once' = once }

-- the polynomial of a node has the same monomials where those of its operands have
polynomial_of-same : (e e' : ℕ → List ℕ) (number randoms n : ℕ) (node : Node) → NamesEarlier randoms n node → ((k : ℕ) → k < n → Same (e k) (e' k)) →
    Same (polynomial_of e number node) (polynomial_of e' number node)
polynomial_of-same e e' number randoms n (share k) named same = Same-single (2 ^ number)
polynomial_of-same e e' number randoms n (random k) named same = Same-single (2 ^ number)
polynomial_of-same e e' number randoms n (copy a) named same = same a named
polynomial_of-same e e' number randoms n (sum_of a b) named same =
    let p = same a named.0 in
    let q = same b named.1 in
    record {
      members = members_from_tests (symmetric_difference (e a) (e b)) (symmetric_difference (e' a) (e' b)) (λ m.
          stands_in-symmetric_difference (e a) (e b) m
          ∙ ap (λ (t : Bool). add t (stands_in m (e b))) (stands_in-same (e a) (e' a) p.members m)
          ∙ ap (add (stands_in m (e' a))) (stands_in-same (e b) (e' b) q.members m)
          ∙ sym (stands_in-symmetric_difference (e' a) (e' b) m));
      once = once-symmetric_difference (e a) (e b) p.once q.once;
      once' = once-symmetric_difference (e' a) (e' b) p.once' q.once';
    }
polynomial_of-same e e' number randoms n (product_of a b) named same =
    let p = same a named.0 in
    let q = same b named.1 in
    record {
      members = members_from_tests (odd_ones (unions (e a) (e b))) (odd_ones (unions (e' a) (e' b)))
          (unions-same (e a) (e' a) (e b) (e' b) p.once p.once' q.once q.once' p.members q.members);
      once = once-odd_ones (unions (e a) (e b));
      once' = once-odd_ones (unions (e' a) (e' b));
    }

-- the node of the variable at a place
pub node_at_place : (g : Circuit) (vars : List Var) (i : ℕ) (d : Var) → variables_of vars ≡ g.variables → i < length g.variables →
    slice_get (nodes g) i ≡ Some (node_of (get_or vars i d).kind)
node_at_place g vars i d e l =
    let n = length-variables_of g vars e in
    slice_get-map (λ (v : Variable). v.node) g.variables i
    ∙ ap (λ (vs : List Variable). option_map (λ (v : Variable). v.node) (slice_get vs i)) (sym e)
    ∙ ap (option_map (λ (v : Variable). v.node)) (slice_get-map variable_of vars i)
    ∙ ap (λ o. option_map (λ (v : Variable). v.node) (option_map variable_of o)) (slice_get-get_or vars i d (omega arith))

pub NamesEarlier-more : (few many n : ℕ) (v : Node) → few ≤ many → NamesEarlier few n v → NamesEarlier many n v
NamesEarlier-more few many n (share k) l h = tt
NamesEarlier-more few many n (random k) l h = omega arith
NamesEarlier-more few many n (copy a) l h = h
NamesEarlier-more few many n (sum_of a b) l h = h
NamesEarlier-more few many n (product_of a b) l h = h

-- the polynomial that is computed for the next variable has the monomials of that variable's
next_same : (g : Circuit) → IsGadget g → (ps : List (List ℕ)) → ArePolynomials g ps → (node : Node) → slice_get (nodes g) (length ps) ≡ Some node →
    Same (polynomial_of (polynomial_at ps) (length ps) node) (polynomial g (length ps))
next_same g good ps are node at =
    let P : List ℕ → Type 0 = λ q. Same (polynomial_of (polynomial_at ps) (length ps) node) q in
    subst P (sym (polynomial-node g good.in_order (length ps) node at))
    (polynomial_of-same (polynomial_at ps) (polynomial g) (length ps) g.randoms (length ps) node (good.in_order (length ps) node at)
    (λ k l. let r = are k l in record { members = r.same.same; once = r.same.once; once' = once-polynomial g k }))

pub IsSetOf-next : (g : Circuit) → IsGadget g → (ps : List (List ℕ)) → ArePolynomials g ps → (node : Node) → slice_get (nodes g) (length ps) ≡ Some node →
    (p : List ℕ) → IsSetOf (polynomial_of (polynomial_at ps) (length ps) node) p → IsSetOf (polynomial g (length ps)) p
IsSetOf-next g good ps are node at p set =
    let s = next_same g good ps are node at in
    record { same = λ m. ((λ h. (s.members m).0 ((set.same m).0 h)), (λ h. (set.same m).1 ((s.members m).1 h))); once = set.once }

pub IsTooWide-next : (g : Circuit) → IsGadget g → (ps : List (List ℕ)) → ArePolynomials g ps → (node : Node) → slice_get (nodes g) (length ps) ≡ Some node →
    most_monomials < length (polynomial_of (polynomial_at ps) (length ps) node) → IsTooWide (polynomial g (length ps))
IsTooWide-next g good ps are node at wide =
    let s = next_same g good ps are node at in
    let e = length-same (polynomial_of (polynomial_at ps) (length ps) node) (polynomial g (length ps)) s.once s.once' s.members in
    omega arith

-- the polynomial of a variable without a fault is fit
pub IsFitPolynomial-of : (g : Circuit) → IsGadget g → (v : ℕ) (p : List ℕ) → IsPolynomialOf g v p → IsFitPolynomial g p
IsFitPolynomial-of g good v p is = record {
  leaves = HasLeaves-polynomial g good v p is.same;
  random_alone = λ h. is.fit.1 (HasRandomProduct-along g p (polynomial g v) (λ m. (is.same.same m).0) h);
  few_shares = λ h. is.fit.2 (HasDegreeAboveTwo-along g p (polynomial g v) (λ m. (is.same.same m).0) h);
}

at_place : (g : Circuit) (ps : List (List ℕ)) → ArePolynomials g ps → (v : ℕ) (d : List ℕ) → v < length ps → IsPolynomialOf g v (get_or ps v d)
at_place g ps are v d l = subst (IsPolynomialOf g v) (get_or_default ps v [] d l) (are v l)

pub all_once : (g : Circuit) (ps : List (List ℕ)) → ArePolynomials g ps → All (AllPairs (λ (a b : ℕ). a ≢ b)) ps
all_once g ps are v d l = (at_place g ps are v d l).same.once

pub all_fit : (g : Circuit) → IsGadget g → (ps : List (List ℕ)) → ArePolynomials g ps → All (IsFitPolynomial g) ps
all_fit g good ps are v d l = IsFitPolynomial-of g good v (get_or ps v d) (at_place g ps are v d l)

pub all_few : (g : Circuit) → IsGadget g → (ps : List (List ℕ)) → ArePolynomials g ps → All HasFewVariables ps
all_few g good ps are v d l =
    let fit = all_fit g good ps are v d l in
    HasFewVariables-from_fit g (get_or ps v d) fit.leaves fit.random_alone fit.few_shares

-- one polynomial more
pub ArePolynomials-push : (g : Circuit) (ps qs : List (List ℕ)) (p : List ℕ) → ArePolynomials g ps → IsPolynomialOf g (length ps) p → qs ≡ ps ++ p ∷ [] → ArePolynomials g qs
ArePolynomials-push g ps qs p are is e =
    let Q : List (List ℕ) → Type 0 = λ rs. ArePolynomials g rs in
    subst Q (sym e) (λ v l.
    let n = length_push ps p in
    let P : List ℕ → Type 0 = λ q. IsPolynomialOf g v q in
    elim (cases_lt v (length ps)) [
      | inl less ↦ subst P (sym (get_or_append_left ps (p ∷ []) [] v less)) (are v less)
      | inr most ↦
          let same : length ps ≡ v = omega arith in
          let R : ℕ → Type 0 = λ w. IsPolynomialOf g w p in
          subst P (sym (get_or_push ps p [] v same)) (subst R same is)
    ])
