-- The values of names in a gadget: those of the headers, and those that a line makes.
use Rattle.std.proofs.Common.{◌≡◌, ◌+◌, ℕ, Bool, true, false, List, [], ◌∷◌, ◌++◌, length, get_or, sym, ap, ◌∙◌, subst, inl, inr, arith, append_assoc}
use Rattle.std.specs.Prelude.{All}
use Rattle.std.specs.List.{AllZip}
use Rattle.std.proofs.lemmas.List.{map-append, length-map}
use Rattle.std.proofs.lemmas.List.Elements.{All-nil, All-cons, All-head, All-tail}
use Rattle.std.proofs.lemmas.Option.{slice_get-get_or}
use Rattle.gadget_model.specs.Circuit.{Node, Variable, Circuit, nodes, value_of, value, IsInOrder}
use Rattle.gadget_model.proofs.Values.{value-node}
use Rattle.gadget_text.specs.Tokens.{TokenLine}
use Rattle.gadget_grammar.specs.Grammar.{Tree}
use Rattle.gadget_tree.specs.Variables.{names_of, is_among, place_of, AreDistinct}
use Rattle.gadget_tree.specs.Operations.{line_parts, line_names, line_nodes}
use Rattle.gadget_tree.specs.Values.{value_named, HasPart}
use Rattle.gadget_tree.proofs.Names.{length-names_of}
use Rattle.gadget_tree.proofs.NamePlaces.{place_of-append_left, distinct_places}
use Rattle.gadget_tree.proofs.HeaderVariables.{nodes_of, IsHeaderNode}
use Rattle.gadget_tree.proofs.MadeLines.{length-line_names, names_behind}
use Rattle.gadget_tree.proofs.LinesAmong.{IsLineAmong}
use Rattle.gadget_tree.proofs.Numbered.{AllFrom, AllFrom-from_get_or, AllFrom-append_left, AllFrom-middle, AllZip-numbered}
use Rattle.gadget_tree.proofs.TreeValues.{HasNode, HasTree, part_values}

-- the name of a variable has the value of its node, which needs no other variable
abbrev pub HasBit : Circuit → (ℕ → Bool) → List Bool → Variable → Type 0
HasBit g x r v = value_named g x r v.name ≡ value_of x r (λ _. false) v.node

-- the value of a header's node needs no other variable
value_of_header : (x : ℕ → Bool) (r : List Bool) (inputs n randoms : ℕ) (e e' : ℕ → Bool) (v : Node) → IsHeaderNode inputs n randoms v → value_of x r e v ≡ value_of x r e' v
value_of_header x r inputs n randoms e e' v (inl h) = ap (value_of x r e) h.4 ∙ sym (ap (value_of x r e') h.4)
value_of_header x r inputs n randoms e e' v (inr h) = ap (value_of x r e) h.2 ∙ sym (ap (value_of x r e') h.2)

module _ (g : Circuit) (in_order : IsInOrder g) (distinct : AreDistinct (names_of g.variables)) (x : ℕ → Bool) (r : List Bool) where
  -- a name has variable k
  abbrev IsPlace : ℕ → List ℕ → Type 0
  IsPlace k w = place_of (names_of g.variables) w ≡ k

  -- all variables have the values of their nodes
  all_nodes : AllFrom (HasNode x r (value g x r)) 0 (nodes g)
  all_nodes =
      AllFrom-from_get_or (HasNode x r (value g x r)) 0 (nodes g)
      (λ k d l. subst (λ m. HasNode x r (value g x r) m (get_or (nodes g) k d)) (let e : k ≡ 0 + k = omega arith in e)
      (value-node g in_order x r k (get_or (nodes g) k d) (slice_get-get_or (nodes g) k d l)))

  -- variables with header nodes have the values of these
  header_values : (inputs n randoms k : ℕ) (vs : List Variable) → All (IsHeaderNode inputs n randoms) (nodes_of vs) → AllFrom IsPlace k (names_of vs) → AllFrom (HasNode x r (value g x r)) k (nodes_of vs) →
      All (HasBit g x r) vs
  header_values inputs n randoms k [] header places have = All-nil (HasBit g x r)
  header_values inputs n randoms k (v ∷ vs) header places have =
      let P = IsHeaderNode inputs n randoms in
      All-cons (HasBit g x r) v vs
      (ap (value g x r) places.0 ∙ have.0 ∙ value_of_header x r inputs n randoms (value g x r) (λ _. false) v.node (All-head P v.node (nodes_of vs) header))
      (header_values inputs n randoms (k + 1) vs (All-tail P v.node (nodes_of vs) header) places.1 have.1)

  -- so it is of the first variables of the gadget
  pub first_values : (inputs n randoms : ℕ) (front later : List Variable) → g.variables ≡ front ++ later → All (IsHeaderNode inputs n randoms) (nodes_of front) →
      All (HasBit g x r) front
  first_values inputs n randoms front later e header =
      let names = ap names_of e ∙ map-append (λ (v : Variable). v.name) front later in
      let vs = ap nodes_of e ∙ map-append (λ (v : Variable). v.node) front later in
      header_values inputs n randoms 0 front header
      (AllFrom-append_left IsPlace 0 (names_of front) (names_of later) (subst (AllFrom IsPlace 0) names (distinct_places (names_of g.variables) distinct)))
      (AllFrom-append_left (HasNode x r (value g x r)) 0 (nodes_of front) (nodes_of later) (subst (AllFrom (HasNode x r (value g x r)) 0) vs all_nodes))

  module _ (line : TokenLine) (earlier : List Variable) (name : List ℕ) (tree : Tree) (now later : List Variable) (l : IsLineAmong line g.variables earlier name tree now later) where
    -- the names and the nodes before the line, of it, and after it
    name_parts : names_of g.variables ≡ names_of earlier ++ line_names name tree ++ names_of later
    name_parts =
        ap names_of l.all ∙ map-append (λ (v : Variable). v.name) now later ∙ ap (λ (z : List (List ℕ)). z ++ names_of later) (names_behind earlier line name tree now l.read).0

    node_parts : nodes g ≡ nodes_of earlier ++ line_nodes (place_of (names_of earlier)) (length earlier) tree ++ nodes_of later
    node_parts =
        ap nodes_of l.all ∙ map-append (λ (v : Variable). v.node) now later ∙ ap (λ (z : List Node). z ++ nodes_of later) (names_behind earlier line name tree now l.read).1

    -- an earlier name has the value of its place among the earlier ones
    earlier_value : (w : List ℕ) → is_among (names_of earlier) w ≡ true → value g x r (place_of (names_of earlier) w) ≡ value_named g x r w
    earlier_value w known =
        ap (value g x r)
        (sym (ap (λ (z : List (List ℕ)). place_of z w) (name_parts ∙ append_assoc (names_of earlier) (line_names name tree) (names_of later))
        ∙ place_of-append_left (names_of earlier) (line_names name tree ++ names_of later) w known))

    -- the names that a line makes have the values of its parts
    pub line_values : AllZip (HasPart g x r) (line_names name tree) (line_parts tree)
    line_values =
        let base = length earlier in
        let look = place_of (names_of earlier) in
        let have = value g x r in
        let named = value_named g x r in
        let read = l.read in
        let places = AllFrom-middle IsPlace base (names_of earlier) (line_names name tree) (names_of later) (length-names_of earlier)
        (subst (AllFrom IsPlace 0) name_parts (distinct_places (names_of g.variables) distinct)) in
        let vs = AllFrom-middle (HasNode x r have) base (nodes_of earlier) (line_nodes look base tree) (nodes_of later) (length-map earlier (λ (v : Variable). v.node))
        (subst (AllFrom (HasNode x r have) 0) node_parts all_nodes) in
        AllZip-numbered IsPlace (HasTree have named) (HasPart g x r) (λ k n part p t. ap have p ∙ t)
        base (line_names name tree) (line_parts tree) (length-line_names name tree) places
        (part_values x r have (names_of earlier) look named earlier_value base tree read.known vs)
