-- What the operation lines of the canonical text say, one after the other.
use Rattle.std.proofs.Common.{◌≡◌, ◌≢◌, ◌≤◌, ◌+◌, ℕ, false, not, List, [], ◌∷◌, ◌++◌, length, get_or, map, None, Ok, refl, sym, ap, ◌∙◌, subst, inr, arith, append_assoc, append-nil, length-append}
use Rattle.std.specs.Prelude.{nat_lt}
use Rattle.std.specs.List.{list_any, list_all}
use Rattle.std.proofs.lemmas.Bool.{le-ltb, or_from, not_from_true}
use Rattle.std.proofs.lemmas.List.{length-map, map-append, length_push, get_or_append_left}
use Rattle.gadget_model.specs.Circuit.{Node, Variable}
use Rattle.gadget_text.proofs.WordBytes.{IsNamed-from_name}
use Rattle.gadget_text.proofs.SpacedWords.{word_lexeme}
use Rattle.gadget_text.specs.declared.file_error.FileError.TheVariants.{NameTwice, Unknown, TooMany}
use Rattle.gadget_text.specs.declared.file_error.What.TheVariants.{Variables}
use Rattle.gadget_limits.specs.Limits.{most_variables}
use Rattle.gadget_grammar.specs.Assignments.{Assigned}
use Rattle.gadget_tree.specs.Variables.{names_of, is_among, place_of, AreDistinct}
use Rattle.gadget_tree.specs.Operations.{leaves, line_parts, line_names, line_nodes, made_variables}
use Rattle.gadget_tree.specs.File.{with_line, SaysByHeader, LinesSay}
use Rattle.list_laws.proofs.Members.{AllPairs-append_left}
use Rattle.gadget_tree.proofs.Names.{is_among-false, AreDistinct-middle}
use Rattle.gadget_tree.proofs.HeaderVariables.{nodes_of}
use Rattle.gadget_tree.proofs.CanonicalLines.{scripted_from}
use Rattle.gadget_tree.proofs.CanonicalHeaders.{passes}
use Rattle.gadget_tree.proofs.CanonicalOperations.{IsStep, AreSteps, AreNamed, AreFirst, operation_lexemes, operation_script, operation_tree, operation_flat, operation_assigns, operation_known, operation_node, one_part, one_name, flat}

-- the variable that an operation's line makes
abbrev made : ℕ → Variable → Variable
made line v = record { name = v.name; node = v.node; line = line }

-- all names are those of the earlier variables, this one and others, and are distinct and few
pub record IsNext (names : List (List ℕ)) (earlier : List Variable) (v : Variable) (others : List (List ℕ)) : Type 0 where
  pub all : names ≡ names_of earlier ++ v.name ∷ others
  pub distinct : AreDistinct names
  pub few : length names ≤ most_variables
  pub named : AreNamed names (length names)

first_names : (names : List (List ℕ)) (earlier : List Variable) (v : Variable) (others : List (List ℕ)) → IsNext names earlier v others → AreFirst names (names_of earlier)
first_names names earlier v others h = record {
  distinct = AllPairs-append_left (λ a b. a ≢ b) (names_of earlier) (v.name ∷ others) (subst AreDistinct h.all h.distinct);
  same = λ a l. ap (λ (z : List (List ℕ)). get_or z a []) h.all ∙ get_or_append_left (names_of earlier) (v.name ∷ others) [] a l;
}

-- an operation's line makes its variable
line_made : (names : List (List ℕ)) (randoms line : ℕ) (earlier : List Variable) (v : Variable) (others : List (List ℕ)) → IsNext names earlier v others → IsStep randoms (length earlier) v →
    with_line line earlier v.name (operation_tree names v.node) ≡ Ok (earlier ++ made line v ∷ [])
line_made names randoms line earlier v others h s =
    let t = operation_tree names v.node in
    let look = place_of (names_of earlier) in
    let f = first_names names earlier v others h in
    let e : length earlier ≡ length (names_of earlier) = sym (length-map earlier (λ (w : Variable). w.name)) in
    let fresh : is_among (names_of earlier) v.name ≡ false = is_among-false (names_of earlier) v.name (AreDistinct-middle (names_of earlier) v.name others (subst AreDistinct h.all h.distinct)) in
    let total = ap length h.all in
    let few : nat_lt most_variables (length earlier + length (line_parts t)) ≡ false =
    le-ltb most_variables (length earlier + length (line_parts t)) (omega (arith, one_part names v.node, e, total, h.few, length-append (names_of earlier) (v.name ∷ others))) in
    passes (list_any (is_among (names_of earlier)) (line_names v.name t)) (NameTwice line) _
    (ap (list_any (is_among (names_of earlier))) (one_name names v.name v.node) ∙ or_from (is_among (names_of earlier) v.name) false fresh refl)
    ∙ passes (not (list_all (is_among (names_of earlier)) (leaves t))) (Unknown line) _
    (not_from_true (list_all (is_among (names_of earlier)) (leaves t)) (operation_known names (names_of earlier) randoms (length earlier) v.node e f s.operation.node s.earlier))
    ∙ passes (nat_lt most_variables (length earlier + length (line_parts t))) (TooMany Variables) _ few
    ∙ ap (λ (z : List (List ℕ)). Ok (earlier ++ made_variables line z (line_nodes look (length earlier) t))) (one_name names v.name v.node)
    ∙ ap (λ (z : List Node). Ok (earlier ++ made_variables line (v.name ∷ []) z)) (operation_node names (names_of earlier) randoms (length earlier) (length earlier) v.node e f s.operation.node s.earlier)

-- an operation's line says its variable
line_said : (names : List (List ℕ)) (randoms line : ℕ) (earlier : List Variable) (v : Variable) (others : List (List ℕ)) → IsNext names earlier v others → IsStep randoms (length earlier) v →
    SaysByHeader earlier (record { number = line; lexemes = word_lexeme v.name ∷ operation_lexemes names v.node }) None (Ok (earlier ++ made line v ∷ []))
line_said names randoms line earlier v others h s =
    let before : AreNamed names (length earlier) =
    λ a l. h.named a (omega (arith, ap length h.all, length-append (names_of earlier) (v.name ∷ others), length-map earlier (λ (w : Variable). w.name))) in
    let said : Assigned = record { name = v.name; tree = operation_tree names v.node } in (
      Ok said,
      inr (inr (
        flat (word_lexeme v.name ∷ operation_lexemes names v.node) (operation_flat names v.name v.node),
        said,
        operation_assigns names randoms (length earlier) v.name v.node (IsNamed-from_name v.name s.operation.name) before s.operation.node s.earlier,
        refl,
      )),
      sym (line_made names randoms line earlier v others h s),
    )

-- the operations' lines say variables that have all names, and the nodes of the earlier ones and the operations
pub record AreSaid (names : List (List ℕ)) (line : ℕ) (earlier operations final : List Variable) : Type 0 where
  pub says : LinesSay earlier (scripted_from line (map (operation_script names) operations)) (Ok final)
  pub same_names : names_of final ≡ names
  pub same_nodes : nodes_of final ≡ nodes_of earlier ++ nodes_of operations

-- the names of the variables, of which these are the earlier ones
pub record AreNames (names : List (List ℕ)) (earlier operations : List Variable) : Type 0 where
  pub all : names ≡ names_of earlier ++ names_of operations
  pub distinct : AreDistinct names
  pub few : length names ≤ most_variables
  pub named : AreNamed names (length names)

pushed_names : (names : List (List ℕ)) (earlier : List Variable) (v w : Variable) (operations : List Variable) → v.name ≡ w.name → names ≡ names_of earlier ++ v.name ∷ names_of operations →
    names ≡ names_of (earlier ++ w ∷ []) ++ names_of operations
pushed_names names earlier v w operations e h =
    h ∙ ap (λ (z : List ℕ). names_of earlier ++ z ∷ names_of operations) e
    ∙ sym (append_assoc (names_of earlier) (w.name ∷ []) (names_of operations))
    ∙ sym (ap (λ (z : List (List ℕ)). z ++ names_of operations) (map-append (λ (u : Variable). u.name) earlier (w ∷ [])))

-- the lines of operations say them all
pub operations_said : (names : List (List ℕ)) (randoms line : ℕ) (earlier operations : List Variable) → AreNames names earlier operations → AreSteps randoms (length earlier) operations →
    (final : List Variable) × AreSaid names line earlier operations final
operations_said names randoms line earlier [] h s =
    (earlier, record { says = refl; same_names = sym (h.all ∙ append-nil (names_of earlier)); same_nodes = sym (append-nil (nodes_of earlier)) })
operations_said names randoms line earlier (v ∷ operations) h s =
    let next : IsNext names earlier v (names_of operations) = record { all = h.all; distinct = h.distinct; few = h.few; named = h.named } in
    let now : List Variable = earlier ++ made line v ∷ [] in
    let then : AreNames names now operations = record { all = pushed_names names earlier v (made line v) operations refl h.all; distinct = h.distinct; few = h.few; named = h.named } in
    let steps : AreSteps randoms (length now) operations = subst (λ z. AreSteps randoms z operations) (sym (length_push earlier (made line v))) s.1 in
    let r = operations_said names randoms (line + 1) now operations then steps in (
      r.0,
      record {
        says = (Ok now, line_said names randoms line earlier v (names_of operations) next s.0, r.1.says);
        same_names = r.1.same_names;
        same_nodes =
            r.1.same_nodes
            ∙ ap (λ (z : List Node). z ++ nodes_of operations) (map-append (λ (u : Variable). u.node) earlier (made line v ∷ []))
            ∙ append_assoc (nodes_of earlier) (v.node ∷ []) (nodes_of operations);
      },
    )
