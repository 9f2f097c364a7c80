-- What is known of the variables so far, line after line.
use Rattle.std.proofs.Common.{◌≡◌, ◌≢◌, ◌<◌, ◌≤◌, ◌+◌, ◌-◌, ℕ, true, false, IsTrue, List, [], ◌∷◌, ◌++◌, length, Ok, sym, ap, ◌∙◌, subst, inl, inr, arith, Contains, append_assoc}
use Rattle.std.specs.Prelude.{All}
use Rattle.std.specs.List.{list_any, list_all}
use Rattle.std.proofs.lemmas.Bool.{or_parts}
use Rattle.std.proofs.lemmas.List.{length-map}
use Rattle.std.proofs.lemmas.List.Elements.{All-append, All-nil, All-cons, All-head, All-tail}
use Rattle.list_laws.proofs.Members.{Contains-cons_cases, AllPairs-append}
use Rattle.list_laws.proofs.Once.{Contains-nil}
use Rattle.gadget_limits.specs.Limits.{most_variables}
use Rattle.gadget_model.specs.Circuit.{Node, Variable, NamesEarlier}
use Rattle.gadget_text.specs.Names.{is_name}
use Rattle.gadget_text.specs.Tokens.{TokenLine}
use Rattle.gadget_grammar.specs.Grammar.{Tree}
use Rattle.gadget_tree.specs.Variables.{names_of, is_among, place_of, AreDistinct}
use Rattle.gadget_tree.specs.Operations.{leaves, line_parts, line_names, line_nodes, made_variables}
use Rattle.gadget_tree.specs.Gadgets.{IsOperationNode, IsOperation}
use Rattle.gadget_tree.specs.File.{LinesSay}
use Rattle.gadget_tree.proofs.Names.{contains_among, length-names_of}
use Rattle.gadget_tree.proofs.InnerNames.{names_apart, all_are_names}
use Rattle.gadget_tree.proofs.Numbered.{AllFrom-append}
use Rattle.gadget_tree.proofs.Nodes.{AllNameEarlier, line_nodes_are, line_in_order}
use Rattle.gadget_tree.proofs.HeaderVariables.{nodes_of}
use Rattle.gadget_tree.proofs.MadeLines.{IsLine, first_line_read, names_behind, length_behind}

-- The variables so far, after those of the headers, with so many randoms: not too many, with names of their own, in order, and
-- operations under names.
pub record IsPrefix (randoms : ℕ) (start vs : List Variable) : Type 0 where
  pub few : length vs ≤ most_variables
  pub distinct : AreDistinct (names_of vs)
  pub in_order : AllNameEarlier randoms 0 (nodes_of vs)
  pub operations : (operations : List Variable) × (vs ≡ start ++ operations) × All IsOperation operations

-- variables that a line makes are operations under names, where its names and nodes are
made_operations : (line : ℕ) (names : List (List ℕ)) (vs : List Node) → All (λ w. IsTrue (is_name w)) names → All IsOperationNode vs → All IsOperation (made_variables line names vs)
made_operations line [] vs h k = All-nil IsOperation
made_operations line (name ∷ names) [] h k = All-nil IsOperation
made_operations line (name ∷ names) (v ∷ vs) h k =
    All-cons IsOperation (record { name = name; node = v; line = line }) (made_variables line names vs)
    (record { name = All-head (λ w. IsTrue (is_name w)) name names h; node = All-head IsOperationNode v vs k })
    (made_operations line names vs (All-tail (λ w. IsTrue (is_name w)) name names h) (All-tail IsOperationNode v vs k))

-- names of which none stands are apart from those that stand
apart : (names more : List (List ℕ)) → list_any (is_among names) more ≡ false → (a b : List ℕ) → Contains names a → Contains more b → a ≢ b
apart names [] e a b h k = absurd (Contains-nil b k)
apart names (name ∷ more) e a b h k =
    let p = or_parts (is_among names name) (list_any (is_among names) more) e in
    elim (Contains-cons_cases name more b k) [
      | inl same ↦ λ eq. let found = contains_among names name (subst (Contains names) (eq ∙ sym same) h) in let none = p.0 in absurd cc
      | inr l ↦ apart names more p.1 a b h l
    ]

-- the nodes of a line stand in order after the earlier ones
line_order : (randoms : ℕ) (earlier : List Variable) (tree : Tree) → list_all (is_among (names_of earlier)) (leaves tree) ≡ true →
    AllNameEarlier randoms (0 + length (nodes_of earlier)) (line_nodes (place_of (names_of earlier)) (length earlier) tree)
line_order randoms earlier tree known =
    let names = names_of earlier in
    let new = line_nodes (place_of names) (length earlier) tree in
    let m = length-map earlier (λ (v : Variable). v.node) in
    let e : length earlier ≡ 0 + length (nodes_of earlier) = omega arith in
    subst (λ k. AllNameEarlier randoms k new) e (subst (λ k. AllNameEarlier randoms k (line_nodes (place_of names) k tree)) (length-names_of earlier) (line_in_order randoms names tree known))

-- one line more
prefix_more : (randoms : ℕ) (start earlier : List Variable) (line : TokenLine) (name : List ℕ) (tree : Tree) (now : List Variable) → IsLine earlier line name tree now → IsPrefix randoms start earlier → IsPrefix randoms start now
prefix_more randoms start earlier line name tree now l p =
    let names = names_of earlier in
    let new = line_nodes (place_of names) (length earlier) tree in
    let made = made_variables line.number (line_names name tree) new in
    let behind = names_behind earlier line name tree now l in
    let count = length_behind earlier line name tree now l in
    let few = l.few in
    let small : length (line_parts tree) - 1 < 1000 = omega arith in
    let assigns = l.assigns in
    let are_names = all_are_names name (length (line_parts tree) - 1) small assigns.names in
    record {
      few = omega arith;
      distinct = subst AreDistinct (sym behind.0)
          (AllPairs-append (λ a b. a ≢ b) names (line_names name tree) p.distinct (names_apart name (length (line_parts tree) - 1) small) (apart names (line_names name tree) l.new));
      in_order = subst (AllNameEarlier randoms 0) (sym behind.1) (AllFrom-append (NamesEarlier randoms) 0 (nodes_of earlier) new p.in_order (line_order randoms earlier tree l.known));
      operations = (
        p.operations.0 ++ made,
        l.makes ∙ ap (λ (z : List Variable). z ++ made) p.operations.1 ∙ append_assoc start p.operations.0 made,
        All-append IsOperation p.operations.0 made p.operations.2
            (made_operations line.number (line_names name tree) new are_names (line_nodes_are (place_of names) (length earlier) tree)),
      );
    }

-- all lines that are read
pub lines_prefix : (randoms : ℕ) (start : List Variable) (lines : List TokenLine) (earlier vs : List Variable) → LinesSay earlier lines (Ok vs) → IsPrefix randoms start earlier → IsPrefix randoms start vs
lines_prefix randoms start [] earlier vs h p = let e : vs ≡ earlier = cc in subst (IsPrefix randoms start) (sym e) p
lines_prefix randoms start (line ∷ lines) earlier vs h p =
    let f = first_line_read earlier line lines vs h in
    lines_prefix randoms start lines f.0 vs f.4 (prefix_more randoms start earlier line f.1 f.2 f.0 f.3 p)
