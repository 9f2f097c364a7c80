-- What a file says is a gadget.
use Rattle.std.proofs.Common.{◌≡◌, ◌≢◌, ◌<◌, ◌≤◌, ◌+◌, ℕ, true, List, [], ◌∷◌, ◌++◌, length, get_or, Ok, refl, sym, ap, ◌∙◌, subst, inl, inr, arith, append-nil, length-append}
use Rattle.std.specs.Prelude.{All}
use Rattle.std.specs.List.{list_all}
use Rattle.std.proofs.lemmas.List.{map-append, length-map}
use Rattle.std.proofs.lemmas.List.Elements.{All-append, All-map, All-weaker, All-nil, All-head, All-tail}
use Rattle.std.proofs.lemmas.Nat.{mul-le}
use Rattle.std.proofs.lemmas.Option.{slice_get_within, get_or_from_slice_get}
use Rattle.list_laws.proofs.Members.{AllPairs-append_left, AllPairs-append_right}
use Rattle.gadget_limits.specs.Limits.{most_variables}
use Rattle.gadget_model.specs.Circuit.{Node, share, random, copy, sum_of, product_of, Variable, Circuit, NamesEarlier}
use Rattle.gadget_text.specs.Tokens.{token_lines}
use Rattle.gadget_headers.specs.Headers.{Preamble}
use Rattle.gadget_headers.specs.Limits.{stems_of, KeepsLimits}
use Rattle.gadget_headers.proofs.Limits.{preamble_limits}
use Rattle.gadget_tree.specs.Variables.{share_names, names_of, is_among, place_of, are_distinct, AreDistinct, header_variables}
use Rattle.gadget_tree.specs.Gadgets.{IsNumberedNode, IsOperationNode, IsOperation, IsGadget}
use Rattle.gadget_tree.specs.File.{named_variables, flat_gadget, FileSays}
use Rattle.gadget_tree.proofs.Names.{test_from_distinct}
use Rattle.gadget_tree.proofs.Read.{file_read}
use Rattle.gadget_tree.proofs.Numbered.{AllFrom-get_or}
use Rattle.gadget_tree.proofs.Nodes.{AllNameEarlier}
use Rattle.gadget_tree.proofs.HeaderVariables.{nodes_of, line_of_randoms, header_variables-parts, names_of-header_variables, length-share_names, IsHeaderNode, nodes-header_variables}
use Rattle.gadget_tree.proofs.NamedVariables.{AreOfHeaders, named_distinct}
use Rattle.gadget_tree.proofs.Prefixes.{IsPrefix, lines_prefix}
use Rattle.gadget_tree.proofs.OutputShares.{outputs_made, places_exist, places_named, places_apart}

-- a header's node may stand anywhere
header_earlier : (inputs n randoms : ℕ) (v : Node) → IsHeaderNode inputs n randoms v → (k : ℕ) → NamesEarlier randoms k v
header_earlier inputs n randoms v (inl h) k = subst (NamesEarlier randoms k) (sym h.4) tt
header_earlier inputs n randoms v (inr h) k = subst (NamesEarlier randoms k) (sym h.2) h.1

-- a header's node is numbered
header_numbered : (g : Circuit) (randoms : ℕ) (v : Node) → IsHeaderNode (length g.inputs) g.shares randoms v → IsNumberedNode g v
header_numbered g randoms v (inl h) = subst (IsNumberedNode g) (sym h.4) (h.0, h.1, h.2, h.3, refl)
header_numbered g randoms v (inr h) = subst (IsNumberedNode g) (sym h.2) tt

-- and so is an operation
operation_numbered : (g : Circuit) (v : Node) → IsOperationNode v → IsNumberedNode g v
operation_numbered g (share k) h = absurd h
operation_numbered g (random k) h = tt
operation_numbered g (copy a) h = tt
operation_numbered g (sum_of a b) h = tt
operation_numbered g (product_of a b) h = tt

-- nodes that may stand anywhere stand in order
anywhere_in_order : (randoms n : ℕ) (vs : List Node) → All (λ v. (k : ℕ) → NamesEarlier randoms k v) vs → AllNameEarlier randoms n vs
anywhere_in_order randoms n [] h = tt
anywhere_in_order randoms n (v ∷ vs) h =
    (All-head (λ v. (k : ℕ) → NamesEarlier randoms k v) v vs h n, anywhere_in_order randoms (n + 1) vs (All-tail (λ v. (k : ℕ) → NamesEarlier randoms k v) v vs h))

-- each node names earlier ones, where they stand in order from the first on
from_first : (randoms : ℕ) (vs : List Node) → AllNameEarlier randoms 0 vs → (k : ℕ) (d : Node) → k < length vs → NamesEarlier randoms k (get_or vs k d)
from_first randoms vs h k d l = subst (λ m. NamesEarlier randoms m (get_or vs k d)) (let e : 0 + k ≡ k = omega arith in e) (AllFrom-get_or (NamesEarlier randoms) 0 vs h k d l)

module _ (h : Preamble) (limits : KeepsLimits h) where
  -- so many randoms
  abbrev randoms : ℕ
  randoms = length (stems_of h.randoms)

  -- the variables of the headers
  pub header_prefix : (start : List Variable) → AreOfHeaders h start → IsPrefix randoms (header_variables h) start
  header_prefix start named =
      let shares = share_names h.shares h.inputs.stems in
      let header = nodes-header_variables h in
      let count = length-map (header_variables h) (λ (v : Variable). v.name) in
      let names = ap length (names_of-header_variables h) in
      let all = length-append shares (stems_of h.randoms) in
      let each = length-share_names h.shares h.inputs.stems in
      let bound = mul-le (length h.inputs.stems) h.shares 4 16 limits.few_inputs limits.few_shares in
      let few : length (header_variables h) ≤ most_variables = let r = limits.few_randoms in omega arith in
      subst (IsPrefix randoms (header_variables h)) (sym named.variables) (record {
        few = few;
        distinct = subst AreDistinct (sym (names_of-header_variables h)) (AllPairs-append_left (λ a b. a ≢ b) (shares ++ stems_of h.randoms) (share_names h.shares h.outputs.stems) named.distinct);
        in_order = anywhere_in_order randoms 0 (nodes_of (header_variables h))
            (All-weaker (IsHeaderNode (length h.inputs.stems) h.shares randoms) (λ v. (k : ℕ) → NamesEarlier randoms k v) (header_earlier (length h.inputs.stems) h.shares randoms) (nodes_of (header_variables h)) header);
        operations = ([], sym (append-nil (header_variables h)), All-nil IsOperation);
      })

  -- where no header offends, the variables have names of their own, and they are few
  pub header_distinct : named_variables h ≡ Ok (header_variables h) → are_distinct (names_of (header_variables h)) ≡ true
  header_distinct e = test_from_distinct (names_of (header_variables h)) (header_prefix (header_variables h) (named_distinct h (header_variables h) e)).distinct

  pub header_few : named_variables h ≡ Ok (header_variables h) → length (header_variables h) ≤ most_variables
  header_few e = (header_prefix (header_variables h) (named_distinct h (header_variables h) e)).few

  -- all shares are numbered
  all_numbered : (vs operations : List Variable) → All IsOperation operations → All (IsNumberedNode (flat_gadget h vs)) (nodes_of (header_variables h ++ operations))
  all_numbered vs operations are =
      let P = IsNumberedNode (flat_gadget h vs) in
      subst (All P) (sym (map-append (λ (v : Variable). v.node) (header_variables h) operations))
      (All-append P (nodes_of (header_variables h)) (nodes_of operations)
      (All-weaker (IsHeaderNode (length h.inputs.stems) h.shares randoms) P (header_numbered (flat_gadget h vs) randoms) (nodes_of (header_variables h)) (nodes-header_variables h))
      (All-map P (λ (v : Variable). v.node) operations (All-weaker IsOperation (λ v. P v.node) (λ v o. operation_numbered (flat_gadget h vs) v.node o.node) operations are)))

  -- the gadget that the variables make
  made : (start vs : List Variable) → AreOfHeaders h start → IsPrefix randoms (header_variables h) vs → list_all (is_among (names_of vs)) (share_names h.shares h.outputs.stems) ≡ true → IsGadget (flat_gadget h vs)
  made start vs named p all =
      let g = flat_gadget h vs in
      let outputs = share_names h.shares h.outputs.stems in
      let operations = p.operations.0 in
      record {
        some_shares = limits.some_shares;
        few_shares = limits.few_shares;
        some_inputs = limits.some_inputs;
        few_inputs = limits.few_inputs;
        some_outputs = limits.some_outputs;
        few_outputs = limits.few_outputs;
        few_randoms = limits.few_randoms;
        few_variables = p.few;
        distinct_names = p.distinct;
        in_order = λ k node e. subst (NamesEarlier randoms k) (get_or_from_slice_get (nodes_of vs) k node node e) (from_first randoms (nodes_of vs) p.in_order k node (slice_get_within (nodes_of vs) k node e));
        shares_numbered = subst (λ (z : List Variable). All (IsNumberedNode g) (nodes_of z)) (sym p.operations.1) (all_numbered vs operations p.operations.2);
        all_outputs = length-map outputs (place_of (names_of vs)) ∙ length-share_names h.shares h.outputs.stems;
        outputs_exist = places_exist vs outputs all;
        distinct_outputs = places_apart vs outputs (AllPairs-append_right (λ a b. a ≢ b) (share_names h.shares h.inputs.stems ++ stems_of h.randoms) outputs named.distinct) all;
        outputs_named = places_named vs outputs all;
        laid_out = (
          h.inputs.line,
          line_of_randoms h.randoms,
          stems_of h.randoms,
          operations,
          record {
            variables = p.operations.1 ∙ ap (λ (z : List Variable). z ++ operations) (header_variables-parts h);
            all_operations = p.operations.2;
            count_randoms = refl;
            input_stems = limits.input_stems;
            random_stems = limits.random_stems;
            output_stems = limits.output_stems;
            distinct_headers = named.distinct;
          },
        );
      }

-- what a file says is a gadget
pub said_gadget : (bytes : List ℕ) (g : Circuit) → FileSays bytes (Ok g) → IsGadget g
said_gadget bytes g says =
    let f = file_read bytes g says in
    let h = f.0 in
    let read = f.3 in
    let limits = preamble_limits (token_lines bytes) h read.headers in
    let named = named_distinct h f.1 read.names in
    let p = lines_prefix (length (stems_of h.randoms)) (header_variables h) h.lines f.1 f.2 read.lines (header_prefix h limits f.1 named) in
    let o = outputs_made h f.2 g read.outputs in
    subst IsGadget (sym o.0) (made h limits f.1 f.2 named p o.1)
