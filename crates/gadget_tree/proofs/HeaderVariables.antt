-- The variables that the headers name: their names, how many they are, and their nodes.
use Rattle.std.proofs.Common.{◌≡◌, ◌<◌, ◌≤◌, ◌+◌, ◌*◌, ◌⊎◌, ℕ, zero, suc, List, [], ◌∷◌, ◌++◌, map, length, Option, Some, None, refl, sym, ap, ◌∙◌, subst, inl, inr, arith}
use Rattle.std.specs.Prelude.{All}
use Rattle.std.specs.List.{range_with_len}
use Rattle.std.proofs.lemmas.List.{map-append, length-append}
use Rattle.std.proofs.lemmas.List.Elements.{All-append, All-nil}
use Rattle.std.proofs.lemmas.List.FromFn.{length-map-range_with_len, get_or-map-range_with_len}
use Rattle.gadget_model.specs.Circuit.{Node, share, random, Variable}
use Rattle.list_laws.proofs.Counts.{map-map}
use Rattle.gadget_headers.specs.Headers.{Listed, Preamble}
use Rattle.gadget_headers.specs.Limits.{stems_of}
use Rattle.gadget_tree.specs.Variables.{share_name, share_names, names_of, shares_of_input, share_variables, random_variables, listed_randoms, header_variables}

-- the nodes of variables
abbrev pub nodes_of : List Variable → List Node
nodes_of vs = map (λ v. v.node) vs

-- share i of input k, which a line lists
abbrev share_of : ℕ → ℕ → List ℕ → ℕ → Variable
share_of line k stem i = record { name = share_name stem i; node = share (16 * k + i); line = line }

-- the names of input shares
names_of-share_variables : (line n k : ℕ) (stems : List (List ℕ)) → names_of (share_variables line n k stems) ≡ share_names n stems
names_of-share_variables line n k [] = refl
names_of-share_variables line n k (stem ∷ stems) =
    map-append (λ (v : Variable). v.name) (shares_of_input line n k stem) (share_variables line n (k + 1) stems)
    ∙ ap (λ (names : List (List ℕ)). names ++ names_of (share_variables line n (k + 1) stems)) (map-map (λ (v : Variable). v.name) (share_of line k stem) (share_name stem) (λ i. refl) (range_with_len 0 n))
    ∙ ap (λ (names : List (List ℕ)). map (share_name stem) (range_with_len 0 n) ++ names) (names_of-share_variables line n (k + 1) stems)

-- the names of randoms
names_of-random_variables : (line k : ℕ) (stems : List (List ℕ)) → names_of (random_variables line k stems) ≡ stems
names_of-random_variables line k [] = refl
names_of-random_variables line k (stem ∷ stems) = ap (λ (names : List (List ℕ)). stem ∷ names) (names_of-random_variables line (k + 1) stems)

-- the line of the randoms
abbrev pub line_of_randoms : Option Listed → ℕ
line_of_randoms None = 0
line_of_randoms (Some listed) = listed.line

pub listed_randoms-stems_of : (r : Option Listed) → listed_randoms r ≡ random_variables (line_of_randoms r) 0 (stems_of r)
listed_randoms-stems_of None = refl
listed_randoms-stems_of (Some listed) = refl

-- the variables of the input shares, and of the randoms
pub header_variables-parts : (h : Preamble) → header_variables h ≡ share_variables h.inputs.line h.shares 0 h.inputs.stems ++ random_variables (line_of_randoms h.randoms) 0 (stems_of h.randoms)
header_variables-parts h = ap (λ (vs : List Variable). share_variables h.inputs.line h.shares 0 h.inputs.stems ++ vs) (listed_randoms-stems_of h.randoms)

-- the names of all
pub names_of-header_variables : (h : Preamble) → names_of (header_variables h) ≡ share_names h.shares h.inputs.stems ++ stems_of h.randoms
names_of-header_variables h =
    let shares = share_variables h.inputs.line h.shares 0 h.inputs.stems in
    let randoms = random_variables (line_of_randoms h.randoms) 0 (stems_of h.randoms) in
    ap names_of (header_variables-parts h) ∙ map-append (λ (v : Variable). v.name) shares randoms
    ∙ ap (λ (names : List (List ℕ)). names ++ names_of randoms) (names_of-share_variables h.inputs.line h.shares 0 h.inputs.stems)
    ∙ ap (λ (names : List (List ℕ)). share_names h.shares h.inputs.stems ++ names) (names_of-random_variables (line_of_randoms h.randoms) 0 (stems_of h.randoms))

-- how many names shares have
pub length-share_names : (n : ℕ) (stems : List (List ℕ)) → length (share_names n stems) ≡ length stems * n
length-share_names n [] = omega arith
length-share_names n (stem ∷ stems) =
    let a = length-append (map (share_name stem) (range_with_len 0 n)) (share_names n stems) in
    let b = length-map-range_with_len (share_name stem) 0 n in
    let c = length-share_names n stems in
    omega arith

-- a share of one of so many inputs
abbrev pub IsHeaderShare : ℕ → ℕ → Node → Type 0
IsHeaderShare inputs n node = (input : ℕ) × (index : ℕ) × (input < inputs) × (index < n) × (node ≡ share (16 * input + index))

-- one of so many randoms
abbrev pub IsHeaderRandom : ℕ → Node → Type 0
IsHeaderRandom randoms node = (k : ℕ) × (k < randoms) × (node ≡ random k)

-- the node of a variable that the headers name
abbrev pub IsHeaderNode : ℕ → ℕ → ℕ → Node → Type 0
IsHeaderNode inputs n randoms node = IsHeaderShare inputs n node ⊎ IsHeaderRandom randoms node

nodes-share_variables : (line n k inputs randoms : ℕ) (stems : List (List ℕ)) → k + length stems ≤ inputs → All (IsHeaderNode inputs n randoms) (nodes_of (share_variables line n k stems))
nodes-share_variables line n k inputs randoms [] few = All-nil (IsHeaderNode inputs n randoms)
nodes-share_variables line n k inputs randoms (stem ∷ stems) few =
    let P = IsHeaderNode inputs n randoms in
    let g = λ (i : ℕ). share (16 * k + i) in
    let e = map-map (λ (v : Variable). v.node) (share_of line k stem) g (λ i. refl) (range_with_len 0 n) in
    let m = length-map-range_with_len g 0 n in
    let first : All P (map g (range_with_len 0 n)) = λ i d l.
    let lt : i < n = omega arith in
    subst P (sym (get_or-map-range_with_len g 0 n i i d lt (omega arith))) (inl (k, i, omega arith, lt, refl)) in
    subst (All P) (sym (map-append (λ (v : Variable). v.node) (shares_of_input line n k stem) (share_variables line n (k + 1) stems)))
    (All-append P (nodes_of (shares_of_input line n k stem)) (nodes_of (share_variables line n (k + 1) stems)) (subst (All P) (sym e) first) (nodes-share_variables line n (k + 1) inputs randoms stems (omega arith)))

nodes-random_variables : (line inputs n k randoms : ℕ) (stems : List (List ℕ)) → k + length stems ≤ randoms → All (IsHeaderNode inputs n randoms) (nodes_of (random_variables line k stems))
nodes-random_variables line inputs n k randoms [] few i d l = absurd (omega arith)
nodes-random_variables line inputs n k randoms (stem ∷ stems) few zero d l = inr (k, omega arith, refl)
nodes-random_variables line inputs n k randoms (stem ∷ stems) few (suc i) d l = nodes-random_variables line inputs n (k + 1) randoms stems (omega arith) i d (omega arith)

-- the nodes of all
pub nodes-header_variables : (h : Preamble) → All (IsHeaderNode (length h.inputs.stems) h.shares (length (stems_of h.randoms))) (nodes_of (header_variables h))
nodes-header_variables h =
    let inputs = length h.inputs.stems in
    let count = length (stems_of h.randoms) in
    let P = IsHeaderNode inputs h.shares count in
    let shares = share_variables h.inputs.line h.shares 0 h.inputs.stems in
    let randoms = random_variables (line_of_randoms h.randoms) 0 (stems_of h.randoms) in
    subst (All P) (sym (ap nodes_of (header_variables-parts h) ∙ map-append (λ (v : Variable). v.node) shares randoms))
    (All-append P (nodes_of shares) (nodes_of randoms)
    (nodes-share_variables h.inputs.line h.shares 0 inputs count h.inputs.stems (omega arith))
    (nodes-random_variables (line_of_randoms h.randoms) inputs h.shares 0 count (stems_of h.randoms) (omega arith)))
