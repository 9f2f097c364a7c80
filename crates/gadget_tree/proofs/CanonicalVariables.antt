-- The variables of a gadget, and those that its canonical headers name.
use Rattle.std.proofs.Common.{◌≡◌, ◌≢◌, ◌≤◌, ◌+◌, ◌*◌, ℕ, zero, suc, not, IsTrue, List, [], ◌∷◌, ◌++◌, length, map, Some, Result, Ok, refl, sym, ap, ◌∙◌, subst, arith, append-nil}
use Rattle.std.specs.List.{AllByRecursion, range_with_len, slice_get}
use Rattle.std.proofs.lemmas.Bool.{not_from_true}
use Rattle.std.proofs.lemmas.List.{map-append, length-map}
use Rattle.std.proofs.lemmas.List.Elements.{All-from_recursion, recursion_from_All}
use Rattle.gadget_model.specs.Circuit.{Node, share, random, Variable, Circuit, nodes, NamesEarlier, IsInOrder}
use Rattle.gadget_text.specs.Names.{is_stem}
use Rattle.gadget_text.specs.Tokens.{TokenLine}
use Rattle.gadget_text.proofs.WordBytes.{IsNamed, IsNamed-from_stem, IsNamed-from_name, each_append}
use Rattle.gadget_text.specs.declared.file_error.FileError.{FileError}
use Rattle.gadget_text.specs.declared.file_error.FileError.TheVariants.{NameTwice}
use Rattle.gadget_text.specs.Errors.{refuse, ◌>>=◌, ◌>>◌}
use Rattle.gadget_tree.specs.Variables.{share_name, share_names, names_of, are_distinct, AreDistinct, shares_of_input, share_variables, random_variables, listed_randoms, header_variables}
use Rattle.gadget_tree.specs.File.{distinct_shares, distinct_randoms, named_variables}
use Rattle.gadget_tree.specs.Gadgets.{IsOperation, IsGadget, IsLaidOut}
use Rattle.gadget_tree.proofs.Decimals.{is_stem-share_name}
use Rattle.list_laws.proofs.Members.{AllPairs-append_left}
use Rattle.gadget_tree.proofs.Names.{test_from_distinct}
use Rattle.gadget_tree.proofs.CanonicalHeaders.{listed_random, canonical_preamble, passes}
use Rattle.gadget_tree.proofs.CanonicalText.{some_shares}
use Rattle.gadget_tree.proofs.CanonicalOperations.{AreSteps, AreNamed}
use Rattle.gadget_tree.proofs.HeaderVariables.{nodes_of}
use Rattle.gadget_tree.proofs.CanonicalBody.{AreNames}

-- what is said of each variable, by its name and its node
abbrev seen : {A : Type 0} → (List ℕ → Node → A) → List Variable → List A
seen f variables = map (λ v. f v.name v.node) variables

-- the lines of input shares don't show in their names and nodes
one_input : {A : Type 0} (f : List ℕ → Node → A) (line other k : ℕ) (stem : List ℕ) (is : List ℕ) → seen f (some_shares line k stem is) ≡ seen f (some_shares other k stem is)
one_input f line other k stem [] = refl
one_input {A} f line other k stem (i ∷ is) = ap (λ (z : List A). f (share_name stem i) (share (16 * k + i)) ∷ z) (one_input f line other k stem is)

same_shares : {A : Type 0} (f : List ℕ → Node → A) (line other n k : ℕ) (stems : List (List ℕ)) → seen f (share_variables line n k stems) ≡ seen f (share_variables other n k stems)
same_shares f line other n k [] = refl
same_shares {A} f line other n k (stem ∷ stems) =
    let one : Variable → A = λ v. f v.name v.node in
    map-append one (some_shares line k stem (range_with_len 0 n)) (share_variables line n (k + 1) stems)
    ∙ ap (λ (z : List A). z ++ seen f (share_variables line n (k + 1) stems)) (one_input f line other k stem (range_with_len 0 n))
    ∙ ap (λ (z : List A). seen f (some_shares other k stem (range_with_len 0 n)) ++ z) (same_shares f line other n (k + 1) stems)
    ∙ sym (map-append one (some_shares other k stem (range_with_len 0 n)) (share_variables other n (k + 1) stems))

same_randoms : {A : Type 0} (f : List ℕ → Node → A) (line k : ℕ) (names : List (List ℕ)) → seen f (random_variables line k names) ≡ seen f (random_variables 3 k names)
same_randoms f line k [] = refl
same_randoms {A} f line k (name ∷ names) = ap (λ (z : List A). f name (random k) ∷ z) (same_randoms f line (k + 1) names)

listed_same : (randoms : List (List ℕ)) → listed_randoms (listed_random randoms) ≡ random_variables 3 0 randoms
listed_same [] = refl
listed_same (name ∷ names) = refl

-- the variables of a gadget look as those that the canonical headers name, and then the operations
looks_alike : {A : Type 0} (f : List ℕ → Node → A) (g : Circuit) (input_line random_line : ℕ) (randoms : List (List ℕ)) (operations : List Variable) (lines : List TokenLine) →
    IsLaidOut g input_line random_line randoms operations →
    seen f g.variables ≡ seen f (header_variables (canonical_preamble g.shares g.inputs randoms g.outputs lines)) ++ seen f operations
looks_alike {A} f g input_line random_line randoms operations lines h =
    let one : Variable → A = λ v. f v.name v.node in
    let shares = share_variables input_line g.shares 0 g.inputs in
    let rs = random_variables random_line 0 randoms in
    ap (map one) h.variables
    ∙ map-append one (shares ++ rs) operations
    ∙ ap (λ (z : List A). z ++ seen f operations) (
    map-append one shares rs
    ∙ ap (λ (z : List A). z ++ seen f rs) (same_shares f input_line 2 g.shares 0 g.inputs)
    ∙ ap (λ (z : List A). seen f (share_variables 2 g.shares 0 g.inputs) ++ z) (same_randoms f random_line 0 randoms ∙ ap (map one) (sym (listed_same randoms)))
    ∙ sym (map-append one (share_variables 2 g.shares 0 g.inputs) (listed_randoms (listed_random randoms))))

-- the name of each share is a name
input_named : (stem : List ℕ) → IsTrue (is_stem stem) → (line k a m : ℕ) → a + m ≤ 16 → AllByRecursion IsNamed (names_of (some_shares line k stem (range_with_len a m)))
input_named stem s line k a zero l = tt
input_named stem s line k a (suc m) l = (IsNamed-from_stem (share_name stem a) (is_stem-share_name stem a (omega arith) s), input_named stem s line k (a + 1) m (omega arith))

shares_named : (line n k : ℕ) (stems : List (List ℕ)) → n ≤ 16 → AllByRecursion (λ w. IsTrue (is_stem w)) stems → AllByRecursion IsNamed (names_of (share_variables line n k stems))
shares_named line n k [] l h = tt
shares_named line n k (stem ∷ stems) l h =
    subst (AllByRecursion IsNamed) (sym (map-append (λ (v : Variable). v.name) (shares_of_input line n k stem) (share_variables line n (k + 1) stems)))
    (each_append IsNamed (names_of (shares_of_input line n k stem)) (names_of (share_variables line n (k + 1) stems)) (input_named stem h.0 line k 0 n (omega (arith, l))) (shares_named line n (k + 1) stems l h.1))

randoms_named : (line k : ℕ) (names : List (List ℕ)) → AllByRecursion (λ w. IsTrue (is_stem w)) names → AllByRecursion IsNamed (names_of (random_variables line k names))
randoms_named line k [] h = tt
randoms_named line k (name ∷ names) h = (IsNamed-from_stem name h.0, randoms_named line (k + 1) names h.1)

operations_named : (operations : List Variable) → AllByRecursion IsOperation operations → AllByRecursion IsNamed (names_of operations)
operations_named [] h = tt
operations_named (v ∷ operations) h = (IsNamed-from_name v.name h.0.name, operations_named operations h.1)

-- each variable of a gadget has a name
pub all_named : (g : Circuit) (input_line random_line : ℕ) (randoms : List (List ℕ)) (operations : List Variable) → IsLaidOut g input_line random_line randoms operations → g.shares ≤ 16 →
    AreNamed (names_of g.variables) (length (names_of g.variables))
all_named g input_line random_line randoms operations h l =
    let shares = share_variables input_line g.shares 0 g.inputs in
    let rs = random_variables random_line 0 randoms in
    let stems : List ℕ → Type 0 = λ w. IsTrue (is_stem w) in
    let each : AllByRecursion IsNamed ((names_of shares ++ names_of rs) ++ names_of operations) =
    each_append IsNamed (names_of shares ++ names_of rs) (names_of operations)
    (each_append IsNamed (names_of shares) (names_of rs) (shares_named input_line g.shares 0 g.inputs l (recursion_from_All stems g.inputs h.input_stems))
    (randoms_named random_line 0 randoms (recursion_from_All stems randoms h.random_stems)))
    (operations_named operations (recursion_from_All IsOperation operations h.all_operations)) in
    let names : names_of g.variables ≡ (names_of shares ++ names_of rs) ++ names_of operations =
    ap names_of h.variables
    ∙ map-append (λ (v : Variable). v.name) (shares ++ rs) operations
    ∙ ap (λ (z : List (List ℕ)). z ++ names_of operations) (map-append (λ (v : Variable). v.name) shares rs) in
    λ a m. All-from_recursion IsNamed (names_of g.variables) (subst (AllByRecursion IsNamed) (sym names) each) a [] m

slice_get_behind : (xs ys : List Node) (j : ℕ) → slice_get (xs ++ ys) (length xs + j) ≡ slice_get ys j
slice_get_behind [] ys j = let e : 0 + j ≡ j = omega arith in ap (slice_get ys) e
slice_get_behind (x ∷ xs) ys j =
    let e : length (x ∷ xs) + j ≡ suc (length xs + j) = omega arith in
    ap (slice_get (x ∷ (xs ++ ys))) e ∙ slice_get_behind xs ys j

steps_from : (randoms k : ℕ) (operations : List Variable) → AllByRecursion IsOperation operations →
    ((j : ℕ) (v : Node) → slice_get (nodes_of operations) j ≡ Some v → NamesEarlier randoms (k + j) v) → AreSteps randoms k operations
steps_from randoms k [] h f = tt
steps_from randoms k (v ∷ operations) h f =
    let zero_more : k + 0 ≡ k = omega arith in (
      record { operation = h.0; earlier = subst (λ z. NamesEarlier randoms z v.node) zero_more (f 0 v.node refl) },
      steps_from randoms (k + 1) operations h.1 (λ j w e.
          let more : k + suc j ≡ (k + 1) + j = omega arith in
          subst (λ z. NamesEarlier randoms z w) more (f (suc j) w e)),
    )

-- the operations of a gadget are operations on earlier variables
pub all_steps : (g : Circuit) (input_line random_line : ℕ) (randoms : List (List ℕ)) (operations : List Variable) (lines : List TokenLine) → IsLaidOut g input_line random_line randoms operations → IsInOrder g →
    AreSteps g.randoms (length (header_variables (canonical_preamble g.shares g.inputs randoms g.outputs lines))) operations
all_steps g input_line random_line randoms operations lines h o =
    let start = header_variables (canonical_preamble g.shares g.inputs randoms g.outputs lines) in
    let alike : nodes g ≡ nodes_of start ++ nodes_of operations = looks_alike (λ x node. node) g input_line random_line randoms operations lines h in
    let len : length (nodes_of start) ≡ length start = length-map start (λ (v : Variable). v.node) in
    steps_from g.randoms (length start) operations (recursion_from_All IsOperation operations h.all_operations) (λ j v e.
    o (length start + j) v (
    ap (λ (z : List Node). slice_get z (length start + j)) alike
    ∙ ap (λ (z : ℕ). slice_get (nodes_of start ++ nodes_of operations) (z + j)) (sym len)
    ∙ slice_get_behind (nodes_of start) (nodes_of operations) j ∙ e))

-- the names of a gadget's variables are those of the headers and of the operations
pub all_names : (g : Circuit) (input_line random_line : ℕ) (randoms : List (List ℕ)) (operations : List Variable) (lines : List TokenLine) → IsLaidOut g input_line random_line randoms operations → IsGadget g →
    AreNames (names_of g.variables) (header_variables (canonical_preamble g.shares g.inputs randoms g.outputs lines)) operations
all_names g input_line random_line randoms operations lines h k = record {
  all = looks_alike (λ x node. x) g input_line random_line randoms operations lines h;
  distinct = k.distinct_names;
  few = omega (arith, length-map g.variables (λ (v : Variable). v.name), k.few_variables);
  named = all_named g input_line random_line randoms operations h k.few_shares;
}

-- the nodes of a gadget's variables are those of the headers and of the operations
pub all_nodes : (g : Circuit) (input_line random_line : ℕ) (randoms : List (List ℕ)) (operations : List Variable) (lines : List TokenLine) → IsLaidOut g input_line random_line randoms operations →
    nodes g ≡ nodes_of (header_variables (canonical_preamble g.shares g.inputs randoms g.outputs lines)) ++ nodes_of operations
all_nodes g input_line random_line randoms operations lines h = looks_alike (λ x node. node) g input_line random_line randoms operations lines h

-- names and more that differ are no offence
distinct_passes : (names more : List (List ℕ)) (line : ℕ) → AreDistinct (names ++ more) → (refuse (not (are_distinct (names ++ more))) (NameTwice line) >> Ok (names ++ more)) ≡ Ok (names ++ more)
distinct_passes names more line h = passes (not (are_distinct (names ++ more))) (NameTwice line) (Ok (names ++ more)) (not_from_true (are_distinct (names ++ more)) (test_from_distinct (names ++ more) h))

-- the headers name variables, where no name stands twice
pub variables_named : (n : ℕ) (inputs randoms outputs : List (List ℕ)) (lines : List TokenLine) → AreDistinct (share_names n inputs ++ randoms ++ share_names n outputs) →
    named_variables (canonical_preamble n inputs randoms outputs lines) ≡ Ok (header_variables (canonical_preamble n inputs randoms outputs lines))
variables_named n inputs [] outputs lines h =
    let start : Result (List Variable) FileError = Ok (header_variables (canonical_preamble n inputs [] outputs lines)) in
    let last = λ (names : List (List ℕ)). distinct_shares names n (record { line = 3; stems = outputs }) >>= λ _. start in
    let all : AreDistinct (share_names n inputs ++ share_names n outputs) = subst (λ (z : List (List ℕ)). AreDistinct (z ++ share_names n outputs)) (append-nil (share_names n inputs)) h in
    ap (λ (z : Result (List (List ℕ)) FileError). z >>= last) (distinct_passes [] (share_names n inputs) 2 (AllPairs-append_left (λ a b. a ≢ b) (share_names n inputs) (share_names n outputs) all))
    ∙ ap (λ (z : Result (List (List ℕ)) FileError). z >>= λ _. start) (distinct_passes (share_names n inputs) (share_names n outputs) 3 all)
variables_named n inputs (name ∷ names) outputs lines h =
    let start : Result (List Variable) FileError = Ok (header_variables (canonical_preamble n inputs (name ∷ names) outputs lines)) in
    let last = λ (all : List (List ℕ)). distinct_shares all n (record { line = 4; stems = outputs }) >>= λ _. start in
    let later = λ (all : List (List ℕ)). distinct_randoms all (Some (record { line = 3; stems = name ∷ names })) >>= last in
    let front = AllPairs-append_left (λ a b. a ≢ b) (share_names n inputs ++ name ∷ names) (share_names n outputs) h in
    ap (λ (z : Result (List (List ℕ)) FileError). z >>= later) (distinct_passes [] (share_names n inputs) 2 (AllPairs-append_left (λ a b. a ≢ b) (share_names n inputs) (name ∷ names) front))
    ∙ ap (λ (z : Result (List (List ℕ)) FileError). z >>= last) (distinct_passes (share_names n inputs) (name ∷ names) 3 front)
    ∙ ap (λ (z : Result (List (List ℕ)) FileError). z >>= λ _. start) (distinct_passes (share_names n inputs ++ name ∷ names) (share_names n outputs) 4 h)
