-- The canonical text of a gadget reads again as the same gadget, apart from the lines of its variables.
use Rattle.std.proofs.Common.{◌≡◌, ◌<◌, ◌+◌, ℕ, Bool, true, cond, not, IsTrue, List, [], ◌∷◌, ◌++◌, length, get_or, map, Option, Some, None, Result, Ok, refl, sym, ap, ◌∙◌, subst, arith, length-append}
use Rattle.std.specs.Prelude.{option_map}
use Rattle.std.specs.List.{All, AllByRecursion, find, range_with_len}
use Rattle.std.proofs.lemmas.Bool.{not_from_true}
use Rattle.std.proofs.lemmas.List.{length-map}
use Rattle.std.proofs.lemmas.List.Elements.{recursion_from_All, Contains-get_or}
use Rattle.gadget_model.specs.Circuit.{Variable, Circuit}
use Rattle.gadget_text.specs.Names.{is_stem}
use Rattle.gadget_text.specs.Tokens.{TokenLine}
use Rattle.gadget_text.proofs.WordBytes.{each_weaker}
use Rattle.gadget_text.specs.declared.file_error.FileError.{FileError}
use Rattle.gadget_headers.specs.Headers.{Preamble}
use Rattle.gadget_text.specs.Errors.{refuse_found, ◌>>◌}
use Rattle.gadget_headers.specs.Limits.{KeepsLimits, stems_of}
use Rattle.gadget_tree.specs.Variables.{share_name, share_names, names_of, is_among, place_of, AreDistinct, header_variables}
use Rattle.gadget_tree.specs.File.{OutputShare, output_shares_from, flat_gadget, offence_of, with_outputs, file_headers, named_variables, LinesSay, BodySays, Follows, FileSays}
use Rattle.gadget_tree.specs.Gadgets.{IsGadget, IsLaidOut}
use Rattle.gadget_tree.specs.Canonical.{canonical_text, AreEqualButForLines}
use Rattle.gadget_tree.proofs.Names.{contains_among}
use Rattle.gadget_tree.proofs.NamePlaces.{place_of-get_or}
use Rattle.gadget_tree.proofs.CanonicalHeaders.{header_scripts, listed_random, canonical_preamble}
use Rattle.gadget_tree.proofs.CanonicalOperations.{AreNamed}
use Rattle.gadget_tree.proofs.CanonicalBody.{operations_said}
use Rattle.gadget_tree.proofs.CanonicalText.{body_lines, text_headers}
use Rattle.gadget_tree.proofs.CanonicalVariables.{all_steps, all_names, all_nodes, variables_named}

listed_stems : (randoms : List (List ℕ)) → stems_of (listed_random randoms) ≡ randoms
listed_stems [] = refl
listed_stems (name ∷ names) = refl

-- the headers of a gadget keep the limits
limits_kept : (g : Circuit) (input_line random_line : ℕ) (randoms : List (List ℕ)) (operations : List Variable) (lines : List TokenLine) → IsLaidOut g input_line random_line randoms operations → IsGadget g →
    KeepsLimits (canonical_preamble g.shares g.inputs randoms g.outputs lines)
limits_kept g input_line random_line randoms operations lines h k = record {
  some_shares = k.some_shares;
  few_shares = k.few_shares;
  some_inputs = k.some_inputs;
  few_inputs = k.few_inputs;
  few_randoms = omega (arith, ap length (listed_stems randoms), h.count_randoms, k.few_randoms);
  some_outputs = k.some_outputs;
  few_outputs = k.few_outputs;
  input_stems = h.input_stems;
  random_stems = subst (All (λ w. IsTrue (is_stem w))) (sym (listed_stems randoms)) h.random_stems;
  output_stems = h.output_stems;
}

-- what is true of each element of a list is true of each of its parts
each_front : {A : Type 0} (P : A → Type 0) (xs ys : List A) → AllByRecursion P (xs ++ ys) → AllByRecursion P xs
each_front P [] ys h = tt
each_front P (x ∷ xs) ys h = (h.0, each_front P xs ys h.1)

each_back : {A : Type 0} (P : A → Type 0) (xs ys : List A) → AllByRecursion P (xs ++ ys) → AllByRecursion P ys
each_back P [] ys h = h
each_back P (x ∷ xs) ys h = each_back P xs ys h.1

-- the first share whose name is not among these
abbrev missing : List (List ℕ) → List OutputShare → Option OutputShare
missing names shares = find (λ share. not (is_among names share.name)) shares

-- the shares of one output
abbrev some_outputs : ℕ → List ℕ → List ℕ → List OutputShare
some_outputs output stem is = map (λ i. record { output = output; index = i; name = share_name stem i }) is

-- each name is among these
abbrev AreAmong : List (List ℕ) → List (List ℕ) → Type 0
AreAmong names others = AllByRecursion (λ name. is_among names name ≡ true) others

-- no share is missing where the name of each is among these
none_missing : (names : List (List ℕ)) (output : ℕ) (stem : List ℕ) (is : List ℕ) (others : List OutputShare) → AreAmong names (map (share_name stem) is) → missing names others ≡ None →
    missing names (some_outputs output stem is ++ others) ≡ None
none_missing names output stem [] others h e = e
none_missing names output stem (i ∷ is) others h e =
    let first : OutputShare = record { output = output; index = i; name = share_name stem i } in
    ap (λ (t : Bool). cond t (Some first) (missing names (some_outputs output stem is ++ others))) (not_from_true (is_among names (share_name stem i)) h.0)
    ∙ none_missing names output stem is others h.1 e

no_output_missing : (names : List (List ℕ)) (n k : ℕ) (stems : List (List ℕ)) → AreAmong names (share_names n stems) → missing names (output_shares_from n k stems) ≡ None
no_output_missing names n k [] h = refl
no_output_missing names n k (stem ∷ stems) h =
    let among : List ℕ → Type 0 = λ name. is_among names name ≡ true in
    none_missing names k stem (range_with_len 0 n) (output_shares_from n (k + 1) stems) (each_front among (map (share_name stem) (range_with_len 0 n)) (share_names n stems) h)
    (no_output_missing names n (k + 1) stems (each_back among (map (share_name stem) (range_with_len 0 n)) (share_names n stems) h))

-- numbers below the count of names lead to names, and these to the numbers
names_among : (names : List (List ℕ)) (ks : List ℕ) → AllByRecursion (λ k. k < length names) ks → AreAmong names (map (λ k. get_or names k []) ks)
names_among names [] h = tt
names_among names (k ∷ ks) h = (contains_among names (get_or names k []) (Contains-get_or names k [] h.0), names_among names ks h.1)

names_placed : (names : List (List ℕ)) (ks : List ℕ) → AreDistinct names → AllByRecursion (λ k. k < length names) ks → map (place_of names) (map (λ k. get_or names k []) ks) ≡ ks
names_placed names [] d h = refl
names_placed names (k ∷ ks) d h =
    ap (λ (z : ℕ). z ∷ map (place_of names) (map (λ j. get_or names j []) ks)) (place_of-get_or names k [] d h.0)
    ∙ ap (λ (z : List ℕ). k ∷ z) (names_placed names ks d h.1)

-- the numbers of a gadget's output shares are below the count of its names
outputs_below : (g : Circuit) → IsGadget g → AllByRecursion (λ k. k < length (names_of g.variables)) g.output_shares
outputs_below g h =
    each_weaker (λ k. k < length g.variables) (λ k. k < length (names_of g.variables)) (λ k l. omega (arith, length-map g.variables (λ (v : Variable). v.name))) g.output_shares
    (recursion_from_All (λ k. k < length g.variables) g.output_shares h.outputs_exist)

-- the end of a file, where this output share is missing or none is
abbrev complete : Preamble → List Variable → Option OutputShare → Result Circuit FileError
complete h variables found = refuse_found (option_map offence_of found) >> Ok (flat_gadget h variables)

-- where variables have a gadget's names, no output share is missing
outputs_found : (g : Circuit) (h : Preamble) (final : List Variable) → IsGadget g → h.shares ≡ g.shares → h.outputs.stems ≡ g.outputs → names_of final ≡ names_of g.variables →
    with_outputs h final ≡ Ok (flat_gadget h final)
outputs_found g h final k s o e =
    let names = names_of g.variables in
    let found : AreAmong names (share_names g.shares g.outputs) = subst (AreAmong names) (sym k.outputs_named) (names_among names g.output_shares (outputs_below g k)) in
    ap (λ (z : List (List ℕ)). complete h final (missing z (output_shares_from h.shares 0 h.outputs.stems))) e
    ∙ ap (λ (z : ℕ). complete h final (missing names (output_shares_from z 0 h.outputs.stems))) s
    ∙ ap (λ (z : List (List ℕ)). complete h final (missing names (output_shares_from g.shares 0 z))) o
    ∙ ap (complete h final) (no_output_missing names g.shares 0 g.outputs found)

outputs_placed : (g : Circuit) (final : List Variable) → IsGadget g → names_of final ≡ names_of g.variables → g.output_shares ≡ map (place_of (names_of final)) (share_names g.shares g.outputs)
outputs_placed g final k e =
    sym (ap (λ (z : List (List ℕ)). map (place_of z) (share_names g.shares g.outputs)) e
    ∙ ap (map (place_of (names_of g.variables))) k.outputs_named
    ∙ names_placed (names_of g.variables) g.output_shares k.distinct_names (outputs_below g k))

-- a file says a gadget by what its headers, its lines and its end say
file_said : (bytes : List ℕ) (h : Preamble) (start final : List Variable) (g : Circuit) → file_headers bytes ≡ Ok h → named_variables h ≡ Ok start → LinesSay start h.lines (Ok final) →
    with_outputs h final ≡ Ok g → FileSays bytes (Ok g)
unfolding FileSays
file_said bytes h start final g e f l o =
    let r : Result Circuit FileError = Ok g in
    let body : BodySays h start r = (Ok final, l, sym o) in
    let named : Follows (named_variables h) (λ s. BodySays h s r) r = subst (λ (z : Result (List Variable) FileError). Follows z (λ s. BodySays h s r) r) (sym f) body in
    subst (λ (z : Result Preamble FileError). Follows z (λ p. Follows (named_variables p) (λ s. BodySays p s r) r) r) (sym e) named

reads_laid_out : (g : Circuit) (input_line random_line : ℕ) (randoms : List (List ℕ)) (operations : List Variable) → IsLaidOut g input_line random_line randoms operations → IsGadget g →
    (h : Circuit) × FileSays (canonical_text g) (Ok h) × AreEqualButForLines g h
reads_laid_out g input_line random_line randoms operations h k =
    let lines = body_lines g randoms operations in
    let preamble : Preamble = canonical_preamble g.shares g.inputs randoms g.outputs lines in
    let start : List Variable = header_variables preamble in
    let steps = all_steps g input_line random_line randoms operations lines h k.in_order in
    let names = all_names g input_line random_line randoms operations lines h k in
    let said = operations_said (names_of g.variables) g.randoms (1 + length (header_scripts g.shares g.inputs randoms g.outputs)) start operations names steps in
    let final : List Variable = said.0 in
    let count : length (names_of g.variables) ≡ length start + length operations =
    ap length names.all ∙ length-append (names_of start) (names_of operations)
    ∙ ap (λ z. z + length (names_of operations)) (length-map start (λ (v : Variable). v.name)) ∙ ap (λ z. length start + z) (length-map operations (λ (v : Variable). v.name)) in
    let named : AreNamed (names_of g.variables) (length start + length operations) = subst (AreNamed (names_of g.variables)) count names.named in
    let headers = text_headers g input_line random_line randoms operations h (length start) steps named (limits_kept g input_line random_line randoms operations lines h k) in (
      flat_gadget preamble final,
      file_said (canonical_text g) preamble start final (flat_gadget preamble final) headers (variables_named g.shares g.inputs randoms g.outputs lines h.distinct_headers) said.1.says
          (outputs_found g preamble final k refl refl said.1.same_names),
      record {
        shares = refl;
        inputs = refl;
        randoms = h.count_randoms ∙ sym (ap length (listed_stems randoms));
        outputs = refl;
        output_shares = outputs_placed g final k said.1.same_names;
        same_names = sym said.1.same_names;
        same_nodes = all_nodes g input_line random_line randoms operations lines h ∙ sym said.1.same_nodes;
      },
    )

-- the canonical text of a gadget reads again as the same gadget
pub canonical_reads : (g : Circuit) → IsGadget g → (h : Circuit) × FileSays (canonical_text g) (Ok h) × AreEqualButForLines g h
canonical_reads g k =
    let l = k.laid_out in
    reads_laid_out g l.0 l.1 l.2 l.3 l.4 k
