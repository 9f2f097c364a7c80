-- The canonical text as lines with their tokens.
use Rattle.std.proofs.Common.{◌≡◌, ◌+◌, ◌*◌, ℕ, IsTrue, List, [], ◌∷◌, ◌++◌, length, map, flat_map, Option, None, Ok, refl, sym, ap, ◌∙◌, arith, append-nil}
use Rattle.std.specs.Prelude.{codes, decimal, option_map}
use Rattle.std.specs.List.{All, AllByRecursion, join_with_byte, range_with_len}
use Rattle.std.proofs.lemmas.List.{map-append}
use Rattle.std.proofs.lemmas.List.Concat.{flat_map-append}
use Rattle.std.proofs.lemmas.List.Elements.{recursion_from_All}
use Rattle.std.proofs.lemmas.List.Folds.{flat_map-map}
use Rattle.gadget_model.specs.Circuit.{Node, share, random, copy, sum_of, product_of, Variable, Circuit}
use Rattle.gadget_text.specs.declared.token.Header.{Header}
use Rattle.gadget_text.specs.declared.token.Header.TheVariants.{Shares, In, Randoms, Out}
use Rattle.gadget_text.specs.Lines.{lines_of, first_not_text}
use Rattle.gadget_text.specs.Names.{is_stem}
use Rattle.gadget_text.specs.Tokens.{TokenLine, token_lines}
use Rattle.gadget_text.proofs.WordBytes.{IsWord, IsNamed-from_stem, IsWord-from_named, each_weaker, each_append}
use Rattle.gadget_text.proofs.SpacedWords.{HasLexemes-header}
use Rattle.gadget_text.specs.declared.file_error.FileError.TheVariants.{NotText}
use Rattle.gadget_text.specs.Errors.{refuse_found, ◌>>=◌, ◌>>◌}
use Rattle.gadget_headers.specs.Headers.{Preamble, preamble_of}
use Rattle.gadget_headers.specs.Limits.{KeepsLimits}
use Rattle.gadget_tree.specs.Variables.{share_name, names_of, shares_of_input, share_variables, random_variables}
use Rattle.gadget_tree.specs.File.{file_headers}
use Rattle.gadget_tree.specs.Gadgets.{IsOperationNode, IsOperation, IsLaidOut}
use Rattle.gadget_tree.specs.Canonical.{random_name, randoms_among, randoms_line, operation_line, canonical_lines, canonical_text}
use Rattle.gadget_tree.proofs.Decimals.{IsWord-decimal}
use Rattle.gadget_tree.proofs.CanonicalLines.{Script, IsRead, text_from, scripted_from, all_text, text_tokens}
use Rattle.gadget_tree.proofs.CanonicalHeaders.{header_script, header_scripts, canonical_preamble, StartsBody, preamble_said}
use Rattle.gadget_tree.proofs.CanonicalOperations.{AreSteps, AreNamed, operation_words, operation_script, operations_read}

-- what each variable gives, by its name and its node
abbrev given : {A : Type 0} → (List ℕ → Node → List A) → List Variable → List A
given f variables = flat_map (λ v. f v.name v.node) variables

-- the variables of shares of one input
abbrev pub some_shares : ℕ → ℕ → List ℕ → List ℕ → List Variable
some_shares line k stem is = map (λ i. record { name = share_name stem i; node = share (16 * k + i); line = line }) is

-- where shares give nothing, input shares give nothing
input_gives : {A : Type 0} (f : List ℕ → Node → List A) → ((x : List ℕ) (i : ℕ) → f x (share i) ≡ []) → (line k : ℕ) (stem : List ℕ) (is : List ℕ) →
    given f (some_shares line k stem is) ≡ []
input_gives f none line k stem [] = refl
input_gives {A} f none line k stem (i ∷ is) = ap (λ (z : List A). z ++ given f (some_shares line k stem is)) (none (share_name stem i) (16 * k + i)) ∙ input_gives f none line k stem is

shares_give : {A : Type 0} (f : List ℕ → Node → List A) → ((x : List ℕ) (i : ℕ) → f x (share i) ≡ []) → (line n k : ℕ) (stems : List (List ℕ)) →
    given f (share_variables line n k stems) ≡ []
shares_give f none line n k [] = refl
shares_give {A} f none line n k (stem ∷ stems) =
    flat_map-append (λ v. f v.name v.node) (shares_of_input line n k stem) (share_variables line n (k + 1) stems)
    ∙ ap (λ (z : List A). z ++ given f (share_variables line n (k + 1) stems)) (input_gives f none line k stem (range_with_len 0 n))
    ∙ shares_give f none line n (k + 1) stems

-- what the shares, randoms and operations of a gadget give, where shares give nothing
all_give : {A : Type 0} (f : List ℕ → Node → List A) → ((x : List ℕ) (i : ℕ) → f x (share i) ≡ []) → (line n : ℕ) (stems : List (List ℕ)) (randoms operations : List Variable) (r o : List A) →
    given f randoms ≡ r → given f operations ≡ o → given f (share_variables line n 0 stems ++ randoms ++ operations) ≡ r ++ o
all_give {A} f none line n stems randoms operations r o d e =
    let one : Variable → List A = λ v. f v.name v.node in
    flat_map-append one (share_variables line n 0 stems ++ randoms) operations
    ∙ ap (λ (z : List A). z ++ given f operations) (flat_map-append one (share_variables line n 0 stems) randoms)
    ∙ ap (λ (z : List A). z ++ given f randoms ++ given f operations) (shares_give f none line n 0 stems)
    ∙ ap (λ (z : List A). z ++ given f operations) d ∙ ap (λ (z : List A). r ++ z) e

random_named : (line k : ℕ) (names : List (List ℕ)) → given random_name (random_variables line k names) ≡ names
random_named line k [] = refl
random_named line k (name ∷ names) = ap (λ (z : List (List ℕ)). name ∷ z) (random_named line (k + 1) names)

no_random : (x : List ℕ) (node : Node) → IsOperationNode node → random_name x node ≡ []
no_random x (share i) o = absurd o
no_random x (random i) o = absurd o
no_random x (copy a) o = refl
no_random x (sum_of a b) o = refl
no_random x (product_of a b) o = refl

no_randoms : (operations : List Variable) → AllByRecursion IsOperation operations → given random_name operations ≡ []
no_randoms [] h = refl
no_randoms (v ∷ operations) h = ap (λ (z : List (List ℕ)). z ++ given random_name operations) (no_random v.name v.node h.0.node) ∙ no_randoms operations h.1

random_lineless : (variables : List Variable) (line k : ℕ) (names : List (List ℕ)) → given (operation_line variables) (random_variables line k names) ≡ []
random_lineless variables line k [] = refl
random_lineless variables line k (name ∷ names) = random_lineless variables line (k + 1) names

one_line : (variables : List Variable) (x : List ℕ) (node : Node) → IsOperationNode node → operation_line variables x node ≡ operation_words (names_of variables) x node ∷ []
one_line variables x (share i) o = absurd o
one_line variables x (random i) o = absurd o
one_line variables x (copy a) o = refl
one_line variables x (sum_of a b) o = refl
one_line variables x (product_of a b) o = refl

operation_lines : (variables operations : List Variable) → AllByRecursion IsOperation operations →
    given (operation_line variables) operations ≡ map (λ (l : Script). l.words) (map (operation_script (names_of variables)) operations)
operation_lines variables [] h = refl
operation_lines variables (v ∷ operations) h =
    ap (λ (z : List (List (List ℕ))). z ++ given (operation_line variables) operations) (one_line variables v.name v.node h.0.node)
    ∙ ap (λ (z : List (List (List ℕ))). operation_words (names_of variables) v.name v.node ∷ z) (operation_lines variables operations h.1)

-- the lines of a gadget with these randoms and operations
abbrev pub gadget_scripts : Circuit → List (List ℕ) → List Variable → List Script
gadget_scripts g randoms operations = header_scripts g.shares g.inputs randoms g.outputs ++ map (operation_script (names_of g.variables)) operations

header_lines : (n : ℕ) (inputs randoms outputs : List (List ℕ)) →
    (codes "#SHARES" ∷ decimal n ∷ []) ∷ (codes "#IN" ∷ inputs) ∷ randoms_line randoms ++ (codes "#OUT" ∷ outputs) ∷ [] ≡ map (λ (l : Script). l.words) (header_scripts n inputs randoms outputs)
header_lines n inputs [] outputs = refl
header_lines n inputs (name ∷ names) outputs = refl

-- the words of the canonical text's lines
lines_scripted : (g : Circuit) (input_line random_line : ℕ) (randoms : List (List ℕ)) (operations : List Variable) → IsLaidOut g input_line random_line randoms operations →
    canonical_lines g ≡ map (λ (l : Script). l.words) (gadget_scripts g randoms operations)
lines_scripted g input_line random_line randoms operations h =
    let each = recursion_from_All IsOperation operations h.all_operations in
    let names : randoms_among g.variables ≡ randoms =
    ap (given random_name) h.variables
    ∙ all_give random_name (λ x i. refl) input_line g.shares g.inputs (random_variables random_line 0 randoms) operations randoms [] (random_named random_line 0 randoms) (no_randoms operations each)
    ∙ append-nil randoms in
    let operations_lines =
    ap (given (operation_line g.variables)) h.variables
    ∙ all_give (operation_line g.variables) (λ x i. refl) input_line g.shares g.inputs (random_variables random_line 0 randoms) operations [] _
    (random_lineless g.variables random_line 0 randoms) (operation_lines g.variables operations each) in
    ap (λ (z : List (List (List ℕ))). (codes "#SHARES" ∷ decimal g.shares ∷ []) ∷ (codes "#IN" ∷ g.inputs) ∷ randoms_line (randoms_among g.variables) ++ (codes "#OUT" ∷ g.outputs) ∷ [] ++ z) operations_lines
    ∙ ap (λ (z : List (List ℕ)). (codes "#SHARES" ∷ decimal g.shares ∷ []) ∷ (codes "#IN" ∷ g.inputs) ∷ randoms_line z ++ (codes "#OUT" ∷ g.outputs) ∷ []
    ++ map (λ (l : Script). l.words) (map (operation_script (names_of g.variables)) operations)) names
    ∙ ap (λ (z : List (List (List ℕ))). z ++ map (λ (l : Script). l.words) (map (operation_script (names_of g.variables)) operations)) (header_lines g.shares g.inputs randoms g.outputs)
    ∙ sym (map-append (λ (l : Script). l.words) (header_scripts g.shares g.inputs randoms g.outputs) (map (operation_script (names_of g.variables)) operations))

text_scripted : (g : Circuit) (input_line random_line : ℕ) (randoms : List (List ℕ)) (operations : List Variable) → IsLaidOut g input_line random_line randoms operations →
    canonical_text g ≡ text_from (gadget_scripts g randoms operations)
unfolding canonical_text
text_scripted g input_line random_line randoms operations h =
    let line : List (List ℕ) → List ℕ = λ words. join_with_byte 32 words ++ 10 ∷ [] in
    ap (flat_map line) (lines_scripted g input_line random_line randoms operations h)
    ∙ flat_map-map line (λ (l : Script). l.words) (gadget_scripts g randoms operations)

-- the lines after the headers
abbrev pub body_lines : Circuit → List (List ℕ) → List Variable → List TokenLine
body_lines g randoms operations =
    scripted_from (1 + length (header_scripts g.shares g.inputs randoms g.outputs)) (map (operation_script (names_of g.variables)) operations)

scripted_append : (n : ℕ) (ls ms : List Script) → scripted_from n (ls ++ ms) ≡ scripted_from n ls ++ scripted_from (n + length ls) ms
scripted_append n [] ms = let e : n ≡ n + 0 = omega arith in ap (λ (z : ℕ). scripted_from z ms) e
scripted_append n (l ∷ ls) ms =
    let e : (n + 1) + length ls ≡ n + length (l ∷ ls) = omega arith in
    let first : TokenLine = record { number = n; lexemes = l.first ∷ l.others } in
    ap (λ (z : List TokenLine). first ∷ z) (scripted_append (n + 1) ls ms ∙ ap (λ (z : ℕ). scripted_from (n + 1) ls ++ scripted_from z ms) e)

-- no header stands among the operations
body_starts : (n : ℕ) (names : List (List ℕ)) (operations : List Variable) → StartsBody (scripted_from n (map (operation_script names) operations))
body_starts n names [] = tt
body_starts n names (v ∷ operations) = refl

header_read : (h : Header) (ws : List (List ℕ)) → AllByRecursion IsWord ws → IsRead (header_script h ws)
header_read h ws k = let r = HasLexemes-header h ws k in record { printed = r.printed; lexemes = r.reads }

stem_words : (ws : List (List ℕ)) → All (λ w. IsTrue (is_stem w)) ws → AllByRecursion IsWord ws
stem_words ws h = each_weaker (λ w. IsTrue (is_stem w)) IsWord (λ w s. IsWord-from_named w (IsNamed-from_stem w s)) ws (recursion_from_All (λ w. IsTrue (is_stem w)) ws h)

headers_read : (n : ℕ) (inputs randoms outputs : List (List ℕ)) (lines : List TokenLine) → KeepsLimits (canonical_preamble n inputs randoms outputs lines) →
    AllByRecursion IsRead (header_scripts n inputs randoms outputs)
headers_read n inputs [] outputs lines h = (
  header_read Shares (decimal n ∷ []) (IsWord-decimal n (omega (arith, h.few_shares)), tt),
  (header_read In inputs (stem_words inputs h.input_stems), (header_read Out outputs (stem_words outputs h.output_stems), tt)),
)
headers_read n inputs (name ∷ names) outputs lines h = (
  header_read Shares (decimal n ∷ []) (IsWord-decimal n (omega (arith, h.few_shares)), tt),
  (
    header_read In inputs (stem_words inputs h.input_stems),
    (header_read Randoms (name ∷ names) (stem_words (name ∷ names) h.random_stems), (header_read Out outputs (stem_words outputs h.output_stems), tt)),
  ),
)

no_offence : (bytes : List ℕ) (h : Preamble) → first_not_text 1 (lines_of bytes) ≡ None → preamble_of (token_lines bytes) ≡ Ok h → file_headers bytes ≡ Ok h
no_offence bytes h e f = ap (λ (z : Option ℕ). (refuse_found (option_map NotText z) >> Ok (token_lines bytes)) >>= preamble_of) e ∙ f

-- what the headers of the canonical text say
pub text_headers : (g : Circuit) (input_line random_line : ℕ) (randoms : List (List ℕ)) (operations : List Variable) → IsLaidOut g input_line random_line randoms operations →
    (k : ℕ) → AreSteps g.randoms k operations → AreNamed (names_of g.variables) (k + length operations) →
    KeepsLimits (canonical_preamble g.shares g.inputs randoms g.outputs (body_lines g randoms operations)) →
    file_headers (canonical_text g) ≡ Ok (canonical_preamble g.shares g.inputs randoms g.outputs (body_lines g randoms operations))
text_headers g input_line random_line randoms operations h k s n l =
    let headers = header_scripts g.shares g.inputs randoms g.outputs in
    let lines = map (operation_script (names_of g.variables)) operations in
    let read = each_append IsRead headers lines (headers_read g.shares g.inputs randoms g.outputs (body_lines g randoms operations) l) (operations_read (names_of g.variables) g.randoms k operations s n) in
    let preamble = canonical_preamble g.shares g.inputs randoms g.outputs (body_lines g randoms operations) in
    let said : preamble_of (token_lines (text_from (headers ++ lines))) ≡ Ok preamble =
    ap preamble_of (text_tokens (headers ++ lines) read ∙ scripted_append 1 headers lines)
    ∙ preamble_said g.shares g.inputs randoms g.outputs (body_lines g randoms operations) (body_starts (1 + length headers) (names_of g.variables) operations) l in
    ap file_headers (text_scripted g input_line random_line randoms operations h) ∙ no_offence (text_from (headers ++ lines)) preamble (all_text (headers ++ lines) read) said
