-- What is known where the headers name their variables without an offence.
use Rattle.std.proofs.Common.{◌≡◌, ℕ, true, false, not, List, [], ◌∷◌, ◌++◌, Option, Some, None, Result, Ok, sym, ap, ◌∙◌, subst, append-nil}
use Rattle.std.proofs.lemmas.List.{map-append}
use Rattle.std.proofs.lemmas.Bool.{not-false}
use Rattle.gadget_model.specs.Circuit.{Variable}
use Rattle.gadget_text.specs.declared.file_error.FileError.{FileError}
use Rattle.gadget_text.specs.declared.file_error.FileError.TheVariants.{NameTwice}
use Rattle.gadget_text.specs.Errors.{refuse, ◌>>=◌, ◌>>◌}
use Rattle.gadget_headers.specs.Headers.{Listed, Preamble}
use Rattle.gadget_headers.specs.Limits.{stems_of}
use Rattle.gadget_text.proofs.Results.{refuse_gives, then_gives}
use Rattle.gadget_tree.specs.Variables.{share_names, names_of, is_among, are_distinct, AreDistinct, header_variables}
use Rattle.gadget_tree.specs.File.{distinct_shares, distinct_randoms, named_variables}
use Rattle.gadget_tree.proofs.Names.{distinct_from_test, fresh_between}

-- the variables are those of the headers, and all names of the headers differ
pub record AreOfHeaders (h : Preamble) (start : List Variable) : Type 0 where
  pub variables : start ≡ header_variables h
  pub distinct : AreDistinct (share_names h.shares h.inputs.stems ++ stems_of h.randoms ++ share_names h.shares h.outputs.stems)

-- the names and more are distinct, where that is no offence
with_more : (names more now : List (List ℕ)) (line : ℕ) → (refuse (not (are_distinct (names ++ more))) (NameTwice line) >> Ok (names ++ more)) ≡ Ok now → (are_distinct (names ++ more) ≡ true) × (names ++ more ≡ now)
with_more names more now line e =
    let ok : Result (List (List ℕ)) FileError = Ok (names ++ more) in
    let a = refuse_gives (not (are_distinct (names ++ more))) (NameTwice line) ok now e in
    (not-false (are_distinct (names ++ more)) a.0, let f = a.1 in cc)

-- the names of inputs and randoms
with_randoms : (names now : List (List ℕ)) (randoms : Option Listed) → distinct_randoms names randoms ≡ Ok now → names ++ stems_of randoms ≡ now
with_randoms names now None e = append-nil names ∙ (let f : names ≡ now = cc in f)
with_randoms names now (Some listed) e = (with_more names listed.stems now listed.line e).1

-- so it is where no header offends
pub named_distinct : (h : Preamble) (start : List Variable) → named_variables h ≡ Ok start → AreOfHeaders h start
named_distinct h start e =
    let inputs = share_names h.shares h.inputs.stems in
    let outputs = share_names h.shares h.outputs.stems in
    let ok : Result (List Variable) FileError = Ok (header_variables h) in
    let last = λ (names : List (List ℕ)). distinct_shares names h.shares h.outputs >>= λ _. ok in
    let a = then_gives (distinct_shares [] h.shares h.inputs) (λ names. distinct_randoms names h.randoms >>= last) start e in
    let b = then_gives (distinct_randoms a.0 h.randoms) last start a.2 in
    let c = then_gives (distinct_shares b.0 h.shares h.outputs) (λ _. ok) start b.2 in
    let first = (with_more [] inputs a.0 h.inputs.line a.1).1 in
    let names : inputs ++ stems_of h.randoms ≡ b.0 = ap (λ (z : List (List ℕ)). z ++ stems_of h.randoms) first ∙ with_randoms a.0 b.0 h.randoms b.1 in
    let distinct = distinct_from_test (b.0 ++ outputs) (with_more b.0 outputs c.0 h.outputs.line c.1).0 in
    record {
      variables = let f = c.2 in cc;
      distinct = subst (λ (z : List (List ℕ)). AreDistinct (z ++ outputs)) (sym names) distinct;
    }

-- each variable has a name that none before it has
pub fresh_next : (vars before behind : List Variable) (v : Variable) → before ++ v ∷ behind ≡ vars → are_distinct (names_of vars) ≡ true → is_among (names_of before) v.name ≡ false
fresh_next vars before behind v e distinct =
    let parts : names_of vars ≡ names_of before ++ v.name ∷ names_of behind = ap names_of (sym e) ∙ map-append (λ (x : Variable). x.name) before (v ∷ behind) in
    fresh_between (names_of before) (names_of behind) v.name (ap are_distinct (sym parts) ∙ distinct)
