-- Want of memory is no offence of headers.
use Rattle.std.proofs.Common.{◌==◌, ◌&&◌, ◌||◌, ℕ, Bool, true, not, nat_lt, is_some, List, [], ◌∷◌, length, Option, Some, None, Result, Ok}
use Rattle.std.specs.List.{list_all}
use Rattle.gadget_text.specs.declared.token.Header.{Header}
use Rattle.gadget_text.specs.declared.token.Header.TheVariants.{Profile, Shares, In, Randoms, Out}
use Rattle.gadget_text.specs.Tokens.{TokenLine}
use Rattle.gadget_text.specs.Names.{is_stem, is_number}
use Rattle.gadget_text.specs.declared.file_error.FileError.{FileError}
use Rattle.gadget_text.specs.declared.file_error.FileError.TheVariants.{HeaderTwice, BadNumber, BadName, TooMany}
use Rattle.gadget_text.specs.declared.file_error.What.{What}
use Rattle.gadget_text.specs.declared.file_error.What.TheVariants as what
use Rattle.gadget_text.specs.Errors.{refuse, ◌>>◌}
use Rattle.gadget_limits.specs.Limits.{most_shares, most_inputs, most_outputs, most_randoms}
use Rattle.gadget_headers.specs.Headers.{Listed, SoFar, no_headers, Preamble, number_of, header_of, header_words, listed, with_header, end_headers, at_line, headers_from, preamble_of}
use Rattle.gadget_text.proofs.Results.{IsNotOutOfMemory, refuse_in_memory, then_in_memory}

-- what a header that lists words says
listed_in_memory : (line : ℕ) (twice : Bool) (most : ℕ) (things : What) (words : List (List ℕ)) → IsNotOutOfMemory (listed line twice most things words)
listed_in_memory line twice most things words =
    let ok : Result Listed FileError = Ok (record { line = line; stems = words }) in
    let limited = refuse (nat_lt most (length words)) (TooMany things) >> ok in
    refuse_in_memory twice (HeaderTwice line) (refuse (not (list_all is_stem words)) (BadName line) >> limited) (λ e. cc)
    (refuse_in_memory (not (list_all is_stem words)) (BadName line) limited (λ e. cc) (refuse_in_memory (nat_lt most (length words)) (TooMany things) ok (λ e. cc) (λ e. cc)))

-- what each header says
header_in_memory : (line : ℕ) (h : SoFar) (words : List (List ℕ)) (header : Header) → IsNotOutOfMemory (with_header line h words header)
header_in_memory line h [] Profile = λ e. cc
header_in_memory line h (word ∷ next ∷ words) Profile = λ e. cc
header_in_memory line h (word ∷ []) Profile =
    let ok : Result SoFar FileError = Ok (record h { has_profile = true }) in
    refuse_in_memory h.has_profile (HeaderTwice line) (refuse (not (is_number word && number_of word == 1)) (BadNumber line) >> ok) (λ e. cc)
    (refuse_in_memory (not (is_number word && number_of word == 1)) (BadNumber line) ok (λ e. cc) (λ e. cc))
header_in_memory line h [] Shares = λ e. cc
header_in_memory line h (word ∷ next ∷ words) Shares = λ e. cc
header_in_memory line h (word ∷ []) Shares =
    let ok : Result SoFar FileError = Ok (record h { shares = Some (number_of word) }) in
    let limited = refuse (nat_lt most_shares (number_of word)) (TooMany what.Shares) >> ok in
    refuse_in_memory (is_some h.shares) (HeaderTwice line) (refuse (not (is_number word) || number_of word == 0) (BadNumber line) >> limited) (λ e. cc)
    (refuse_in_memory (not (is_number word) || number_of word == 0) (BadNumber line) limited (λ e. cc) (refuse_in_memory (nat_lt most_shares (number_of word)) (TooMany what.Shares) ok (λ e. cc) (λ e. cc)))
header_in_memory line h [] In = λ e. cc
header_in_memory line h (word ∷ words) In =
    then_in_memory (listed line (is_some h.inputs) most_inputs what.Inputs (word ∷ words)) (λ l. Ok (record h { inputs = Some l })) (listed_in_memory line (is_some h.inputs) most_inputs what.Inputs (word ∷ words)) (λ l e. cc)
header_in_memory line h words Randoms =
    then_in_memory (listed line (is_some h.randoms) most_randoms what.Randoms words) (λ l. Ok (record h { randoms = Some l })) (listed_in_memory line (is_some h.randoms) most_randoms what.Randoms words) (λ l e. cc)
header_in_memory line h [] Out = λ e. cc
header_in_memory line h (word ∷ words) Out =
    then_in_memory (listed line (is_some h.outputs) most_outputs what.Outputs (word ∷ words)) (λ l. Ok (record h { outputs = Some l })) (listed_in_memory line (is_some h.outputs) most_outputs what.Outputs (word ∷ words)) (λ l e. cc)

-- what the end of the headers says
end_in_memory : (now : SoFar) (lines : List TokenLine) → IsNotOutOfMemory (end_headers now lines)
end_in_memory now lines = by_cases now.shares now.inputs now.outputs where
  by_cases : (n : Option ℕ) (inputs outputs : Option Listed) → IsNotOutOfMemory (end_headers (record now { shares = n; inputs = inputs; outputs = outputs }) lines)
  by_cases None inputs outputs = λ e. cc
  by_cases (Some n) None outputs = λ e. cc
  by_cases (Some n) (Some inputs) None = λ e. cc
  by_cases (Some n) (Some inputs) (Some outputs) = λ e. cc

-- what a line says, and what follows it
line_in_memory : (line : ℕ) (now : SoFar) (words : List (List ℕ)) (go : SoFar → Result Preamble FileError) (end : Result Preamble FileError) (o : Option Header) → ((next : SoFar) → IsNotOutOfMemory (go next)) → IsNotOutOfMemory end → IsNotOutOfMemory (at_line line now words go end o)
line_in_memory line now words go end None each last = last
line_in_memory line now words go end (Some header) each last = then_in_memory (with_header line now words header) go (header_in_memory line now words header) each

from_in_memory : (lines : List TokenLine) (now : SoFar) → IsNotOutOfMemory (headers_from now lines)
from_in_memory [] now = end_in_memory now []
from_in_memory (line ∷ lines) now =
    line_in_memory line.number now (header_words line.lexemes) (λ next. headers_from next lines) (end_headers now (line ∷ lines)) (header_of line.lexemes)
    (from_in_memory lines) (end_in_memory now (line ∷ lines))

-- the headers of a file never say that memory ran out
pub preamble_in_memory : (lines : List TokenLine) → IsNotOutOfMemory (preamble_of lines)
preamble_in_memory lines = from_in_memory lines no_headers
