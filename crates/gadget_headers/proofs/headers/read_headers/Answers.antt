use Rattle.std.proofs.Common.{sym, ap, ◌∙◌, length}
use Rattle.std.specs.Prelude.{Result}
use Rattle.std.proofs.lemmas.Result.{IfOk-weaker}
use Rattle.gadget_text.specs.Places.{LiesWithin, lines_in}
use Rattle.gadget_text.specs.declared.file_error.FileError.{FileError}
use Rattle.gadget_text.specs.Errors.{◌>>=◌}
use Rattle.gadget_headers.specs.Headers.{SoFar, preamble_of, headers_from, end_headers}
use Rattle.gadget_headers.specs.Seen.{so_far_in, preamble_in, AreHeadersOf, AreHeadersWithin}
use Rattle.gadget_text.proofs.Gives.{gives_equal}
use Rattle.gadget_headers.proofs.Limits.{limits_given}
use Rattle.gadget_headers.proofs.Parts.{of_parts}
use Rattle.gadget_headers.proofs.Pieces.{words_piece, rest_ends, piece_all, headers_within, rest_shorter}
use Rattle.gadget_headers.proofs.headers.read_headers.Goals as goal

pub returns-in_default-clause-says : goal.returns-in_default-clause-says
returns-in_default-clause-says c =
    let h = so_far_in c.args.bytes.now (of_parts c.loop-line.so_far) in
    let lines = lines_in c.args.bytes.now c.loop-line.rest.now in
    gives_equal (preamble_in c.args.bytes.now) c.end_headers.result (end_headers h lines) (preamble_of (lines_in c.args.bytes.now c.args.tokens.now))
    (sym c.loop-line.invariant.says ∙ c.in_default.ensures.ends c.args.bytes.now h) (c.end_headers.ensures.says c.args.bytes.now)

pub returns-in_default-clause-limits : goal.returns-in_default-clause-limits
returns-in_default-clause-limits c =
    limits_given (preamble_in c.args.bytes.now) c.end_headers.result (lines_in c.args.bytes.now c.args.tokens.now) (returns-in_default-clause-says c)

pub returns-in_default-clause-within : goal.returns-in_default-clause-within
returns-in_default-clause-within c =
    IfOk-weaker c.end_headers.result (AreHeadersOf c.args.tokens.now) (AreHeadersWithin (length c.args.bytes.now))
    (λ h of'. headers_within c.args.tokens.now (length c.args.bytes.now) h c.requires.within of') (IfOk-weaker c.end_headers.result _ _ (λ h each. each c.args.tokens.now c.loop-line.invariant.so_far c.loop-line.invariant.rest) c.end_headers.ensures.pieces)

pub with_header-requires : goal.with_header-requires
with_header-requires c =
    let tokens = c.args.tokens.now in
    let line = c.in-Some.line in
    piece_all tokens (LiesWithin (length c.args.bytes.now)) line.words.now
    (words_piece tokens c.in-Some.ensures.parts.0 line.words.now line.rest.now c.loop-line.rest.now c.in-Some.ensures.parts.1 c.loop-line.invariant.rest) c.requires.within

pub loop-line-preserved : goal.loop-line-preserved
loop-line-preserved c =
    let tokens = c.args.tokens.now in
    let line = c.in-Some.line in
    let parts = c.in-Some.ensures.parts in
    record {
      says =
          let h = so_far_in c.args.bytes.now (of_parts c.loop-line.so_far) in
          sym (c.in-Some.ensures.goes_on c.args.bytes.now h ∙ ap (λ (r : Result SoFar FileError). r >>= λ now. headers_from now (lines_in c.args.bytes.now line.rest.now)) c.in_ok-so_far.ensures.says)
          ∙ c.loop-line.invariant.says;
      so_far = c.in_ok-so_far.ensures.pieces tokens (words_piece tokens parts.0 line.words.now line.rest.now c.loop-line.rest.now parts.1 c.loop-line.invariant.rest) c.loop-line.invariant.so_far;
      rest = rest_ends tokens parts.0 line.words.now line.rest.now c.loop-line.rest.now parts.1 c.loop-line.invariant.rest;
    }

pub loop-line-smaller : goal.loop-line-smaller
loop-line-smaller c = rest_shorter c.in-Some.ensures.parts.0 c.in-Some.line.words.now c.in-Some.line.rest.now c.loop-line.rest.now c.in-Some.ensures.parts.1
