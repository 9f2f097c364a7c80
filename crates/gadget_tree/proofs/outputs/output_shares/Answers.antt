use Rattle.std.proofs.Common.{ap, map, Result, Ok}
use Rattle.std.proofs.lemmas.Result.{err_from_is_err_and}
use Rattle.gadget_text.specs.declared.token.Token.{Token}
use Rattle.gadget_text.specs.declared.token.TokenKind.TheVariants.{Head}
use Rattle.gadget_text.specs.declared.token.Header.TheVariants.{Profile}
use Rattle.gadget_model.specs.Circuit.{Circuit}
use Rattle.gadget_text.specs.declared.file_error.FileError.{FileError}
use Rattle.gadget_text.specs.Errors.{◌>>◌}
use Rattle.gadget_text.specs.Places.{text_in}
use Rattle.gadget_headers.specs.Seen.{preamble_in}
use Rattle.gadget_tree.specs.File.{output_shares_from, flat_gadget, check_shares}
use Rattle.gadget_tree.specs.Variables.{share_names, names_of, place_of}
use Rattle.gadget_tree.proofs.MissingShares.{missing_in, missing_after, numbers_behind}
use Rattle.gadget_tree.proofs.outputs.output_shares.Goals as goal

-- the token that stands past the end
abbrev no_token : Token
no_token = record { kind = Head Profile; from = 0; to = 0; line = 0 }

pub returns-in_err-push_shares-clause-says : goal.returns-in_err-push_shares-clause-says
returns-in_err-push_shares-clause-says c =
    let p = err_from_is_err_and c.from_residual.result c.from_residual.ensures.1 in
    let bytes = c.args.bytes.now in
    let headers = c.args.headers.now in
    let words = headers.outputs.words.now in
    let vs = c.args.variables.now in
    let all = check_shares vs (output_shares_from headers.shares 0 (map (text_in bytes) words)) in
    let gadget : Result Circuit FileError = Ok (flat_gadget (preamble_in bytes headers) vs) in
    rw (p.1, p.2) (λ other. ap (λ (r : Result (Unit {0}) FileError). r >> gadget)
    (missing_in vs bytes words headers.shares c.loop-output.output no_token c.text-stem.result.now c.loop-output-test.true c.text-stem.ensures all c.in_err-push_shares.field-0.0 c.loop-output.invariant.missing
    (c.in_err-push_shares.ensures.says other)))

pub loop-output-preserved : goal.loop-output-preserved
loop-output-preserved c =
    let bytes = c.args.bytes.now in
    let headers = c.args.headers.now in
    let words = headers.outputs.words.now in
    let vs = c.args.variables.now in
    record {
      numbers = numbers_behind vs bytes words headers.shares c.loop-output.output no_token c.text-stem.result.now c.loop-output-test.true c.text-stem.ensures c.loop-output.numbers.items c.push_shares.new.numbers.items
          (map (place_of (names_of vs)) (share_names headers.shares (map (text_in bytes) words))) c.loop-output.invariant.numbers c.in_ok-push_shares.ensures.numbers;
      missing = missing_after vs bytes words headers.shares c.loop-output.output no_token c.text-stem.result.now c.loop-output-test.true c.text-stem.ensures
          (check_shares vs (output_shares_from headers.shares 0 (map (text_in bytes) words))) c.loop-output.invariant.missing c.in_ok-push_shares.ensures.says;
    }
