use Rattle.std.proofs.Common.{ℕ, List, Result, ap, ◌∙◌}
use Rattle.std.proofs.lemmas.Result.{IfOk-weaker}
use Rattle.gadget_text.specs.declared.file_error.FileError.{FileError}
use Rattle.gadget_text.specs.Errors.{◌>>=◌}
use Rattle.gadget_text.proofs.Gives.{gives_equal}
use Rattle.gadget_headers.specs.Headers.{with_profile, with_shares, with_header}
use Rattle.gadget_headers.specs.Seen.{so_far_in, texts_in, line_said, StaysOf}
use Rattle.gadget_headers.proofs.so_far.with_header.Goals as goal

pub returns-in_ok-only_word-in-Profile-clause-says : goal.returns-in_ok-only_word-in-Profile-clause-says
returns-in_ok-only_word-in-Profile-clause-says c =
    let h = so_far_in c.args.bytes.now c.args.so_far in
    let line = c.args.line.line in
    gives_equal (so_far_in c.args.bytes.now) c.with_profile.result (with_profile line h c.in_ok-only_word-in-Profile.field-0.now) (line_said c.args.bytes.now c.args.so_far c.args.line)
    (ap (with_header line h (texts_in c.args.bytes.now c.args.line.words.now)) c.in-Profile.is ∙ ap (λ (r : Result (List ℕ) FileError). r >>= with_profile line h) c.in_ok-only_word-in-Profile.ensures)
    (c.with_profile.ensures.says c.args.bytes.now)

pub returns-in_ok-only_word-in-Shares-clause-says : goal.returns-in_ok-only_word-in-Shares-clause-says
returns-in_ok-only_word-in-Shares-clause-says c =
    let h = so_far_in c.args.bytes.now c.args.so_far in
    let line = c.args.line.line in
    gives_equal (so_far_in c.args.bytes.now) c.with_shares.result (with_shares line h c.in_ok-only_word-in-Shares.field-0.now) (line_said c.args.bytes.now c.args.so_far c.args.line)
    (ap (with_header line h (texts_in c.args.bytes.now c.args.line.words.now)) c.in-Shares.is ∙ ap (λ (r : Result (List ℕ) FileError). r >>= with_shares line h) c.in_ok-only_word-in-Shares.ensures)
    (c.with_shares.ensures.says c.args.bytes.now)

pub returns-in_ok-only_word-in-Profile-clause-pieces : goal.returns-in_ok-only_word-in-Profile-clause-pieces
returns-in_ok-only_word-in-Profile-clause-pieces c =
    IfOk-weaker c.with_profile.result _ (StaysOf c.args.line.words.now c.args.so_far) (λ h stays. stays c.args.line.words.now) c.with_profile.ensures.pieces

pub returns-in_ok-only_word-in-Shares-clause-pieces : goal.returns-in_ok-only_word-in-Shares-clause-pieces
returns-in_ok-only_word-in-Shares-clause-pieces c =
    IfOk-weaker c.with_shares.result _ (StaysOf c.args.line.words.now c.args.so_far) (λ h stays. stays c.args.line.words.now) c.with_shares.ensures.pieces
