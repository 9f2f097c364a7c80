use Rattle.std.proofs.Common.{◌≡◌, ◌∙◌, rules}
use Rattle.std.specs.List.{fold}
use Rattle.gadget_headers.proofs.Numbers.{capped, capped_number}
use Rattle.gadget_headers.proofs.number.number_to_255.Goals as goal

pub returns : goal.returns
returns c =
    let read : c.fold.result ≡ fold capped 0 c.args.digits.now = search rules in
    read ∙ capped_number c.args.digits.now
