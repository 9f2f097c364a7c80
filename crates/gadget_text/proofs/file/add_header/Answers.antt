use Rattle.std.proofs.Common.{◌≡◌, ◌+◌, ◌-◌, length, take, drop, ap, refl, arith}
use Rattle.std.proofs.lemmas.List.{take_all, length-drop}
use Rattle.std.proofs.lemmas.Result.{IfOk-equal}
use Rattle.gadget_text.specs.Lines.{header_word}
use Rattle.gadget_text.proofs.Headers.{header_added}
use Rattle.gadget_text.proofs.file.add_header.Goals as goal

pub returns : goal.returns
returns c =
    let kept = c.args.kept.now in
    let front = c.indent-front.result in
    let end = front + 1 + length c.header_word.result.now in
    let word : length c.header_word.result.now ≡ length (header_word c.args.header) = ap length c.header_word.ensures in
    IfOk-equal c.add_segments.result _ _ _ c.add_segments.ensures
    (header_added c.args.line c.args.from c.args.header kept (take (length kept - end) (drop end kept)) front (c.args.from + front) (c.args.from + end) end c.args.tokens.now.items c.push.new.self.items
    c.indent-front.ensures.indent (omega (arith, c.requires.room, c.indent-front.ensures.indent)) refl refl (omega (arith, word))
    (take_all (length kept - end) (drop end kept) (omega (arith, length-drop end kept))) c.in_ok-push.ensures.items)
