-- Where there are words of randoms, their line is the one that the canonical text has.
use Rattle.std.proofs.Common.{◌≡◌, ◌==◌, false, sym, ap, ◌∙◌, ◌++◌}
use Rattle.std.specs.Prelude.{vec_len}
use Rattle.gadget_tree.specs.Seen.{variables_of}
use Rattle.gadget_tree.specs.Canonical.{randoms_among}
use Rattle.gadget_tree.proofs.Printing.{randoms_done}
use Rattle.gadget_tree.proofs.print.add_randoms.Goals as goal

pub returns : goal.returns
returns c =
    let some : vec_len c.in_ok-words.words == 0 ≡ false = sym c.is_empty.ensures ∙ c.if-is_empty.false in
    let names = randoms_among (variables_of c.args.vars.now) in
    let words = c.in_ok-words.words in
    let second = c.in_ok-extend_from_slice-2.ensures.items ∙ ap (λ z. c.extend_from_slice.new.self.items ++ z) c.deref.ensures.value in
    randoms_done names (vec_len words) words.items c.args.text.now.items c.extend_from_slice.new.self.items c.extend_from_slice-2.new.self.items c.push.new.self.items
    c.in_ok-words.ensures words.ok.0 some c.in_ok-extend_from_slice.ensures.items second c.in_ok-push.ensures.items
