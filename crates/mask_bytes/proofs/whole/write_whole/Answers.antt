use Rattle.std.proofs.Common.{◌≡◌, ℕ, length, take, arith, ap, ◌∙◌, List}
use Rattle.std.proofs.lemmas.List.{length-drop, take_rest}
use Rattle.std.specs.Io.KnownBytes.{append_known}
use Rattle.mask_bytes.proofs.KnownBytes.{append_known_more}
use Rattle.mask_bytes.proofs.whole.write_whole.Goals as goal

pub loop-done-preserved : goal.loop-done-preserved
loop-done-preserved g c =
    let bytes = c.args.bytes.now in
    let done = c.loop-done.done in
    let count = c.in_ok-done.field-0 in
    let before = c.loop-done.invariant in
    let write = c.in_ok-done.ensures in
    let middle = g.K.Sink.written c.loop-done.sink in
    record {
      within = omega (arith, write.bound, length-drop done bytes);
      appended = write.appended ∙ ap (λ (rest : List ℕ). append_known middle (take count rest)) (take_rest bytes done) ∙ append_known_more (g.K.Sink.written c.args.sink.now) middle bytes done count before.appended;
      counted = write.counted ∙ before.counted;
      untouched = λ none. let empty : length bytes ≡ 0 = ap length none in absurd (omega arith);
    }
