use Rattle.std.proofs.Common.{◌≡◌, ◌++◌, length, take, arith}
use Rattle.std.proofs.lemmas.List.{length-append, length-take}
use Rattle.mask_bytes.proofs.KnownBytes.{prepend_known_more}
use Rattle.mask_bytes.proofs.whole.read_whole.Goals as goal

-- what was read but not kept was taken too
pub returns-in_err-extend_from_slice-clause-rest : goal.returns-in_err-extend_from_slice-clause-rest
returns-in_err-extend_from_slice-clause-rest g c =
    let before = c.loop-buf.bytes.items in
    let piece = take c.in_ok-count.count c.read.new.buf in (
      before ++ piece,
      prepend_known_more (g.S.Source.left c.args.source.now) (g.S.Source.left c.loop-buf.source) (g.S.Source.left c.read.new.self) before piece c.loop-buf.invariant.taken c.in_ok-count.ensures.taken,
    )

-- what was kept and what the last read gave are no more than there was room for
pub returns-in_err-extend_from_slice-clause-one_more_at_most : goal.returns-in_err-extend_from_slice-clause-one_more_at_most
returns-in_err-extend_from_slice-clause-one_more_at_most g c = λ _.
    let kept : length c.read.new.buf ≡ length (take c.min-room.result c.loop-buf.buf) = c.read.auto.buf in
    let before = c.loop-buf.bytes.items in
    let piece = take c.in_ok-count.count c.read.new.buf in (
      before ++ piece,
      prepend_known_more (g.S.Source.left c.args.source.now) (g.S.Source.left c.loop-buf.source) (g.S.Source.left c.read.new.self) before piece c.loop-buf.invariant.taken c.in_ok-count.ensures.taken,
      omega (arith, length-append before piece, length-take c.in_ok-count.count c.read.new.buf, kept, length-take c.min-room.result c.loop-buf.buf),
    )
