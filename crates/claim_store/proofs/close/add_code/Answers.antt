use Rattle.claim_store.proofs.Closing.{adds-tuple}
use Rattle.claim_store.proofs.close.add_code.Goals as goal

pub returns-clause-covers : goal.returns-clause-covers
returns-clause-covers c = adds-tuple c.args.live.now c.add.new.self c.args.word c.in-Some.t c.in_ok-add.field-0 c.in-Some.ensures.tuple c.in-Some.ensures.code c.in_ok-add.ensures.added
