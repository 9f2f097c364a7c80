use Rattle.std.proofs.Common.{take}
use Rattle.tuple_model.specs.Antichains.{IsAntichain}
use Rattle.claim_store.specs.Closing.{CoversCodes}
use Rattle.claim_store.proofs.close.antichain_of.Given as goal

abbrev pub invariant-loop-index : goal.invariant-loop-index
invariant-loop-index l = record {
  antichain : IsAntichain l.live;
  covers : CoversCodes (take l.index l.codes) l.live;
}
