use Rattle.std.proofs.Common.{◌+◌, List, ℕ, take, subst}
use Rattle.std.proofs.lemmas.List.{take_more, take_all}
use Rattle.claim_store.specs.Closing.{CoversCodes}
use Rattle.claim_store.proofs.Closing.{covers-more}
use Rattle.claim_store.proofs.close.antichain_of.Goals as goal

pub loop-index-preserved : goal.loop-index-preserved
loop-index-preserved c =
    let codes = c.args.codes.now in
    let i = c.loop-index.index in
    record {
      antichain = c.add_code.ensures.antichain c.loop-index.invariant.antichain;
      covers = covers-more (take i codes) (take (i + 1) codes) _ c.loop-index.live c.add_code.new.live (take_more codes i _ c.loop-index-test.true) c.in_ok-add_code.ensures.covers c.loop-index.invariant.covers;
    }

pub returns : goal.returns
returns c =
    let P : List ℕ → Type 0 = λ codes. CoversCodes codes c.loop-index.live in
    (c.loop-index.invariant.antichain, subst P (take_all c.loop-index.index c.args.codes.now c.loop-index-test.false) c.loop-index.invariant.covers)
