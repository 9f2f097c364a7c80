use Rattle.std.proofs.Common.{List, ℕ, subst, sym}
use Rattle.std.proofs.lemmas.Result.{IfOk-weaker}
use Rattle.std.specs.Slots.{slots_items}
use Rattle.tuple_model.specs.Antichains.{IsAntichain}
use Rattle.claim_store.specs.Closing.{CoversCodes, CoversWords, HasWords}
use Rattle.claim_store.proofs.Closing.{covers-words, has-sorted}
use Rattle.claim_store.proofs.close.live_of.Goals as goal

pub returns : goal.returns
returns c =
    let words = slots_items c.args.closed.now.words in
    let codes = c.deref.result.now in
    let P : List ℕ → Type 0 = λ xs. HasWords words c.args.width xs in
    let has = subst P (sym c.deref.ensures.value) (has-sorted words c.in_ok-codes.codes.items c.sort.new.self.items c.args.width c.in_ok-sort.ensures.permutation c.in_ok-codes.ensures) in
    IfOk-weaker c.antichain_of.result (λ live. IsAntichain live × CoversCodes codes live) (λ live. IsAntichain live × CoversWords words c.args.width live)
    (λ live h. (h.0, covers-words words codes c.args.width live has h.1)) c.antichain_of.ensures
