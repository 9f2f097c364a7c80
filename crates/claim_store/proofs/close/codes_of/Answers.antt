use Rattle.std.proofs.Common.{◌≡◌, ◌+◌, ℕ, List, subst, sym, ap, ◌∙◌, arith, add-one}
use Rattle.std.specs.Slots.{slots_items}
use mathlib.Core.Option.{some}
use lib.ListN.{get_elem?}
use Rattle.claim_store.specs.Closing.{HasWords}
use Rattle.claim_store.proofs.Closing.{has-none, has-empty, has-more}
use Rattle.claim_store.proofs.close.codes_of.Goals as goal
use Rattle.claim_store.proofs.close.codes_of.Goals.{then-word-ne0+in_ok-push, else-word-ne0}

pub loop-place-init : goal.loop-place-init
loop-place-init c = subst (HasWords (slots_items c.args.closed.now.words) 0) (sym c.new-codes.ensures.items) (has-none (slots_items c.args.closed.now.words))

pub loop-place-preserved : goal.loop-place-preserved
loop-place-preserved c =
    let words = slots_items c.args.closed.now.words in
    let At : ℕ → Type 0 = λ p. get_elem? words p ≡ some c.word-word.result in
    let at = subst At (add-one c.loop-place.place) c.word-word.ensures in
    let Has : List ℕ → Type 0 = HasWords words (c.loop-place.place + 1) in
    elim c.if-word-ne0.branch [
      | then-word-ne0+in_ok-push w ↦
          subst Has (sym w.in_ok-push.ensures.items ∙ sym (ap (λ v. v.items) w.codes-is)) (has-more words c.loop-place.codes.items c.loop-place.place c.word-word.result at w.if-word-ne0.true c.loop-place.invariant)
      | else-word-ne0 w ↦
          subst Has (sym (ap (λ v. v.items) w.codes-is)) (has-empty words c.loop-place.codes.items c.loop-place.place c.word-word.result at w.if-word-ne0.false c.loop-place.invariant)
    ]

pub returns : goal.returns
returns c =
    let P : ℕ → Type 0 = λ n. HasWords (slots_items c.args.closed.now.words) n c.loop-place.codes.items in
    subst P (let l = c.loop-place-test.false in let e = c.loop-place.auto in omega arith) c.loop-place.invariant
