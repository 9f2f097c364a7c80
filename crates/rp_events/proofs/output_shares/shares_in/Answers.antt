use Rattle.std.proofs.Common.{ℕ, Vec, Global, ap, sym, ◌∙◌, arith, ◌≡◌}
use Rattle.std.proofs.lemmas.Bool.{eq-eqb, ne_eqb}
use Rattle.std.proofs.lemmas.Nat.Bits.{shr_and_one}
use Rattle.rp_events.proofs.OutputShares.{shares_below, shares_below-push, shares_below-skip}
use Rattle.rp_events.proofs.output_shares.shares_in.Goals as goal
use Rattle.rp_events.proofs.output_shares.shares_in.Goals.{then-set-share-eq1+in_ok-push, else-set-share-eq1}

pub loop-share-preserved : goal.loop-share-preserved
loop-share-preserved c =
    let g = c.args.gadget.now in
    let set = c.args.set in
    let n = c.loop-share.share in
    let bit = shr_and_one set n in
    elim c.if-set-share-eq1.branch [
      | then-set-share-eq1+in_ok-push w ↦
          ap (λ (v : Vec ℕ Global). v.items) w.vars-is ∙ w.in_ok-push.ensures.items
          ∙ shares_below-push g set n w.out_var.result c.loop-share.vars.items (eq-eqb _ _ (sym bit ∙ w.if-set-share-eq1.true)) w.out_var.ensures c.loop-share.invariant
      | else-set-share-eq1 w ↦
          ap (λ (v : Vec ℕ Global). v.items) w.vars-is
          ∙ shares_below-skip g set n c.loop-share.vars.items (ne_eqb _ _ (λ e. w.if-set-share-eq1.false (bit ∙ e))) c.loop-share.invariant
    ]

pub returns : goal.returns
returns c =
    let last : c.loop-share.share ≡ 32 = let past = c.loop-share-test.false in let end = c.loop-share.auto.share-end in omega arith in
    c.loop-share.invariant ∙ ap (shares_below c.args.gadget.now c.args.set) last
