use Rattle.std.proofs.Common.{◌≡◌, ◌++◌, codes}
use Rattle.gadget_maker.specs.Texts.{text_of, running_sum, paired}
use Rattle.gadget_maker.specs.Rows.{sum_steps_from, name_text}
use Rattle.gadget_maker.proofs.maker.add_product_sum.Given as goal

abbrev pub invariant-loop-k : goal.invariant-loop-k
invariant-loop-k l = l.text.items ++ text_of (running_sum (name_text l.sum) (sum_steps_from l.n (codes "c") (paired (codes "r")) l.i l.k))
    ≡ l.initial.text.items ++ text_of (running_sum (paired (codes "p") l.i l.i) (sum_steps_from l.n (codes "c") (paired (codes "r")) l.i 0))
