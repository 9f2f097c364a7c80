use Rattle.std.proofs.Common.{◌≡◌, ◌++◌, codes}
use Rattle.gadget_maker.specs.Texts.{text_of, running_sum, random_of, digit}
use Rattle.gadget_maker.specs.Rows.{sum_steps_from, name_text}
use Rattle.gadget_maker.proofs.maker.add_share_sum.Given as goal

abbrev pub invariant-loop-k : goal.invariant-loop-k
invariant-loop-k l = l.text.items ++ text_of (running_sum (name_text l.sum) (sum_steps_from l.n (codes "d") random_of l.i l.k))
    ≡ l.initial.text.items ++ text_of (running_sum (codes "a" ++ digit l.i) (sum_steps_from l.n (codes "d") random_of l.i 0))
