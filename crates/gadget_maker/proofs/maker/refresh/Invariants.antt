use Rattle.std.proofs.Common.{◌≡◌, ◌++◌, ◌-◌, codes, flat_map}
use Rattle.std.specs.List.{range_with_len}
use Rattle.gadget_maker.specs.Texts.{text_of, running_sum, random_of, digit}
use Rattle.gadget_maker.specs.Rows.{sum_steps_from}
use Rattle.gadget_maker.proofs.maker.refresh.Given as goal

abbrev pub invariant-loop-i : goal.invariant-loop-i
invariant-loop-i l = l.text.items ≡ l.initial.text.items ++ flat_map (λ i. text_of (running_sum (codes "a" ++ digit i) (sum_steps_from l.n (codes "d") random_of i 0))) (range_with_len 0 (l.i - 0))
