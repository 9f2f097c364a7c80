-- What some lines of a report say.
use Rattle.std.proofs.Common.{ℕ, refl, ◌≡◌, ◌++◌, codes}
use Rattle.std.specs.Prelude.{decimal}
use Rattle.mask_terms.specs.declared.wires.Wires.TheVariants.{Plain, Copies}
use Rattle.report.specs.Report.{newline, wires_line, event_line}

plain_wires : (count : ℕ) → wires_line Plain count ≡ codes "wires plain " ++ decimal count ++ newline
unfolding wires_line
plain_wires count = refl

copies_of_wires : (count : ℕ) → wires_line Copies count ≡ codes "wires copies " ++ decimal count ++ newline
unfolding wires_line
copies_of_wires count = refl

an_event : event_line (codes "rpc c0 c2") ≡ codes "event rpc c0 c2" ++ newline
an_event = refl
