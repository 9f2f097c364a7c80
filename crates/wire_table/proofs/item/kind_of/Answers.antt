use Rattle.std.proofs.Common.{ℕ, ap, sym, ◌∙◌, Option}
use Rattle.std.specs.Prelude.{option_map}
use Rattle.wire_table.specs.Items.{kind_of}
use Rattle.wire_table.proofs.OutputPlaces.{output_index-from_IsOutOf}
use Rattle.wire_table.proofs.item.kind_of.Goals as goal

pub returns-in-Some : goal.returns-in-Some
returns-in-Some c =
    ap (λ (r : Option (ℕ × ℕ)). kind_of (option_map (λ (o : ℕ × ℕ). o.1) r)) (sym c.in-Some.is)
    ∙ ap kind_of (output_index-from_IsOutOf c.args.gadget.now c.requires c.args.var c.out_of.result c.out_of.ensures)

pub returns-in-None : goal.returns-in-None
returns-in-None c =
    ap (λ (r : Option (ℕ × ℕ)). kind_of (option_map (λ (o : ℕ × ℕ). o.1) r)) (sym c.in-None.is)
    ∙ ap kind_of (output_index-from_IsOutOf c.args.gadget.now c.requires c.args.var c.out_of.result c.out_of.ensures)
