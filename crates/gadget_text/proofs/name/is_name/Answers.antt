use Rattle.std.proofs.Common.{◌+◌, ◌==◌, ◌&&◌, Bool, List, ℕ, take, drop, sym, ap, ◌∙◌, arith}
use Rattle.std.specs.List.{list_all, slice_split}
use Rattle.gadget_text.specs.Names.{is_number, is_stem}
use Rattle.gadget_text.proofs.Dots.{name_is_stem, name_is_parts}
use Rattle.gadget_text.proofs.name.is_name.Goals as goal

pub returns-then-dot-word : goal.returns-then-dot-word
returns-then-dot-word c = c.is_stem.ensures ∙ name_is_stem c.args.word.now (sym c.if-dot-word.true ∙ c.dot_place-dot.ensures.place)

pub returns-then-is_stem : goal.returns-then-is_stem
returns-then-is_stem c =
    let parts = name_is_parts c.args.word.now c.dot_place-dot.result c.dot_place-dot.ensures.place (omega (arith, c.dot_place-dot.ensures.within, c.if-dot-word.false)) in
    ap (λ (b : Bool). b && c.are_numbers.result) (sym c.if-is_stem.true ∙ c.is_stem-2.ensures) ∙ ap (λ (b : Bool). is_stem (take c.dot_place-dot.result c.args.word.now) && b) (c.are_numbers.ensures ∙ ap (λ (z : List ℕ). list_all is_number (slice_split (λ x. x == 46) z)) c.behind_dot.ensures) ∙ sym parts

pub returns-else-is_stem : goal.returns-else-is_stem
returns-else-is_stem c =
    let parts = name_is_parts c.args.word.now c.dot_place-dot.result c.dot_place-dot.ensures.place (omega (arith, c.dot_place-dot.ensures.within, c.if-dot-word.false)) in
    c.if-is_stem.false
    ∙ ap (λ (b : Bool). b && list_all is_number (slice_split (λ x. x == 46) (drop (c.dot_place-dot.result + 1) c.args.word.now))) (sym c.if-is_stem.false ∙ c.is_stem-2.ensures) ∙ sym parts
