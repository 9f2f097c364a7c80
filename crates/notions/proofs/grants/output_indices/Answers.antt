use Rattle.std.proofs.Common.{◌≡◌, ◌↔◌, ℕ, List, ap, sym, ◌∙◌, arith, map, subst}
use Rattle.std.proofs.lemmas.List.{take_all}
use Rattle.gadget_model.specs.Simulation.{HasShare}
use Rattle.wire_table.specs.CodeItems.{item_of}
use Rattle.wire_table.specs.declared.item.ItemKind.{ItemKind}
use Rattle.wire_table.specs.declared.item.ItemKind.TheVariants.{Output}
use Rattle.notions.specs.Inside.{HasSmallIndex}
use Rattle.notions.specs.Notions.{kind_at, HasOutput}
use Rattle.notions.proofs.IndexBits.{more_outputs}
use Rattle.wire_table.proofs.ItemReads.{fact_at}
use Rattle.notions.proofs.InternalCounts.{kind_at-list}
use Rattle.notions.proofs.grants.output_indices.Goals as goal

pub index_bit-indices-requires : goal.index_bit-indices-requires
index_bit-indices-requires c =
    let there = c.requires.there c.loop-item.item-index 0 c.loop-item-test.true in
    fact_at c.args.list.now c.from.result c.index-list-from.result (omega arith) c.index-list-from.is HasSmallIndex c.requires.small

pub loop-item-preserved : goal.loop-item-preserved
loop-item-preserved c = λ index.
    let items = map item_of c.args.list.now in
    let there = c.requires.there c.loop-item.item-index 0 c.loop-item-test.true in
    let item = c.index-list-from.result in
    let kind : kind_at items _ ≡ item.kind =
    ap (kind_at items) (sym c.from.ensures) ∙ kind_at-list c.args.list.now c.from.result item (omega arith) c.index-list-from.is in
    more_outputs c.loop-item.indices c.index_bit-indices.result items c.args.tuple.now c.loop-item.item-index index c.loop-item-test.true
    (c.loop-item.invariant index)
    (subst (λ (k : ItemKind). HasShare c.index_bit-indices.result index ↔ (k ≡ Output index)) (sym kind) (c.index_bit-indices.ensures index))

pub returns : goal.returns
returns c = λ index.
    subst (λ (t : List ℕ). HasShare c.loop-item.indices index ↔ HasOutput (map item_of c.args.list.now) t index)
    (take_all c.loop-item.item-index c.args.tuple.now c.loop-item-test.false) (c.loop-item.invariant index)
