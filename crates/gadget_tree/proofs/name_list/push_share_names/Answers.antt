use Rattle.std.proofs.Common.{◌∙◌}
use Rattle.gadget_tree.specs.Variables.{share_name}
use Rattle.gadget_tree.proofs.Pushes.{map-range_push}
use Rattle.gadget_tree.proofs.name_list.push_share_names.Goals as goal

pub loop-index-preserved : goal.loop-index-preserved
loop-index-preserved c =
    c.in_ok-push.ensures.items
    ∙ map-range_push (share_name c.args.stem.now) c.args.names.now.items c.loop-index.names.items c.loop-index.index c.in_ok-share_name.field-0 c.loop-index.invariant c.in_ok-share_name.ensures
