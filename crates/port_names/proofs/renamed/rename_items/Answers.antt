use Rattle.std.proofs.Common.{arith}
use Rattle.port_names.specs.Listed.{given_by}
use Rattle.port_names.specs.Renamed.{renamed_item}
use Rattle.port_names.proofs.Given.{exchanged-next}
use Rattle.port_names.proofs.renamed.rename_items.Goals as goal

pub loop-item-preserved : goal.loop-item-preserved
loop-item-preserved c =
    exchanged-next (renamed_item (given_by c.args.renaming.now)) c.args.items.now c.loop-item.items c.loop-item.item-index c.item-item.result c.rename_item.new.item (omega arith) c.loop-item.invariant
    c.in_ok-rename_item.ensures
