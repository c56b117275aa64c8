use Rattle.std.proofs.Common.{◌≡◌, map, take}
use Rattle.chipdb_reader.specs.Kept.{database_in}
use Rattle.image_explain.specs.Explained.{item_line}
use Rattle.image_explain.specs.Inside.{lists_of}
use Rattle.image_explain.proofs.lines.lines_of.Given as goal

abbrev pub invariant-loop-item : goal.invariant-loop-item
invariant-loop-item l = lists_of l.lines.items ≡ map (item_line (database_in l.db) l.at.x l.at.y) (take l.item-index l.items)
