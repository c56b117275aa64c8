use Rattle.std.proofs.Common.{◌≡◌, ◌++◌, map, take}
use Rattle.text_lines.specs.Written.{text_of}
use Rattle.chipdb_reader.specs.Kept.{database_in}
use Rattle.image_explain.specs.Explained.{item_line}
use Rattle.image_explain.proofs.lines.append_tile.Given as goal

abbrev pub invariant-loop-item : goal.invariant-loop-item
invariant-loop-item l =
    l.text.items ≡ l.initial.text.items ++ text_of (take l.item-index (map (item_line (database_in l.db) l.at.x l.at.y) l.items))
