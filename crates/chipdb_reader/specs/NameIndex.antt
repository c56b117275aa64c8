-- The index from the name of a net at a tile to that net: cells of a table for the first names, and a map for all others.
use Rattle.std.specs.Prelude.{ℕ, ◌+◌, ◌*◌, ◌&&◌, List, get_or, nat_lt, ◌==◌, if◌then◌else◌, Option, Some, None}
use Rattle.std.specs.declared.cmp.Ordering.{Ordering}
use Rattle.std.specs.BTreeMap.{get}
use Rattle.index_search.specs.Places.{or_else}
use Rattle.plane_map.specs.Layout.{max_side}
use Rattle.chipdb_reader.specs.declared.items.NetName.{NetName}
use Rattle.chipdb_reader.specs.declared.name_index.NameIndex.{NameIndex}
use Rattle.chipdb_reader.specs.declared.name_index.TheConstants.{NAMES, NO_NET}
use Rattle.chipdb_reader.specs.contracts.items.NetNameOrd.TheImpl as net_name_ord

-- the order of names
abbrev pub name_cmp : NetName → NetName → Ordering
name_cmp = (net_name_ord.ghosts).cmp

-- the cell of a name, which only the first names have; the cells of one name are together, row by row of the grid
abbrev pub cell_of : NetName → Option ℕ
cell_of name =
    if nat_lt name.x max_side && (nat_lt name.y max_side && nat_lt name.name NAMES)
    then Some ((name.name * max_side + name.y) * max_side + name.x)
    else None

-- the net that a cell holds, if it holds one
abbrev pub net_held : ℕ → Option ℕ
net_held net = if net == NO_NET then None else Some net

-- the net in a cell; a cell past the end of the table is empty
abbrev pub held_at : List ℕ → Option ℕ → Option ℕ
held_at table None = None
held_at table (Some cell) = net_held (get_or table cell NO_NET)

-- the net that the index has for a name
abbrev pub net_in : NameIndex → NetName → Option ℕ
net_in index name = or_else (held_at index.table.items (cell_of name)) (get name_cmp index.others name)
