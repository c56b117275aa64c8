-- The kept lists are consistent: names and lists of bits are among those that are kept, and the indexes are those of the lists.
use Rattle.std.specs.Prelude.{◌≡◌, ◌<◌, ◌^◌, List, length, All, None}
use Rattle.plane_map.specs.declared.tile.RowCol.{RowCol}
use Rattle.chipdb_lines.specs.Kept.{bits_named}
use Rattle.chipdb_reader.specs.declared.items.LinkLine.{LinkLine}
use Rattle.chipdb_reader.specs.declared.texts.Texts.{Texts}
use Rattle.chipdb_reader.specs.declared.nets.Nets.{Nets}
use Rattle.chipdb_reader.specs.Kept.{Kept}
use Rattle.chipdb_reader.specs.Nets.{IsNetIndex}
use Rattle.chipdb_reader.specs.Texts.{IsIndexed}

-- a link by one of these lists of bits, with one value for each bit of the list
pub record IsLinkIn (bits : List (List RowCol)) (line : LinkLine) : Type 0 where
  pub bits_in : line.bits.place < length bits
  pub values_few : line.values < 2 ^ length (bits_named bits line.bits)

-- each name is one of the kept names, and each list of bits one of the kept lists
pub record IsSound (kept : Kept) : Type 0 where
  pub names : All (λ p. p.0.name < length kept.texts) kept.names
  pub functions : All (λ f. f.name < length kept.texts) kept.functions
  pub function_bits : All (λ f. f.bits.place < length kept.bits) kept.functions
  pub extras : All (λ e. e.name < length kept.texts) kept.extras
  pub buffers : All (IsLinkIn kept.bits) kept.buffers
  pub routings : All (IsLinkIn kept.bits) kept.routings

-- the indexes are those of the lists, and all nets have been moved to the earlier ones
pub record AreIndexed (texts : Texts) (nets : Nets) : Type 0 where
  pub texts_indexed : IsIndexed texts
  pub nets_indexed : IsNetIndex nets
  pub closed : nets.last ≡ None
