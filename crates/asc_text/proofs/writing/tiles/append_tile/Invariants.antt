use Rattle.std.proofs.Common.{◌≡◌, ◌+◌, ◌*◌, ◌≤◌, ◌++◌, map, vec_len, vec_capacity}
use Rattle.text_lines.specs.Written.{text_of}
use Rattle.bit_plane.specs.Rows.{rows_from}
use Rattle.ice_image.specs.Bits.{tile_bit_of}
use Rattle.ice_image.specs.Either.{configuration_of}
use Rattle.asc_text.specs.Canonical.{row_line}
use Rattle.asc_text.proofs.writing.tiles.append_tile.Given as goal

abbrev pub invariant-loop-row : goal.invariant-loop-row
invariant-loop-row l = record {
  text : l.text.items ≡ l.initial.text.items ++ text_of (map row_line (rows_from l.width l.row (λ col row. tile_bit_of (configuration_of l.image) l.x l.y row col)));
  room : vec_capacity l.initial.text ≤ vec_capacity l.text;
  most : vec_len l.text ≤ vec_len l.initial.text + 65 * l.row;
}
