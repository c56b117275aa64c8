use Rattle.std.proofs.Common.{◌≡◌, ◌+◌, ◌*◌, ◌≤◌, ◌++◌, vec_len, vec_capacity}
use Rattle.index_search.specs.Places.{gathered_below}
use Rattle.text_lines.specs.Written.{text_of}
use Rattle.plane_map.specs.Layout.{kind_of}
use Rattle.ice_image.specs.Either.{configuration_of}
use Rattle.asc_text.specs.inside.Room.{place_room}
use Rattle.asc_text.specs.Canonical.{lines_of_tile_at}
use Rattle.asc_text.proofs.writing.tiles.append_grid_row.Given as goal

abbrev pub invariant-loop-x : goal.invariant-loop-x
invariant-loop-x l = record {
  text : l.text.items ≡ l.initial.text.items ++ text_of (gathered_below l.x (λ x. lines_of_tile_at (configuration_of l.image) x l.y (kind_of (configuration_of l.image).layout.device x l.y)));
  room : vec_capacity l.initial.text ≤ vec_capacity l.text;
  most : vec_len l.text ≤ vec_len l.initial.text + place_room * l.x;
}
