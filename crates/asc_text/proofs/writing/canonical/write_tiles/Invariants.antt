use Rattle.std.proofs.Common.{◌+◌, ◌*◌, ◌≤◌, vec_capacity, Ok}
use Rattle.index_search.specs.Places.{gathered_below}
use Rattle.text_lines.specs.Written.{text_of}
use Rattle.plane_map.specs.Layout.{kind_of, grid_width}
use Rattle.ice_image.specs.Either.{configuration_of}
use Rattle.asc_text.specs.Canonical.{lines_of_tile_at}
use Rattle.asc_text.specs.inside.Room.{row_room}
use Rattle.ice_io.specs.Put.{Sends}
use Rattle.asc_text.proofs.writing.canonical.write_tiles.Given as goal

abbrev pub invariant-loop-y : goal.invariant-loop-y
invariant-loop-y g l = record {
  sends : Sends (g.K.Sink.held l.initial.sink) (g.K.Sink.held l.sink) l.before (text_of (gathered_below l.y (λ y. gathered_below (grid_width (configuration_of l.image).layout.device) (λ x. lines_of_tile_at (configuration_of l.image) x y (kind_of (configuration_of l.image).layout.device x y))))) (Ok l.sent);
  most : l.sent ≤ l.before + row_room * l.y;
  room : row_room ≤ vec_capacity l.row;
  faults : g.K.Sink.faults l.initial.sink ≤ g.K.Sink.faults l.sink;
}
