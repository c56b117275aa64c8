use Rattle.std.proofs.Common.{◌≡◌, ◌-◌, ◌≤◌, Some}
use Rattle.plane_map.specs.Layout.{columns_of}
use Rattle.plane_map.specs.Runs.{AreRunsOf}
use Rattle.ice_image.specs.Either.{configuration_of}
use Rattle.plane_map.specs.declared.tile.TileKind.{TileKind}
use Rattle.asc_text.specs.inside.Reading.{TakesBelow}
use Rattle.asc_text.specs.declared.reading.reader.Expected.TheVariants.{Row}
use Rattle.asc_text.proofs.reading.reader.plain.set_rows_of_width.Given as goal

abbrev pub invariant-loop-row : goal.invariant-loop-row
invariant-loop-row l = record {
  from : l.first ≤ l.row;
  within : l.row ≤ 16;
  runs : AreRunsOf (configuration_of l.image).layout l.runs.x l.runs.y l.runs;
  taken : (kind : TileKind) → columns_of kind ≡ l.width → TakesBelow (Row kind l.runs.x l.runs.y) l.first (Some l.initial.image) l.text (l.row - l.first) l.left (Some l.image);
}

abbrev pub decreases-loop-row : goal.decreases-loop-row
decreases-loop-row l = 16 - l.row
