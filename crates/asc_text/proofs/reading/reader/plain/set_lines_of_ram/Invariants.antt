use Rattle.std.proofs.Common.{◌≡◌, ◌-◌, ◌≤◌, Some}
use Rattle.ice_image.specs.Either.{device_of}
use Rattle.asc_text.specs.inside.Reading.{TakesBelow}
use Rattle.asc_text.specs.declared.reading.reader.Expected.TheVariants.{Memory}
use Rattle.asc_text.proofs.reading.reader.plain.set_lines_of_ram.Given as goal

abbrev pub invariant-loop-row : goal.invariant-loop-row
invariant-loop-row l = record {
  from : l.first ≤ l.row;
  within : l.row ≤ 16;
  device : device_of l.image ≡ device_of l.initial.image;
  taken : TakesBelow (Memory l.x l.y) l.first (Some l.initial.image) l.text (l.row - l.first) l.left (Some l.image);
}

abbrev pub decreases-loop-row : goal.decreases-loop-row
decreases-loop-row l = 16 - l.row
