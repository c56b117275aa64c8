use Rattle.std.proofs.Common.{◌≡◌, ◌+◌, ◌≤◌, length, drop}
use Rattle.std.specs.Prelude.{None}
use Rattle.text_lines.specs.Lines.{lines_of}
use Rattle.index_search.specs.Places.{first_below}
use Rattle.pin_file.specs.declared.place.PinPlace.{PinPlace}
use Rattle.pin_file.specs.Faults.{fault_at}
use Rattle.pin_file.specs.Feeding.{kept_in}
use Rattle.pin_file.specs.GivenNames.{name_in, name_kept}
use Rattle.pin_file.proofs.given.given_names.Given as goal

abbrev pub invariant-loop-line : goal.invariant-loop-line
invariant-loop-line l = record {
  rest : lines_of l.left ≡ drop l.count (lines_of l.fn.text);
  within : l.count ≤ length (lines_of l.fn.text);
  short : l.count + length l.left ≤ length l.fn.text;
  kept : (place : PinPlace) → name_kept l.names place ≡ first_below l.count (name_in (kept_in l.pins) (lines_of l.fn.text) place);
  fit : first_below l.count (fault_at (kept_in l.pins) (lines_of l.fn.text)) ≡ None;
}

abbrev pub decreases-loop-line : goal.decreases-loop-line
decreases-loop-line l = length l.left
