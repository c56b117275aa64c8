use Rattle.std.proofs.Common.{◌≡◌, get_or, take}
use Rattle.std.specs.Prelude.{None, filter_map, map}
use Rattle.index_search.specs.Places.{first_below}
use Rattle.boot_file.specs.Parts.{image_addresses}
use Rattle.boot_file.specs.Meaning.{placed_of}
use Rattle.boot_file.specs.Faults.{image_fault}
use Rattle.boot_file.specs.Reading.{image_in}
use Rattle.boot_file.proofs.images.images_at.Given as goal

abbrev pub invariant-loop-index : goal.invariant-loop-index
invariant-loop-index l = record {
  images : map placed_of l.images.items ≡ filter_map (image_in l.bytes) (take l.index l.addresses);
  clear : first_below l.index (λ index. image_fault l.bytes index (get_or (image_addresses l.bytes) index 0)) ≡ None;
}
