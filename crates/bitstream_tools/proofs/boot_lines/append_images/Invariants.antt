use Rattle.std.proofs.Common.{◌≡◌, ◌++◌}
use Rattle.std.specs.Prelude.{map, slice_get}
use Rattle.index_search.specs.Places.{gathered_below}
use Rattle.boot_file.specs.Meaning.{placed_of}
use Rattle.bitstream_tools.specs.Split.{image_line_at}
use Rattle.bitstream_tools.proofs.boot_lines.append_images.Given as goal

abbrev pub invariant-loop-index : goal.invariant-loop-index
invariant-loop-index l = l.text.items ≡ l.fn.text.items ++ gathered_below l.index (λ index. image_line_at index (slice_get (map placed_of l.images) index))
