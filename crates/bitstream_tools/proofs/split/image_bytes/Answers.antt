use Rattle.std.proofs.Common.{◌≡◌, rules, arith}
use Rattle.std.specs.Prelude.{None, map, slice_get}
use Rattle.std.proofs.lemmas.List.{length-map}
use Rattle.std.proofs.lemmas.Option.{slice_get_past}
use Rattle.boot_file.specs.Meaning.{placed_of}
use Rattle.bitstream_tools.proofs.split.image_bytes.Goals as goal

pub returns-else-index-images-clause-stops : goal.returns-else-index-images-clause-stops
returns-else-index-images-clause-stops c =
    let images = map placed_of c.args.images.now in
    let none : slice_get images c.args.index ≡ None = slice_get_past images c.args.index (omega (arith, c.if-index-images.false, length-map c.args.images.now placed_of)) in
    rw none (search rules)
