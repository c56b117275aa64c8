use Rattle.std.proofs.Common.{◌≡◌, ◌<◌, ◌++◌, ℕ, List, length, get_or, sym, ap, ◌∙◌, arith}
use Rattle.std.specs.Prelude.{Some, Option, map, slice_get}
use Rattle.std.proofs.lemmas.List.{get_or-map, length-map}
use Rattle.std.proofs.lemmas.Option.{slice_get_read}
use Rattle.index_search.specs.Places.{gathered_below}
use Rattle.index_search.proofs.Gathered.{appended-more, appended-none}
use Rattle.boot_file.specs.declared.file.BootImage.{BootImage}
use Rattle.boot_file.specs.Meaning.{PlacedImage, placed_of}
use Rattle.bitstream_tools.specs.Split.{image_line_at}
use Rattle.bitstream_tools.proofs.boot_lines.append_images.Goals as goal

-- the line of each image
lines_given : List BootImage → ℕ → List ℕ
lines_given images index = image_line_at index (slice_get (map placed_of images) index)

-- an image that is there
image-there : (images : List BootImage) (index : ℕ) (placed : BootImage) → index < length images → placed ≡ get_or images index placed
    → slice_get (map placed_of images) index ≡ Some (placed_of placed)
image-there images index placed below is =
    slice_get_read (map placed_of images) (length images) index (placed_of placed) (sym (length-map images placed_of)) below
    (ap placed_of is ∙ sym (get_or-map placed_of images index placed (placed_of placed) below))

pub loop-index-init : goal.loop-index-init
unfolding lines_given
loop-index-init c = appended-none c.args.text.now.items (lines_given c.args.images.now)

pub loop-index-preserved : goal.loop-index-preserved
unfolding lines_given
loop-index-preserved c =
    let images = c.args.images.now in
    let index = c.loop-index.index in
    let now = c.loop-index.text.items in
    let there = image-there images index c.index-images-index.result c.loop-index-test.true c.index-images-index.is in
    appended-more c.args.text.now.items now _ index (lines_given images) c.loop-index.invariant
    (c.in_ok-append_image.ensures ∙ ap (λ (found : Option PlacedImage). now ++ image_line_at index found) (sym there))

pub returns : goal.returns
unfolding lines_given
returns c =
    let images = c.args.images.now in
    let all : c.loop-index.index ≡ length (map placed_of images) = omega (arith, c.loop-index-test.false, c.loop-index.auto.index-end, length-map images placed_of) in
    c.loop-index.invariant ∙ ap (λ n. c.args.text.now.items ++ gathered_below n (lines_given images)) all
