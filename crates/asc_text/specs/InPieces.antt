-- The canonical text of an image that is made while it is written.
use Rattle.std.specs.Prelude.{ℕ, List, ◌++◌, take, drop}
use Rattle.text_lines.specs.Written.{text_of}
use Rattle.ice_image.specs.Either.{configuration_of}
use Rattle.asc_text.specs.declared.writing.canonical.CanonicalText.{CanonicalText}
use Rattle.asc_text.specs.Canonical.{all_tile_lines}

-- the bytes that it writes: the lines before the tiles, the tiles, and the lines after them
abbrev pub canonical_in : CanonicalText → List ℕ
canonical_in text =
    take text.following text.around.items
    ++ text_of (all_tile_lines (configuration_of text.image))
    ++ drop text.following text.around.items
