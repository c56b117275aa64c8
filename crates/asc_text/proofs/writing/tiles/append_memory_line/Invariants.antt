use Rattle.std.proofs.Common.{◌≡◌, ◌+◌, ◌*◌, ◌-◌, ◌≤◌, ◌++◌, vec_len, vec_capacity}
use Rattle.hex.specs.Hex.{encode_lower}
use Rattle.index_search.specs.Places.{gathered_below}
use Rattle.ice_image.specs.Bits.{ram_word_of}
use Rattle.ice_image.specs.Either.{configuration_of}
use Rattle.asc_text.specs.Canonical.{two_bytes}
use Rattle.asc_text.proofs.writing.tiles.append_memory_line.Given as goal

abbrev pub invariant-loop-index : goal.invariant-loop-index
invariant-loop-index l = record {
  text : l.text.items ≡ l.initial.text.items ++ encode_lower (gathered_below l.index (λ index. two_bytes (ram_word_of (configuration_of l.image) l.x l.y (16 * l.row + 15 - index))));
  room : vec_capacity l.initial.text ≤ vec_capacity l.text;
  most : vec_len l.text ≤ vec_len l.initial.text + 4 * l.index;
}
