use Rattle.std.proofs.Common.{◌≡◌, ◌+◌, ◌*◌, ◌≤◌, [], ◌∷◌, ◌++◌, vec_len, vec_capacity}
use Rattle.index_search.specs.Places.{gathered_below}
use Rattle.text_lines.specs.Written.{text_of}
use Rattle.ice_image.specs.Either.{configuration_of}
use Rattle.asc_text.specs.Canonical.{memory_line}
use Rattle.asc_text.proofs.writing.tiles.append_ram.Given as goal

abbrev pub invariant-loop-row : goal.invariant-loop-row
invariant-loop-row l = record {
  text : l.text.items ≡ l.initial.text.items ++ text_of (gathered_below l.row (λ row. memory_line (configuration_of l.image) l.x l.y row ∷ []));
  room : vec_capacity l.initial.text ≤ vec_capacity l.text;
  most : vec_len l.text ≤ vec_len l.initial.text + 65 * l.row;
}
