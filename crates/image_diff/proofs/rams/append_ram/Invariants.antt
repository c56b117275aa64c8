use Rattle.std.proofs.Common.{◌≡◌, ◌++◌}
use Rattle.index_search.specs.Places.{gathered_below}
use Rattle.text_lines.specs.Written.{text_of}
use Rattle.ice_image.specs.Either.{configuration_of}
use Rattle.image_diff.specs.Differences.{word_changes}
use Rattle.image_diff.proofs.rams.append_ram.Given as goal

abbrev pub invariant-loop-word : goal.invariant-loop-word
invariant-loop-word l =
    l.text.items ≡ l.initial.text.items ++ text_of (gathered_below l.word (word_changes (configuration_of l.first) (configuration_of l.second) l.x l.y))
