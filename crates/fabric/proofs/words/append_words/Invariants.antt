use Rattle.std.proofs.Common.{◌≡◌, ◌++◌}
use Rattle.ice_image.specs.Either.{configuration_of}
use Rattle.ice_image.specs.Bits.{ram_word_of}
use Rattle.fabric_model.specs.Tiles.{each_below}
use Rattle.fabric.proofs.words.append_words.Given as goal

abbrev pub invariant-loop-word : goal.invariant-loop-word
invariant-loop-word l =
    l.words.items ≡ l.initial.words.items ++ each_below l.word (ram_word_of (configuration_of l.image) l.x l.y)
