use Rattle.std.proofs.Common.{◌≡◌, take}
use Rattle.std.specs.List.{flat_map}
use Rattle.ice_image.specs.Either.{configuration_of}
use Rattle.ice_image.specs.Bits.{ram_word_of}
use Rattle.fabric_model.specs.declared.ram.RamCell.{RamCell}
use Rattle.fabric_model.specs.Tiles.{each_below}
use Rattle.fabric.proofs.words.start_words.Given as goal

abbrev pub invariant-loop-ram : goal.invariant-loop-ram
invariant-loop-ram l =
    l.words.items ≡ flat_map (λ (ram : RamCell). each_below 256 (ram_word_of (configuration_of l.image) ram.x ram.y)) (take l.ram-index l.rams)
