use Rattle.std.proofs.Common.{◌≡◌, ◌++◌, drop}
use Rattle.std.specs.Prelude.{flat_map, reverse}
use Rattle.bram_replace.specs.HexText.{byte_bits}
use Rattle.bram_replace.proofs.hex_words.push_bits.Given as goal

abbrev pub invariant-loop-index : goal.invariant-loop-index
invariant-loop-index l = l.bits.items ≡ l.initial.bits.items ++ flat_map byte_bits (reverse (drop l.index l.word))
