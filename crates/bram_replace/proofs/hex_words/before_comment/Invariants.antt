use Rattle.std.proofs.Common.{◌≡◌, ◌++◌, take, drop}
use Rattle.bram_replace.specs.HexText.{before_comment}
use Rattle.bram_replace.proofs.hex_words.before_comment.Given as goal

abbrev pub invariant-loop-index : goal.invariant-loop-index
invariant-loop-index l = before_comment l.line ≡ take l.index l.line ++ before_comment (drop l.index l.line)
