use Rattle.std.proofs.Common.{◌≡◌, ◌+◌, ◌*◌, ◌≤◌, true, List, ℕ, length}
use Rattle.std.specs.List.{list_all}
use Rattle.text_lines.specs.Words.{words_of}
use Rattle.text_lines.specs.declared.words.Separators.TheVariants.{Whitespace}
use Rattle.bram_replace.specs.HexText.{is_word}
use Rattle.bram_replace.specs.Collected.{Holds}
use Rattle.bram_replace.proofs.HexWords.{Went}
use Rattle.bram_replace.proofs.hex_words.Words.take_words.Given as goal

abbrev pub invariant-loop-word : goal.invariant-loop-word
invariant-loop-word l = record {
  went : (words : List (List ℕ)) → Holds words l.fn.self.digits l.fn.self.bits.items → Went words (words_of Whitespace l.line) (words_of Whitespace l.rest) l.self.digits l.self.bits.items;
  written : list_all is_word (words_of Whitespace l.rest) ≡ true;
  room : length l.self.bits.items + 4 * length l.rest ≤ length l.fn.self.bits.items + 4 * length l.line;
}

abbrev pub decreases-loop-word : goal.decreases-loop-word
decreases-loop-word l = length l.rest
