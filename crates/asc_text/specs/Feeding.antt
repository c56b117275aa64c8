-- Which text a reader stands for that is fed in pieces. The clauses of its calls say all that matters of it: a new reader stands for an
-- empty text, `feed` adds a piece, and `finish` returns what the text means. What a reader keeps is defined in specs/inside.
use Rattle.std.specs.Prelude.{◌≡◌, ℕ, List, length, Option}
use Rattle.text_lines.specs.Feeding.{StandsFor as FeedStandsFor, refusal_of as refusal_of_feed}
use Rattle.layout_file.specs.declared.layouts.Layouts.{Layouts}
use Rattle.layout_file.specs.Layouts.{AreLayouts}
use Rattle.asc_text.specs.declared.fault.AscFault.{AscFault}
use Rattle.asc_text.specs.declared.reading.asc_reader.AscReader.{AscReader}
use Rattle.asc_text.specs.inside.Feeding.{HasTaken, Refuses}

-- how many bytes were fed to a reader
abbrev pub fed_to : AscReader → ℕ
fed_to reader = reader.fed

-- the fault with which a reader refused, if it did
abbrev pub refusal_of : AscReader → Option AscFault
refusal_of reader = refusal_of_feed reader.lines

-- A reader stands for a text under layouts: the bytes of the text were fed to it, and it has read them or refused.
pub record StandsFor (layouts : Layouts) (text : List ℕ) (reader : AscReader) : Type 0 where
  pub fed : fed_to reader ≡ length text
  pub laid : AreLayouts layouts
  pub has : FeedStandsFor HasTaken Refuses layouts text reader.lines
