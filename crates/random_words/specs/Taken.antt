-- Texts that `icebram` takes as FROM, and the draw that is one.
use Rattle.std.specs.Prelude.{◌≡◌, ℕ, ◌&&◌, Bool, List, length, is_none, if◌then◌else◌, Option, Some, None}
use Rattle.index_search.specs.Places.{first_below}
use Rattle.bram_replace.specs.HexText.{Contents, contents_of, hex_fault_of}
use Rattle.bram_replace.specs.Columns.{same_fault, width_of}
use Rattle.random_words.specs.Draws.{drawn}
use Rattle.random_words.specs.declared.fault.DrawFault.{DrawFault}
use Rattle.random_words.specs.declared.fault.DrawFault.TheVariants.{Draws, Memory}

-- a text that is taken as FROM: nothing is wrong with its lines and with the number of its words, and no two columns are equal
pub record IsTaken (text : List ℕ) : Type 0 where
  pub lines : hex_fault_of text ≡ None
  pub columns : same_fault (contents_of text) ≡ None

-- whether a text is taken
abbrev pub is_taken : List ℕ → Bool
is_taken text = is_none (hex_fault_of text) && is_none (same_fault (contents_of text))

-- a file of `depth` words of `width` bits
pub record HasSize (width depth : ℕ) (file : Contents) : Type 0 where
  pub width_is : width_of file ≡ width
  pub depth_is : length file.words ≡ depth

-- how many draws there are at most
abbrev pub draws : ℕ
draws = 16

-- a text, if it is taken
abbrev pub if_taken : List ℕ → Option (List ℕ)
if_taken text = if is_taken text then Some text else None

-- the text of the first draw that is taken
unfoldable pub random_words : ℕ → ℕ → ℕ → Option (List ℕ)
random_words width depth seed = first_below draws (λ draw. if_taken (drawn width depth seed draw))

-- a fault says that no draw is taken, unless memory ran out
abbrev pub TellsDraws : Option (List ℕ) → DrawFault → Type 0
TellsDraws text Draws = text ≡ None
TellsDraws text (Memory e) = Unit {0}
