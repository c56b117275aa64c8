-- What is kept of lines: their lists of bits are in one table, and known by their indexes in it.
use Rattle.std.specs.Prelude.{◌≡◌, ℕ, ◌^◌, ◌<◌, ◌≤◌, true, false, ◌||◌, List, [], ◌∷◌, ◌++◌, length, get_or, map, ◌==◌, Option, Some, None, Result, Ok, Err}
use Rattle.std.specs.Result.{result_err, MatchResult}
use Rattle.bit_plane.specs.BitList.{word_bits}
use Rattle.plane_map.specs.declared.tile.RowCol.{RowCol}
use Rattle.chipdb_lines.specs.declared.cause.DbCause.{DbCause}
use Rattle.chipdb_lines.specs.declared.cause.DbLineRefusal.{DbLineRefusal}
use Rattle.chipdb_lines.specs.declared.cause.DbLineRefusal.TheVariants.{Cause, Memory}
use Rattle.chipdb_lines.specs.declared.bits.BitList.{BitList}
use Rattle.chipdb_lines.specs.declared.links.LinkHead.{LinkHead as KeptHead}
use Rattle.chipdb_lines.specs.declared.links.Choice.{Choice}
use Rattle.chipdb_lines.specs.declared.links.ChoiceLine.{ChoiceLine}
use Rattle.chipdb_lines.specs.declared.functions.FunctionItem.{FunctionItem}
use Rattle.chipdb_lines.specs.declared.functions.ExtraItem.{ExtraItem}
use Rattle.chipdb_lines.specs.declared.names.NameItem.{NameItem}
use Rattle.chipdb_lines.specs.declared.plls.PllItem.{PllItem}
use Rattle.plane_map.specs.declared.tile.TileKind.{TileKind}
use Rattle.chipdb_lines.specs.declared.statements.Below.{Below}
use Rattle.chipdb_lines.specs.declared.statements.Below.TheVariants.{Passed, Device, GlobalInputs, GlobalPins, Functions, ExtraBits, Names, Buffers, Routings, Pll}
use Rattle.chipdb_lines.specs.Statements.{Block, passed, of_device, global_inputs, global_pins, functions, extra_bits, names, buffers, routings, pll, LinkHead}
use Rattle.text_lines.specs.Lines.{lines_of}
use Rattle.std.specs.List.{list_all}
use Rattle.text_lines.specs.Written.{IsPlain}
use Rattle.chipdb_lines.specs.Words.{bit_of, is_statement, own_words, words_in}
use Rattle.chipdb_lines.specs.Items.{LinkChoice, choice_of, FunctionLine, ExtraLine, NameLine, PllLine}

-- the bits of a list; empty if the index is past the last list
abbrev pub bits_named : List (List RowCol) → BitList → List RowCol
bits_named lists list = get_or lists list.place []

-- the word names that bit, by its row and column; if there is no bit, the word names none
abbrev pub NamesBit : List ℕ → Option (ℕ × ℕ) → Type 0
NamesBit word None = bit_of word ≡ None
NamesBit word (Some bit) = bit_of word ≡ Some (record { row = bit.0; col = bit.1 })

-- words of which the first names that bit, or none if there is no bit, and the others are `rest`
pub record StartsWithWord (words : List (List ℕ)) (bit : Option (ℕ × ℕ)) (rest : List (List ℕ)) : Type 0 where
  pub word : List ℕ
  pub words_are : words ≡ word ∷ rest
  pub names : NamesBit word bit

-- exactly one list was added to a table; it has at most 64 bits
pub record AddsList (old new : List (List RowCol)) (list : BitList) : Type 0 where
  pub bits : List RowCol
  pub grown : new ≡ old ++ bits ∷ []
  pub last : list.place ≡ length old
  pub few : length bits ≤ 64

-- exactly one list was added to a table: the bits of a statement of links
pub record AddsHead (old new : List (List RowCol)) (head : KeptHead) : Type 0 where
  pub list : AddsList old new head.bits
  pub counted : head.count ≡ length (bits_named new head.bits)

-- a choice whose values are the lowest `count` bits of a number
abbrev pub choice_named : ℕ → Choice → LinkChoice
choice_named count choice = record { values = word_bits count choice.values; src = choice.src }

-- a function with the bits of a list
abbrev pub function_named : TileKind → List (List RowCol) → FunctionItem → FunctionLine
function_named kind bits item = record { kind = kind; name = item.name.now; bits = bits_named bits item.bits }

abbrev pub extra_named : ExtraItem → ExtraLine
extra_named item = record { name = item.name.now; at = item.at }

-- a name of a net
abbrev pub name_named : ℕ → NameItem → NameLine
name_named net item = record { net = net; x = item.x; y = item.y; name = item.name.now }

-- a line of a PLL
abbrev pub pll_line_named : PllItem → PllLine
pll_line_named item = record { name = item.name.now; x = item.x; y = item.y; word = item.word.now }

abbrev pub head_named : List (List RowCol) → KeptHead → LinkHead
head_named bits head = record { x = head.x; y = head.y; dst = head.dst; bits = bits_named bits head.bits }

-- what the lines below a statement are
abbrev pub block_named : List (List RowCol) → Below → Block
block_named bits Passed = passed
block_named bits (Device chip) = of_device chip
block_named bits GlobalInputs = global_inputs
block_named bits GlobalPins = global_pins
block_named bits (Functions kind) = functions kind
block_named bits ExtraBits = extra_bits
block_named bits (Names net) = names net
block_named bits (Buffers head) = buffers (head_named bits head)
block_named bits (Routings head) = routings (head_named bits head)
block_named bits (Pll x y) = pll x y

-- exactly the list of a statement was added to a table, or nothing if the statement has no list
abbrev pub AddsBelow : List (List RowCol) → List (List RowCol) → Below → Type 0
AddsBelow old new (Buffers head) = AddsHead old new head
AddsBelow old new (Routings head) = AddsHead old new head
AddsBelow old new below = new ≡ old

-- the reported cause is that one; out of memory may come in place of any answer
abbrev pub Reports : Option DbCause → DbLineRefusal → Type 0
Reports cause (Cause told) = cause ≡ Some told
Reports cause (Memory e) = Unit {0}

-- the result is what the line says, or what is wrong with it, or out of memory
abbrev pub Tells : {A B : Type 0} → Result A DbCause → (B → A) → Result B DbLineRefusal → Type 0
Tells said meaning told = MatchResult told (λ item. said ≡ Ok (meaning item)) (Reports (result_err said))

-- the result is what the line says, or what is wrong with it; no memory is taken
abbrev pub Reads : {A B : Type 0} → Result A DbCause → (B → A) → Result B DbCause → Type 0
Reads said meaning told = MatchResult told (λ item. said ≡ Ok (meaning item)) (λ cause. said ≡ Err cause)

-- a line has exactly two words with one space between them, and no other separator
pub record AreParted (first second : List ℕ) : Type 0 where
  pub plain : IsPlain (first ++ (32 ∷ second))
  pub words : words_in (first ++ (32 ∷ second)) ≡ first ∷ second ∷ []
  pub own : own_words (first ++ (32 ∷ second)) ≡ first ∷ second ∷ []
  pub item : is_statement (first ++ (32 ∷ second)) ≡ false

-- the first line of a text has exactly two words with one space between them: the text after the line, and what holds of the words
pub record BeginsWithPair (text rest : List ℕ) (Holds : List (List ℕ) → Type 0) : Type 0 where
  pub first : List ℕ
  pub second : List ℕ
  pub parted : AreParted first second
  pub lines : lines_of text ≡ (first ++ (32 ∷ second)) ∷ lines_of rest
  pub shorter : length rest < length text
  pub holds : Holds (first ∷ second ∷ [])

-- the words make that choice
pub record Chooses (nets count : ℕ) (words : List (List ℕ)) (choice : Choice) : Type 0 where
  pub says : choice_of nets count words ≡ Ok (choice_named count choice)
  pub small : choice.values < 2 ^ count

-- the choice that the first line of a text makes, and the text after that line
abbrev pub IsChoiceLine : ℕ → ℕ → List ℕ → ChoiceLine → Type 0
IsChoiceLine nets count text found = BeginsWithPair text found.rest.now (λ words. Chooses nets count words found.choice)

-- a text begins with the two words of a choice, one space between them and LF right after them
pub record HasChoice (nets count : ℕ) (text : List ℕ) : Type 0 where
  pub values : List ℕ
  pub src : List ℕ
  pub rest : List ℕ
  pub text_is : text ≡ values ++ (32 ∷ (src ++ (10 ∷ rest)))
  pub some : 0 < length values
  pub choice : LinkChoice
  pub says : choice_of nets count (values ∷ src ∷ []) ≡ Ok choice

-- each byte of the word is `0` or `1`, and they are the lowest bits of a number, the lowest first
pub record WritesValues (word : List ℕ) (values : ℕ) : Type 0 where
  pub all : list_all (λ byte. (byte == 48) || (byte == 49)) word ≡ true
  pub bits : word_bits (length word) values ≡ map (λ byte. byte == 49) word
  pub small : values < 2 ^ length word
