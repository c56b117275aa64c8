-- What a text gives: eight lists, each of what one kind of statement says. Seven are in the order of the text, the PLLs in the order of
-- their tiles. Source: Project IceStorm, 'icebox chip database'; that equal lines of a `.buffer` count once, and that of two statements of
-- one PLL and of two lines of one name below it only the first counts, is this project's choice.
use Rattle.std.specs.Prelude.{ℕ, Bool, false, not, ◌&&◌, ◌||◌, List, [], ◌∷◌, map, fold, length, nat_lt, bytes_eq, ◌==◌, if◌then◌else◌, Option, Some, None, Result, Ok, Err}
use Rattle.std.specs.Bool.{beq}
use Rattle.std.specs.List.{list_any}
use Rattle.std.specs.Result.{result_unwrap_or}
use Rattle.std.specs.Cmp.Lexicographic.{pointwise}
use Rattle.text_lines.specs.Lines.{line_at}
use Rattle.index_search.specs.Places.{any_below, gathered_below}
use Rattle.plane_map.specs.declared.tile.RowCol.{RowCol}
use Rattle.chipdb_lines.specs.declared.cause.DbCause.{DbCause}
use Rattle.chipdb_lines.specs.declared.chip.Chip.{Chip}
use Rattle.chipdb_lines.specs.declared.globals.GlobalInput.{GlobalInput}
use Rattle.chipdb_lines.specs.declared.globals.GlobalPin.{GlobalPin}
use Rattle.chipdb_lines.specs.Words.{is_statement}
use Rattle.chipdb_lines.specs.Statements.{Block, passed, of_device, global_inputs, global_pins, functions, extra_bits, names, buffers, routings, pll, LinkHead}
use Rattle.chipdb_lines.specs.Items.{NameLine, FunctionLine, ExtraLine, LinkChoice, PllLine, name_of, function_of, extra_of, global_input_of, global_pin_of, choice_of, pll_line_of}
use Rattle.chipdb_reader.specs.Blocks.{chip_before, statement_at, statement_over, block_over, own_words_at}

-- a link from the net `src` to the net `dst` in the tile at (x, y), and the values that its bits have if it is on
pub record Link : Type 0 where
  pub x : ℕ
  pub y : ℕ
  pub dst : ℕ
  pub src : ℕ
  pub bits : List RowCol
  pub values : List Bool

-- the PLL at (x, y), which may be outside of the grid, and the first line of each name below its statement, in the order of the text
pub record Pll : Type 0 where
  pub x : ℕ
  pub y : ℕ
  pub lines : List PllLine

-- a database: the device with its number of nets, seven lists of lines, and the PLLs by their tiles
pub record Database : Type 0 where
  pub chip : Chip
  pub names : List NameLine
  pub buffers : List Link
  pub routings : List Link
  pub functions : List FunctionLine
  pub extras : List ExtraLine
  pub global_inputs : List GlobalInput
  pub global_pins : List GlobalPin
  pub plls : List Pll

-- ---- lines by their kind

-- what a line says for the statement above it: one item of one kind, or nothing
pub record Said : Type 0 where
  pub names : List NameLine
  pub functions : List FunctionLine
  pub extras : List ExtraLine
  pub global_inputs : List GlobalInput
  pub global_pins : List GlobalPin
  pub choices : List LinkChoice
  pub pll_lines : List PllLine

abbrev pub nothing : Said
nothing = record { names = []; functions = []; extras = []; global_inputs = []; global_pins = []; choices = []; pll_lines = [] }

-- the item, if there is no fault
abbrev pub item : {A : Type 0} → Result A DbCause → List A
item (Ok said) = said ∷ []
item (Err cause) = []

-- the line of a PLL, if the words are one
abbrev pub pll_item : Option PllLine → List PllLine
pll_item (Some line) = line ∷ []
pll_item None = []

-- what the words of a line say for a statement
abbrev pub said_for : Chip → Block → List (List ℕ) → Said
said_for chip passed words = nothing
said_for chip (of_device given) words = nothing
said_for chip global_inputs words = record nothing { global_inputs = item (global_input_of chip.device words) }
said_for chip global_pins words = record nothing { global_pins = item (global_pin_of chip.device words) }
said_for chip (functions kind) words = record nothing { functions = item (function_of kind words) }
said_for chip extra_bits words = record nothing { extras = item (extra_of chip.device words) }
said_for chip (names net) words = record nothing { names = item (name_of chip.device net words) }
said_for chip (buffers head) words = record nothing { choices = item (choice_of chip.nets (length head.bits) words) }
said_for chip (routings head) words = record nothing { choices = item (choice_of chip.nets (length head.bits) words) }
said_for chip (pll x y) words = record nothing { pll_lines = pll_item (pll_line_of words) }

-- what the words of a line say; nothing if there is no word or no device was given
abbrev pub said_by : List (List ℕ) → Option Chip → Block → Said
said_by [] chip block = nothing
said_by (word ∷ words) None block = nothing
said_by (word ∷ words) (Some chip) block = said_for chip block (word ∷ words)

-- what the line at a place says
unfoldable pub said_at : List (List ℕ) → ℕ → Said
said_at lines n = said_by (own_words_at lines n) (chip_before lines n) (block_over lines n)

-- ---- links

-- whether a line after the statement, and before the line n, makes a choice that passes the test
abbrev pub any_since : List (List ℕ) → Option ℕ → ℕ → (LinkChoice → Bool) → Bool
any_since lines None n test = any_below n (λ k. list_any test (said_at lines k).choices)
any_since lines (Some place) n test = any_below n (λ k. nat_lt place k && list_any test (said_at lines k).choices)

-- whether an earlier line of the same statement makes a choice that passes the test
unfoldable pub is_chosen_before : List (List ℕ) → ℕ → (LinkChoice → Bool) → Bool
is_chosen_before lines n test = any_since lines (statement_over lines n) n test

abbrev pub has_same_values : LinkChoice → LinkChoice → Bool
has_same_values choice other = pointwise beq choice.values other.values

abbrev pub is_same_choice : LinkChoice → LinkChoice → Bool
is_same_choice choice other = has_same_values choice other && (choice.src == other.src)

-- whether the other choice has the same values, but another source net
abbrev pub is_other_choice : LinkChoice → LinkChoice → Bool
is_other_choice choice other = has_same_values choice other && not (choice.src == other.src)

abbrev pub link_of : LinkHead → LinkChoice → Link
link_of head choice = record { x = head.x; y = head.y; dst = head.dst; src = choice.src; bits = head.bits; values = choice.values }

-- the choices, without those that an earlier line of the same statement makes
abbrev pub new_choices : List (List ℕ) → ℕ → List LinkChoice → List LinkChoice
new_choices lines n [] = []
new_choices lines n (choice ∷ choices) = if is_chosen_before lines n (is_same_choice choice) then [] else choice ∷ choices

abbrev pub buffers_in : Block → List LinkChoice → List Link
buffers_in (buffers head) choices = map (link_of head) choices
buffers_in block choices = []

abbrev pub routings_in : Block → List LinkChoice → List Link
routings_in (routings head) choices = map (link_of head) choices
routings_in block choices = []

-- the link that a line of a `.buffer` gives; a line equal to an earlier one of its statement gives none
unfoldable pub buffers_at : List (List ℕ) → ℕ → List Link
buffers_at lines n = buffers_in (block_over lines n) (new_choices lines n (said_at lines n).choices)

-- the link that a line of a `.routing` gives
unfoldable pub routings_at : List (List ℕ) → ℕ → List Link
routings_at lines n = routings_in (block_over lines n) (said_at lines n).choices

-- ---- PLLs

-- what the statement at a place says of the lines below it; nothing if the line there is no statement, or a faulty one
unfoldable pub begun_at : List (List ℕ) → ℕ → Block
begun_at lines n = if is_statement (line_at lines n) then result_unwrap_or (statement_at lines n) passed else passed

-- whether this is what a statement of the PLL at (x, y) says
abbrev pub is_pll : ℕ → ℕ → Block → Bool
is_pll x y (pll other_x other_y) = (other_x == x) && (other_y == y)
is_pll x y block = false

-- whether a line before a place is a statement of the PLL at (x, y)
unfoldable pub is_pll_before : List (List ℕ) → ℕ → ℕ → ℕ → Bool
is_pll_before lines n x y = any_below n (λ k. is_pll x y (begun_at lines k))

-- whether the line at a place is the first statement of the PLL at (x, y)
abbrev pub is_first_pll : List (List ℕ) → ℕ → ℕ → ℕ → Bool
is_first_pll lines n x y = is_pll x y (begun_at lines n) && not (is_pll_before lines n x y)

-- a tile (x, y), if no line before a place is a statement of its PLL
abbrev pub tile_in : List (List ℕ) → ℕ → Block → List (ℕ × ℕ)
tile_in lines n (pll x y) = if is_pll_before lines n x y then [] else (x, y) ∷ []
tile_in lines n block = []

-- the tile of the PLL whose first statement is at a place
unfoldable pub pll_tile_at : List (List ℕ) → ℕ → List (ℕ × ℕ)
pll_tile_at lines n = tile_in lines n (begun_at lines n)

-- whether one tile comes before another: by y, then by x
abbrev pub is_tile_before : ℕ × ℕ → ℕ × ℕ → Bool
is_tile_before tile other = nat_lt tile.1 other.1 || ((tile.1 == other.1) && nat_lt tile.0 other.0)

-- tiles in their order, with one more: it goes in front of the first that comes after it
abbrev pub put_tile : List (ℕ × ℕ) → ℕ × ℕ → List (ℕ × ℕ)
put_tile [] tile = tile ∷ []
put_tile (first ∷ tiles) tile = if is_tile_before tile first then tile ∷ first ∷ tiles else first ∷ put_tile tiles tile

-- tiles in their order
unfoldable pub by_tile : List (ℕ × ℕ) → List (ℕ × ℕ)
by_tile tiles = fold put_tile [] tiles

-- whether a line after the statement, and before the line n, gives that name to a PLL
abbrev pub is_pll_named_since : List (List ℕ) → Option ℕ → ℕ → List ℕ → Bool
is_pll_named_since lines None n name = false
is_pll_named_since lines (Some place) n name = any_below n (λ k. nat_lt place k && list_any (λ line. bytes_eq name line.name) (said_at lines k).pll_lines)

-- whether an earlier line of the same statement has that name
unfoldable pub is_pll_named_before : List (List ℕ) → ℕ → List ℕ → Bool
is_pll_named_before lines n name = is_pll_named_since lines (statement_over lines n) n name

-- the lines, without those whose name an earlier line of the same statement has
abbrev pub new_pll_lines : List (List ℕ) → ℕ → List PllLine → List PllLine
new_pll_lines lines n [] = []
new_pll_lines lines n (line ∷ more) = if is_pll_named_before lines n line.name then [] else line ∷ []

-- whether the statement at that place, if there is one, is the first of the PLL at (x, y)
abbrev pub is_first_of : List (List ℕ) → ℕ → ℕ → Option ℕ → Bool
is_first_of lines x y None = false
is_first_of lines x y (Some place) = is_first_pll lines place x y

-- the line that the line at a place gives to the PLL at (x, y), if it belongs to the first statement of the PLL
unfoldable pub pll_line_at : List (List ℕ) → ℕ → ℕ → ℕ → List PllLine
pll_line_at lines x y n =
    if is_first_of lines x y (statement_over lines n) then new_pll_lines lines n (said_at lines n).pll_lines else []

-- the PLL at a tile, with its lines among those before the line n
abbrev pub pll_below : List (List ℕ) → ℕ → ℕ × ℕ → Pll
pll_below lines n tile = record { x = tile.0; y = tile.1; lines = gathered_below n (pll_line_at lines tile.0 tile.1) }

-- ---- the whole

-- the database that lines give, with a device
unfoldable pub database_of : Chip → List (List ℕ) → Database
database_of chip lines =
    let count = length lines in
    record {
      chip = chip;
      names = gathered_below count (λ n. (said_at lines n).names);
      buffers = gathered_below count (buffers_at lines);
      routings = gathered_below count (routings_at lines);
      functions = gathered_below count (λ n. (said_at lines n).functions);
      extras = gathered_below count (λ n. (said_at lines n).extras);
      global_inputs = gathered_below count (λ n. (said_at lines n).global_inputs);
      global_pins = gathered_below count (λ n. (said_at lines n).global_pins);
      plls = map (pll_below lines count) (by_tile (gathered_below count (pll_tile_at lines)));
    }
