-- A database as it is kept, and what it says.
use Rattle.std.specs.Prelude.{ℕ, List, map, length}
use Rattle.plane_map.specs.declared.tile.RowCol.{RowCol}
use Rattle.chipdb_lines.specs.declared.chip.Chip.{Chip}
use Rattle.chipdb_lines.specs.declared.globals.GlobalInput.{GlobalInput}
use Rattle.chipdb_lines.specs.declared.globals.GlobalPin.{GlobalPin}
use Rattle.chipdb_lines.specs.Items.{NameLine, FunctionLine, ExtraLine, PllLine}
use Rattle.bit_plane.specs.BitList.{word_bits}
use Rattle.chipdb_lines.specs.Kept.{bits_named}
use Rattle.chipdb_reader.specs.declared.items.NetName.{NetName}
use Rattle.chipdb_reader.specs.declared.items.LinkLine.{LinkLine}
use Rattle.chipdb_reader.specs.declared.items.Function.{Function}
use Rattle.chipdb_reader.specs.declared.items.Extra.{Extra}
use Rattle.chipdb_reader.specs.declared.items.PllCell.{PllCell}
use Rattle.chipdb_reader.specs.declared.items.PllLine.{PllLine as KeptPllLine}
use Rattle.chipdb_reader.specs.Database.{Database, Link, Pll}
use Rattle.chipdb_reader.specs.Texts.{text_at}

-- what is kept: names and lists of bits by their indexes, the lines of each kind in the order of the text, and the PLLs
pub record Kept : Type 0 where
  pub chip : Chip
  pub texts : List (List ℕ)
  pub bits : List (List RowCol)
  pub names : List (NetName × ℕ)
  pub buffers : List LinkLine
  pub routings : List LinkLine
  pub functions : List Function
  pub extras : List Extra
  pub global_inputs : List GlobalInput
  pub global_pins : List GlobalPin
  pub plls : List Pll

-- a name of a net with its bytes
abbrev pub name_line : List (List ℕ) → NetName × ℕ → NameLine
name_line texts named = record { net = named.1; x = named.0.x; y = named.0.y; name = text_at texts named.0.name }

abbrev pub name_lines : List (List ℕ) → List (NetName × ℕ) → List NameLine
name_lines texts names = map (name_line texts) names

-- a link with its bits and their values
abbrev pub link_line : List (List RowCol) → LinkLine → Link
link_line bits line = record {
  x = line.x;
  y = line.y;
  dst = line.dst;
  src = line.src;
  bits = bits_named bits line.bits;
  values = word_bits (length (bits_named bits line.bits)) line.values;
}

abbrev pub link_lines : List (List RowCol) → List LinkLine → List Link
link_lines bits lines = map (link_line bits) lines

-- a function with its name and bits
abbrev pub function_line : List (List ℕ) → List (List RowCol) → Function → FunctionLine
function_line texts bits function = record { kind = function.kind; name = text_at texts function.name; bits = bits_named bits function.bits }

abbrev pub function_lines : List (List ℕ) → List (List RowCol) → List Function → List FunctionLine
function_lines texts bits functions = map (function_line texts bits) functions

-- an extra bit with its name
abbrev pub extra_line : List (List ℕ) → Extra → ExtraLine
extra_line texts extra = record { name = text_at texts extra.name; at = extra.at }

abbrev pub extra_lines : List (List ℕ) → List Extra → List ExtraLine
extra_lines texts extras = map (extra_line texts) extras

-- a line of a PLL
abbrev pub pll_line : KeptPllLine → PllLine
pll_line line = record { name = line.name.items; x = line.x; y = line.y; word = line.word.items }

-- a PLL with its lines
abbrev pub pll_of : PllCell → Pll
pll_of cell = record { x = cell.x; y = cell.y; lines = map pll_line cell.lines.items }

-- what a kept database says
abbrev pub database_in : Kept → Database
database_in kept = record {
  chip = kept.chip;
  names = name_lines kept.texts kept.names;
  buffers = link_lines kept.bits kept.buffers;
  routings = link_lines kept.bits kept.routings;
  functions = function_lines kept.texts kept.bits kept.functions;
  extras = extra_lines kept.texts kept.extras;
  global_inputs = kept.global_inputs;
  global_pins = kept.global_pins;
  plls = kept.plls;
}
