-- The messages for faults of what tools read: a text, a bitstream, a database.
use Rattle.std.specs.Prelude.{ℕ, List, [], ◌++◌, codes, decimal, Option, None, Some}
use Rattle.plane_map.specs.declared.tile.TileKind.{TileKind}
use Rattle.plane_map.specs.declared.tile.TileKind.TheVariants.{Io, Logic, RamB, RamT}
use Rattle.bin_stream.specs.declared.fault.BinCause.{BinCause}
use Rattle.bin_stream.specs.declared.fault.BinCause.TheVariants.{NoPreamble, Truncated, UnknownCommand, LongPayload, BadBank, BadWidth, BadHeight, DataEnd, Check, BadRange, BadMode, NoDevice as StreamDevice}
use Rattle.asc_text.specs.declared.fault.TileXy.{TileXy}
use Rattle.asc_text.specs.declared.fault.AscCause.{AscCause}
use Rattle.asc_text.specs.declared.fault.AscCause.TheVariants.{Statement, NoDevice, Device, Coordinates, Kind, Row, Repeated, Hex, ExtraPlace, Setting, StrayData, CommentByte}
use Rattle.tool_run.specs.Lines.{four_digits}
use Rattle.chipdb_lines.specs.declared.cause.DbCause.{DbCause}
use Rattle.chipdb_lines.specs.declared.cause.DbCause.TheVariants as database

-- ---- a fault of a text

abbrev pub kind_name : TileKind → List ℕ
kind_name Io = codes "io"
kind_name Logic = codes "logic"
kind_name RamB = codes "ramb"
kind_name RamT = codes "ramt"

-- what is wrong with a line; if it names another kind of tile than that at its place, also the expected kind
abbrev pub asc_cause_text : AscCause → List ℕ
asc_cause_text Statement = codes "Statement"
asc_cause_text NoDevice = codes "NoDevice"
asc_cause_text Device = codes "Device"
asc_cause_text Coordinates = codes "Coordinates"
asc_cause_text (Kind expected) = codes "Kind expected " ++ kind_name expected
asc_cause_text Row = codes "Row"
asc_cause_text Repeated = codes "Repeated"
asc_cause_text Hex = codes "Hex"
asc_cause_text ExtraPlace = codes "ExtraPlace"
asc_cause_text Setting = codes "Setting"
asc_cause_text StrayData = codes "StrayData"
asc_cause_text CommentByte = codes "CommentByte"

-- the tile that a line belongs to, if it belongs to one
abbrev pub tile_text : Option TileXy → List ℕ
tile_text None = []
tile_text (Some tile) = codes "tile " ++ decimal tile.x ++ codes " " ++ decimal tile.y ++ codes ": "

abbrev pub asc_fault_text : ℕ → Option TileXy → AscCause → List ℕ
asc_fault_text line tile cause = codes "line " ++ decimal line ++ codes ": " ++ tile_text tile ++ asc_cause_text cause

-- ---- a fault of a bitstream

-- what is wrong with a bitstream; for a wrong CRC, the value that was found is written after it
abbrev pub bin_cause_text : BinCause → List ℕ
bin_cause_text NoPreamble = codes "NoPreamble"
bin_cause_text Truncated = codes "Truncated"
bin_cause_text UnknownCommand = codes "UnknownCommand"
bin_cause_text LongPayload = codes "LongPayload"
bin_cause_text BadBank = codes "BadBank"
bin_cause_text BadWidth = codes "BadWidth"
bin_cause_text BadHeight = codes "BadHeight"
bin_cause_text DataEnd = codes "DataEnd"
bin_cause_text (Check found) = codes "Check " ++ four_digits found
bin_cause_text BadRange = codes "BadRange"
bin_cause_text BadMode = codes "BadMode"
bin_cause_text StreamDevice = codes "NoDevice"

abbrev pub bin_fault_text : ℕ → BinCause → List ℕ
bin_fault_text offset cause = codes "offset " ++ decimal offset ++ codes ": " ++ bin_cause_text cause

-- ---- a fault of a database

-- what is wrong with a line of a database
abbrev pub db_cause_text : DbCause → List ℕ
db_cause_text database.NoDevice = codes "NoDevice"
db_cause_text database.Device = codes "Device"
db_cause_text database.Number = codes "Number"
db_cause_text database.TileKind = codes "TileKind"
db_cause_text database.NetRange = codes "NetRange"
db_cause_text database.NetTwice = codes "NetTwice"
db_cause_text database.NameTwice = codes "NameTwice"
db_cause_text database.BitName = codes "BitName"
db_cause_text database.BitRange = codes "BitRange"
db_cause_text database.CellBits = codes "CellBits"
db_cause_text database.ValueLength = codes "ValueLength"
db_cause_text database.ValuesTwice = codes "ValuesTwice"

abbrev pub db_fault_text : ℕ → DbCause → List ℕ
db_fault_text line cause = codes "database line " ++ decimal line ++ codes ": " ++ db_cause_text cause
