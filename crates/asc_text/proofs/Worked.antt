-- The definitions at small texts, worked out by hand.
use Rattle.std.proofs.Common.{◌≡◌, [], ℕ, refl}
use Rattle.std.specs.Prelude.{codes, Some, None, Option, true, false}
use Rattle.text_lines.specs.Lines.{lines_of, trimmed}
use Rattle.text_lines.specs.Words.{words_of, pieces_of, from_word, number_of, numbers_of}
use Rattle.index_search.specs.Places.{any_below, least_below, last_below, first_below}
use Rattle.hex.specs.Hex.{decode_pairs}
use Rattle.layout_file.specs.Layouts.{standard_layouts}
use Rattle.plane_map.specs.Layout.{kind_of}
use Rattle.plane_map.specs.declared.tile.TileKind.TheVariants.{RamB}
use Rattle.asc_text.specs.declared.fault.AscCause.{AscCause}
use Rattle.asc_text.specs.declared.fault.AscCause.TheVariants.{NoDevice, Kind, Row, StrayData}
use Rattle.asc_text.specs.Statements.{statement_in}
use Rattle.asc_text.specs.Rows.{is_row, ram_line_bytes}
use Rattle.asc_text.specs.Blocks.{depth_at, opened_before, statement_over, statement_at, dot_before, device_before}
use Rattle.asc_text.specs.Faults.{Fault, cause_at, asc_fault_of}
use Rattle.asc_text.specs.Characters.{tile_statement, ram_statement, character_of, digit_bit_of, is_named_extra}

-- a fault that belongs to no tile
abbrev untiled : ℕ → AscCause → Option Fault
untiled line cause = Some (record { line = line; tile = None; cause = cause })

-- a fault at a tile's statement or rows
abbrev tiled : ℕ → ℕ → ℕ → AscCause → Option Fault
tiled line x y cause = Some (record { line = line; tile = Some (record { x = x; y = y }); cause = cause })

-- an empty text has no device
fault_of_nothing : asc_fault_of standard_layouts [] ≡ untiled 1 NoDevice
unfolding lines_of trimmed words_of pieces_of from_word number_of numbers_of any_below last_below first_below kind_of statement_in is_row depth_at opened_before statement_over statement_at dot_before device_before cause_at asc_fault_of
fault_of_nothing = refl

-- the device alone is a text
fault_of_device : asc_fault_of standard_layouts (codes ".comment\nx\n\n.device 8k \n\n") ≡ None
unfolding lines_of trimmed words_of pieces_of from_word number_of numbers_of any_below last_below first_below kind_of statement_in is_row depth_at opened_before statement_over statement_at dot_before device_before cause_at asc_fault_of
fault_of_device = refl

fault_of_kind : asc_fault_of standard_layouts (codes ".device 1k\n.logic_tile 3 1\n") ≡ tiled 2 3 1 (Kind RamB)
unfolding lines_of trimmed words_of pieces_of from_word number_of numbers_of any_below last_below first_below kind_of statement_in is_row depth_at opened_before statement_over statement_at dot_before device_before cause_at asc_fault_of
fault_of_kind = refl

fault_of_stray : asc_fault_of standard_layouts (codes ".device 1k\n\n x\n") ≡ untiled 3 StrayData
unfolding lines_of trimmed words_of pieces_of from_word number_of numbers_of any_below last_below first_below kind_of statement_in is_row depth_at opened_before statement_over statement_at dot_before device_before cause_at asc_fault_of
fault_of_stray = refl

fault_of_row : asc_fault_of standard_layouts (codes ".device 1k\n.io_tile 1 0\n000000000000000000\n") ≡ tiled 4 1 0 Row
unfolding lines_of trimmed words_of pieces_of from_word number_of numbers_of any_below last_below first_below kind_of statement_in is_row depth_at opened_before statement_over statement_at dot_before device_before cause_at asc_fault_of
fault_of_row = refl

-- the character of row 1 and column 3 of a tile
character_one : character_of (lines_of (codes ".device 1k\n.io_tile 1 0\n000000000000000000\n000100000000000000\n")) (record { x = 1; y = 0; row = 1; col = 3 }) ≡ true
unfolding lines_of trimmed words_of pieces_of from_word number_of numbers_of least_below statement_in depth_at opened_before statement_at tile_statement
character_one = refl

-- a tile that no statement names
character_none : character_of (lines_of (codes ".device 1k\n.io_tile 1 0\n000000000000000000\n000100000000000000\n")) (record { x = 2; y = 0; row = 1; col = 3 }) ≡ false
unfolding lines_of trimmed words_of pieces_of from_word number_of numbers_of least_below statement_in depth_at opened_before statement_at tile_statement
character_none = refl

-- bit 1 of word 16 of a RAM: the last of the digits of the second line
digit_one : digit_bit_of (lines_of (codes ".device 1k\n.ram_data 3 1\n\n0000000000000000000000000000000000000000000000000000000000000002\n")) (record { x = 3; y = 1; word = 16; bit = 1 }) ≡ true
unfolding lines_of trimmed words_of pieces_of from_word number_of numbers_of least_below statement_in depth_at opened_before statement_at ram_line_bytes decode_pairs ram_statement
digit_one = refl

-- an extra bit that a statement names
extra_one : is_named_extra (lines_of (codes ".device 1k\n.extra_bit 0 330 143\n")) (record { bank = 0; px = 330; py = 143 }) ≡ true
unfolding lines_of trimmed words_of pieces_of from_word number_of numbers_of any_below statement_in depth_at opened_before statement_at is_named_extra
extra_one = refl
