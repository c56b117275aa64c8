-- The definitions at small texts, worked out by hand.
use Rattle.std.proofs.Common.{◌≡◌, [], ◌∷◌, refl}
use Rattle.std.specs.Prelude.{codes, Some, None}
use Rattle.text_lines.specs.Lines.{lines_of}
use Rattle.text_lines.specs.Words.{words_of, pieces_of, number_of, numbers_of}
use Rattle.index_search.specs.Places.{any_below, last_below, first_below, gathered_below}
use Rattle.plane_map.specs.Layout.{kind_of}
use Rattle.plane_map.specs.declared.device.DeviceName.TheVariants.{Hx1k}
use Rattle.chipdb_lines.specs.declared.cause.DbCause.TheVariants.{NoDevice, Device, Number, TileKind, NetRange, NetTwice, NameTwice, BitName, BitRange, CellBits, ValueLength, ValuesTwice}
use Rattle.chipdb_lines.specs.Words.{own_words, bit_of, bits_of}
use Rattle.chipdb_lines.specs.Statements.{keyword_of, chip_of_words, tile_bits_of, link_of_words, block_of, extra_cell_of, statement_of}
use Rattle.chipdb_lines.specs.Items.{global_input_of, global_pin_of, function_of, extra_of, name_of, choice_of, pll_line_of}
use Rattle.chipdb_reader.specs.Blocks.{chip_in, chip_before, statement_at, statement_over, block_over}
use Rattle.chipdb_reader.specs.Database.{begun_at, by_tile, is_pll_before, is_pll_named_before, pll_line_at, pll_tile_at, said_at, is_chosen_before, buffers_at, routings_at, database_of}
use Rattle.chipdb_reader.specs.Faults.{is_net_before, is_named_before, cause_at, fault_of_lines, db_fault_of}

-- an empty text has no device
empty : db_fault_of (codes "") ≡ Some (record { line = 1; cause = NoDevice })
unfolding lines_of words_of pieces_of number_of numbers_of any_below last_below first_below gathered_below kind_of own_words bit_of bits_of keyword_of chip_of_words tile_bits_of link_of_words block_of statement_of global_input_of global_pin_of function_of extra_of name_of choice_of chip_in chip_before statement_at statement_over block_over said_at is_chosen_before buffers_at routings_at database_of is_net_before is_named_before cause_at fault_of_lines db_fault_of
empty = refl

-- a text of a remark has none either
remark : db_fault_of (codes "# 1k\n") ≡ Some (record { line = 2; cause = NoDevice })
unfolding lines_of words_of pieces_of number_of numbers_of any_below last_below first_below gathered_below kind_of own_words bit_of bits_of keyword_of chip_of_words tile_bits_of link_of_words block_of statement_of global_input_of global_pin_of function_of extra_of name_of choice_of chip_in chip_before statement_at statement_over block_over said_at is_chosen_before buffers_at routings_at database_of is_net_before is_named_before cause_at fault_of_lines db_fault_of
remark = refl

-- a statement before the device
early : db_fault_of (codes ".net 0") ≡ Some (record { line = 1; cause = NoDevice })
unfolding lines_of words_of pieces_of number_of numbers_of any_below last_below first_below gathered_below kind_of own_words bit_of bits_of keyword_of chip_of_words tile_bits_of link_of_words block_of statement_of global_input_of global_pin_of function_of extra_of name_of choice_of chip_in chip_before statement_at statement_over block_over said_at is_chosen_before buffers_at routings_at database_of is_net_before is_named_before cause_at fault_of_lines db_fault_of
early = refl

-- a statement that is passed over needs no device
unknown : db_fault_of (codes ".pins x\n") ≡ Some (record { line = 2; cause = NoDevice })
unfolding lines_of words_of pieces_of number_of numbers_of any_below last_below first_below gathered_below kind_of own_words bit_of bits_of keyword_of chip_of_words tile_bits_of link_of_words block_of statement_of global_input_of global_pin_of function_of extra_of name_of choice_of chip_in chip_before statement_at statement_over block_over said_at is_chosen_before buffers_at routings_at database_of is_net_before is_named_before cause_at fault_of_lines db_fault_of
unknown = refl

-- another device
device : db_fault_of (codes ".device 5k 14 18 6") ≡ Some (record { line = 1; cause = Device })
unfolding lines_of words_of pieces_of number_of numbers_of any_below last_below first_below gathered_below kind_of own_words bit_of bits_of keyword_of chip_of_words tile_bits_of link_of_words block_of statement_of global_input_of global_pin_of function_of extra_of name_of choice_of chip_in chip_before statement_at statement_over block_over said_at is_chosen_before buffers_at routings_at database_of is_net_before is_named_before cause_at fault_of_lines db_fault_of
device = refl

-- another size
size : db_fault_of (codes ".device 1k 14 17 6") ≡ Some (record { line = 1; cause = Device })
unfolding lines_of words_of pieces_of number_of numbers_of any_below last_below first_below gathered_below kind_of own_words bit_of bits_of keyword_of chip_of_words tile_bits_of link_of_words block_of statement_of global_input_of global_pin_of function_of extra_of name_of choice_of chip_in chip_before statement_at statement_over block_over said_at is_chosen_before buffers_at routings_at database_of is_net_before is_named_before cause_at fault_of_lines db_fault_of
size = refl

-- a second device
second_device : db_fault_of (codes ".device 1k 14 18 6\n.device 1k 14 18 6\n") ≡ Some (record { line = 2; cause = Device })
unfolding lines_of words_of pieces_of number_of numbers_of any_below last_below first_below gathered_below kind_of own_words bit_of bits_of keyword_of chip_of_words tile_bits_of link_of_words block_of statement_of global_input_of global_pin_of function_of extra_of name_of choice_of chip_in chip_before statement_at statement_over block_over said_at is_chosen_before buffers_at routings_at database_of is_net_before is_named_before cause_at fault_of_lines db_fault_of
second_device = refl

-- a word that is no number
number : db_fault_of (codes ".device 1k 14 18 6\n.net x") ≡ Some (record { line = 2; cause = Number })
unfolding lines_of words_of pieces_of number_of numbers_of any_below last_below first_below gathered_below kind_of own_words bit_of bits_of keyword_of chip_of_words tile_bits_of link_of_words block_of statement_of global_input_of global_pin_of function_of extra_of name_of choice_of chip_in chip_before statement_at statement_over block_over said_at is_chosen_before buffers_at routings_at database_of is_net_before is_named_before cause_at fault_of_lines db_fault_of
number = refl

-- a word too many
words : db_fault_of (codes ".device 1k 14 18 6\n.gbufin 1") ≡ Some (record { line = 2; cause = Number })
unfolding lines_of words_of pieces_of number_of numbers_of any_below last_below first_below gathered_below kind_of own_words bit_of bits_of keyword_of chip_of_words tile_bits_of link_of_words block_of statement_of global_input_of global_pin_of function_of extra_of name_of choice_of chip_in chip_before statement_at statement_over block_over said_at is_chosen_before buffers_at routings_at database_of is_net_before is_named_before cause_at fault_of_lines db_fault_of
words = refl

-- a global net above 7
global : db_fault_of (codes ".device 1k 14 18 6\n.gbufin\n0 0 8") ≡ Some (record { line = 3; cause = Number })
unfolding lines_of words_of pieces_of number_of numbers_of any_below last_below first_below gathered_below kind_of own_words bit_of bits_of keyword_of chip_of_words tile_bits_of link_of_words block_of statement_of global_input_of global_pin_of function_of extra_of name_of choice_of chip_in chip_before statement_at statement_over block_over said_at is_chosen_before buffers_at routings_at database_of is_net_before is_named_before cause_at fault_of_lines db_fault_of
global = refl

-- a place outside of the grid
outside : db_fault_of (codes ".device 1k 14 18 6\n.net 0\n14 0 a") ≡ Some (record { line = 3; cause = Number })
unfolding lines_of words_of pieces_of number_of numbers_of any_below last_below first_below gathered_below kind_of own_words bit_of bits_of keyword_of chip_of_words tile_bits_of link_of_words block_of statement_of global_input_of global_pin_of function_of extra_of name_of choice_of chip_in chip_before statement_at statement_over block_over said_at is_chosen_before buffers_at routings_at database_of is_net_before is_named_before cause_at fault_of_lines db_fault_of
outside = refl

-- links without a bit
no_bit : db_fault_of (codes ".device 1k 14 18 6\n.buffer 1 1 1") ≡ Some (record { line = 2; cause = Number })
unfolding lines_of words_of pieces_of number_of numbers_of any_below last_below first_below gathered_below kind_of own_words bit_of bits_of keyword_of chip_of_words tile_bits_of link_of_words block_of statement_of global_input_of global_pin_of function_of extra_of name_of choice_of chip_in chip_before statement_at statement_over block_over said_at is_chosen_before buffers_at routings_at database_of is_net_before is_named_before cause_at fault_of_lines db_fault_of
no_bit = refl

-- no tile at a corner
corner : db_fault_of (codes ".device 1k 14 18 6\n.gbufin\n0 0 7") ≡ Some (record { line = 3; cause = TileKind })
unfolding lines_of words_of pieces_of number_of numbers_of any_below last_below first_below gathered_below kind_of own_words bit_of bits_of keyword_of chip_of_words tile_bits_of link_of_words block_of statement_of global_input_of global_pin_of function_of extra_of name_of choice_of chip_in chip_before statement_at statement_over block_over said_at is_chosen_before buffers_at routings_at database_of is_net_before is_named_before cause_at fault_of_lines db_fault_of
corner = refl

-- another kind of tile
kind : db_fault_of (codes ".device 1k 14 18 6\n.logic_tile 3 1") ≡ Some (record { line = 2; cause = TileKind })
unfolding lines_of words_of pieces_of number_of numbers_of any_below last_below first_below gathered_below kind_of own_words bit_of bits_of keyword_of chip_of_words tile_bits_of link_of_words block_of statement_of global_input_of global_pin_of function_of extra_of name_of choice_of chip_in chip_before statement_at statement_over block_over said_at is_chosen_before buffers_at routings_at database_of is_net_before is_named_before cause_at fault_of_lines db_fault_of
kind = refl

-- tiles of another size
columns : db_fault_of (codes ".device 1k 14 18 6\n.io_tile_bits 54 16") ≡ Some (record { line = 2; cause = TileKind })
unfolding lines_of words_of pieces_of number_of numbers_of any_below last_below first_below gathered_below kind_of own_words bit_of bits_of keyword_of chip_of_words tile_bits_of link_of_words block_of statement_of global_input_of global_pin_of function_of extra_of name_of choice_of chip_in chip_before statement_at statement_over block_over said_at is_chosen_before buffers_at routings_at database_of is_net_before is_named_before cause_at fault_of_lines db_fault_of
columns = refl

-- a net that there is not
range : db_fault_of (codes ".device 1k 14 18 6\n.net 6") ≡ Some (record { line = 2; cause = NetRange })
unfolding lines_of words_of pieces_of number_of numbers_of any_below last_below first_below gathered_below kind_of own_words bit_of bits_of keyword_of chip_of_words tile_bits_of link_of_words block_of statement_of global_input_of global_pin_of function_of extra_of name_of choice_of chip_in chip_before statement_at statement_over block_over said_at is_chosen_before buffers_at routings_at database_of is_net_before is_named_before cause_at fault_of_lines db_fault_of
range = refl

-- the net before the bit
range_first : db_fault_of (codes ".device 1k 14 18 6\n.buffer 1 1 6 X") ≡ Some (record { line = 2; cause = NetRange })
unfolding lines_of words_of pieces_of number_of numbers_of any_below last_below first_below gathered_below kind_of own_words bit_of bits_of keyword_of chip_of_words tile_bits_of link_of_words block_of statement_of global_input_of global_pin_of function_of extra_of name_of choice_of chip_in chip_before statement_at statement_over block_over said_at is_chosen_before buffers_at routings_at database_of is_net_before is_named_before cause_at fault_of_lines db_fault_of
range_first = refl

-- a net begun twice
net_twice : db_fault_of (codes ".device 1k 14 18 6\n.net 5\n.net 05") ≡ Some (record { line = 3; cause = NetTwice })
unfolding lines_of words_of pieces_of number_of numbers_of any_below last_below first_below gathered_below kind_of own_words bit_of bits_of keyword_of chip_of_words tile_bits_of link_of_words block_of statement_of global_input_of global_pin_of function_of extra_of name_of choice_of chip_in chip_before statement_at statement_over block_over said_at is_chosen_before buffers_at routings_at database_of is_net_before is_named_before cause_at fault_of_lines db_fault_of
net_twice = refl

-- a name given twice
name_twice : db_fault_of (codes ".device 1k 14 18 6\n.net 0\n1 1 a\n.net 1\n01 1\ta ") ≡ Some (record { line = 5; cause = NameTwice })
unfolding lines_of words_of pieces_of number_of numbers_of any_below last_below first_below gathered_below kind_of own_words bit_of bits_of keyword_of chip_of_words tile_bits_of link_of_words block_of statement_of global_input_of global_pin_of function_of extra_of name_of choice_of chip_in chip_before statement_at statement_over block_over said_at is_chosen_before buffers_at routings_at database_of is_net_before is_named_before cause_at fault_of_lines db_fault_of
name_twice = refl

-- a bit that is not written so
bit_name : db_fault_of (codes ".device 1k 14 18 6\n.io_tile_bits 18 16\nF B0[0] B0[0") ≡ Some (record { line = 3; cause = BitName })
unfolding lines_of words_of pieces_of number_of numbers_of any_below last_below first_below gathered_below kind_of own_words bit_of bits_of keyword_of chip_of_words tile_bits_of link_of_words block_of statement_of global_input_of global_pin_of function_of extra_of name_of choice_of chip_in chip_before statement_at statement_over block_over said_at is_chosen_before buffers_at routings_at database_of is_net_before is_named_before cause_at fault_of_lines db_fault_of
bit_name = refl

-- the name of a later bit goes before the range of an earlier one
bit_name_first : db_fault_of (codes ".device 1k 14 18 6\n.io_tile_bits 18 16\nF B16[0] X") ≡ Some (record { line = 3; cause = BitName })
unfolding lines_of words_of pieces_of number_of numbers_of any_below last_below first_below gathered_below kind_of own_words bit_of bits_of keyword_of chip_of_words tile_bits_of link_of_words block_of statement_of global_input_of global_pin_of function_of extra_of name_of choice_of chip_in chip_before statement_at statement_over block_over said_at is_chosen_before buffers_at routings_at database_of is_net_before is_named_before cause_at fault_of_lines db_fault_of
bit_name_first = refl

-- a bit outside of the tile
bit_range : db_fault_of (codes ".device 1k 14 18 6\n.io_tile_bits 18 16\nF B15[18]") ≡ Some (record { line = 3; cause = BitRange })
unfolding lines_of words_of pieces_of number_of numbers_of any_below last_below first_below gathered_below kind_of own_words bit_of bits_of keyword_of chip_of_words tile_bits_of link_of_words block_of statement_of global_input_of global_pin_of function_of extra_of name_of choice_of chip_in chip_before statement_at statement_over block_over said_at is_chosen_before buffers_at routings_at database_of is_net_before is_named_before cause_at fault_of_lines db_fault_of
bit_range = refl

-- an extra bit outside of the planes
extra_range : db_fault_of (codes ".device 1k 14 18 6\n.extra_bits\nF 0 332 0") ≡ Some (record { line = 3; cause = BitRange })
unfolding lines_of words_of pieces_of number_of numbers_of any_below last_below first_below gathered_below kind_of own_words bit_of bits_of keyword_of chip_of_words tile_bits_of link_of_words block_of statement_of global_input_of global_pin_of function_of extra_of name_of choice_of chip_in chip_before statement_at statement_over block_over said_at is_chosen_before buffers_at routings_at database_of is_net_before is_named_before cause_at fault_of_lines db_fault_of
extra_range = refl

-- a cell with one bit
cell : db_fault_of (codes ".device 1k 14 18 6\n.logic_tile_bits 54 16\nLC_7 B0[0]") ≡ Some (record { line = 3; cause = CellBits })
unfolding lines_of words_of pieces_of number_of numbers_of any_below last_below first_below gathered_below kind_of own_words bit_of bits_of keyword_of chip_of_words tile_bits_of link_of_words block_of statement_of global_input_of global_pin_of function_of extra_of name_of choice_of chip_in chip_before statement_at statement_over block_over said_at is_chosen_before buffers_at routings_at database_of is_net_before is_named_before cause_at fault_of_lines db_fault_of
cell = refl

-- values for two bits
values : db_fault_of (codes ".device 1k 14 18 6\n.routing 1 1 1 B0[0]\n10 0") ≡ Some (record { line = 3; cause = ValueLength })
unfolding lines_of words_of pieces_of number_of numbers_of any_below last_below first_below gathered_below kind_of own_words bit_of bits_of keyword_of chip_of_words tile_bits_of link_of_words block_of statement_of global_input_of global_pin_of function_of extra_of name_of choice_of chip_in chip_before statement_at statement_over block_over said_at is_chosen_before buffers_at routings_at database_of is_net_before is_named_before cause_at fault_of_lines db_fault_of
values = refl

-- the net before the values
values_last : db_fault_of (codes ".device 1k 14 18 6\n.routing 1 1 1 B0[0]\n10 6") ≡ Some (record { line = 3; cause = NetRange })
unfolding lines_of words_of pieces_of number_of numbers_of any_below last_below first_below gathered_below kind_of own_words bit_of bits_of keyword_of chip_of_words tile_bits_of link_of_words block_of statement_of global_input_of global_pin_of function_of extra_of name_of choice_of chip_in chip_before statement_at statement_over block_over said_at is_chosen_before buffers_at routings_at database_of is_net_before is_named_before cause_at fault_of_lines db_fault_of
values_last = refl

-- values that choose two nets
values_twice : db_fault_of (codes ".device 1k 14 18 6\n.buffer 1 1 1 B0[0]\n1 0\n1 00\n1 2") ≡ Some (record { line = 5; cause = ValuesTwice })
unfolding lines_of words_of pieces_of number_of numbers_of any_below last_below first_below gathered_below kind_of own_words bit_of bits_of keyword_of chip_of_words tile_bits_of link_of_words block_of statement_of global_input_of global_pin_of function_of extra_of name_of choice_of chip_in chip_before statement_at statement_over block_over said_at is_chosen_before buffers_at routings_at database_of is_net_before is_named_before cause_at fault_of_lines db_fault_of
values_twice = refl

-- what is passed over, and routings with equal values, are no faults
sound : db_fault_of (codes ".device 1k 14 18 6\n.routing 1 1 1 B0[0]\n1 0\n1 2\n.buffer 1 1 1 B0[0] B1[2]\n10 0\n01 2\n10 0\n\n# x\n.pins\nx y\n.gbufin\n0 7 1\r\n") ≡ None
unfolding lines_of words_of pieces_of number_of numbers_of any_below last_below first_below gathered_below kind_of own_words bit_of bits_of keyword_of chip_of_words tile_bits_of link_of_words block_of statement_of global_input_of global_pin_of function_of extra_of name_of choice_of chip_in chip_before statement_at statement_over block_over said_at is_chosen_before buffers_at routings_at database_of is_net_before is_named_before cause_at fault_of_lines db_fault_of
sound = refl

-- PLLs are in the order of their tiles. A second statement of one tile, a second line of one name, lines of another form and statements of
-- other cells say nothing
plls : (database_of (record { device = Hx1k; nets = 6 }) (lines_of (codes ".device 1k 14 18 6\n.extra_cell 6 9 PLL\nA 0 3 p\n.extra_cell 7 0 PLL\nB 99 2 q\nB 0 2 r\nLOCKED c\nC x 2 r\n.extra_cell 06 9 PLL\nD 0 3 p\n.extra_cell 0 0 WARMBOOT\nE 0 3 p\n"))).plls
    ≡ record { x = 7; y = 0; lines = record { name = codes "B"; x = 99; y = 2; word = codes "q" } ∷ [] } ∷ record { x = 6; y = 9; lines = record { name = codes "A"; x = 0; y = 3; word = codes "p" } ∷ [] } ∷ []
unfolding lines_of words_of pieces_of number_of numbers_of any_below last_below first_below gathered_below kind_of own_words bit_of bits_of keyword_of chip_of_words tile_bits_of link_of_words extra_cell_of block_of statement_of global_input_of global_pin_of function_of extra_of name_of choice_of pll_line_of chip_in chip_before statement_at statement_over block_over said_at is_chosen_before buffers_at routings_at begun_at is_pll_before pll_tile_at by_tile is_pll_named_before pll_line_at database_of
plls = refl

-- a cell before the device is passed over
early_cell : db_fault_of (codes ".extra_cell 6 9 PLL\nA 0 3 p\n.device 1k 14 18 6\n.extra_cell 6 x PLL\n.extra_cell\n.extra_cell 6 9 PLL\nA 0 x p\nA") ≡ None
unfolding lines_of words_of pieces_of number_of numbers_of any_below last_below first_below gathered_below kind_of own_words bit_of bits_of keyword_of chip_of_words tile_bits_of link_of_words extra_cell_of block_of statement_of global_input_of global_pin_of function_of extra_of name_of choice_of pll_line_of chip_in chip_before statement_at statement_over block_over said_at is_chosen_before buffers_at routings_at begun_at is_pll_before pll_tile_at by_tile is_pll_named_before pll_line_at database_of is_net_before is_named_before cause_at fault_of_lines db_fault_of
early_cell = refl
