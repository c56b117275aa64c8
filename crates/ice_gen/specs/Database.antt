-- The chip database of the generated design, as one list of lines. The form is that of Project IceStorm, 'icebox chip database'; the design
-- is this project's choice.
use Rattle.std.specs.Prelude.{ℕ, ◌+◌, ◌-◌, ◌*◌, Bool, true, false, ◌&&◌, List, [], ◌∷◌, ◌++◌, map, codes, decimal, nat_le, nat_lt, ◌==◌, if◌then◌else◌, Option, None, Some}
use Rattle.index_search.specs.Places.{gathered_below}
use Rattle.text_lines.specs.Written.{text_of}
use Rattle.plane_map.specs.Layout.{kind_of, grid_width, grid_height, cram_width, cram_height}
use Rattle.plane_map.specs.declared.device.DeviceName.{DeviceName}
use Rattle.plane_map.specs.declared.tile.Place.{Place}
use Rattle.plane_map.specs.declared.tile.TileKind.{TileKind}
use Rattle.plane_map.specs.declared.tile.TileKind.TheVariants.{Io, Logic, RamB, RamT}
use Rattle.plane_map.specs.DeviceWords.{device_word}
use Rattle.asc_text.specs.Statements.{device_keyword}
use Rattle.asc_text.specs.Canonical.{with_word, grid_line}
use Rattle.ice_gen.specs.Numbers.{rams, nets, cell_number, ram_number, clock_net, input_net, out_net, in_0_net, address_net, write_net, read_net, in_3_net, read_enable_net, write_enable_net, middle_net}

-- ---- before the nets

-- the name of the device, the size of its grid, and the number of nets
abbrev pub device_line : DeviceName → List ℕ
device_line device = with_word (grid_line (with_word device_keyword (device_word device)) (grid_width device) (grid_height device)) (decimal (nets device))

-- `B<row>[<column>]`
abbrev pub bit_word : ℕ → ℕ → List ℕ
bit_word row col = 66 ∷ decimal row ++ 91 ∷ decimal col ++ 93 ∷ []

-- bit k of PIN_TYPE of the first pin (`SB_IO`)
abbrev pub pin_type_line : ℕ → List ℕ
pin_type_line k = with_word (codes "IOB_0.PINTYPE_" ++ decimal k) (bit_word k 0)

-- the bits of a logic cell in one of its two rows, each after a space
abbrev pub ten_bits : ℕ → List ℕ
ten_bits row = gathered_below 10 (λ k. 32 ∷ bit_word row (36 + k))

-- the twenty bits of cell i of a logic tile
abbrev pub cell_line : ℕ → List ℕ
cell_line i = codes "LC_" ++ decimal i ++ ten_bits (2 * i) ++ ten_bits (2 * i + 1)

-- the place of the extra bit by which a pad drives the global net 0: the last column but one of the last row of bank 0, which belongs to no
-- tile
abbrev pub pad_drive : DeviceName → Place
pad_drive device = record { bank = 0; px = cram_width device - 2; py = cram_height device - 1 }

abbrev pub pad_drive_line : DeviceName → List ℕ
pad_drive_line device = grid_line (with_word (codes "padin_glb_netwk.0") (decimal (pad_drive device).bank)) (pad_drive device).px (pad_drive device).py

unfoldable pub head_lines : DeviceName → List (List ℕ)
head_lines device =
    device_line device
    ∷ codes ".gbufpin" ∷ codes "0 1 0 0"
    ∷ codes ".io_tile_bits 18 16" ∷ gathered_below 6 (λ k. pin_type_line k ∷ [])
    ++ codes ".logic_tile_bits 54 16" ∷ gathered_below 8 (λ i. cell_line i ∷ [])
    ++ codes ".extra_bits" ∷ pad_drive_line device ∷ []

-- ---- the names of nets
--
-- Each tile gives names to nets. The names that a tile gives to the same net come in the order of their bytes.

-- a name, if the test passes
abbrev pub named : Bool → List ℕ → List (List ℕ)
named true name = name ∷ []
named false name = []

-- the name of a net, if it is one of `count` nets in sequence; the name ends in its number among them
abbrev pub numbered : ℕ → ℕ → ℕ → List ℕ → List (List ℕ)
numbered net first count word = named (nat_le first net && nat_lt net (first + count)) (word ++ decimal (net - first))

-- the name of a wire of cell i of a tile
abbrev pub cell_wire : ℕ → List ℕ → List ℕ
cell_wire i wire = codes "lutff_" ++ decimal i ++ wire

-- The names that cell i of a tile gives, which is cell j of the device. Its input in_1 is the output of cell j - 2.
unfoldable pub cell_names : DeviceName → ℕ → ℕ → ℕ → List (List ℕ)
cell_names device net j i =
    named (net == in_0_net device j) (cell_wire i (codes "/in_0"))
    ++ named (nat_le 2 j && (net == out_net (j - 2))) (cell_wire i (codes "/in_1"))
    ++ named (nat_lt j (rams device) && (net == in_3_net device j)) (cell_wire i (codes "/in_3"))
    ++ named (net == out_net j) (cell_wire i (codes "/out"))

-- the names that a logic tile gives
unfoldable pub logic_names : DeviceName → ℕ → ℕ → ℕ → List (List ℕ)
logic_names device net x y =
    named (net == clock_net) (codes "glb_netwk_0")
    ++ gathered_below 8 (λ i. cell_names device net (cell_number device x y i) i)
    ++ named (net == clock_net) (codes "lutff_global/clk")

-- the names that the lower tile of RAM r gives
unfoldable pub ram_names : DeviceName → ℕ → ℕ → List (List ℕ)
ram_names device net r =
    numbered net (address_net r 0) 8 (codes "ram/RADDR_")
    ++ named (net == clock_net) (codes "ram/RCLK")
    ++ numbered net (read_net device r 0) 16 (codes "ram/RDATA_")
    ++ named (net == read_enable_net device) (codes "ram/RE")
    ++ numbered net (address_net r 0) 8 (codes "ram/WADDR_")
    ++ named (net == clock_net) (codes "ram/WCLK")
    ++ numbered net (write_net r 0) 16 (codes "ram/WDATA_")
    ++ named (net == write_enable_net device) (codes "ram/WE")

-- the names that an io tile gives: the first pins of three tiles at the left edge are an input and two outputs
unfoldable pub pin_names : DeviceName → ℕ → ℕ → ℕ → List (List ℕ)
pin_names device net x y =
    named ((x == 0) && (y == 2) && (net == input_net)) (codes "io_0/D_IN_0")
    ++ named ((x == 0) && (y == 3) && (net == read_enable_net device)) (codes "io_0/D_OUT_0")
    ++ named ((x == 0) && (y == 4) && (net == middle_net device)) (codes "io_0/D_OUT_0")

abbrev pub names_by_kind : DeviceName → ℕ → ℕ → ℕ → Option TileKind → List (List ℕ)
names_by_kind device net x y None = []
names_by_kind device net x y (Some Io) = pin_names device net x y
names_by_kind device net x y (Some Logic) = logic_names device net x y
names_by_kind device net x y (Some RamB) = ram_names device net (ram_number device x y)
names_by_kind device net x y (Some RamT) = []

-- the names that the tile at (x, y) gives to a net
abbrev pub names_at : DeviceName → ℕ → ℕ → ℕ → List (List ℕ)
names_at device net x y = names_by_kind device net x y (kind_of device x y)

-- a name, after the place of its tile
abbrev pub name_line : ℕ → ℕ → List ℕ → List ℕ
name_line x y name = with_word (with_word (decimal x) (decimal y)) name

-- the names that the tiles of a row of the grid give to a net
abbrev pub names_in_row : DeviceName → ℕ → ℕ → List (List ℕ)
names_in_row device net y = gathered_below (grid_width device) (λ x. map (name_line x y) (names_at device net x y))

-- a net and all its names
unfoldable pub net_lines : DeviceName → ℕ → List (List ℕ)
net_lines device net = with_word (codes ".net") (decimal net) ∷ gathered_below (grid_height device) (names_in_row device net)

-- ---- buffers

-- the statement of a buffer in a tile, into a net
abbrev pub buffer_line : ℕ → ℕ → ℕ → List ℕ
buffer_line x y net = with_word (grid_line (codes ".buffer") x y) (decimal net)

-- The two nets that can drive in_0 of cell j. Near: the output of cell j - 1, or the input pin for cell 0. Far: the output of cell j - 3,
-- or the clock for the first three cells.
abbrev pub near_net : ℕ → ℕ
near_net j = 1 + j

abbrev pub far_net : ℕ → ℕ
far_net j = if nat_lt j 3 then clock_net else j - 1

-- the statement of the buffer into in_0 of cell j, which is cell i of its tile
abbrev pub in_0_statement : DeviceName → ℕ → ℕ → ℕ → ℕ → List ℕ
in_0_statement device x y j i = with_word (with_word (buffer_line x y (in_0_net device j)) (bit_word (2 * i) 0)) (bit_word (2 * i + 1) 0)

unfoldable pub in_0_lines : DeviceName → ℕ → ℕ → ℕ → ℕ → List (List ℕ)
in_0_lines device x y j i =
    in_0_statement device x y j i
    ∷ with_word (codes "10") (decimal (near_net j))
    ∷ with_word (codes "01") (decimal (far_net j)) ∷ []

-- the buffer into in_3 of cell r, driven by the first output of RAM r
unfoldable pub in_3_lines : DeviceName → ℕ → ℕ → ℕ → ℕ → List (List ℕ)
in_3_lines device x y r i =
    with_word (buffer_line x y (in_3_net device r)) (bit_word (2 * i) 1)
    ∷ with_word (codes "1") (decimal (read_net device r 0)) ∷ []

-- the buffer into in_3 of cell j, if there is a RAM with that number
abbrev pub in_3_lines_below : DeviceName → ℕ → ℕ → ℕ → ℕ → List (List ℕ)
in_3_lines_below device x y j i = if nat_lt j (rams device) then in_3_lines device x y j i else []

-- what each cell of the tile at (x, y) gives, by the number of the cell in the device and in the tile
abbrev pub by_cells : DeviceName → (ℕ → ℕ → List (List ℕ)) → ℕ → ℕ → Option TileKind → List (List ℕ)
by_cells device lines x y (Some Logic) = gathered_below 8 (λ i. lines (cell_number device x y i) i)
by_cells device lines x y kind = []

-- what all cells give, in order
abbrev pub by_all_cells : DeviceName → (ℕ → ℕ → ℕ → ℕ → List (List ℕ)) → List (List ℕ)
by_all_cells device lines =
    gathered_below (grid_height device) (λ y. gathered_below (grid_width device) (λ x.
    by_cells device (lines x y) x y (kind_of device x y)))

-- ---- the whole

unfoldable pub database_lines : DeviceName → List (List ℕ)
database_lines device =
    head_lines device
    ++ gathered_below (nets device) (net_lines device)
    ++ by_all_cells device (in_0_lines device)
    ++ by_all_cells device (in_3_lines_below device)

-- the whole text
unfoldable pub generated_database : DeviceName → List ℕ
generated_database device = text_of (database_lines device)
