-- Block RAMs (`SB_RAM40_4K`; Project IceStorm, 'RAM Tile'). A RAM is a lower tile at (x, y) with the upper tile at (x, y + 1), and is named
-- by the lower one.
use Rattle.std.specs.Prelude.{ℕ, ◌+◌, ◌*◌, Bool, false, ◌||◌, List, [], ◌∷◌, ◌++◌, get_or, is_some, codes, if◌then◌else◌, Option}
use Rattle.bit_plane.specs.BitList.{bit_value}
use Rattle.bit_plane.specs.Rows.{row_from}
use Rattle.plane_map.specs.declared.tile.TileKind.TheVariants.{RamB, RamT}
use Rattle.ice_image.specs.Configuration.{Configuration}
use Rattle.ice_image.specs.Bits.{word_bit_of}
use Rattle.chipdb_reader.specs.Database.{Database}
use Rattle.index_search.specs.Places.{any_below, or_else}
use Rattle.narrow_words.specs.Narrow.{share}
use Rattle.fabric_model.specs.declared.ram.RamCell.{RamCell}
use Rattle.fabric_model.specs.On.{is_function_on, is_any_on}
use Rattle.fabric_model.specs.Tiles.{over_tiles, each_below}
use Rattle.fabric_model.specs.Nets.{net_named, ending_in, is_some_read}

-- ---- ports

-- the net of a port: the net with its name at the lower tile, else at the upper one
abbrev pub port_net : Database → ℕ → ℕ → List ℕ → Option ℕ
port_net db x y name = or_else (net_named db x y name) (net_named db x (y + 1) name)

-- the net of a port, such as `ram/WCLK`
abbrev pub ram_net : Database → ℕ → ℕ → List ℕ → Option ℕ
ram_net db x y port = port_net db x y (codes "ram/" ++ port)

-- the nets of `count` ports whose names end in a number, the lowest first
abbrev pub ram_nets : Database → ℕ → ℕ → List ℕ → ℕ → List (Option ℕ)
ram_nets db x y port count = each_below count (λ k. ram_net db x y (ending_in port k))

-- a clock port is inverted if `NegClk` is on in the tile in which its name was found (`SB_RAM40_4KNR`, `SB_RAM40_4KNW` and
-- `SB_RAM40_4KNRNW`)
abbrev pub is_port_inverted : Database → Configuration → ℕ → ℕ → List ℕ → Bool
is_port_inverted db image x y name =
    if is_some (net_named db x y name) then is_function_on db image RamB x y (codes "NegClk")
    else if is_some (net_named db x (y + 1) name) then is_function_on db image RamT x (y + 1) (codes "NegClk")
    else false

-- ---- modes

-- the number that two of the upper tile's functions `RamConfig.CBIT_k` form
abbrev pub mode_of : Database → Configuration → ℕ → ℕ → ℕ → ℕ → ℕ
mode_of db image x y low high =
    bit_value (is_function_on db image RamT x (y + 1) (ending_in (codes "RamConfig.CBIT_") low))
    + 2 * bit_value (is_function_on db image RamT x (y + 1) (ending_in (codes "RamConfig.CBIT_") high))

-- the mode of the write port: WRITE_MODE of `SB_RAM40_4K`
abbrev pub write_mode : Database → Configuration → ℕ → ℕ → ℕ
write_mode db image x y = mode_of db image x y 0 1

-- the mode of the read port: READ_MODE of `SB_RAM40_4K`
abbrev pub read_mode : Database → Configuration → ℕ → ℕ → ℕ
read_mode db image x y = mode_of db image x y 2 3

-- the least port bit at which a mode has data
abbrev pub first_data_bit : ℕ → ℕ
first_data_bit mode = get_or (0 ∷ 0 ∷ 1 ∷ 3 ∷ []) mode 0

-- the port bit that has bit d of a narrow word
abbrev pub data_bit : ℕ → ℕ → ℕ
data_bit mode d = share mode * d + first_data_bit mode

-- whether a function whose name starts with `RamCascade.` is on in one of the two tiles
abbrev pub is_cascaded : Database → Configuration → ℕ → ℕ → Bool
is_cascaded db image x y = is_any_on db image RamB x y (codes "RamCascade.") || is_any_on db image RamT x (y + 1) (codes "RamCascade.")

-- ---- RAMs

-- a RAM is used if a bit of its read data is read
unfoldable pub is_ram_used : Database → Configuration → ℕ → ℕ → Bool
is_ram_used db image x y = any_below 16 (λ bit. is_some_read db image (ram_net db x y (ending_in (codes "RDATA_") bit)))

-- the RAM at (x, y)
unfoldable pub ram_at : Database → Configuration → ℕ → ℕ → RamCell
ram_at db image x y = record {
  x = x;
  y = y;
  read = read_mode db image x y;
  write = write_mode db image x y;
  wneg = is_port_inverted db image x y (codes "ram/WCLK");
  rneg = is_port_inverted db image x y (codes "ram/RCLK");
  rdata = ram_nets db x y (codes "RDATA_") 16;
  wdata = ram_nets db x y (codes "WDATA_") 16;
  mask = ram_nets db x y (codes "MASK_") 16;
  waddr = ram_nets db x y (codes "WADDR_") 11;
  raddr = ram_nets db x y (codes "RADDR_") 11;
  wclk = ram_net db x y (codes "WCLK");
  wclke = ram_net db x y (codes "WCLKE");
  we = ram_net db x y (codes "WE");
  rclk = ram_net db x y (codes "RCLK");
  rclke = ram_net db x y (codes "RCLKE");
  re = ram_net db x y (codes "RE");
}

-- what each used RAM gives, by tile
abbrev pub over_rams : {A : Type 0} → Database → Configuration → (ℕ → ℕ → List A) → List A
over_rams db image given = over_tiles image.layout.device RamB (λ x y. if is_ram_used db image x y then given x y else [])

-- the used RAMs, by tile; a RAM that isn't used has no part in the fabric
unfoldable pub rams_of : Database → Configuration → List RamCell
rams_of db image = over_rams db image (λ x y. ram_at db image x y ∷ [])

-- ---- words

-- a word that the image gives a RAM: its 16 bits, the lowest first
abbrev pub start_word : Configuration → ℕ → ℕ → ℕ → List Bool
start_word image x y word = row_from 16 (word_bit_of image x y word)

-- its 256 words
unfoldable pub start_words : Configuration → ℕ → ℕ → List (List Bool)
start_words image x y = each_below 256 (start_word image x y)
