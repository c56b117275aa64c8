-- Pins (`SB_IO`; Project IceStorm, 'IO Tile') and global nets (`SB_GB_IO` and `SB_GB`).
use Rattle.std.specs.Prelude.{ℕ, ◌+◌, ◌*◌, ◌/◌, ◌%◌, Bool, not, ◌&&◌, ◌||◌, List, [], length, map, flat_map, bytes_eq, codes, ◌==◌, if◌then◌else◌, Option, Some, None, option_map, option_and_then, find}
use Rattle.std.specs.List.{list_any}
use Rattle.plane_map.specs.declared.device.DeviceName.{DeviceName}
use Rattle.plane_map.specs.declared.tile.TileKind.TheVariants.{Io}
use Rattle.ice_image.specs.Configuration.{Configuration}
use Rattle.chipdb_reader.specs.Database.{Database}
use Rattle.chipdb_reader.specs.Lookups.{input_of, pad_of}
use Rattle.chipdb_reader.specs.declared.items.PinXy.{PinXy}
use Rattle.index_search.specs.Places.{any_below, gathered_below}
use Rattle.fabric_model.specs.declared.pin.Pin.{Pin}
use Rattle.fabric_model.specs.declared.pin.GlobalNet.{GlobalNet}
use Rattle.fabric_model.specs.declared.pin.GlobalFrom.{GlobalFrom}
use Rattle.fabric_model.specs.declared.pin.GlobalFrom.TheVariants.{Pad, Pll, Fabout}
use Rattle.fabric_model.specs.declared.pin.PadInput.TheVariants.{Nothing}
use Rattle.fabric_model.specs.declared.pll.PllSource.{PllSource}
use Rattle.fabric_model.specs.On.{is_function_on, is_extra_on}
use Rattle.fabric_model.specs.Tiles.{over_tiles, each_below, item_if}
use Rattle.fabric_model.specs.Numbered.{numbered}
use Rattle.fabric_model.specs.Nets.{net_named, ending_in, io_net, io_shared_net, is_some_read}
use Rattle.fabric_model.specs.PinTypes.{pintype_of, drive_of, sends_of, takes_of, ever_drives, drives_at_times, takes_pad, is_latched, is_of_pll}
use Rattle.fabric_model.specs.Plls.{pll_sources, is_pin_at, is_pll_place}

-- ---- types that are taken without the option for pins of every kind

-- the input part is the lowest two bits
abbrev pub input_part : ℕ → ℕ
input_part pintype = pintype % 4

-- the output part is the other four
abbrev pub output_part : ℕ → ℕ
output_part pintype = pintype / 4

-- the output part 0000: no output
abbrev pub has_no_output : ℕ → Bool
has_no_output pintype = output_part pintype == 0

-- the output part 0110: an output that is neither registered nor tri-state
abbrev pub has_plain_output : ℕ → Bool
has_plain_output pintype = output_part pintype == 6

-- the output part 0101: an output that is registered
abbrev pub has_registered_output : ℕ → Bool
has_registered_output pintype = output_part pintype == 5

-- the output part 1010: a tri-state output, which can be switched off
abbrev pub has_tri_state_output : ℕ → Bool
has_tri_state_output pintype = output_part pintype == 10

-- the input part 01: an input that isn't registered
abbrev pub has_plain_input : ℕ → Bool
has_plain_input pintype = input_part pintype == 1

-- the input part 00: an input that is registered
abbrev pub has_registered_input : ℕ → Bool
has_registered_input pintype = input_part pintype == 0

-- a pin with no output and a plain input
abbrev pub is_plain_input : ℕ → Bool
is_plain_input pintype = has_no_output pintype && has_plain_input pintype

-- a pin with no output and a registered input; it is an input pin if its input is read
abbrev pub is_registered_input : ℕ → Bool
is_registered_input pintype = has_no_output pintype && has_registered_input pintype

abbrev pub is_output_pin : ℕ → Bool
is_output_pin pintype = has_plain_output pintype || (has_registered_output pintype || has_tri_state_output pintype)

-- ---- pads of global networks

-- the pad of global network g, if the image lets a pad drive it: the extra bit `padin_glb_netwk.g` (Project IceStorm, 'IO Tile')
abbrev pub global_pad : Database → Configuration → ℕ → Option PinXy
global_pad db image g = if is_extra_on db image (ending_in (codes "padin_glb_netwk.") g) then pad_of g db.global_pins else None

-- whether the pin is the pad of a global network that the image lets its pad drive, even if the global network has no net
abbrev pub is_global_pad : Database → Configuration → ℕ → ℕ → ℕ → Bool
is_global_pad db image x y n = any_below 8 (λ g. is_pin_at x y n (global_pad db image g))

-- ---- pins

-- whether the input of pin n is read
abbrev pub is_input_read : Database → Configuration → ℕ → ℕ → ℕ → Bool
is_input_read db image x y n = is_some_read db image (io_net db x y n (codes "/D_IN_0"))

-- whether its second input is read
abbrev pub is_second_read : Database → Configuration → ℕ → ℕ → ℕ → Bool
is_second_read db image x y n = is_some_read db image (io_net db x y n (codes "/D_IN_1"))

-- Pin n of the tile at (x, y), whose number among all pins is j. If it is a place of a PLL, as `is_place` says, its input side belongs to the
-- PLL: the pin takes nothing of its pad, and nothing reads the pad through it. If pins of every kind are taken, it has two inner nets after the
-- nets of the database: one for what it drives its pad with, and one for its pad.
abbrev pub pin_at : Bool → Bool → Database → Configuration → ℕ → ℕ → ℕ → ℕ → Pin
pin_at all is_place db image j x y n = record {
  x = x;
  y = y;
  n = n;
  drive = drive_of (pintype_of db image x y n);
  sends = sends_of (pintype_of db image x y n);
  takes = if is_place then Nothing else takes_of (pintype_of db image x y n);
  reads_0 = not is_place && is_input_read db image x y n;
  reads_1 = not is_place && is_second_read db image x y n;
  is_global = not is_place && is_global_pad db image x y n;
  neg = is_function_on db image Io x y (codes "NegClk");
  inclk = io_shared_net db x y (codes "inclk");
  outclk = io_shared_net db x y (codes "outclk");
  cen = io_shared_net db x y (codes "cen");
  din_0 = io_net db x y n (codes "/D_IN_0");
  din_1 = io_net db x y n (codes "/D_IN_1");
  dout_0 = io_net db x y n (codes "/D_OUT_0");
  dout_1 = io_net db x y n (codes "/D_OUT_1");
  enable = io_net db x y n (codes "/OUT_ENB");
  data_net = if all then Some (db.chip.nets + 2 * j) else None;
  pad_net = if all then Some (db.chip.nets + 2 * j + 1) else None;
}

-- pin n, given whether pins of every kind are taken
unfoldable pub pin_with : Bool → Database → Configuration → ℕ → ℕ → ℕ → ℕ → Pin
pin_with all db image j x y n = pin_at all (is_pll_place (pll_sources all db image) x y n) db image j x y n

abbrev pub drives : Pin → Bool
drives pin = ever_drives pin.drive

abbrev pub is_switched : Pin → Bool
is_switched pin = drives_at_times pin.drive

-- whether the pad is read: through `io_n/D_IN_0`, through `io_n/D_IN_1`, or by a global network
abbrev pub is_pad_read : Pin → Bool
is_pad_read pin = pin.reads_0 || (pin.reads_1 || pin.is_global)

-- a pin that never drives its pad is an input if it takes the pad as it is, or if the pad is read
abbrev pub has_input : Pin → Bool
has_input pin = not (drives pin) && (takes_pad pin.takes || is_pad_read pin)

-- a switched pin whose pad is read has the pad's value from outside while it doesn't drive it
abbrev pub has_outside : Pin → Bool
has_outside pin = is_switched pin && is_pad_read pin

-- a pin is a port if it ever drives its pad, or is an input
abbrev pub is_port : Pin → Bool
is_port pin = drives pin || has_input pin

-- a pin of an io tile
pub record PinPlace : Type 0 where
  pub x : ℕ
  pub y : ℕ
  pub n : ℕ

-- all pins of io tiles, by tile and number
unfoldable pub pin_places : DeviceName → List PinPlace
pin_places device = over_tiles device Io (λ x y. each_below 2 (λ n. record { x = x; y = y; n = n }))

-- a pin, by its number and place, if it is a port
abbrev pub port_at : Bool → Database → Configuration → ℕ × PinPlace → List Pin
port_at all db image place =
    let pin = pin_with all db image place.0 place.1.x place.1.y place.1.n in
    item_if (is_port pin) pin

-- the pins that are ports, by tile and number
unfoldable pub pins_of : Bool → Database → Configuration → List Pin
pins_of all db image = flat_map (port_at all db image) (numbered (pin_places image.layout.device))

-- the number of nets: those of the database, and two inner nets for each pin if pins of every kind are taken
abbrev pub net_count : Bool → Database → Configuration → ℕ
net_count all db image = if all then db.chip.nets + 2 * length (pin_places image.layout.device) else db.chip.nets

-- ---- global networks

-- the net `fabout` of the tile of global network g
abbrev pub global_fabout : Database → ℕ → Option ℕ
global_fabout db g = option_and_then (λ tile. net_named db tile.x tile.y (codes "fabout")) (input_of g db.global_inputs)

-- at a place of a PLL the output of the PLL drives the global network in place of the pad
abbrev pub from_pll : PinXy → Option PllSource → GlobalFrom
from_pll pad None = Pad pad.x pad.y pad.n
from_pll pad (Some source) = Pll source.x source.y source.output

abbrev pub from_pad : List PllSource → PinXy → GlobalFrom
from_pad sources pad = from_pll pad (find (λ source. is_pin_at pad.x pad.y pad.n source.pin) sources)

-- a pad takes precedence over a net `fabout`
abbrev pub source_of_global : List PllSource → Option PinXy → Option ℕ → Option GlobalFrom
source_of_global sources (Some pad) fabout = Some (from_pad sources pad)
source_of_global sources None fabout = option_map (λ net. Fabout net) fabout

-- what drives global network g, given the outputs of PLLs
abbrev pub global_source : List PllSource → Database → Configuration → ℕ → Option GlobalFrom
global_source sources db image g = source_of_global sources (global_pad db image g) (global_fabout db g)

-- whether the net has the name `glb_netwk_g` at some tile
abbrev pub is_global_net : Database → ℕ → ℕ → Bool
is_global_net db g net = list_any (λ line. (line.net == net) && bytes_eq (ending_in (codes "glb_netwk_") g) line.name) db.names

-- the nets of global network g, in ascending order
unfoldable pub global_nets : Database → ℕ → List ℕ
global_nets db g = gathered_below db.chip.nets (λ net. item_if (is_global_net db g net) net)

-- a global network without a source drives nothing
abbrev pub nets_from : Database → ℕ → Option GlobalFrom → List GlobalNet
nets_from db g None = []
nets_from db g (Some from) = map (λ net. record { g = g; net = net; from = from }) (global_nets db g)

-- the nets of global networks 0 to 7 with what drives them, by global network and net
unfoldable pub globals_of : Bool → Database → Configuration → List GlobalNet
globals_of all db image = gathered_below 8 (λ g. nets_from db g (global_source (pll_sources all db image) db image g))

-- ---- pins that aren't taken

-- Whether pin n, which has that type, isn't taken without the option for pins of every kind, for one of these reasons: its output part is
-- none of those above; its input is read, but is neither plain nor the input of a registered input pin; its second input, `D_IN_1`, is read;
-- it is the pad of a global network, but no plain input pin; it is a port of a tile with LVDS; it has a tri-state output and its input is read.
unfoldable pub is_refused_with : Database → Configuration → ℕ → ℕ → ℕ → ℕ → Bool
is_refused_with db image x y n pintype =
    not (has_no_output pintype || is_output_pin pintype)
    || ((is_input_read db image x y n && not (has_plain_input pintype || is_registered_input pintype))
    || (is_second_read db image x y n
    || ((is_global_pad db image x y n && not (is_plain_input pintype))
    || (((is_plain_input pintype || ((is_registered_input pintype && is_input_read db image x y n) || is_output_pin pintype))
    && is_function_on db image Io x y (codes "IoCtrl.LVDS"))
    || (has_tri_state_output pintype && is_input_read db image x y n)))))

-- whether `io_n/D_IN_1` of pin n is read, or `io_n/D_IN_0` is and bits 1 and 0 of the type aren't 01
abbrev pub is_misread : Database → Configuration → ℕ → ℕ → ℕ → Bool
is_misread db image x y n = is_second_read db image x y n || (is_input_read db image x y n && not (has_plain_input (pintype_of db image x y n)))

-- Whether a pin isn't taken with that option, for one of these reasons: `io_n/D_IN_0` is read and a latch may hold it; it is the pad
-- of a global network and ever drives it; it is a port of a tile with LVDS, and isn't pin 0 as an input, which has the value of the pair;
-- its input side belongs to a PLL, and `io_n/D_IN_1` is read, or `io_n/D_IN_0` is and bits 1 and 0 of the type aren't 01.
abbrev pub is_refused_of_all : Database → Configuration → Pin → Bool
is_refused_of_all db image pin =
    (pin.reads_0 && is_latched pin.takes)
    || ((pin.is_global && drives pin)
    || ((is_function_on db image Io pin.x pin.y (codes "IoCtrl.LVDS") && (is_port pin && not ((pin.n == 0) && not (drives pin))))
    || (is_of_pll pin.takes && is_misread db image pin.x pin.y pin.n)))
