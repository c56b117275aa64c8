-- Outputs of PLLs that are input ports.
use Rattle.std.specs.Prelude.{Bool, false, ◌||◌, List, filter, Option, Some, None}
use Rattle.ice_image.specs.Configuration.{Configuration}
use Rattle.chipdb_reader.specs.Database.{Database}
use Rattle.chipdb_reader.specs.declared.items.PinXy.{PinXy}
use Rattle.fabric_model.specs.declared.pll.PllSource.{PllSource}
use Rattle.fabric_model.specs.Nets.{is_some_read}
use Rattle.fabric_model.specs.Pins.{is_global_pad}
use Rattle.fabric_model.specs.Plls.{pll_sources}

-- whether the pin is that of the pad of a global network that the image lets its pad drive; false if there is no pin
abbrev pub is_some_global : Database → Configuration → Option PinXy → Bool
is_some_global db image None = false
is_some_global db image (Some pin) = is_global_pad db image pin.x pin.y pin.n

-- an output is a port if its net is read, or if its pin is that of the pad of such a global network
abbrev pub is_source_read : Database → Configuration → PllSource → Bool
is_source_read db image source = is_some_read db image source.net || is_some_global db image source.pin

-- the outputs of PLLs that are ports, by PLL
unfoldable pub pll_ports : Bool → Database → Configuration → List PllSource
pll_ports all db image = filter (is_source_read db image) (pll_sources all db image)
