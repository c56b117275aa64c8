-- PLLs (`SB_PLL40_CORE` and its other forms; Project IceStorm, 'icebox chip database' and 'PLLs'): their types, their outputs, and which aren't
-- taken. The codes of the types are those of PLLTYPE of the stock tools. That each output is an input port is this project's choice.
use Rattle.std.specs.Prelude.{ℕ, Bool, true, false, not, ◌&&◌, ◌||◌, List, [], ◌∷◌, ◌++◌, find, take, flat_map, codes, bytes_eq, ◌==◌, if◌then◌else◌, Option, Some, None, option_map}
use Rattle.std.specs.List.{list_any}
use Rattle.plane_map.specs.Layout.{kind_of}
use Rattle.plane_map.specs.declared.tile.TileKind.TheVariants.{Io}
use Rattle.ice_image.specs.Configuration.{Configuration}
use Rattle.chipdb_lines.specs.Items.{FunctionLine, PllLine}
use Rattle.chipdb_lines.specs.Statements.{is_kind_there}
use Rattle.chipdb_reader.specs.Database.{Database, Pll, is_tile_before}
use Rattle.chipdb_reader.specs.declared.items.PinXy.{PinXy}
use Rattle.fabric_model.specs.declared.pll.PllType.{PllType}
use Rattle.fabric_model.specs.declared.pll.PllType.TheVariants.{Off, OneOutput, TwoOutputs, Unknown}
use Rattle.fabric_model.specs.declared.pll.PllOutput.{PllOutput}
use Rattle.fabric_model.specs.declared.pll.PllOutput.TheVariants as output
use Rattle.fabric_model.specs.declared.pll.PllSource.{PllSource}
use Rattle.fabric_model.specs.On.{is_function_on, is_any_on, begins_with, are_set}
use Rattle.fabric_model.specs.Tiles.{over_tiles, item_if, first_of}
use Rattle.fabric_model.specs.Numbered.{numbered}
use Rattle.fabric_model.specs.Nets.{net_named, io_net}

-- ---- lines of PLLs

-- the line of a PLL that has the name
abbrev pub line_named : List ℕ → Pll → Option PllLine
line_named name pll = find (λ line. bytes_eq name line.name) pll.lines

-- the name of the function that a line may name
abbrev pub function_in : PllLine → List ℕ
function_in line = codes "PLL." ++ line.word

-- whether there is an io tile at (x, y)
abbrev pub is_io_tile : Configuration → ℕ → ℕ → Bool
is_io_tile image x y = is_kind_there Io (kind_of image.layout.device x y)

-- whether the function that a line names is on there; it isn't if there is no such line, or no io tile
abbrev pub is_line_on : Database → Configuration → Option PllLine → Bool
is_line_on db image None = false
is_line_on db image (Some line) = is_io_tile image line.x line.y && is_function_on db image Io line.x line.y (function_in line)

-- ---- types

-- a bit of the type of a PLL: whether the function of its line of that name is on
abbrev pub pll_type_bit : Database → Configuration → Pll → List ℕ → Bool
pll_type_bit db image pll name = is_line_on db image (line_named name pll)

-- the type that bits 2, 1 and 0 form
abbrev pub type_by : Bool → Bool → Bool → PllType
type_by high middle low =
    if high then (if middle then TwoOutputs else (if low then Unknown else TwoOutputs))
    else (if middle then OneOutput else (if low then Unknown else Off))

unfoldable pub pll_type : Database → Configuration → Pll → PllType
pll_type db image pll =
    type_by (pll_type_bit db image pll (codes "PLLTYPE_2")) (pll_type_bit db image pll (codes "PLLTYPE_1")) (pll_type_bit db image pll (codes "PLLTYPE_0"))

-- the outputs that a PLL of that type has; one of an unknown type has `lock` and `sdo` alone
abbrev pub outputs_in : PllType → List PllOutput
outputs_in Off = []
outputs_in OneOutput = output.A ∷ output.Lock ∷ output.Sdo ∷ []
outputs_in TwoOutputs = output.A ∷ output.B ∷ output.Lock ∷ output.Sdo ∷ []
outputs_in Unknown = output.Lock ∷ output.Sdo ∷ []

-- ---- outputs

abbrev pub output_number : PllOutput → ℕ
output_number output.A = 0
output_number output.B = 1
output_number output.Lock = 2
output_number output.Sdo = 3

-- the name of the line of an output
abbrev pub output_line : PllOutput → List ℕ
output_line output.A = codes "PLLOUT_A"
output_line output.B = codes "PLLOUT_B"
output_line output.Lock = codes "LOCK"
output_line output.Sdo = codes "SDO"

-- the number of a pin
abbrev pub pin_number : List ℕ → Option ℕ
pin_number word = if bytes_eq (codes "0") word then Some 0 else if bytes_eq (codes "1") word then Some 1 else None

-- the pin that a line tells, which is one of an io tile
abbrev pub pin_by : Configuration → Option PllLine → Option PinXy
pin_by image None = None
pin_by image (Some line) =
    if is_io_tile image line.x line.y then option_map (λ n. record { x = line.x; y = line.y; n = n }) (pin_number line.word) else None

-- the pin of an output `a` or `b`
unfoldable pub output_pin : Configuration → Pll → PllOutput → Option PinXy
output_pin image pll output = pin_by image (line_named (output_line output) pll)

-- the net that a line tells
abbrev pub net_by : Database → Option PllLine → Option ℕ
net_by db None = None
net_by db (Some line) = net_named db line.x line.y line.word

-- the net of `lock` or `sdo`
unfoldable pub output_net : Database → Pll → PllOutput → Option ℕ
output_net db pll output = net_by db (line_named (output_line output) pll)

-- an output `a` or `b`, if it has a pin
abbrev pub clock_source : Database → Pll → PllOutput → Option PinXy → List PllSource
clock_source db pll output None = []
clock_source db pll output (Some pin) =
    record { x = pll.x; y = pll.y; output = output; pin = Some pin; net = io_net db pin.x pin.y pin.n (codes "/D_IN_0") } ∷ []

-- `lock` or `sdo`
abbrev pub signal_source : Database → Pll → PllOutput → List PllSource
signal_source db pll output = record { x = pll.x; y = pll.y; output = output; pin = None; net = output_net db pll output } ∷ []

abbrev pub source_of : Database → Configuration → Pll → PllOutput → List PllSource
source_of db image pll output.A = clock_source db pll output.A (output_pin image pll output.A)
source_of db image pll output.B = clock_source db pll output.B (output_pin image pll output.B)
source_of db image pll output.Lock = signal_source db pll output.Lock
source_of db image pll output.Sdo = signal_source db pll output.Sdo

-- the outputs of a PLL that is on, with their pins and nets; an `a` or `b` without a pin is left out
unfoldable pub sources_in : Database → Configuration → Pll → List PllSource
sources_in db image pll = flat_map (source_of db image pll) (outputs_in (pll_type db image pll))

-- those of all PLLs, by PLL; without the option for pins of every kind there are none
unfoldable pub pll_sources : Bool → Database → Configuration → List PllSource
pll_sources all db image = if all then flat_map (sources_in db image) db.plls else []

-- ---- places of PLLs

abbrev pub is_pin_at : ℕ → ℕ → ℕ → Option PinXy → Bool
is_pin_at x y n None = false
is_pin_at x y n (Some pin) = (pin.x == x) && ((pin.y == y) && (pin.n == n))

-- whether a pin is that of an output of a PLL
abbrev pub is_pll_place : List PllSource → ℕ → ℕ → ℕ → Bool
is_pll_place sources x y n = list_any (λ source. is_pin_at x y n source.pin) sources

-- ---- PLLs that aren't taken without the option

-- whether a function whose name starts with `PLL.` is on in the io tile
abbrev pub has_pll : Database → Configuration → ℕ → ℕ → Bool
has_pll db image x y = is_any_on db image Io x y (codes "PLL.")

-- ---- PLLs that aren't taken with it

-- whether a line names the function at (x, y)
abbrev pub is_line_of : ℕ → ℕ → List ℕ → PllLine → Bool
is_line_of x y name line = (line.x == x) && ((line.y == y) && bytes_eq name (function_in line))

-- whether a line of a PLL does
abbrev pub is_named_by_pll : Database → ℕ → ℕ → List ℕ → Bool
is_named_by_pll db x y name = list_any (λ pll. list_any (is_line_of x y name) pll.lines) db.plls

abbrev pub is_unnamed_on : Database → Configuration → ℕ → ℕ → FunctionLine → Bool
is_unnamed_on db image x y function =
    begins_with Io (codes "PLL.") function && (are_set image x y function.bits && not (is_named_by_pll db x y function.name))

-- whether a function whose name starts with `PLL.` is on in the io tile, and no line of a PLL names it there
unfoldable pub has_unnamed : Database → Configuration → ℕ → ℕ → Bool
has_unnamed db image x y = list_any (is_unnamed_on db image x y) db.functions

-- whether an output has no pin, or that of one of these outputs
abbrev pub is_misplaced : List PllSource → Option PinXy → Bool
is_misplaced sources None = true
is_misplaced sources (Some pin) = is_pll_place sources pin.x pin.y pin.n

abbrev pub is_same_pin : Option PinXy → Option PinXy → Bool
is_same_pin None other = false
is_same_pin (Some pin) other = is_pin_at pin.x pin.y pin.n other

-- Whether a PLL of that type isn't taken, whose outputs `a` and `b` have these pins, given the outputs of the PLLs before it: its type is
-- unknown, or an output has no pin, or the pin of its other output or of an output of a PLL before it.
abbrev pub is_refused_as : List PllSource → Option PinXy → Option PinXy → PllType → Bool
is_refused_as sources a b Off = false
is_refused_as sources a b OneOutput = is_misplaced sources a
is_refused_as sources a b TwoOutputs = is_misplaced sources a || (is_misplaced sources b || is_same_pin a b)
is_refused_as sources a b Unknown = true

-- whether the PLL with an index isn't taken
unfoldable pub is_pll_refused : Database → Configuration → ℕ × Pll → Bool
is_pll_refused db image place =
    is_refused_as (flat_map (sources_in db image) (take place.0 db.plls)) (output_pin image place.1 output.A) (output_pin image place.1 output.B)
    (pll_type db image place.1)

-- ---- the first tile

-- the tiles where a function of PLLs is on that no PLL names, in their order
unfoldable pub unnamed_tiles : Database → Configuration → List (ℕ × ℕ)
unnamed_tiles db image = over_tiles image.layout.device Io (λ x y. item_if (has_unnamed db image x y) (x, y))

-- the tiles of the PLLs that aren't taken, in their order
unfoldable pub refused_tiles : Database → Configuration → List (ℕ × ℕ)
refused_tiles db image = flat_map (λ place. item_if (is_pll_refused db image place) (place.1.x, place.1.y)) (numbered db.plls)

-- the lesser of two tiles
abbrev pub lesser_tile : Option (ℕ × ℕ) → Option (ℕ × ℕ) → Option (ℕ × ℕ)
lesser_tile None other = other
lesser_tile (Some tile) None = Some tile
lesser_tile (Some tile) (Some other) = Some (if is_tile_before other tile then other else tile)

-- the io tiles where a function whose name starts with `PLL.` is on
unfoldable pub pll_tiles : Database → Configuration → List (ℕ × ℕ)
pll_tiles db image = over_tiles image.layout.device Io (λ x y. item_if (has_pll db image x y) (x, y))

-- the first tile for which the PLLs aren't taken, if pins of every kind are or if not
unfoldable pub pll_tile : Bool → Database → Configuration → Option (ℕ × ℕ)
pll_tile all db image =
    if all then lesser_tile (first_of (unnamed_tiles db image)) (first_of (refused_tiles db image)) else first_of (pll_tiles db image)
