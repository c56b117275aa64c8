-- The floor plan of a database and an image: what stands in each tile, the PLLs, and the global networks. What stands there is what icebox_stat
-- counts.
use Rattle.std.specs.Prelude.{ℕ, ◌+◌, Bool, false, true, ◌&&◌, ◌==◌, List, [], ◌∷◌, count_by, filter, find, flat_map, Option, None, Some}
use Rattle.std.specs.List.{list_any}
use Rattle.index_search.specs.Places.{gathered_below}
use Rattle.plane_map.specs.Layout.{kind_of}
use Rattle.plane_map.specs.declared.tile.TileKind.{TileKind}
use Rattle.ice_image.specs.Configuration.{Configuration}
use Rattle.chipdb_reader.specs.Database.{Database, Link}
use Rattle.chipdb_reader.specs.Lookups.{input_of, pad_of}
use Rattle.chipdb_reader.specs.declared.items.PinXy.{PinXy}
use Rattle.chipdb_reader.specs.declared.items.TileXy8.{TileXy8}
use Rattle.fabric_model.specs.declared.pin.GlobalFrom.{GlobalFrom}
use Rattle.fabric_model.specs.declared.pin.GlobalFrom.TheVariants.{Pad, Pll, Fabout}
use Rattle.fabric_model.specs.declared.pin.GlobalNet.{GlobalNet}
use Rattle.fabric_model.specs.declared.pll.PllOutput.{PllOutput}
use Rattle.fabric_model.specs.declared.pll.PllOutput.TheVariants as output
use Rattle.fabric_model.specs.declared.pll.PllSource.{PllSource}
use Rattle.fabric_model.specs.Nets.{is_read}
use Rattle.fabric_model.specs.On.{is_link_on}
use Rattle.fabric_model.specs.Pins.{globals_of}
use Rattle.fabric_model.specs.Plls.{pll_sources}
use Rattle.fabric_model.specs.Tiles.{item_if, over_grid}
use Rattle.plan_marks.specs.declared.plan.GlobalMark.{GlobalMark}
use Rattle.plan_marks.specs.declared.plan.GlobalSource.TheVariants as source
use Rattle.plan_marks.specs.declared.plan.Mark.{Mark}
use Rattle.plan_marks.specs.declared.plan.PllMark.{PllMark}
use Rattle.plan_marks.specs.Plans.{Plan, TilePlan}
use Rattle.floor_plan.specs.Marks.{marks_of}

-- ---- tiles

abbrev pub is_mark_at : ℕ → ℕ → Mark → Bool
is_mark_at x y mark = (mark.x == x) && (mark.y == y)

-- the marks at (x, y)
abbrev pub marks_at : ℕ → ℕ → List Mark → List Mark
marks_at x y marks = filter (is_mark_at x y) marks

-- a link in the tile at (x, y) that is on
abbrev pub is_on_at : Configuration → ℕ → ℕ → Link → Bool
is_on_at image x y link = is_link_on image link && ((link.x == x) && (link.y == y))

-- how many links are on in the tile at (x, y)
abbrev pub links_at : Database → Configuration → ℕ → ℕ → ℕ
links_at db image x y = count_by (is_on_at image x y) db.buffers + count_by (is_on_at image x y) db.routings

-- the tile at a place of the grid, if there is one
abbrev pub tile_of : Bool → Database → Configuration → ℕ → ℕ → Option TileKind → List TilePlan
tile_of all db image x y None = []
tile_of all db image x y (Some kind) =
    record { x = x; y = y; kind = kind; links = links_at db image x y; marks = marks_at x y (marks_of all db image) } ∷ []

-- all tiles of the device, by row, then by column
unfoldable pub tiles_of : Bool → Database → Configuration → List TilePlan
tiles_of all db image = over_grid image.layout.device (λ x y. tile_of all db image x y (kind_of image.layout.device x y))

-- ---- PLLs

abbrev pub is_a : PllOutput → Bool
is_a output.A = true
is_a output.B = false
is_a output.Lock = false
is_a output.Sdo = false

abbrev pub is_b : PllOutput → Bool
is_b output.A = false
is_b output.B = true
is_b output.Lock = false
is_b output.Sdo = false

-- whether an output is the output `b` of the PLL at (x, y)
abbrev pub is_b_of : ℕ → ℕ → PllSource → Bool
is_b_of x y source = is_b source.output && ((source.x == x) && (source.y == y))

-- the PLLs that are on, of which each has the output `a`
unfoldable pub plls_of : List PllSource → List PllMark
plls_of sources = flat_map (λ source. item_if (is_a source.output) (record { x = source.x; y = source.y; has_b = list_any (is_b_of source.x source.y) sources })) sources

-- ---- global networks

-- the mark of global network g at its pad, or at the tile whose net `fabout` drives it
abbrev pub pin_source : ℕ → Bool → PinXy → GlobalMark
pin_source g read pad = record { g = g; x = pad.x; y = pad.y; source = source.Pin pad.n; is_read = read }

abbrev pub pll_source : ℕ → Bool → ℕ → ℕ → PllOutput → Option PinXy → List GlobalMark
pll_source g read x y output None = []
pll_source g read x y output (Some pad) = record { g = g; x = pad.x; y = pad.y; source = source.Pll pad.n x y (is_b output); is_read = read } ∷ []

abbrev pub fabric_source : ℕ → Bool → Option TileXy8 → List GlobalMark
fabric_source g read None = []
fabric_source g read (Some tile) = record { g = g; x = tile.x; y = tile.y; source = source.Fabric; is_read = read } ∷ []

abbrev pub source_mark : Database → ℕ → Bool → GlobalFrom → List GlobalMark
source_mark db g read (Pad x y n) = pin_source g read (record { x = x; y = y; n = n }) ∷ []
source_mark db g read (Pll x y output) = pll_source g read x y output (pad_of g db.global_pins)
source_mark db g read (Fabout net) = fabric_source g read (input_of g db.global_inputs)

abbrev pub is_of : ℕ → GlobalNet → Bool
is_of g global = global.g == g

-- whether a net of global network g is read, by a test for nets
abbrev pub is_global_read : (ℕ → Bool) → List GlobalNet → ℕ → Bool
is_global_read reads nets g = list_any (λ global. is_of g global && reads global.net) nets

-- the mark of a global network, by the first of the nets that it drives
abbrev pub mark_by : Database → ℕ → Bool → Option GlobalNet → List GlobalMark
mark_by db g read None = []
mark_by db g read (Some global) = source_mark db g read global.from

-- the marks of global networks 0 to 7, as far as they drive a net
unfoldable pub global_marks : Database → (ℕ → Bool) → List GlobalNet → List GlobalMark
global_marks db reads nets = gathered_below 8 (λ g. mark_by db g (is_global_read reads nets g) (find (is_of g) nets))

-- ---- the whole

unfoldable pub floor_plan : Bool → Database → Configuration → Plan
floor_plan all db image = record {
  device = image.layout.device;
  tiles = tiles_of all db image;
  plls = plls_of (pll_sources all db image);
  globals = global_marks db (is_read db image) (globals_of all db image);
}
