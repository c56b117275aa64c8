-- The pins of all io tiles: two of each tile, in the order of the tiles.
use Rattle.std.proofs.Common.{◌≡◌, ℕ, suc, ◌+◌, ◌*◌, Bool, true, false, ◌&&◌, List, [], ◌∷◌, map, refl, sym, ap, ◌∙◌, subst, inl, inr, arith}
use Rattle.std.specs.Prelude.{All, filter, not, codes, Option, Some, None, if◌then◌else◌}
use Rattle.std.specs.List.{flat_map}
use Rattle.std.proofs.lemmas.Bool.{cases_Bool}
use Rattle.std.proofs.lemmas.List.Elements.{All-nil, All-cons, All-head, All-tail, All-filter, All-weaker}
use Rattle.std.proofs.lemmas.List.Folds.{flat_map-map}
use Rattle.index_search.specs.Places.{gathered_below}
use Rattle.plane_map.specs.declared.tile.TileKind.TheVariants.{Io}
use Rattle.ice_image.specs.Configuration.{Configuration}
use Rattle.ice_image.specs.declared.any.AnyImage.{AnyImage}
use Rattle.ice_image.specs.Either.{configuration_of}
use Rattle.chipdb_reader.specs.Database.{Database}
use Rattle.chipdb_reader.specs.Kept.{Kept, database_in}
use Rattle.chipdb_reader.specs.declared.items.TileXy8.{TileXy8}
use Rattle.fabric_model.specs.declared.pin.Pin.{Pin}
use Rattle.fabric_model.specs.declared.pin.PadDrive.{PadDrive}
use Rattle.fabric_model.specs.declared.pin.PadData.{PadData}
use Rattle.fabric_model.specs.declared.pin.PadInput.{PadInput}
use Rattle.fabric_model.specs.On.{is_function_on}
use Rattle.fabric_model.specs.PinTypes.{pintype_of, drive_of, sends_of, takes_of}
use Rattle.fabric_model.specs.Numbered.{numbered_from, numbered}
use Rattle.fabric_model.specs.declared.pin.PadInput.TheVariants.{Nothing}
use Rattle.fabric_model.specs.Nets.{io_net, io_shared_net}
use Rattle.fabric_model.specs.Plls.{pll_sources, is_pll_place}
use Rattle.fabric_model.specs.Pins.{PinPlace, is_input_read, is_second_read, is_global_pad, is_port, pin_places, pin_with, pins_of}
use Rattle.fabric_model.specs.Faults.{pin_faults}
use Rattle.fabric_model.specs.Tiles.{each_below, item_if}
use Rattle.fabric_model.specs.TilesOfKind.{HasTile, tiles_of}
use Rattle.fabric_model.proofs.InOrder.{over_tiles-listed}
use Rattle.fabric_parts.specs.PinFaults.{fault_of}
use Rattle.fabric_parts.specs.PinRecords.{pin_at, pin_records, tile_pins, IsFoundPin}

-- ---- one pin

-- whether an output of a PLL has the pin
abbrev is_taken_place : Bool → Database → Configuration → ℕ → ℕ → ℕ → Bool
is_taken_place all db image x y n = is_pll_place (pll_sources all db image) x y n

-- a pin is the one at its place if each of its fields is
pub pin-is : (all : Bool) (db : Database) (image : Configuration) (j x y n pintype : ℕ) (drive : PadDrive) (sends : PadData) (takes : PadInput)
    (reads_0 reads_1 is_global neg : Bool) (inclk outclk cen din_0 din_1 dout_0 dout_1 enable data_net pad_net : Option ℕ)
    → pintype ≡ pintype_of db image x y n → drive ≡ drive_of pintype → sends ≡ sends_of pintype
    → takes ≡ (if is_taken_place all db image x y n then Nothing else takes_of pintype)
    → reads_0 ≡ (not (is_taken_place all db image x y n) && is_input_read db image x y n)
    → reads_1 ≡ (not (is_taken_place all db image x y n) && is_second_read db image x y n)
    → is_global ≡ (not (is_taken_place all db image x y n) && is_global_pad db image x y n)
    → neg ≡ is_function_on db image Io x y (codes "NegClk")
    → inclk ≡ io_shared_net db x y (codes "inclk") → outclk ≡ io_shared_net db x y (codes "outclk") → cen ≡ io_shared_net db x y (codes "cen")
    → din_0 ≡ io_net db x y n (codes "/D_IN_0") → din_1 ≡ io_net db x y n (codes "/D_IN_1")
    → dout_0 ≡ io_net db x y n (codes "/D_OUT_0") → dout_1 ≡ io_net db x y n (codes "/D_OUT_1") → enable ≡ io_net db x y n (codes "/OUT_ENB")
    → data_net ≡ (if all then Some (db.chip.nets + 2 * j) else None) → pad_net ≡ (if all then Some (db.chip.nets + 2 * j + 1) else None)
    → (let pin : Pin = record { x = x; y = y; n = n; drive = drive; sends = sends; takes = takes; reads_0 = reads_0; reads_1 = reads_1; is_global = is_global; neg = neg; inclk = inclk; outclk = outclk; cen = cen; din_0 = din_0; din_1 = din_1; dout_0 = dout_0; dout_1 = dout_1; enable = enable; data_net = data_net; pad_net = pad_net } in pin)
    ≡ pin_with all db image j x y n
unfolding pin_with
pin-is all db image j x y n pintype drive sends takes reads_0 reads_1 is_global neg inclk outclk cen din_0 din_1 dout_0 dout_1 enable data_net pad_net
    pintype_is drive_is sends_is takes_is first_is second_is global_is neg_is inclk_is outclk_is cen_is din_0_is din_1_is dout_0_is dout_1_is enable_is data_is pad_is =
    rw (drive_is, sends_is, takes_is, pintype_is, first_is, second_is, global_is, neg_is, inclk_is, outclk_is, cen_is, din_0_is, din_1_is, dout_0_is, dout_1_is, enable_is, data_is, pad_is) refl

-- ---- two of each tile

abbrev place_in : ℕ → ℕ → ℕ → PinPlace
place_in x y n = record { x = x; y = y; n = n }

abbrev places_in : TileXy8 → List PinPlace
places_in tile = each_below 2 (place_in tile.x tile.y)

-- what is made of the two places of a tile, by its index
abbrev made_of : {B : Type 0} → (ℕ × PinPlace → B) → ℕ × TileXy8 → List B
made_of made tile = made (2 * tile.0, place_in tile.1.x tile.1.y 0) ∷ made (2 * tile.0 + 1, place_in tile.1.x tile.1.y 1) ∷ []

two-numbered : {B : Type 0} (made : ℕ × PinPlace → B) (i : ℕ) (tiles : List TileXy8)
    → map made (numbered_from (2 * i) (flat_map places_in tiles)) ≡ flat_map (made_of made) (numbered_from i tiles)
unfolding numbered_from gathered_below
two-numbered made i [] = refl
two-numbered {B} made i (tile ∷ tiles) =
    let rest : List PinPlace = flat_map places_in tiles in
    let first : B = made (2 * i, place_in tile.x tile.y 0) in
    let second : ℕ → B = λ n. made (n, place_in tile.x tile.y 1) in
    let one : suc (2 * i) ≡ 2 * i + 1 = omega arith in
    let next : suc (suc (2 * i)) ≡ 2 * suc i = omega arith in
    ap (λ n. first ∷ second n ∷ map made (numbered_from (suc (suc (2 * i))) rest)) one
    ∙ ap (λ n. first ∷ second (2 * i + 1) ∷ map made (numbered_from n rest)) next
    ∙ ap (λ list. first ∷ second (2 * i + 1) ∷ list) (two-numbered made (suc i) tiles)

pub records_listed : (all : Bool) (db : Database) (image : Configuration) (tiles : List TileXy8) → tiles ≡ tiles_of image.layout.device Io
    → flat_map (tile_pins all db image) (numbered tiles) ≡ pin_records all db image
unfolding pin_records pin_places
records_listed all db image tiles are =
    ap (λ (list : List TileXy8). flat_map (tile_pins all db image) (numbered list)) are
    ∙ sym (two-numbered (pin_at all db image) 0 (tiles_of image.layout.device Io))
    ∙ ap (λ (places : List PinPlace). map (pin_at all db image) (numbered places)) (sym (over_tiles-listed image.layout.device Io (λ x y. each_below 2 (place_in x y))))

-- ---- ports

filtered : {A B : Type 0} (made : A → B) (passes : B → Bool) (items : List A)
    → filter passes (map made items) ≡ flat_map (λ item. item_if (passes (made item)) (made item)) items
filtered made passes [] = refl
filtered made passes (item ∷ items) =
    elim (cases_Bool (passes (made item))) [
      | inl here ↦ rw (here, filtered made passes items) refl
      | inr other ↦ rw (other, filtered made passes items) refl
    ]

pub ports_listed : (all : Bool) (db : Database) (image : Configuration) (pins : List Pin) → pins ≡ pin_records all db image
    → filter is_port pins ≡ pins_of all db image
unfolding pin_records pins_of
ports_listed all db image pins are = ap (filter is_port) are ∙ filtered (pin_at all db image) is_port (numbered (pin_places image.layout.device))

-- ---- pins that aren't taken

pub refused_listed : (all : Bool) (db : Database) (image : Configuration) (pins : List Pin) → pins ≡ pin_records all db image
    → pin_faults all db image ≡ flat_map (fault_of all db image) pins
unfolding pin_faults pin_records pin_with
refused_listed all db image pins are =
    sym (ap (flat_map (fault_of all db image)) are ∙ flat_map-map (fault_of all db image) (pin_at all db image) (numbered (pin_places image.layout.device)))

-- ---- what is known of each pin

found-pin : (all : Bool) (db : Kept) (image : AnyImage) (j x y n : ℕ) → HasTile image Io x y
    → IsFoundPin all db image (pin_with all (database_in db) (configuration_of image) j x y n)
unfolding pin_with pll_sources
found-pin false db image j x y n here = record { tile = here; reads_0 = λ of. refl; reads_1 = λ of. refl; is_global = λ of. refl }
found-pin true db image j x y n here = record { tile = here; reads_0 = λ of. absurd cc; reads_1 = λ of. absurd cc; is_global = λ of. absurd cc }

found-from : (all : Bool) (db : Kept) (image : AnyImage) (i : ℕ) (tiles : List TileXy8) → All (λ (tile : TileXy8). HasTile image Io tile.x tile.y) tiles
    → All (IsFoundPin all db image) (flat_map (tile_pins all (database_in db) (configuration_of image)) (numbered_from i tiles))
unfolding numbered_from
found-from all db image i [] each = All-nil (IsFoundPin all db image)
found-from all db image i (tile ∷ tiles) each =
    let Here : TileXy8 → Type 0 = λ tile. HasTile image Io tile.x tile.y in
    let here : HasTile image Io tile.x tile.y = All-head Here tile tiles each in
    let given : ℕ × TileXy8 → List Pin = tile_pins all (database_in db) (configuration_of image) in
    let rest : List Pin = flat_map given (numbered_from (suc i) tiles) in
    let first : Pin = pin_with all (database_in db) (configuration_of image) (2 * i) tile.x tile.y 0 in
    let second : Pin = pin_with all (database_in db) (configuration_of image) (2 * i + 1) tile.x tile.y 1 in
    All-cons (IsFoundPin all db image) first (second ∷ rest) (found-pin all db image (2 * i) tile.x tile.y 0 here)
    (All-cons (IsFoundPin all db image) second rest (found-pin all db image (2 * i + 1) tile.x tile.y 1 here)
    (found-from all db image (suc i) tiles (All-tail Here tile tiles each)))

pub found_listed : (all : Bool) (db : Kept) (image : AnyImage) (tiles : List TileXy8) (pins : List Pin) → All (λ (tile : TileXy8). HasTile image Io tile.x tile.y) tiles
    → pins ≡ flat_map (tile_pins all (database_in db) (configuration_of image)) (numbered tiles) → All (IsFoundPin all db image) pins
found_listed all db image tiles pins each are = subst (All (IsFoundPin all db image)) (sym are) (found-from all db image 0 tiles each)

-- the ports stand in io tiles
pub ports_placed : (all : Bool) (db : Kept) (image : AnyImage) (pins : List Pin) → All (IsFoundPin all db image) pins
    → All (λ (pin : Pin). HasTile image Io pin.x pin.y) (filter is_port pins)
ports_placed all db image pins found =
    let Placed : Pin → Type 0 = λ pin. HasTile image Io pin.x pin.y in
    All-filter is_port Placed pins (All-weaker (IsFoundPin all db image) Placed (λ pin is. is.tile) pins found)
