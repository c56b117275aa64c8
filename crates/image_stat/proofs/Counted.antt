-- The counts are the counts of a database and an image, one by one.
use Rattle.std.proofs.Common.{◌≡◌, ℕ, Bool, length, count_by, refl}
use Rattle.ice_image.specs.Configuration.{Configuration}
use Rattle.ice_image.specs.Bits.{set_extras}
use Rattle.chipdb_reader.specs.Database.{Database}
use Rattle.fabric_model.specs.Cells.{cells_of}
use Rattle.fabric_model.specs.On.{is_link_on}
use Rattle.fabric_model.specs.Pins.{pins_of, globals_of}
use Rattle.fabric_model.specs.Rams.{rams_of}
use Rattle.image_stat.specs.declared.counts.Counts.{Counts}
use Rattle.image_stat.specs.Counts.{counts_of, cram_bits, globals_among, ones_in}

pub counts-are : (all : Bool) (db : Database) (image : Configuration) (luts flops carries rams pins globals buffers routings bits extra : ℕ)
    → luts ≡ length (cells_of db image) → flops ≡ count_by (λ lc. lc.flip) (cells_of db image) → carries ≡ count_by (λ lc. lc.carry) (cells_of db image)
    → rams ≡ length (rams_of db image) → pins ≡ length (pins_of all db image) → globals ≡ length (globals_among (globals_of all db image))
    → buffers ≡ count_by (is_link_on image) db.buffers → routings ≡ count_by (is_link_on image) db.routings
    → bits ≡ ones_in (cram_bits image) → extra ≡ length (set_extras image)
    → (let counts : Counts = record { luts = luts; flops = flops; carries = carries; rams = rams; pins = pins; globals = globals; buffers = buffers; routings = routings; bits = bits; extra = extra } in counts)
    ≡ counts_of all db image
unfolding counts_of
counts-are all db image luts flops carries rams pins globals buffers routings bits extra luts_are flops_are carries_are rams_are pins_are globals_are buffers_are routings_are bits_are extra_are =
    rw (luts_are, flops_are, carries_are, rams_are, pins_are, globals_are, buffers_are, routings_are, bits_are, extra_are) refl
