-- What is counted of a database and an image, and the text of the counts.
use Rattle.std.specs.Prelude.{ℕ, ◌==◌, Bool, List, [], ◌∷◌, ◌++◌, length, count_by, codes, decimal}
use Rattle.std.specs.List.{flat_map, list_any}
use Rattle.text_lines.specs.Written.{text_of}
use Rattle.index_search.specs.Places.{gathered_below}
use Rattle.bit_plane.specs.Rows.{flat}
use Rattle.ice_image.specs.Configuration.{Configuration}
use Rattle.ice_image.specs.Bits.{set_extras}
use Rattle.chipdb_reader.specs.Database.{Database}
use Rattle.asc_text.specs.Canonical.{with_word}
use Rattle.fabric_model.specs.declared.pin.GlobalNet.{GlobalNet}
use Rattle.fabric_model.specs.On.{is_link_on}
use Rattle.fabric_model.specs.Tiles.{item_if}
use Rattle.fabric_model.specs.Cells.{cells_of}
use Rattle.fabric_model.specs.Rams.{rams_of}
use Rattle.fabric_model.specs.Pins.{pins_of, globals_of}
use Rattle.image_stat.specs.declared.counts.Counts.{Counts}

-- ---- what is counted

-- how many of the bits are 1
abbrev pub ones_in : List Bool → ℕ
ones_in bits = count_by (λ bit. bit) bits

-- all bits of the configuration planes, extra bits among them
abbrev pub cram_bits : Configuration → List Bool
cram_bits image = flat_map flat image.cram

-- the numbers of the global nets that drive at least one of these nets
abbrev pub globals_among : List GlobalNet → List ℕ
globals_among nets = gathered_below 8 (λ g. item_if (list_any (λ global. global.g == g) nets) g)

-- The counts of a database and an image. Logic cells and RAMs count if they are used, and pins if they are ports, of every kind or not.
-- Flip-flops and carries are counted among the used cells. Links count if they are on, and bits of the configuration planes, extra bits
-- included, if they are 1. PLLs and their outputs aren't counted.
unfoldable pub counts_of : Bool → Database → Configuration → Counts
counts_of all db image = record {
  luts = length (cells_of db image);
  flops = count_by (λ lc. lc.flip) (cells_of db image);
  carries = count_by (λ lc. lc.carry) (cells_of db image);
  rams = length (rams_of db image);
  pins = length (pins_of all db image);
  globals = length (globals_among (globals_of all db image));
  buffers = count_by (is_link_on image) db.buffers;
  routings = count_by (is_link_on image) db.routings;
  bits = ones_in (cram_bits image);
  extra = length (set_extras image);
}

-- ---- the text

-- a word, a space and a number
abbrev pub count_line : List ℕ → ℕ → List ℕ
count_line word number = with_word word (decimal number)

-- the lines for logic cells and RAMs
abbrev pub cell_lines : Counts → List (List ℕ)
cell_lines counts =
    count_line (codes "luts") counts.luts
    ∷ count_line (codes "flops") counts.flops
    ∷ count_line (codes "carries") counts.carries
    ∷ count_line (codes "rams") counts.rams
    ∷ []

-- the lines for pins, nets and bits
abbrev pub net_lines : Counts → List (List ℕ)
net_lines counts =
    count_line (codes "pins") counts.pins
    ∷ count_line (codes "globals") counts.globals
    ∷ count_line (codes "buffers") counts.buffers
    ∷ count_line (codes "routings") counts.routings
    ∷ count_line (codes "bits") counts.bits
    ∷ count_line (codes "extra") counts.extra
    ∷ []

-- all ten lines
unfoldable pub stat_text : Counts → List ℕ
stat_text counts = text_of (cell_lines counts ++ net_lines counts)
