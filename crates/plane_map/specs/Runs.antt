-- Runs: bits that lie side by side in one row of a plane. A row of a tile lies in a run, and so does a word of a RAM.
use Rattle.std.specs.Prelude.{◌||◌, ◌≡◌, ℕ, ◌+◌, ◌-◌, ◌*◌, ◌<◌, ◌≤◌, true, if◌then◌else◌}
use Rattle.plane_map.specs.declared.tile.Place.{Place}
use Rattle.plane_map.specs.declared.device.DeviceName.{DeviceName}
use Rattle.plane_map.specs.declared.tile.Run.{Run}
use Rattle.plane_map.specs.declared.tile.TileRuns.{TileRuns}
use Rattle.plane_map.specs.Layout.{Layout, columns_at, from_side, is_end, is_mirrored, is_side, start_of, width_of, bank_of, ram_of, py_of}

-- where bit k of a run of `count` bits lies
abbrev pub run_place : Run → ℕ → ℕ → Place
run_place run count k = record { bank = run.bank; px = if run.backwards then run.px + count - 1 - k else run.px + k; py = run.py }

-- a run of `count` bits, 1 to 64, lies in the planes of the four banks
pub record IsRunIn (width height count : ℕ) (run : Run) : Type 0 where
  pub bank_in : run.bank < 4
  pub some : 0 < count
  pub few : count ≤ 64
  pub columns_in : run.px + count ≤ width
  pub row_in : run.py < height

-- How many bits the runs have in which the rows of a tile lie. In the bottom and the top row the 18 columns of an io tile are some of 42
-- bits.
abbrev pub run_length : DeviceName → ℕ → ℕ → ℕ
run_length device x y = if is_side device x then 18 else if is_end device y then 42 else columns_at device x y

-- their first column of bits: they end where their column of tiles ends if the tile is mirrored, or else begin where it begins
abbrev pub run_start : Layout → ℕ → ℕ → ℕ
run_start layout x y =
    let u = from_side layout.device x in
    if is_mirrored layout x y then start_of layout u + width_of layout u - run_length layout.device x y else start_of layout u

-- there is a tile, and these are the bank, the first column, the length and the direction that the runs of all its rows have
pub record AreRunsOf (layout : Layout) (x y : ℕ) (runs : TileRuns) : Type 0 where
  pub x_is : runs.x ≡ x
  pub y_is : runs.y ≡ y
  pub some : 0 < columns_at layout.device x y
  pub bank : runs.bank ≡ bank_of layout x y
  pub px : runs.px ≡ run_start layout x y
  pub length : runs.length ≡ run_length layout.device x y
  pub backwards : runs.backwards ≡ is_mirrored layout x y
  pub is_io : runs.is_io ≡ (is_side layout.device x || is_end layout.device y)

-- the run of a row
abbrev pub row_run : Layout → TileRuns → ℕ → Run
row_run layout runs row =
    record { bank = runs.bank; px = runs.px; py = py_of layout (record { x = runs.x; y = runs.y; row = row; col = 0 }); backwards = runs.backwards }

-- the run of a word of a RAM, its highest bit first
abbrev pub word_run : Layout → ℕ → ℕ → ℕ → Run
word_run layout x y word = record { bank = bank_of layout x y; px = 16 * ram_of layout y; py = word; backwards = true }
