-- What commands configure (Project IceStorm, 'Bitstream File Format Documentation').
use Rattle.std.specs.Prelude.{ℕ, ◌+◌, ◌-◌, ◌*◌, ◌/◌, ◌%◌, Bool, true, false, ◌&&◌, List, [], ◌∷◌, length, take, get_or, slice_get, nat_lt, nat_le, ◌==◌, if◌then◌else◌, Option, Some, None}
use Rattle.index_search.specs.Places.{last_below}
use Rattle.bit_plane.specs.BitList.{bits_of}
use Rattle.bit_plane.specs.Rows.{Rows, rows_from}
use Rattle.plane_map.specs.declared.device.DeviceName.{DeviceName}
use Rattle.plane_map.specs.Layout.{Layout}
use Rattle.plane_map.specs.declared.tile.Place.{Place}
use Rattle.ice_image.specs.Configuration.{Configuration}
use Rattle.ice_image.specs.declared.settings.Settings.{Settings}
use Rattle.ice_image.specs.declared.settings.Range.{Range}
use Rattle.ice_image.specs.declared.settings.Range.TheVariants.{Low, Medium, High}
use Rattle.ice_image.specs.declared.planes.PlaneKind.{PlaneKind}
use Rattle.ice_image.specs.declared.planes.PlaneKind.TheVariants.{Cram, Bram}
use Rattle.bin_stream.specs.Commands.{Command, Data}
use Rattle.ice_image.specs.Planes.{plane_width, plane_height}
use Rattle.bin_stream.specs.State.{bank_after, range_after, height_after, first_row_after, mode_after, width_after}
use Rattle.bin_stream.specs.Front.{comment_of}

-- ---- settings

abbrev pub range_of : ℕ → Range
range_of n = if n == 0 then Low else if n == 1 then Medium else High

-- bit 5 of the mode enables warm boot, bit 0 keeps the flash awake
abbrev pub settings_from : ℕ → ℕ → Settings
settings_from range mode = record {
  range = range_of range;
  warm_boot = mode / 32 % 2 == 1;
  no_sleep = mode % 2 == 1;
}

abbrev pub settings_of : List Command → Settings
settings_of commands = settings_from (range_after commands) (mode_after commands)

-- ---- planes

abbrev pub is_same_kind : PlaneKind → PlaneKind → Bool
is_same_kind Cram Cram = true
is_same_kind Bram Bram = true
is_same_kind kind other = false

-- whether a command gives the bit at a place of a kind's planes, if the commands before it are these
abbrev pub gives : PlaneKind → Place → List Command → Option Command → Bool
gives kind at before (Some (Data other payload body)) =
    is_same_kind other kind && (bank_after before == at.bank) && nat_le (first_row_after before) at.py && nat_lt at.py (first_row_after before + height_after before)
gives kind at before command = false

abbrev pub body_of : Option Command → List ℕ
body_of (Some (Data kind payload body)) = body
body_of command = []

-- the bit at a place in data, if the commands before them are these: row after row, the most significant bit of each byte first
abbrev pub bit_given : Place → List Command → Option Command → Bool
bit_given at before command = get_or (bits_of (body_of command)) ((at.py - first_row_after before) * width_after before + at.px) false

abbrev pub bit_where : Place → List Command → Option ℕ → Bool
bit_where at commands None = false
bit_where at commands (Some index) = bit_given at (take index commands) (slice_get commands index)

-- The bit at a place is the one in the last data that give it, or 0 if none do.
unfoldable pub plane_bit : PlaneKind → List Command → Place → Bool
plane_bit kind commands at =
    bit_where at commands (last_below (length commands) (λ k. gives kind at (take k commands) (slice_get commands k)))

-- the planes of the four banks
abbrev pub plane_of : DeviceName → PlaneKind → List Command → ℕ → Rows
plane_of device kind commands bank =
    rows_from (plane_width kind device) (plane_height kind device) (λ px py. plane_bit kind commands (record { bank = bank; px = px; py = py }))

abbrev pub planes_of : DeviceName → PlaneKind → List Command → List Rows
planes_of device kind commands =
    plane_of device kind commands 0 ∷ plane_of device kind commands 1 ∷ plane_of device kind commands 2 ∷ plane_of device kind commands 3 ∷ []

-- what a front and commands configure, under a layout of their device
unfoldable pub meaning : Layout → List ℕ → List Command → Configuration
meaning layout front commands = record {
  layout = layout;
  comment = comment_of front;
  settings = settings_of commands;
  cram = planes_of layout.device Cram commands;
  bram = planes_of layout.device Bram commands;
}
