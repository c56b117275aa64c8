-- The standard layouts give no two bits one place.
use Rattle.std.proofs.Common.{◌≡◌, ℕ, ◌-◌, ◌<◌, ◌^◌, List, ◌++◌, take, replicate, refl, lit<}
use Rattle.plane_map.specs.declared.device.DeviceName.{DeviceName}
use Rattle.plane_map.specs.declared.device.DeviceName.TheVariants.{Lp384, Hx1k, Hx8k}
use Rattle.plane_map.specs.Layout.{standard_layout, half_width, start_in, standard_widths, standard_side_columns, standard_pad_columns, standard_pad_rows, standard_banks, IsLayout}

pub standard_is_layout : (device : DeviceName) → IsLayout (standard_layout device)
unfolding start_in standard_widths standard_side_columns standard_pad_columns standard_pad_rows standard_banks
standard_is_layout Lp384 = record { widths = refl; side_columns = refl; pad_columns = refl; pad_rows = refl; banks = refl }
standard_is_layout Hx1k = record { widths = refl; side_columns = refl; pad_columns = refl; pad_rows = refl; banks = refl }
standard_is_layout Hx8k = record { widths = refl; side_columns = refl; pad_columns = refl; pad_rows = refl; banks = refl }

-- the standard widths with 0 past the last one
pub standard-cut : (device : DeviceName) (all : List ℕ) → all ≡ standard_widths device ++ replicate (17 - half_width device) 0 → take (half_width device) all ≡ standard_widths device
unfolding standard_widths
standard-cut Lp384 all is = rw is refl
standard-cut Hx1k all is = rw is refl
standard-cut Hx8k all is = rw is refl

-- their sum is small
pub standard-room : (device : DeviceName) (all : List ℕ) → all ≡ standard_widths device ++ replicate (17 - half_width device) 0 → start_in all 17 < 2 ^ 16
unfolding start_in standard_widths
standard-room Lp384 all is = rw is (lit< tt)
standard-room Hx1k all is = rw is (lit< tt)
standard-room Hx8k all is = rw is (lit< tt)
