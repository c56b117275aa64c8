-- The definitions at places that are known from outside, and under layouts that differ from the standard one.
use Rattle.std.proofs.Common.{◌≡◌, true, false, [], ◌∷◌, refl}
use Rattle.plane_map.specs.declared.device.DeviceName.TheVariants.{Hx1k}
use Rattle.plane_map.specs.Layout.{Layout, standard_layout, place_of, word_place_of, start_in, standard_widths, standard_side_columns, standard_pad_columns, standard_pad_rows, standard_banks, are_widths, are_places}

abbrev standard : Layout
standard = standard_layout Hx1k

-- ---- the standard layout

-- the left bottom logic tile
logic_first : place_of standard (record { x = 1; y = 1; row = 0; col = 0 }) ≡ record { bank = 0; px = 18; py = 16 }
unfolding place_of start_in standard_widths standard_side_columns standard_pad_columns standard_pad_rows standard_banks
logic_first = refl

-- the right top logic tile
logic_last : place_of standard (record { x = 12; y = 16; row = 0; col = 0 }) ≡ record { bank = 3; px = 71; py = 31 }
unfolding place_of start_in standard_widths standard_side_columns standard_pad_columns standard_pad_rows standard_banks
logic_last = refl

-- an io tile of the left edge
io_left_0 : place_of standard (record { x = 0; y = 1; row = 0; col = 0 }) ≡ record { bank = 0; px = 17; py = 16 }
unfolding place_of start_in standard_widths standard_side_columns standard_pad_columns standard_pad_rows standard_banks
io_left_0 = refl

-- an io tile of the top row
io_top_4 : place_of standard (record { x = 1; y = 17; row = 2; col = 4 }) ≡ record { bank = 1; px = 34; py = 12 }
unfolding place_of start_in standard_widths standard_side_columns standard_pad_columns standard_pad_rows standard_banks
io_top_4 = refl

-- another column of it
io_top_17 : place_of standard (record { x = 1; y = 17; row = 2; col = 17 }) ≡ record { bank = 1; px = 23; py = 12 }
unfolding place_of start_in standard_widths standard_side_columns standard_pad_columns standard_pad_rows standard_banks
io_top_17 = refl

-- a word of a top RAM
word_top : word_place_of standard (record { x = 10; y = 15; word = 255; bit = 15 }) ≡ record { bank = 3; px = 0; py = 255 }
unfolding word_place_of standard_banks
word_top = refl

-- ---- other layouts

-- columns that run inwards in the right half too
unmirrored : place_of (record standard { mirror = false }) (record { x = 12; y = 16; row = 0; col = 0 }) ≡ record { bank = 3; px = 18; py = 31 }
unfolding place_of start_in standard_widths standard_side_columns standard_pad_columns standard_pad_rows standard_banks
unmirrored = refl

-- rows that run inwards in the top half too
unflipped : place_of (record standard { flip = false }) (record { x = 12; y = 16; row = 0; col = 0 }) ≡ record { bank = 3; px = 71; py = 16 }
unfolding place_of start_in standard_widths standard_side_columns standard_pad_columns standard_pad_rows standard_banks
unflipped = refl

-- banks from the last to the first
banks_turned : place_of (record standard { banks = 3 ∷ 2 ∷ 1 ∷ 0 ∷ [] }) (record { x = 1; y = 17; row = 2; col = 4 }) ≡ record { bank = 2; px = 34; py = 12 }
unfolding place_of start_in standard_widths standard_side_columns standard_pad_columns standard_pad_rows standard_banks
banks_turned = refl

-- a wider edge
wider_edge : place_of (record standard { widths = 20 ∷ 54 ∷ 54 ∷ 42 ∷ 54 ∷ 54 ∷ 54 ∷ [] }) (record { x = 12; y = 16; row = 0; col = 0 }) ≡ record { bank = 3; px = 73; py = 31 }
unfolding place_of start_in standard_widths standard_side_columns standard_pad_columns standard_pad_rows standard_banks
wider_edge = refl

-- columns of io tiles that run towards the side edge in the right half
pads_mirrored : place_of (record standard { pad_mirror = true }) (record { x = 12; y = 17; row = 2; col = 4 }) ≡ record { bank = 3; px = 55; py = 12 }
unfolding place_of start_in standard_widths standard_side_columns standard_pad_columns standard_pad_rows standard_banks
pads_mirrored = refl

-- RAMs that are counted from the lowest of the top half
rams_unflipped : word_place_of (record standard { ram_flip = false }) (record { x = 10; y = 15; word = 255; bit = 15 }) ≡ record { bank = 3; px = 48; py = 255 }
unfolding word_place_of standard_banks
rams_unflipped = refl

-- ---- lists that are no layout's

-- a column of logic tiles that is too narrow
narrow : are_widths Hx1k (18 ∷ 53 ∷ 54 ∷ 42 ∷ 54 ∷ 54 ∷ 54 ∷ []) ≡ false
unfolding start_in
narrow = refl

-- columns for which a plane has no room
too_wide : are_widths Hx1k (20 ∷ 54 ∷ 54 ∷ 42 ∷ 54 ∷ 54 ∷ 55 ∷ []) ≡ false
unfolding start_in
too_wide = refl

-- a column of a side that stands twice
side_twice : are_places 18 18 (16 ∷ 16 ∷ 15 ∷ 14 ∷ 13 ∷ 12 ∷ 11 ∷ 10 ∷ 9 ∷ 8 ∷ 7 ∷ 6 ∷ 5 ∷ 4 ∷ 3 ∷ 2 ∷ 1 ∷ 0 ∷ []) ≡ false
side_twice = refl

-- a column of an end row that no column of RAM tiles has
pad_too_high : are_places 18 42 (42 ∷ 25 ∷ 26 ∷ 27 ∷ 16 ∷ 17 ∷ 18 ∷ 19 ∷ 20 ∷ 14 ∷ 32 ∷ 33 ∷ 34 ∷ 35 ∷ 36 ∷ 37 ∷ 4 ∷ 5 ∷ []) ≡ false
pad_too_high = refl

-- a row too few
row_missing : are_places 16 16 (0 ∷ 1 ∷ 3 ∷ 2 ∷ 4 ∷ 5 ∷ 7 ∷ 6 ∷ 8 ∷ 9 ∷ 11 ∷ 10 ∷ 12 ∷ 13 ∷ 15 ∷ []) ≡ false
row_missing = refl

-- a bank that there is not
bank_too_high : are_places 4 4 (0 ∷ 1 ∷ 2 ∷ 4 ∷ []) ≡ false
bank_too_high = refl
