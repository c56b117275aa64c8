-- The words of the RAMs fill the RAM planes, each place once.
use Rattle.std.proofs.Common.{◌≡◌, ℕ, zero, suc, ◌+◌, ◌-◌, ◌*◌, ◌/◌, ◌%◌, ◌<◌, ◌≤◌, ◌⊎◌, Bool, true, false, if◌then◌else◌, Some, slice_index, refl, ◌∙◌, ap, arith, lit≤}
use Rattle.std.proofs.lemmas.Bool.Decides.{nat_tests}
use Rattle.plane_map.specs.declared.device.DeviceName.{DeviceName}
use Rattle.plane_map.specs.declared.device.DeviceName.TheVariants.{Lp384, Hx1k, Hx8k}
use Rattle.plane_map.specs.declared.tile.TileKind.TheVariants.{RamB, RamT}
use Rattle.plane_map.specs.declared.tile.WordBit.{WordBit}
use Rattle.plane_map.specs.declared.tile.Place.{Place}
use Rattle.plane_map.specs.Layout.{Layout, IsLayout, kind_of, is_right, is_top, bank_of, ram_of, ram_column, last_x, last_y, grid_height, bram_height, bram_width, word_place_of, IsWordBit, IsInBram}
use Rattle.plane_map.proofs.Offsets.{entry-onto, quarter}
use Rattle.plane_map.proofs.Layouts.{are_banks}
use Rattle.plane_map.proofs.Places.{bank-halves, bank_of-below}

-- an LP384 has no RAM
no-ram : (x y : ℕ) → ¬ (kind_of Lp384 x y ≡ Some RamB)
unfolding kind_of
no-ram x y h = grind (arith, nat_tests)

-- a plane has a row for each word of a RAM
pub ram-rows : (device : DeviceName) (x y : ℕ) → kind_of device x y ≡ Some RamB → bram_height device ≡ 256
ram-rows Lp384 x y h = absurd (no-ram x y h)
ram-rows Hx1k x y h = refl
ram-rows Hx8k x y h = refl

-- and no others
pub bram_height-le : (device : DeviceName) → bram_height device ≤ 256
bram_height-le Lp384 = lit≤ tt
bram_height-le Hx1k = lit≤ tt
bram_height-le Hx8k = lit≤ tt

-- a lower tile of a RAM is in a column of RAM
pub lower-column : (device : DeviceName) (x y : ℕ) → kind_of device x y ≡ Some RamB → (x ≡ ram_column device) ⊎ (x + ram_column device ≡ last_x device)
unfolding kind_of
lower-column device x y h = grind (arith, nat_tests)

-- in an odd row
pub lower-odd : (device : DeviceName) (x y : ℕ) → kind_of device x y ≡ Some RamB → y % 2 ≡ 1
unfolding kind_of
lower-odd device x y h = grind (arith, nat_tests)

-- below the top row
pub lower-inner : (device : DeviceName) (x y : ℕ) → kind_of device x y ≡ Some RamB → y < last_y device
unfolding kind_of
lower-inner device x y h = grind (arith, nat_tests)

-- and with its upper tile between it and the top row
pub lower-third : (device : DeviceName) (x y : ℕ) → kind_of device x y ≡ Some RamB → y + 3 ≤ grid_height device
lower-third Lp384 x y h = absurd (no-ram x y h)
lower-third Hx1k x y h = omega (arith, lower-odd Hx1k x y h, lower-inner Hx1k x y h)
lower-third Hx8k x y h = omega (arith, lower-odd Hx8k x y h, lower-inner Hx8k x y h)

-- the upper tile of a RAM stands above its lower one
pub upper-tile : (device : DeviceName) (x y : ℕ) → kind_of device x y ≡ Some RamB → kind_of device x (y + 1) ≡ Some RamT
unfolding kind_of
upper-tile Lp384 x y h = absurd (no-ram x y h)
upper-tile Hx1k x y h = grind (arith, nat_tests, lower-odd Hx1k x y h, lower-inner Hx1k x y h)
upper-tile Hx8k x y h = grind (arith, nat_tests, lower-odd Hx8k x y h, lower-inner Hx8k x y h)

-- a half has one column of RAM
pub lower-same_x : (device : DeviceName) (x y x' y' : ℕ) → kind_of device x y ≡ Some RamB → kind_of device x' y' ≡ Some RamB → is_right device x ≡ is_right device x' → x ≡ x'
lower-same_x Lp384 x y x' y' h h' r = absurd (no-ram x y h)
lower-same_x Hx1k x y x' y' h h' r = grind (arith, nat_tests, lower-column Hx1k x y h, lower-column Hx1k x' y' h')
lower-same_x Hx8k x y x' y' h h' r = grind (arith, nat_tests, lower-column Hx8k x y h, lower-column Hx8k x' y' h')

-- which RAM of its bank a lower tile is, by whether those of the top half are counted from the top
abbrev ram_in : DeviceName → Bool → ℕ → ℕ
ram_in device flip y = if is_top device y then (if flip then (last_y device - 2 - y) / 2 else (y - (last_y device + 1) / 2) / 2) else (y - 1) / 2

-- is one of those that a RAM plane has room for
ram_in-below : (device : DeviceName) (flip : Bool) (x y : ℕ) → kind_of device x y ≡ Some RamB → 16 * ram_in device flip y + 16 ≤ bram_width device
ram_in-below Lp384 flip x y h = absurd (no-ram x y h)
ram_in-below Hx1k true x y h = grind (arith, nat_tests, lower-third Hx1k x y h)
ram_in-below Hx1k false x y h = grind (arith, nat_tests, lower-third Hx1k x y h)
ram_in-below Hx8k true x y h = grind (arith, nat_tests, lower-third Hx8k x y h)
ram_in-below Hx8k false x y h = grind (arith, nat_tests, lower-third Hx8k x y h)

-- under a layout too
pub ram_of_below : (layout : Layout) (x y : ℕ) → kind_of layout.device x y ≡ Some RamB → 16 * ram_of layout y + 16 ≤ bram_width layout.device
ram_of_below layout x y h = ram_in-below layout.device layout.ram_flip x y h

-- a RAM of a half by its number
lower-same_y : (device : DeviceName) (flip : Bool) (x y x' y' : ℕ) → kind_of device x y ≡ Some RamB → kind_of device x' y' ≡ Some RamB → is_top device y ≡ is_top device y'
    → ram_in device flip y ≡ ram_in device flip y' → y ≡ y'
lower-same_y Lp384 flip x y x' y' h h' t e = absurd (no-ram x y h)
lower-same_y Hx1k true x y x' y' h h' t e = grind (arith, nat_tests, lower-odd Hx1k x y h, lower-odd Hx1k x' y' h', lower-inner Hx1k x y h, lower-inner Hx1k x' y' h')
lower-same_y Hx1k false x y x' y' h h' t e = grind (arith, nat_tests, lower-odd Hx1k x y h, lower-odd Hx1k x' y' h', lower-inner Hx1k x y h, lower-inner Hx1k x' y' h')
lower-same_y Hx8k true x y x' y' h h' t e = grind (arith, nat_tests, lower-odd Hx8k x y h, lower-odd Hx8k x' y' h', lower-inner Hx8k x y h, lower-inner Hx8k x' y' h')
lower-same_y Hx8k false x y x' y' h h' t e = grind (arith, nat_tests, lower-odd Hx8k x y h, lower-odd Hx8k x' y' h', lower-inner Hx8k x y h, lower-inner Hx8k x' y' h')

-- two RAMs in which one column of bits lies are one
same_ram : (k l a b : ℕ) → a < 16 → b < 16 → 16 * k + 15 - a ≡ 16 * l + 15 - b → (k ≡ l) × (a ≡ b)
same_ram k l a b ha hb e = (omega arith, omega arith)

-- two words' bits with one place are one
pub word_place_is_only : (layout : Layout) → IsLayout layout → (a b : WordBit) → IsWordBit layout.device a → IsWordBit layout.device b → word_place_of layout b ≡ word_place_of layout a → b ≡ a
unfolding word_place_of
word_place_is_only layout s a b ha hb e =
    let bank : bank_of layout b.x b.y ≡ bank_of layout a.x a.y = ap (λ (p : Place). p.bank) e in
    let column : 16 * ram_of layout b.y + 15 - b.bit ≡ 16 * ram_of layout a.y + 15 - a.bit = ap (λ (p : Place). p.px) e in
    let word : b.word ≡ a.word = ap (λ (p : Place). p.py) e in
    let halves = bank-halves layout s b.x b.y a.x a.y bank in
    let parts = same_ram (ram_of layout b.y) (ram_of layout a.y) b.bit a.bit hb.bit_in ha.bit_in column in
    let x : b.x ≡ a.x = lower-same_x layout.device b.x b.y a.x a.y hb.lower ha.lower halves.1 in
    let y : b.y ≡ a.y = lower-same_y layout.device layout.ram_flip b.x b.y a.x a.y hb.lower ha.lower halves.0 parts.0 in
    let bit : b.bit ≡ a.bit = parts.1 in
    λ i. record { x = x i; y = y i; word = word i; bit = bit i }

-- the column of RAM of a half
abbrev column_in : DeviceName → Bool → ℕ
column_in device right = if right then last_x device - ram_column device else ram_column device

-- the row of a RAM of a half by its number
abbrev row_in : DeviceName → Bool → Bool → ℕ → ℕ
row_in device flip top k = if top then (if flip then last_y device - 2 - 2 * k else (last_y device + 1) / 2 + 2 * k) else 2 * k + 1

-- there stands a lower tile
kind_of-in : (device : DeviceName) (flip right top : Bool) (k : ℕ) → 16 * k < bram_width device → kind_of device (column_in device right) (row_in device flip top k) ≡ Some RamB
unfolding kind_of
kind_of-in Lp384 flip right top k h = absurd (omega (arith, h))
kind_of-in Hx1k true right top k h = grind (arith, nat_tests)
kind_of-in Hx1k false right top k h = grind (arith, nat_tests)
kind_of-in Hx8k true right top k h = grind (arith, nat_tests)
kind_of-in Hx8k false right top k h = grind (arith, nat_tests)

-- of that half of the columns
is_right-in : (device : DeviceName) (right : Bool) → is_right device (column_in device right) ≡ right
is_right-in Lp384 true = refl
is_right-in Lp384 false = refl
is_right-in Hx1k true = refl
is_right-in Hx1k false = refl
is_right-in Hx8k true = refl
is_right-in Hx8k false = refl

-- of that half of the rows
is_top-in : (device : DeviceName) (flip top : Bool) (k : ℕ) → 16 * k < bram_width device → is_top device (row_in device flip top k) ≡ top
is_top-in Lp384 flip top k h = absurd (omega (arith, h))
is_top-in Hx1k true top k h = grind (arith, nat_tests)
is_top-in Hx1k false top k h = grind (arith, nat_tests)
is_top-in Hx8k true top k h = grind (arith, nat_tests)
is_top-in Hx8k false top k h = grind (arith, nat_tests)

-- and of that number
ram_of-in : (device : DeviceName) (flip top : Bool) (k : ℕ) → 16 * k < bram_width device → ram_in device flip (row_in device flip top k) ≡ k
ram_of-in Lp384 flip top k h = absurd (omega (arith, h))
ram_of-in Hx1k true top k h = grind (arith, nat_tests)
ram_of-in Hx1k false top k h = grind (arith, nat_tests)
ram_of-in Hx8k true top k h = grind (arith, nat_tests)
ram_of-in Hx8k false top k h = grind (arith, nat_tests)

-- a quarter by its halves
quarter-halves : (n : ℕ) → n < 4 → (top : Bool) × (right : Bool) × (quarter top right ≡ n)
quarter-halves zero h = (false, false, refl)
quarter-halves (suc zero) h = (true, false, refl)
quarter-halves (suc (suc zero)) h = (false, true, refl)
quarter-halves (suc (suc (suc zero))) h = (true, true, refl)
quarter-halves (suc (suc (suc (suc n)))) h = absurd (omega arith)

-- each place of the RAM planes is that of a bit of a word
pub word_place_is_onto : (layout : Layout) → IsLayout layout → (at : Place) → IsInBram layout.device at → (bit : WordBit) × IsWordBit layout.device bit × (word_place_of layout bit ≡ at)
unfolding word_place_of
word_place_is_onto layout s at h =
    let device = layout.device in
    let flip = layout.ram_flip in
    let found = entry-onto layout.banks 4 (are_banks layout s) at.bank h.bank_in in
    let halves = quarter-halves found.0 found.1 in
    let k = at.px / 16 in
    let inside : 16 * k < bram_width device = omega (arith, h.px_in) in
    let x = column_in device halves.1 in
    let y = row_in device flip halves.0 k in
    let quarters : quarter (is_top device y) (is_right device x) ≡ found.0 =
    (λ i. quarter (is_top-in device flip halves.0 k inside i) (is_right-in device halves.1 i)) ∙ halves.2
    in
    let bank : bank_of layout x y ≡ at.bank = ap (λ n. slice_index layout.banks n) quarters ∙ found.2 in
    let px : 16 * ram_of layout y + 15 - (15 - at.px % 16) ≡ at.px =
    ap (λ n. 16 * n + 15 - (15 - at.px % 16)) (ram_of-in device flip halves.0 k inside) ∙ omega arith
    in
    let bit : WordBit = record { x = x; y = y; word = at.py; bit = 15 - at.px % 16 } in
    let is_bit : IsWordBit device bit = record { lower = kind_of-in device flip halves.1 halves.0 k inside; word_in = omega (arith, h.py_in, bram_height-le device); bit_in = omega arith } in
    let place : word_place_of layout bit ≡ at = λ i. record { bank = bank i; px = px i; py = at.py } in
    (bit, is_bit, place)

-- a bit of a word lies in the planes
pub word_place_is_in : (layout : Layout) → IsLayout layout → (at : WordBit) → IsWordBit layout.device at → IsInBram layout.device (word_place_of layout at)
unfolding word_place_of
word_place_is_in layout s at h = record {
  bank_in = bank_of-below layout s at.x at.y;
  px_in = omega (arith, ram_of_below layout at.x at.y h.lower);
  py_in = omega (arith, h.word_in, ram-rows layout.device at.x at.y h.lower);
}
