-- What commands draw into the planes.
use Rattle.std.proofs.Common.{◌≡◌, ℕ, zero, suc, ◌+◌, ◌-◌, ◌*◌, ◌/◌, ◌%◌, ◌<◌, ◌≤◌, Bool, true, false, ◌&&◌, cond, List, [], ◌∷◌, ◌++◌, length, get_or, set, replicate, refl, sym, ap, ap₂, subst, ◌∙◌, arith, inl, inr, get_or-set_same, get_or-set_other, mul_comm}
use Rattle.std.specs.Prelude.{Option, Some, None, nat_lt, nat_le, ◌==◌}
use Rattle.std.proofs.lemmas.Bool.{cases_eq, cases_lt, lt-ltb, le-ltb, le-leb, lt-leb, eq-eqb, ne_eqb, and_from, and_left, and_right}
use Rattle.std.proofs.Math.Bool.{or-false}
use Rattle.index_search.specs.Places.{or_else}
use Rattle.bit_plane.specs.BitList.{bits_of, placed}
use Rattle.bit_plane.specs.Rows.{Rows, IsGrid, bit_at, blank, flat, rows_of}
use Rattle.bit_plane.proofs.Grids.{length-rows_of, bit_at-rows_of, same_grids, length-flat, rows_of-flat, rows_of-placed, IsGrid-rows_of}
use Rattle.bit_plane.proofs.Flats.{run_within}
use Rattle.bit_plane.proofs.Bytes.{length-bits_of}
use Rattle.bit_plane.proofs.Places.{get_or-placed, get_or-placed_before, get_or-placed_after, length-placed}
use Rattle.bit_plane.proofs.Made.{IsGrid-rows_from, bit_at-rows_from}
use Rattle.plane_map.specs.declared.device.DeviceName.{DeviceName}
use Rattle.plane_map.specs.declared.tile.Place.{Place}
use Rattle.layout_file.specs.declared.layouts.Layouts.{Layouts}
use Rattle.layout_file.specs.Layouts.{AreLayouts, layout_for}
use Rattle.ice_image.specs.Configuration.{Configuration, bank_rows, place_bit, with_bank, AreBanks}
use Rattle.ice_image.specs.Either.{configuration_of, device_of}
use Rattle.ice_image.specs.declared.any.AnyImage.{AnyImage}
use Rattle.ice_image.proofs.BankBits.{same_banks, AreBanks-with_bank, AreBanks-blank, place_bit-blank}
use Rattle.ice_image.specs.declared.planes.PlaneKind.{PlaneKind}
use Rattle.ice_image.specs.declared.planes.PlaneKind.TheVariants.{Cram, Bram}
use Rattle.bin_stream.specs.Commands.{Command, Short, Data}
use Rattle.ice_image.specs.Planes.{plane_width, plane_height}
use Rattle.bin_stream.specs.State.{bank_after, width_after, height_after, first_row_after, device_after, device_with}
use Rattle.bin_stream.specs.Meaning.{is_same_kind, gives, bit_given, plane_bit, plane_of, planes_of}
use Rattle.bin_stream.specs.Refusals.{reached_in}
use Rattle.bin_stream.specs.inside.Registers.{Fits, held_after}
use Rattle.ice_image.specs.Planes.{with_rows}
use Rattle.bin_stream.specs.inside.Step.{device_if, image_or_blank, IsDrawnOn, IsDrawn, Holds}
use Rattle.bin_stream.proofs.OneMore.{device_after-more, reached_in-more, plane_bit-more}
use Rattle.index_search.proofs.Places.{or_else-none}

-- ---- planes by their bits

-- planes with the same bits
pub planes_of-same : (device : DeviceName) (kind : PlaneKind) (commands other : List Command) → ((at : Place) → plane_bit kind commands at ≡ plane_bit kind other at) → planes_of device kind commands ≡ planes_of device kind other
planes_of-same device kind commands other same =
    let plane : (bank : ℕ) → plane_of device kind commands bank ≡ plane_of device kind other bank =
    λ bank. same_grids (plane_width kind device) (plane_height kind device) (plane_of device kind commands bank) (plane_of device kind other bank)
    (IsGrid-rows_from (plane_width kind device) (plane_height kind device) (λ px py. plane_bit kind commands (record { bank = bank; px = px; py = py })))
    (IsGrid-rows_from (plane_width kind device) (plane_height kind device) (λ px py. plane_bit kind other (record { bank = bank; px = px; py = py })))
    (λ x y column row.
    bit_at-rows_from (plane_width kind device) (plane_height kind device) (λ px py. plane_bit kind commands (record { bank = bank; px = px; py = py })) x y column row
    ∙ same (record { bank = bank; px = x; py = y })
    ∙ sym (bit_at-rows_from (plane_width kind device) (plane_height kind device) (λ px py. plane_bit kind other (record { bank = bank; px = px; py = py })) x y column row)) in
    rw (plane 0, plane 1, plane 2, plane 3) refl

-- the plane of a bank
bank_rows-planes_of : (device : DeviceName) (kind : PlaneKind) (commands : List Command) (bank : ℕ) → bank < 4 → bank_rows (planes_of device kind commands) bank ≡ plane_of device kind commands bank
bank_rows-planes_of device kind commands zero lt = refl
bank_rows-planes_of device kind commands (suc zero) lt = refl
bank_rows-planes_of device kind commands (suc (suc zero)) lt = refl
bank_rows-planes_of device kind commands (suc (suc (suc zero))) lt = refl
bank_rows-planes_of device kind commands (suc (suc (suc (suc bank)))) lt = absurd (omega arith)

-- they have the device's size
pub AreBanks-planes_of : (device : DeviceName) (kind : PlaneKind) (commands : List Command) → AreBanks (plane_width kind device) (plane_height kind device) (planes_of device kind commands)
AreBanks-planes_of device kind commands = record {
  four = refl;
  grids = λ bank lt. subst (IsGrid (plane_width kind device) (plane_height kind device)) (sym (bank_rows-planes_of device kind commands bank lt)) (IsGrid-rows_from (plane_width kind device) (plane_height kind device) (λ px py. plane_bit kind commands (record { bank = bank; px = px; py = py })));
}

-- each place has its bit
pub place_bit-planes_of : (device : DeviceName) (kind : PlaneKind) (commands : List Command) (at : Place) → at.bank < 4 → at.px < plane_width kind device → at.py < plane_height kind device → place_bit (planes_of device kind commands) at ≡ plane_bit kind commands at
place_bit-planes_of device kind commands at bank column row =
    ap (λ rows. bit_at rows at.px at.py) (bank_rows-planes_of device kind commands at.bank bank)
    ∙ bit_at-rows_from (plane_width kind device) (plane_height kind device) (λ px py. plane_bit kind commands (record { bank = at.bank; px = px; py = py })) at.px at.py column row

-- planes without a bit are blank
pub planes_of-blank : (device : DeviceName) (kind : PlaneKind) (commands : List Command) → ((at : Place) → plane_bit kind commands at ≡ false) → replicate 4 (blank (plane_width kind device) (plane_height kind device)) ≡ planes_of device kind commands
planes_of-blank device kind commands none =
    same_banks (plane_width kind device) (plane_height kind device) (replicate 4 (blank (plane_width kind device) (plane_height kind device))) (planes_of device kind commands) (AreBanks-blank (plane_width kind device) (plane_height kind device)) (AreBanks-planes_of device kind commands) (λ at bank column row.
    place_bit-blank (plane_width kind device) (plane_height kind device) at bank ∙ sym (none at) ∙ sym (place_bit-planes_of device kind commands at bank column row))

-- ---- commands that draw nothing in a kind's planes

-- commands that aren't data
pub plane_bit-short : (kind : PlaneKind) (commands : List Command) (opcode : ℕ) (payload : List ℕ) (at : Place) → plane_bit kind (commands ++ Short opcode payload ∷ []) at ≡ plane_bit kind commands at
plane_bit-short kind commands opcode payload at = plane_bit-more kind commands (Short opcode payload) at

-- data of the other kind
pub plane_bit-other : (commands : List Command) (payload body : List ℕ) (at : Place) → (plane_bit Bram (commands ++ Data Cram payload body ∷ []) at ≡ plane_bit Bram commands at) × (plane_bit Cram (commands ++ Data Bram payload body ∷ []) at ≡ plane_bit Cram commands at)
plane_bit-other commands payload body at = (plane_bit-more Bram commands (Data Cram payload body) at, plane_bit-more Cram commands (Data Bram payload body) at)

pub Holds-short : (layouts : Layouts) (commands : List Command) (opcode : ℕ) (payload : List ℕ) (image : Option AnyImage) → Holds layouts commands image → Holds layouts (commands ++ Short opcode payload ∷ []) image
Holds-short layouts commands opcode payload None blank = record {
  no_device = device_after-more commands (Short opcode payload) ∙ or_else-none (device_after commands) ∙ blank.no_device;
  not_reached = reached_in-more commands (Short opcode payload) ∙ or-false (reached_in commands) ∙ blank.not_reached;
  no_bit = λ kind at. plane_bit-short kind commands opcode payload at ∙ blank.no_bit kind at;
}
Holds-short layouts commands opcode payload (Some image) drawn = record {
  device_is = device_after-more commands (Short opcode payload) ∙ or_else-none (device_after commands) ∙ drawn.device_is;
  layout_is = drawn.layout_is;
  cram_is = drawn.cram_is ∙ planes_of-same (device_of image) Cram commands (commands ++ Short opcode payload ∷ []) (λ at. sym (plane_bit-short Cram commands opcode payload at));
  bram_is = drawn.bram_is ∙ planes_of-same (device_of image) Bram commands (commands ++ Short opcode payload ∷ []) (λ at. sym (plane_bit-short Bram commands opcode payload at));
}

-- ---- data

-- rows that are written from one on: the bits of the rows, and those of others as before
bit_at-written : (width height first count : ℕ) (bits : List Bool) (rows : Rows) (x y : ℕ) → IsGrid width height rows → first + count ≤ height → x < width → y < height → bit_at (placed first (rows_of width count bits) rows) x y ≡ cond (nat_le first y && nat_lt y (first + count)) (get_or bits ((y - first) * width + x) false) (bit_at rows x y)
bit_at-written width height first count bits rows x y grid within column row =
    let part = rows_of width count bits in
    let long : length part ≡ count = length-rows_of width count bits in
    let above : first ≤ length rows = omega (arith, grid.height_is) in
    elim (cases_lt y first) [
      | inl before ↦
          let fails : (nat_le first y && nat_lt y (first + count)) ≡ false = and_left (nat_le first y) (nat_lt y (first + count)) (lt-leb first y before) in
          rw fails (ap (λ bits. get_or bits x false) (get_or-placed_before first y part rows [] before above))
      | inr from ↦ elim (cases_lt y (first + count)) [
        | inl inside ↦
            let passes : (nat_le first y && nat_lt y (first + count)) ≡ true = and_from (nat_le first y) (nat_lt y (first + count)) (le-leb first y from) (lt-ltb y (first + count) inside) in
            let e : y ≡ first + (y - first) = omega arith in
            let here : get_or (placed first part rows) y [] ≡ get_or part (y - first) [] = ap (λ y. get_or (placed first part rows) y []) e ∙ get_or-placed first (y - first) part rows [] (omega arith) above in
            rw passes (ap (λ bits. get_or bits x false) here ∙ bit_at-rows_of width count bits x (y - first) column (omega arith))
        | inr following ↦
            let fails : (nat_le first y && nat_lt y (first + count)) ≡ false = and_right (nat_le first y) (nat_lt y (first + count)) (le-ltb y (first + count) following) in
            rw fails (ap (λ bits. get_or bits x false) (get_or-placed_after first y part rows [] (omega arith) above))
      ]
    ]

-- a grid with rows written over it is a grid
IsGrid-written : (width height first count : ℕ) (bits : List Bool) (rows : Rows) → IsGrid width height rows → first + count ≤ height → length bits ≡ count * width → IsGrid width height (placed first (rows_of width count bits) rows)
IsGrid-written width height first count bits rows grid within long =
    let old = flat rows in
    let exact : length old ≡ width * height = length-flat width height rows grid in
    let same : rows_of width height (placed (first * width) bits old) ≡ placed first (rows_of width count bits) rows = rows_of-placed width height first count bits old within long exact ∙ ap (placed first (rows_of width count bits)) (rows_of-flat width height rows grid) in
    let room : first * width + length bits ≤ length old = run_within width height first count (length bits) (length old) within long exact in
    subst (IsGrid width height) same (IsGrid-rows_of width height (placed (first * width) bits old) (length-placed (first * width) bits old room ∙ exact))

same_kind : (kind : PlaneKind) → is_same_kind kind kind ≡ true
same_kind Cram = refl
same_kind Bram = refl

-- the planes with data's rows written into the bank's plane are what the data draw
pub planes_drawn : (device : DeviceName) (kind : PlaneKind) (commands : List Command) (payload body : List ℕ) → bank_after commands < 4 → width_after commands ≡ plane_width kind device → first_row_after commands + height_after commands ≤ plane_height kind device → 8 * length body ≡ height_after commands * plane_width kind device → with_bank (planes_of device kind commands) (bank_after commands) (placed (first_row_after commands) (rows_of (width_after commands) (height_after commands) (bits_of body)) (bank_rows (planes_of device kind commands) (bank_after commands))) ≡ planes_of device kind (commands ++ Data kind payload body ∷ [])
planes_drawn device kind commands payload body bank_in width_is within long =
    let W = plane_width kind device in
    let H = plane_height kind device in
    let planes = planes_of device kind commands in
    let bank = bank_after commands in
    let first = first_row_after commands in
    let count = height_after commands in
    let bits = bits_of body in
    let command = Data kind payload body in
    let banks : AreBanks W H planes = AreBanks-planes_of device kind commands in
    let grid : IsGrid W H (bank_rows planes bank) = banks.grids bank bank_in in
    let bits_long : length bits ≡ count * W = length-bits_of body ∙ long in
    let rows = placed first (rows_of W count bits) (bank_rows planes bank) in
    let whole : IsGrid W H rows = IsGrid-written W H first count bits (bank_rows planes bank) grid within bits_long in
    ap (λ width. with_bank planes bank (placed first (rows_of width count bits) (bank_rows planes bank))) width_is
    ∙ same_banks W H (with_bank planes bank rows) (planes_of device kind (commands ++ command ∷ [])) (AreBanks-with_bank W H planes bank rows banks whole) (AreBanks-planes_of device kind (commands ++ command ∷ [])) (λ at in_bank column row.
    let before : place_bit planes at ≡ plane_bit kind commands at = place_bit-planes_of device kind commands at in_bank column row in
    let after : plane_bit kind (commands ++ command ∷ []) at ≡ place_bit (planes_of device kind (commands ++ command ∷ [])) at = sym (place_bit-planes_of device kind (commands ++ command ∷ []) at in_bank column row) in
    let test : Bool = nat_le first at.py && nat_lt at.py (first + count) in
    let here : Bool = get_or bits ((at.py - first) * W + at.px) false in
    elim (cases_eq at.bank bank) [
      | inl e ↦
          let stored : place_bit (with_bank planes bank rows) at ≡ bit_at rows at.px at.py = ap (λ k. bit_at (get_or (set planes bank rows) k []) at.px at.py) e ∙ ap (λ rows. bit_at rows at.px at.py) (get_or-set_same planes bank rows [] (omega (arith, banks.four))) in
          let old : bit_at (bank_rows planes bank) at.px at.py ≡ plane_bit kind commands at = ap (λ k. bit_at (bank_rows planes k) at.px at.py) (sym e) ∙ before in
          let gives_is : gives kind at commands (Some command) ≡ test = rw (same_kind kind, eq-eqb bank at.bank (sym e)) refl in
          let given_is : bit_given at commands (Some command) ≡ here = ap (λ width. get_or bits ((at.py - first) * width + at.px) false) width_is in
          stored
          ∙ bit_at-written W H first count bits (bank_rows planes bank) at.px at.py grid within column row
          ∙ ap (cond test here) old
          ∙ ap₂ (λ test here. cond test here (plane_bit kind commands at)) (sym gives_is) (sym given_is)
          ∙ sym (plane_bit-more kind commands command at)
          ∙ after
      | inr ne ↦
          let stored : place_bit (with_bank planes bank rows) at ≡ place_bit planes at = ap (λ rows. bit_at rows at.px at.py) (get_or-set_other planes bank at.bank rows [] ne) in
          let apart : (bank == at.bank) ≡ false = ne_eqb bank at.bank (λ e. ne (sym e)) in
          let gives_is : gives kind at commands (Some command) ≡ false = rw (same_kind kind, apart) refl in
          stored ∙ before
          ∙ ap (λ test. cond test (bit_given at commands (Some command)) (plane_bit kind commands at)) (sym gives_is)
          ∙ sym (plane_bit-more kind commands command at)
          ∙ after
    ])

-- the device of the image is the commands'
pub device_if-is : (layouts : Layouts) (commands : List Command) (image : Option AnyImage) → Holds layouts commands image → device_if image ≡ device_after commands
device_if-is layouts commands None blank = sym blank.no_device
device_if-is layouts commands (Some image) drawn = sym drawn.device_is

-- what data are written into
record IsBase (layouts : Layouts) (device : DeviceName) (commands : List Command) (base : Configuration) : Type 0 where
  layout_is : base.layout ≡ layout_for layouts device
  cram_is : base.cram ≡ planes_of device Cram commands
  bram_is : base.bram ≡ planes_of device Bram commands

IsBase-holds : (layouts : Layouts) → AreLayouts layouts → (device : DeviceName) (commands : List Command) (image : Option AnyImage) (other : Option DeviceName) → Holds layouts commands image → or_else (device_if image) other ≡ Some device → IsBase layouts device commands (image_or_blank (layout_for layouts device) image)
IsBase-holds layouts are device commands None other none chosen =
    let same = are device in
    record {
      layout_is = refl;
      cram_is = ap (λ device. replicate 4 (blank (plane_width Cram device) (plane_height Cram device))) same ∙ planes_of-blank device Cram commands (none.no_bit Cram);
      bram_is = ap (λ device. replicate 4 (blank (plane_width Bram device) (plane_height Bram device))) same ∙ planes_of-blank device Bram commands (none.no_bit Bram);
    }
IsBase-holds layouts are device commands (Some image) other drawn chosen =
    let e : device_of image ≡ device = cc in
    record {
      layout_is = sym drawn.layout_is ∙ ap (layout_for layouts) e;
      cram_is = drawn.cram_is ∙ ap (λ device. planes_of device Cram commands) e;
      bram_is = drawn.bram_is ∙ ap (λ device. planes_of device Bram commands) e;
    }

eight : (n p : ℕ) → n ≡ p / 8 → p % 8 ≡ 0 → 8 * n ≡ p
eight n p is whole = omega arith

-- an image with data's rows, by its kind
Drawn-rows : (layouts : Layouts) (device : DeviceName) (kind : PlaneKind) (commands : List Command) (payload body : List ℕ) (base image : Configuration) → IsBase layouts device commands base → Fits device kind (held_after commands) → bank_after commands < 4 → length body ≡ width_after commands * height_after commands / 8 → image ≡ with_rows kind (bank_after commands) (first_row_after commands) (rows_of (width_after commands) (height_after commands) (bits_of body)) base → IsBase layouts device (commands ++ Data kind payload body ∷ []) image
Drawn-rows layouts device Cram commands payload body base image is fits bank_in long image_is =
    let bank = bank_after commands in
    let rows = rows_of (width_after commands) (height_after commands) (bits_of body) in
    let full : 8 * length body ≡ height_after commands * plane_width Cram device = eight (length body) (width_after commands * height_after commands) long fits.whole ∙ mul_comm (width_after commands) (height_after commands) ∙ ap (λ width. height_after commands * width) fits.columns in
    record {
      layout_is = ap (λ c. c.layout) image_is ∙ is.layout_is;
      cram_is = ap (λ c. c.cram) image_is ∙ ap (λ planes. with_bank planes bank (placed (first_row_after commands) rows (bank_rows planes bank))) is.cram_is ∙ planes_drawn device Cram commands payload body bank_in fits.columns fits.rows full;
      bram_is = ap (λ c. c.bram) image_is ∙ is.bram_is ∙ planes_of-same device Bram commands (commands ++ Data Cram payload body ∷ []) (λ at. sym (plane_bit-other commands payload body at).0);
    }
Drawn-rows layouts device Bram commands payload body base image is fits bank_in long image_is =
    let bank = bank_after commands in
    let rows = rows_of (width_after commands) (height_after commands) (bits_of body) in
    let full : 8 * length body ≡ height_after commands * plane_width Bram device = eight (length body) (width_after commands * height_after commands) long fits.whole ∙ mul_comm (width_after commands) (height_after commands) ∙ ap (λ width. height_after commands * width) fits.columns in
    record {
      layout_is = ap (λ c. c.layout) image_is ∙ is.layout_is;
      cram_is = ap (λ c. c.cram) image_is ∙ is.cram_is ∙ planes_of-same device Cram commands (commands ++ Data Bram payload body ∷ []) (λ at. sym (plane_bit-other commands payload body at).1);
      bram_is = ap (λ c. c.bram) image_is ∙ ap (λ planes. with_bank planes bank (placed (first_row_after commands) rows (bank_rows planes bank))) is.bram_is ∙ planes_drawn device Bram commands payload body bank_in fits.columns fits.rows full;
    }

-- data written into the image are what the commands draw with them
pub Holds-data : (layouts : Layouts) → AreLayouts layouts → (commands : List Command) (kind : PlaneKind) (payload body : List ℕ) (before after : Option AnyImage) → Holds layouts commands before → IsDrawnOn layouts kind (held_after commands) body before after → Holds layouts (commands ++ Data kind payload body ∷ []) after
Holds-data layouts are commands kind payload body before after holds drawn =
    let device = drawn.device in
    let image = drawn.image in
    let command = Data kind payload body in
    let base = IsBase-holds layouts are device commands before (device_with kind (width_after commands)) holds drawn.device_is in
    let made : IsBase layouts device (commands ++ command ∷ []) (configuration_of image) = Drawn-rows layouts device kind commands payload body (image_or_blank (layout_for layouts device) before) (configuration_of image) base drawn.fits drawn.bank_in drawn.long drawn.rows_are in
    let P : Option AnyImage → Type 0 = Holds layouts (commands ++ command ∷ []) in
    let is_drawn : IsDrawn layouts (commands ++ command ∷ []) image = record {
      device_is =
          device_after-more commands command
          ∙ ap (λ fixed. or_else fixed (device_with kind (width_after commands))) (sym (device_if-is layouts commands before holds))
          ∙ drawn.device_is
          ∙ ap (λ device. Some device) (sym drawn.same_device);
      layout_is = ap (layout_for layouts) drawn.same_device ∙ sym made.layout_is;
      cram_is = made.cram_is ∙ ap (λ device. planes_of device Cram (commands ++ command ∷ [])) (sym drawn.same_device);
      bram_is = made.bram_is ∙ ap (λ device. planes_of device Bram (commands ++ command ∷ [])) (sym drawn.same_device);
    } in
    subst P (sym drawn.image_is) is_drawn
