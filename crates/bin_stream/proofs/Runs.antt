-- Rows that follow one another in a plane are a plane of their own.
use Rattle.std.proofs.Common.{◌≡◌, ℕ, ◌+◌, ◌-◌, ◌*◌, ◌/◌, ◌%◌, ◌<◌, ◌≤◌, List, [], length, take, drop, ◌++◌, append-nil, length-append, take_all, sym, ap, subst, ◌∙◌, arith}
use borrow.Rule.Slice.PartMut.{put_mid}
use Rattle.std.proofs.lemmas.List.{get_or-drop, drop_all, get_or-take, length-take, length-drop, take_at}
use Rattle.bit_plane.specs.BitList.{bytes_of}
use Rattle.bit_plane.specs.Rows.{Rows, IsGrid, flat}
use Rattle.bit_plane.proofs.Grids.{length-flat}
use Rattle.bin_stream.specs.CanonicalBytes.{row_bytes}
use Rattle.plane_map.specs.Layout.{cram_width, cram_height, bram_width, bram_height}
use Rattle.plane_map.specs.declared.device.DeviceName.{DeviceName}
use Rattle.ice_image.specs.Configuration.{Configuration, IsWhole}
use Rattle.ice_image.specs.Planes.{plane_width, plane_height, rows_of_bank}
use Rattle.ice_image.specs.declared.planes.PlaneKind.{PlaneKind}
use Rattle.ice_image.specs.declared.planes.PlaneKind.TheVariants.{Cram, Bram}

pub IsGrid-run : (width height first count : ℕ) (rows : Rows) → IsGrid width height rows → first + count ≤ height → IsGrid width count (take count (drop first rows))
IsGrid-run width height first count rows grid within = record {
  height_is = omega (arith, length-take count (drop first rows), length-drop first rows, grid.height_is);
  width_is = λ y lt. ap length (get_or-take count (drop first rows) y [] lt ∙ get_or-drop first rows y []) ∙ grid.width_is (first + y) (omega arith);
}

-- the bytes of rows, that many of them
pub row_bytes-run : (width height first count n : ℕ) (rows : Rows) → IsGrid width height rows → first + count ≤ height → count * width % 8 ≡ 0 → n ≡ count * width / 8 → bytes_of n (flat (take count (drop first rows))) ≡ row_bytes (take count (drop first rows))
row_bytes-run width height first count n rows grid within whole is =
    let run = take count (drop first rows) in
    let bits : length (flat run) ≡ width * count = length-flat width count run (IsGrid-run width height first count rows grid within) in
    let same : n ≡ length (flat run) / 8 = is ∙ ap (λ k. k / 8) (omega arith) in
    ap (λ k. bytes_of k (flat run)) same

-- a vector whose every element was written holds what was written
pub written : {A : Type 0} (len : ℕ) (old new : List A) → len ≡ length old → length new ≡ length old → take len (new ++ drop (length new) old) ≡ new
written len old new len-is kept = take_at new (drop (length new) old) len (kept ∙ sym len-is)

-- a list whose tail was written holds its front and what was written
rejoined : (start : ℕ) (before whole tail : List ℕ) → take start whole ≡ before → put_mid start (length whole - start) whole tail ≡ before ++ tail
rejoined start before whole tail kept =
    let none : drop (length whole - start) (drop start whole) ≡ [] = drop_all (length whole - start) (drop start whole) (omega (arith, length-drop start whole)) in
    ap (λ rest. take start whole ++ (tail ++ rest)) none ∙ ap (λ rest. take start whole ++ rest) (append-nil tail) ∙ ap (λ front. front ++ tail) kept

-- a vector whose tail was written holds its front and what was written
pub tail_written : (len start : ℕ) (before whole items tail : List ℕ) → len ≡ length items → length whole ≡ length items → start ≤ length whole → take start whole ≡ before → length tail ≡ length whole - start → take len (put_mid start (length whole - start) whole tail ++ drop (length (put_mid start (length whole - start) whole tail)) items) ≡ before ++ tail
tail_written len start before whole items tail len-is as_long within kept rest =
    let joined = rejoined start before whole tail kept in
    let total : length (put_mid start (length whole - start) whole tail) ≡ length items = ap length joined ∙ length-append before tail ∙ omega (arith, ap length kept, length-take start whole) in
    written len items (put_mid start (length whole - start) whole tail) len-is total ∙ joined

-- what grew keeps its front
pub take-grown : (n start : ℕ) (old more grown : List ℕ) → start ≡ length old → start ≤ n → grown ≡ take n old ++ more → take start grown ≡ old
take-grown n start old more grown start-is above is =
    ap (take start) (is ∙ ap (λ kept. kept ++ more) (take_all n old (omega arith))) ∙ take_at old more start (sym start-is)

-- a bank's plane is whole
pub whole_rows : (kind : PlaneKind) (image : Configuration) (device : DeviceName) (bank : ℕ) → device ≡ image.layout.device → IsWhole image → bank < 4 → IsGrid (plane_width kind device) (plane_height kind device) (rows_of_bank kind bank image)
whole_rows Cram image device bank same whole within =
    subst (λ (d : DeviceName). IsGrid (cram_width d) (cram_height d) (rows_of_bank Cram bank image)) (sym same) (whole.cram.grids bank within)
whole_rows Bram image device bank same whole within =
    subst (λ (d : DeviceName). IsGrid (bram_width d) (bram_height d) (rows_of_bank Bram bank image)) (sym same) (whole.bram.grids bank within)
