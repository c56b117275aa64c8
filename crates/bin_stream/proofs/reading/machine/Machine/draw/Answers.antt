use Rattle.std.proofs.Common.{◌≡◌, ℕ, ◌+◌, ◌*◌, ◌/◌, ◌∙◌, ap, ap₂, arith, refl, sym, subst, ◌<◌, ◌≤◌}
use Rattle.std.proofs.Math.Nat.{mul_comm}
use Rattle.bit_plane.specs.BitList.{bits_of}
use Rattle.bit_plane.specs.Rows.{rows_of}
use Rattle.ice_image.specs.Configuration.{Configuration}
use Rattle.ice_image.specs.Either.{configuration_of, device_of}
use Rattle.ice_image.specs.Planes.{plane_height, plane_width, with_rows}
use Rattle.layout_file.specs.Layouts.{layout_for}
use Rattle.bin_stream.specs.State.{device_with}
use Rattle.bin_stream.specs.inside.Step.{image_or_blank}
use Rattle.bin_stream.proofs.Laid.{device_kept}
use Rattle.plane_map.specs.declared.device.DeviceName.{DeviceName}
use Rattle.bin_stream.proofs.reading.machine.Machine.draw.Goals as goal

pub set_rows-requires-clause-rows : goal.set_rows-requires-clause-rows
set_rows-requires-clause-rows c =
    let held = c.args.self.now.registers in
    let kind = c.args.kind in
    let layouts = c.args.self.now.layouts in
    let before = c.args.self.now.image in
    let base_is : configuration_of c.in_ok-image.image ≡ image_or_blank (layout_for layouts c.args.device) before = c.in_ok-image.ensures ∙ ap₂ image_or_blank c.of.ensures c.take.ensures.value in
    let device_is : device_of c.in_ok-image.image ≡ c.args.device =
    ap (λ (image : Configuration). image.layout.device) base_is ∙ device_kept layouts c.args.device before (device_with kind held.width) c.requires.layouts c.requires.device in
    let end_is : c.first_row-first.result + c.rows-count.result ≡ held.first_row + held.height = ap₂ (λ (first count : ℕ). first + count) c.first_row-first.ensures c.rows-count.ensures in
    subst (λ (device : DeviceName). c.first_row-first.result + c.rows-count.result ≤ plane_height kind device) (sym device_is)
    (subst (λ (end : ℕ). end ≤ plane_height kind c.args.device) (sym end_is) c.requires.fits.rows)

pub set_rows-requires-clause-bytes : goal.set_rows-requires-clause-bytes
set_rows-requires-clause-bytes c =
    let held = c.args.self.now.registers in
    let kind = c.args.kind in
    let layouts = c.args.self.now.layouts in
    let before = c.args.self.now.image in
    let base_is : configuration_of c.in_ok-image.image ≡ image_or_blank (layout_for layouts c.args.device) before = c.in_ok-image.ensures ∙ ap₂ image_or_blank c.of.ensures c.take.ensures.value in
    let device_is : device_of c.in_ok-image.image ≡ c.args.device =
    ap (λ (image : Configuration). image.layout.device) base_is ∙ device_kept layouts c.args.device before (device_with kind held.width) c.requires.layouts c.requires.device in
    let bits : ℕ = held.width * held.height in
    let whole : 8 * (bits / 8) ≡ bits = omega (arith, c.requires.fits.whole) in
    ap (λ (size : ℕ). 8 * size) c.requires.size ∙ whole ∙ mul_comm held.width held.height
    ∙ ap₂ (λ (count columns : ℕ). count * columns) (sym c.rows-count.ensures) (c.requires.fits.columns ∙ ap (plane_width kind) (sym device_is))

pub returns-clause-drawn : goal.returns-clause-drawn
returns-clause-drawn c =
    let held = c.args.self.now.registers in
    let kind = c.args.kind in
    let device = c.args.device in
    let layouts = c.args.self.now.layouts in
    let before = c.args.self.now.image in
    let bits = bits_of c.args.body.now in
    let base = image_or_blank (layout_for layouts device) before in
    let base_is : configuration_of c.in_ok-image.image ≡ base = c.in_ok-image.ensures ∙ ap₂ image_or_blank c.of.ensures c.take.ensures.value in
    let device_is : device_of c.in_ok-image.image ≡ device =
    ap (λ (image : Configuration). image.layout.device) base_is ∙ device_kept layouts device before (device_with kind held.width) c.requires.layouts c.requires.device in
    let width_is : plane_width kind (device_of c.in_ok-image.image) ≡ held.width = ap (plane_width kind) device_is ∙ sym c.requires.fits.columns in
    record {
      device = device;
      image = c.set_rows.new.self;
      device_is = c.requires.device;
      fits = c.requires.fits;
      bank_in = subst (λ (bank : ℕ). bank < 4) c.bank-bank.ensures.value c.bank-bank.ensures.four;
      long = c.requires.size;
      image_is = refl;
      same_device = c.set_rows.ensures.device ∙ device_is;
      rows_are =
          c.set_rows.ensures.rows
          ∙ ap (with_rows kind c.bank-bank.result c.first_row-first.result (rows_of (plane_width kind (device_of c.in_ok-image.image)) c.rows-count.result bits)) base_is
          ∙ ap (λ width. with_rows kind c.bank-bank.result c.first_row-first.result (rows_of width c.rows-count.result bits) base) width_is
          ∙ ap (λ bank. with_rows kind bank c.first_row-first.result (rows_of held.width c.rows-count.result bits) base) c.bank-bank.ensures.value
          ∙ ap (λ first. with_rows kind held.bank first (rows_of held.width c.rows-count.result bits) base) c.first_row-first.ensures
          ∙ ap (λ count. with_rows kind held.bank held.first_row (rows_of held.width count bits) base) c.rows-count.ensures;
    }
