use Rattle.std.proofs.Common.{◌≡◌, ◌<◌, sym, ap, ◌∙◌, subst, length, get_or, vec_len, arith}
use Rattle.boot_file.specs.BootFile.{HasBytes, boot_byte, bytes_of, end_of, image_at, place_of}
use Rattle.boot_file.proofs.Bytes.{HasBytes-headers, HasBytes-gap, HasBytes-image, boot_file-is, start-all, start-more, image_at-is, length-bytes_of}
use Rattle.boot_file.proofs.Placing.{checked}
use Rattle.boot_file.proofs.joining.join.Goals as goal

pub places-requires : goal.places-requires
places-requires c = (checked c.len.result c.args.options (sym c.in_ok-check.ensures.is)).aligns

pub headers-requires-clause-power_on : goal.headers-requires-clause-power_on
headers-requires-clause-power_on c =
    omega (arith, c.in_ok-check.ensures.power_on, ap length c.as_slice-places.ensures.value, c.in_ok-found.ensures.count)

pub loop-index-init : goal.loop-index-init
loop-index-init c =
    let images = bytes_of c.args.images.now in
    let places = c.as_slice-places.result.now in
    let count : length places ≡ length c.args.images.now.items = ap length c.as_slice-places.ensures.value ∙ c.in_ok-found.ensures.count in
    HasBytes-headers images c.args.options (length places) (λ index. get_or places index 0) c.in_ok-file.file.items (omega (arith, count, length-bytes_of c.args.images.now))
    (λ index within. ap (λ xs. get_or xs index 0) c.as_slice-places.ensures.value ∙ c.in_ok-found.ensures.found index (omega (arith, count)))
    (omega (arith, c.in_ok-check.ensures.power_on, count))
    c.in_ok-file.ensures

pub loop-index-preserved : goal.loop-index-preserved
loop-index-preserved c =
    let images = bytes_of c.args.images.now in
    let options = c.args.options in
    let index = c.loop-index.index in
    let places = c.as_slice-places.result.now in
    let place = get_or places index 0 in
    let within : index < length c.args.images.now.items = omega (arith, ap length c.deref-image-items.ensures.value) in
    let at : place ≡ place_of images options index = ap (λ xs. get_or xs index 0) c.as_slice-places.ensures.value ∙ c.in_ok-found.ensures.found index within in
    let item = c.image-item.is ∙ ap (λ xs. get_or xs index c.image-item.result) c.deref-image-items.ensures.value in
    let image : image_at images index ≡ c.deref.result.now = image_at-is c.args.images.now index c.image-item.result within item ∙ sym c.deref.ensures.value in
    let gap = HasBytes-gap images options index place (vec_len c.loop-index.file) c.loop-index.file.items at (omega arith) c.loop-index.invariant in
    let filled = subst (λ file. HasBytes (boot_byte images options) place file) (sym c.in_ok-resize.ensures.items) gap in
    let whole = HasBytes-image images options index place c.resize.new.self.items c.deref.result.now at (omega (arith, within, length-bytes_of c.args.images.now)) image filled in
    subst (λ size. HasBytes (boot_byte images options) size c.extend_from_slice.new.self.items) (sym (start-more images options index))
    (subst (λ file. HasBytes (boot_byte images options) (end_of images options index) file) (sym c.in_ok-extend_from_slice.ensures.items) whole)

pub returns-clause-joined : goal.returns-clause-joined
returns-clause-joined c =
    let images = bytes_of c.args.images.now in
    let options = c.args.options in
    let count = c.loop-index.index in
    let all : count ≡ length images = omega (arith, ap length c.deref-image-items.ensures.value, length-bytes_of c.args.images.now) in
    let some = (checked c.len.result options (sym c.in_ok-check.ensures.is)).some in
    boot_file-is images options c.loop-index.file.items
    (subst (λ size. HasBytes (boot_byte images options) size c.loop-index.file.items) (start-all images options count all (omega (arith, some, length-bytes_of c.args.images.now))) c.loop-index.invariant)
