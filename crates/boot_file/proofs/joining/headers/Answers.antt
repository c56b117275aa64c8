use Rattle.std.proofs.Common.{◌+◌, ◌*◌, sym, ap, ap₂, ◌∙◌, subst, length, get_or}
use Rattle.boot_file.specs.BootFile.{HasBytes, header, header_byte}
use Rattle.boot_file.proofs.Bytes.{HasBytes-none, HasBytes-header}
use Rattle.boot_file.proofs.joining.headers.Goals as goal

pub loop-index-init : goal.loop-index-init
loop-index-init c = HasBytes-none _ c.in_ok-file.file.items c.in_ok-file.ensures.items

pub loop-index-preserved : goal.loop-index-preserved
loop-index-preserved c =
    let places = c.args.places.now in
    let count = length places in
    let more = c.header-header.ensures ∙ ap₂ (λ cold address. header cold address) c.is_cold.ensures (ap (λ index. get_or places index 0) c.image_booted.ensures.is) in
    subst (λ file. HasBytes (header_byte count (λ index. get_or places index 0) c.args.options) (32 * (c.loop-index.index + 1)) file) (sym c.in_ok-extend_from_slice.ensures.items)
    (HasBytes-header count (λ index. get_or places index 0) c.args.options c.loop-index.index c.loop-index.file.items c.header-header.result c.loop-index.invariant more)
