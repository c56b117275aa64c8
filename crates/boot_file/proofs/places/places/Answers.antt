use Rattle.std.proofs.Common.{◌≡◌, ◌+◌, ◌^◌, ◌<◌, ◌≤◌, length, get_or, [], ◌∷◌, length-append, sym, ap, ap₂, ◌∙◌, subst, arith}
use Rattle.boot_file.specs.BootFile.{aligned, bytes_of, place_of, image_at}
use Rattle.boot_file.proofs.Bytes.{image_at-is, length-bytes_of}
use Rattle.boot_file.proofs.Placing.{place-first, place-more, found-more, small-more, address-at, address-none}
use Rattle.boot_file.proofs.places.places.Goals as goal

pub loop-index-init : goal.loop-index-init
loop-index-init c =
    let first = c.first_place-place.ensures ∙ sym (place-first (bytes_of c.args.images.now) c.args.options) in
    record {
      near = λ within. first;
      far = λ over. subst (λ n. 2 ^ 24 ≤ n) first over;
      count = ap length c.new-places.ensures.items;
      found = λ k below. absurd (omega arith);
      small = λ k. subst (λ xs. get_or xs k 0 < 2 ^ 24) (sym c.new-places.ensures.items) (omega arith);
    }

pub returns-then-place-ge-ADDRESS_LIMIT-clause-refused : goal.returns-then-place-ge-ADDRESS_LIMIT-clause-refused
returns-then-place-ge-ADDRESS_LIMIT-clause-refused c =
    let images = bytes_of c.args.images.now in
    let i = c.loop-index.invariant in
    address-at images c.args.options c.loop-index.index (omega (arith, length-bytes_of c.args.images.now)) (i.far c.if-place-ge-ADDRESS_LIMIT.true)
    (λ k below. subst (λ n. n < 2 ^ 24) (i.found k below) (i.small k))

pub loop-index-preserved : goal.loop-index-preserved
loop-index-preserved c =
    let images = bytes_of c.args.images.now in
    let options = c.args.options in
    let index = c.loop-index.index in
    let i = c.loop-index.invariant in
    let old = c.loop-index.places.items in
    let added = c.in_ok-push.ensures.items in
    let here = i.near c.if-place-ge-ADDRESS_LIMIT.false in
    let within : index < length c.args.images.now.items = omega (arith, ap length c.deref-image-items.ensures.value) in
    let item = c.image-item.is ∙ ap (λ xs. get_or xs index c.image-item.result) c.deref-image-items.ensures.value in
    let image = image_at-is c.args.images.now index c.image-item.result within item in
    let size : c.len.result ≡ length (image_at images index) = omega (arith, ap length image) in
    let next = ap₂ (λ place length. aligned options.align (place + length)) here size ∙ sym (place-more images options index) in
    record {
      near = λ small. c.offset_after-place.ensures.near small ∙ next;
      far = λ great. subst (λ n. 2 ^ 24 ≤ n) next (c.offset_after-place.ensures.far great);
      count = omega (arith, ap length added, length-append old (c.loop-index.place ∷ []), i.count);
      found = λ k below. ap (λ xs. get_or xs k 0) added ∙ found-more old c.loop-index.place index (place_of images options) i.count i.found here k below;
      small = λ k. subst (λ xs. get_or xs k 0 < 2 ^ 24) (sym added) (small-more old c.loop-index.place (2 ^ 24) i.small c.if-place-ge-ADDRESS_LIMIT.false k);
    }

pub returns-clause-accepted : goal.returns-clause-accepted
returns-clause-accepted c =
    let i = c.loop-index.invariant in
    address-none (bytes_of c.args.images.now) c.args.options
    (λ k below. subst (λ n. n < 2 ^ 24) (i.found k (omega (arith, length-bytes_of c.args.images.now))) (i.small k))
