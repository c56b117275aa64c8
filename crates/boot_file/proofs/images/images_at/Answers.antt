use Rattle.std.proofs.Common.{◌≡◌, ◌<◌, ℕ, List, length, get_or, refl, sym, ap, ◌∙◌, subst, rules, arith}
use Rattle.std.specs.Prelude.{map}
use Rattle.index_search.specs.Places.{first_below}
use Rattle.boot_file.specs.Parts.{image_addresses}
use Rattle.boot_file.specs.Meaning.{placed_of}
use Rattle.boot_file.specs.Faults.{image_fault, images_fault}
use Rattle.boot_file.proofs.Clear.{address-within, clear-more, headers-clear, images-more, tells-image}
use Rattle.boot_file.proofs.Named.{few_addresses}
use Rattle.boot_file.proofs.images.images_at.Goals as goal

pub overflow_cast-index : goal.overflow_cast-index
overflow_cast-index c = omega (arith, few_addresses c.args.bytes.now, ap length c.requires.addresses, c.loop-index-test.true)

pub image_at-requires-clause-headers : goal.image_at-requires-clause-headers
image_at-requires-clause-headers c = (headers-clear c.args.bytes.now c.requires.headers).long

pub image_at-requires-clause-within : goal.image_at-requires-clause-within
image_at-requires-clause-within c =
    subst (λ (addresses : List ℕ). get_or addresses c.loop-index.index 0 < length c.args.bytes.now) (sym c.requires.addresses)
    (address-within c.args.bytes.now c.loop-index.index c.requires.headers (omega (arith, ap length c.requires.addresses, c.loop-index-test.true)))

pub loop-index-init : goal.loop-index-init
unfolding first_below
loop-index-init c = record { images = ap (map placed_of) c.new-images.ensures.items; clear = refl }

pub returns-in_err-image_at-clause-refused : goal.returns-in_err-image_at-clause-refused
returns-in_err-image_at-clause-refused c =
    let told =
    tells-image c.args.bytes.now c.loop-index.index (get_or c.args.addresses.now c.loop-index.index 0) c.in_err-image_at.field-0.0
    (omega (arith, ap length c.requires.addresses, c.loop-index-test.true)) (ap (λ (xs : List ℕ). get_or xs c.loop-index.index 0) c.requires.addresses)
    c.loop-index.invariant.clear c.in_err-image_at.ensures.refused in
    search (rules, told)

pub loop-index-preserved : goal.loop-index-preserved
loop-index-preserved c =
    let bytes = c.args.bytes.now in
    let addresses = c.args.addresses.now in
    let index = c.loop-index.index in
    let address = get_or addresses index 0 in
    record {
      images = images-more bytes addresses index address c.loop-index.images.items _ c.in_ok-image_at.field-0 c.loop-index-test.true refl
          c.in_ok-push.ensures.items c.in_ok-image_at.ensures.image c.loop-index.invariant.images;
      clear = clear-more bytes index address (ap (λ (xs : List ℕ). get_or xs index 0) c.requires.addresses) c.in_ok-image_at.ensures.accepted c.loop-index.invariant.clear;
    }

pub returns-clause-accepted : goal.returns-clause-accepted
unfolding images_fault
returns-clause-accepted c =
    let bytes = c.args.bytes.now in
    let all : length (image_addresses bytes) ≡ c.loop-index.index = omega (arith, c.loop-index-test.false, c.loop-index.auto.index-end, ap length c.requires.addresses) in
    ap (λ n. first_below n (λ index. image_fault bytes index (get_or (image_addresses bytes) index 0))) all ∙ c.loop-index.invariant.clear
