use Rattle.std.proofs.Common.{◌+◌, ◌-◌, ◌*◌, ◌++◌, false, get_or, ap, ◌∙◌}
use Rattle.hex.specs.Hex.{encode_lower}
use Rattle.asc_text.specs.Canonical.{two_bytes}
use Rattle.bram_replace.specs.Packed.{word_from}
use Rattle.bram_replace.specs.Replaced.{word_with}
use Rattle.bram_replace.specs.Rams.{listed}
use Rattle.asc_text.proofs.Pieces.{digits-none, digits-more}
use Rattle.bram_replace.proofs.Putting.{word-listed}
use Rattle.bram_replace.proofs.ram.append_digits.Goals as goal

pub loop-place-init : goal.loop-place-init
loop-place-init c = digits-none _ _

pub loop-place-preserved : goal.loop-place-preserved
loop-place-preserved c =
    let bits = c.args.bits.now in
    digits-more c.args.bytes.now.items c.loop-place.bytes.items c.append_word.new.bytes.items c.loop-place.place
    (λ place. two_bytes (word_with (listed bits) (16 * c.args.row + (15 - place)))) c.loop-place.invariant
    (c.in_ok-append_word.ensures ∙ ap (λ word. c.loop-place.bytes.items ++ encode_lower (two_bytes word))
    (word-listed bits (16 * c.args.row + (15 - c.loop-place.place)) c.word_of-word.result
    (c.word_of-word.ensures.is ∙ ap (λ bs. word_from 16 (λ place. get_or bs (16 * (16 * c.args.row + (15 - c.loop-place.place)) + place * 1) false)) c.as_slice.ensures)))
