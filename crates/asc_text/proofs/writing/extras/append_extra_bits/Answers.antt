use Rattle.std.proofs.Common.{[], ◌++◌, ◌<◌, sym, ap, ◌∙◌, map, length, refl, arith}
use Rattle.std.proofs.lemmas.List.{get_or-map, length-map}
use Rattle.text_lines.specs.Written.{text_of}
use Rattle.asc_text.specs.Canonical.{extra_line}
use Rattle.asc_text.proofs.Pieces.{nothing-written, lines-more, lines-all}
use Rattle.asc_text.proofs.writing.extras.append_extra_bits.Goals as goal

pub loop-at-init : goal.loop-at-init
loop-at-init c = nothing-written c.args.text.now.items [] refl

pub loop-at-preserved : goal.loop-at-preserved
loop-at-preserved c =
    let within : c.loop-at.at-index < length c.deref-at-items.result.now = omega arith in
    lines-more c.args.text.now.items c.loop-at.text.items c.append_extra_bit.new.text.items (map extra_line c.deref-at-items.result.now) _ c.loop-at.at-index (omega (arith, length-map c.deref-at-items.result.now extra_line)) (sym (get_or-map extra_line c.deref-at-items.result.now c.loop-at.at-index _ [] within)) c.loop-at.invariant c.in_ok-append_extra_bit.ensures

pub returns : goal.returns
returns c =
    lines-all c.args.text.now.items c.loop-at.text.items (map extra_line c.deref-at-items.result.now) c.loop-at.at-index (omega (arith, length-map c.deref-at-items.result.now extra_line)) c.loop-at.invariant
    ∙ ap (λ places. c.args.text.now.items ++ text_of (map extra_line places)) (c.deref-at-items.ensures.value ∙ c.in_ok-places.ensures.bits)
