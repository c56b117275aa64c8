use Rattle.std.proofs.Common.{◌+◌, Bool, List, [], ◌∷◌, ◌++◌, ap, arith, drop, false, get_or, map}
use Rattle.text_lines.specs.Written.{text_of}
use Rattle.vlog_waves.specs.Variables.Value.{one_bit}
use Rattle.vlog_waves.specs.Waves.{value_line, value_lines}
use Rattle.vlog_waves.proofs.Cuts.{values-cut, values-end}
use Rattle.vlog_waves.proofs.Texts.{all-made, part-made}
use Rattle.vlog_waves.proofs.starting.push_bits.Goals as goal

pub loop-place-init : goal.loop-place-init
loop-place-init c =
    ap (λ n. c.args.text.now.items ++ text_of (value_lines n (map one_bit c.args.bits.now))) (omega arith)

pub loop-place-preserved : goal.loop-place-preserved
loop-place-preserved c =
    let bits : List Bool = c.args.bits.now in
    let number = c.args.number in
    let place = c.loop-place.place in
    part-made (c.args.text.now.items ++ text_of (value_lines number (map one_bit bits))) c.loop-place.text.items
    (text_of (value_lines (number + place) (map one_bit (drop place bits))))
    (text_of (value_line (number + place) (one_bit (get_or bits place false)) ∷ []))
    (text_of (value_lines (number + (place + 1)) (map one_bit (drop (place + 1) bits))))
    c.push_bit.new.text.items c.loop-place.invariant (values-cut one_bit number bits place false (omega arith)) c.in_ok-push_bit.ensures.text

pub returns : goal.returns
returns c =
    all-made (c.args.text.now.items ++ text_of (value_lines c.args.number (map one_bit c.args.bits.now))) c.loop-place.text.items
    (text_of (value_lines (c.args.number + c.loop-place.place) (map one_bit (drop c.loop-place.place c.args.bits.now))))
    c.loop-place.invariant (values-end one_bit c.args.number c.args.bits.now c.loop-place.place (omega arith))
