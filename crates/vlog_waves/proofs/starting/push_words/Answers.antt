use Rattle.std.proofs.Common.{◌+◌, ℕ, List, [], ◌∷◌, ◌++◌, ap, arith, drop, get_or, map}
use Rattle.text_lines.specs.Written.{text_of}
use Rattle.vlog_waves.specs.Variables.Value.{sixteen_bits}
use Rattle.vlog_waves.specs.Waves.{value_line, value_lines}
use Rattle.vlog_waves.proofs.Cuts.{values-cut, values-end}
use Rattle.vlog_waves.proofs.Texts.{all-made, part-made}
use Rattle.vlog_waves.proofs.starting.push_words.Goals as goal

pub loop-place-init : goal.loop-place-init
loop-place-init c =
    ap (λ n. c.args.text.now.items ++ text_of (value_lines n (map sixteen_bits c.args.words.now))) (omega arith)

pub loop-place-preserved : goal.loop-place-preserved
loop-place-preserved c =
    let words : List ℕ = c.args.words.now in
    let number = c.args.number in
    let place = c.loop-place.place in
    part-made (c.args.text.now.items ++ text_of (value_lines number (map sixteen_bits words))) c.loop-place.text.items
    (text_of (value_lines (number + place) (map sixteen_bits (drop place words))))
    (text_of (value_line (number + place) (sixteen_bits (get_or words place 0)) ∷ []))
    (text_of (value_lines (number + (place + 1)) (map sixteen_bits (drop (place + 1) words))))
    c.push_word.new.text.items c.loop-place.invariant (values-cut sixteen_bits number words place 0 (omega arith)) c.in_ok-push_word.ensures.text

pub returns : goal.returns
returns c =
    all-made (c.args.text.now.items ++ text_of (value_lines c.args.number (map sixteen_bits c.args.words.now))) c.loop-place.text.items
    (text_of (value_lines (c.args.number + c.loop-place.place) (map sixteen_bits (drop c.loop-place.place c.args.words.now))))
    c.loop-place.invariant (values-end sixteen_bits c.args.number c.args.words.now c.loop-place.place (omega arith))
