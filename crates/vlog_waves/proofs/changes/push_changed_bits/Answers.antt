use Rattle.std.proofs.Common.{◌+◌, ◌<◌, vec_capacity, vec_len, Bool, List, [], ◌∷◌, ◌++◌, ap, arith, drop, false, get_or, length, length-append, map}
use Rattle.text_lines.specs.Written.{text_of}
use Rattle.vlog_waves.specs.Variables.Value.{one_bit}
use Rattle.vlog_waves.specs.Waves.{changed_lines}
use Rattle.vlog_waves.proofs.Cuts.{changed-cut, changed-end}
use Rattle.vlog_waves.proofs.Texts.{all-made, failed, part-fits, part-made}
use Rattle.vlog_waves.proofs.changes.push_changed_bits.Goals as goal

pub loop-place-init : goal.loop-place-init
loop-place-init c = record {
  made = ap (λ n. c.args.text.now.items ++ text_of (changed_lines n (map one_bit c.args.before.now) (map one_bit c.args.after.now))) (omega arith);
  room = omega arith;
}

pub loop-place-preserved : goal.loop-place-preserved
loop-place-preserved c =
    let before : List Bool = c.args.before.now in
    let after : List Bool = c.args.after.now in
    let number = c.args.number in
    let place = c.loop-place.place in
    record {
      made = part-made (c.args.text.now.items ++ text_of (changed_lines number (map one_bit before) (map one_bit after))) c.loop-place.text.items
          (text_of (changed_lines (number + place) (map one_bit (drop place before)) (map one_bit (drop place after))))
          (text_of (changed_lines (number + place) (one_bit (get_or before place false) ∷ []) (one_bit (get_or after place false) ∷ [])))
          (text_of (changed_lines (number + (place + 1)) (map one_bit (drop (place + 1) before)) (map one_bit (drop (place + 1) after))))
          c.push_changed_bit.new.text.items c.loop-place.invariant.made (changed-cut one_bit number before after place false false (omega arith) c.requires.alike) c.in_ok-push_changed_bit.ensures.text;
      room = omega (arith, c.loop-place.invariant.room, c.in_ok-push_changed_bit.ensures.room);
    }

pub returns-in_err-push_changed_bit-clause-full : goal.returns-in_err-push_changed_bit-clause-full
returns-in_err-push_changed_bit-clause-full c =
    let before : List Bool = c.args.before.now in
    let after : List Bool = c.args.after.now in
    let number = c.args.number in
    let place = c.loop-place.place in
    let all = text_of (changed_lines number (map one_bit before) (map one_bit after)) in
    let fits = part-fits (c.args.text.now.items ++ all) c.loop-place.text.items
    (text_of (changed_lines (number + place) (map one_bit (drop place before)) (map one_bit (drop place after))))
    (text_of (changed_lines (number + place) (one_bit (get_or before place false) ∷ []) (one_bit (get_or after place false) ∷ [])))
    (text_of (changed_lines (number + (place + 1)) (map one_bit (drop (place + 1) before)) (map one_bit (drop (place + 1) after))))
    c.loop-place.invariant.made (changed-cut one_bit number before after place false false (omega arith) c.requires.alike) in
    let full : vec_capacity c.args.text.now < vec_len c.args.text.now + length all =
    omega (arith, fits, length-append c.args.text.now.items all, c.loop-place.invariant.room, c.in_err-push_changed_bit.ensures.full, c.loop-place.text.ok.0, c.args.text.now.ok.0) in
    failed c.from_residual.result full

pub returns-clause-text : goal.returns-clause-text
returns-clause-text c =
    let before : List Bool = c.args.before.now in
    let after : List Bool = c.args.after.now in
    all-made (c.args.text.now.items ++ text_of (changed_lines c.args.number (map one_bit before) (map one_bit after))) c.loop-place.text.items
    (text_of (changed_lines (c.args.number + c.loop-place.place) (map one_bit (drop c.loop-place.place before)) (map one_bit (drop c.loop-place.place after))))
    c.loop-place.invariant.made (changed-end one_bit c.args.number before after c.loop-place.place (omega arith))
