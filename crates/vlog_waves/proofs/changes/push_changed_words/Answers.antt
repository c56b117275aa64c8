use Rattle.std.proofs.Common.{◌+◌, ◌<◌, vec_capacity, vec_len, ℕ, List, [], ◌∷◌, ◌++◌, ap, arith, drop, get_or, length, length-append, map}
use Rattle.text_lines.specs.Written.{text_of}
use Rattle.vlog_waves.specs.Variables.Value.{sixteen_bits}
use Rattle.vlog_waves.specs.Waves.{changed_lines}
use Rattle.vlog_waves.proofs.Cuts.{changed-cut, changed-end}
use Rattle.vlog_waves.proofs.Texts.{all-made, failed, part-fits, part-made}
use Rattle.vlog_waves.proofs.changes.push_changed_words.Goals as goal

pub loop-place-init : goal.loop-place-init
loop-place-init c = record {
  made = ap (λ n. c.args.text.now.items ++ text_of (changed_lines n (map sixteen_bits c.args.before.now) (map sixteen_bits c.args.after.now))) (omega arith);
  room = omega arith;
}

pub loop-place-preserved : goal.loop-place-preserved
loop-place-preserved c =
    let before : List ℕ = c.args.before.now in
    let after : List ℕ = c.args.after.now in
    let number = c.args.number in
    let place = c.loop-place.place in
    record {
      made = part-made (c.args.text.now.items ++ text_of (changed_lines number (map sixteen_bits before) (map sixteen_bits after))) c.loop-place.text.items
          (text_of (changed_lines (number + place) (map sixteen_bits (drop place before)) (map sixteen_bits (drop place after))))
          (text_of (changed_lines (number + place) (sixteen_bits (get_or before place 0) ∷ []) (sixteen_bits (get_or after place 0) ∷ [])))
          (text_of (changed_lines (number + (place + 1)) (map sixteen_bits (drop (place + 1) before)) (map sixteen_bits (drop (place + 1) after))))
          c.push_changed_word.new.text.items c.loop-place.invariant.made (changed-cut sixteen_bits number before after place 0 0 (omega arith) c.requires.alike) c.in_ok-push_changed_word.ensures.text;
      room = omega (arith, c.loop-place.invariant.room, c.in_ok-push_changed_word.ensures.room);
    }

pub returns-in_err-push_changed_word-clause-full : goal.returns-in_err-push_changed_word-clause-full
returns-in_err-push_changed_word-clause-full c =
    let before : List ℕ = c.args.before.now in
    let after : List ℕ = c.args.after.now in
    let number = c.args.number in
    let place = c.loop-place.place in
    let all = text_of (changed_lines number (map sixteen_bits before) (map sixteen_bits after)) in
    let fits = part-fits (c.args.text.now.items ++ all) c.loop-place.text.items
    (text_of (changed_lines (number + place) (map sixteen_bits (drop place before)) (map sixteen_bits (drop place after))))
    (text_of (changed_lines (number + place) (sixteen_bits (get_or before place 0) ∷ []) (sixteen_bits (get_or after place 0) ∷ [])))
    (text_of (changed_lines (number + (place + 1)) (map sixteen_bits (drop (place + 1) before)) (map sixteen_bits (drop (place + 1) after))))
    c.loop-place.invariant.made (changed-cut sixteen_bits number before after place 0 0 (omega arith) c.requires.alike) in
    let full : vec_capacity c.args.text.now < vec_len c.args.text.now + length all =
    omega (arith, fits, length-append c.args.text.now.items all, c.loop-place.invariant.room, c.in_err-push_changed_word.ensures.full, c.loop-place.text.ok.0, c.args.text.now.ok.0) in
    failed c.from_residual.result full

pub returns-clause-text : goal.returns-clause-text
returns-clause-text c =
    let before : List ℕ = c.args.before.now in
    let after : List ℕ = c.args.after.now in
    all-made (c.args.text.now.items ++ text_of (changed_lines c.args.number (map sixteen_bits before) (map sixteen_bits after))) c.loop-place.text.items
    (text_of (changed_lines (c.args.number + c.loop-place.place) (map sixteen_bits (drop c.loop-place.place before)) (map sixteen_bits (drop c.loop-place.place after))))
    c.loop-place.invariant.made (changed-end sixteen_bits c.args.number before after c.loop-place.place (omega arith))
