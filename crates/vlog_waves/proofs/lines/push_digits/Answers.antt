use Rattle.std.proofs.Common.{◌+◌, ◌-◌, ◌/◌, ◌%◌, ◌^◌, [], ◌∷◌, ◌++◌, ap, arith, length, length-append}
use Rattle.vlog_waves.specs.Waves.{word_digits}
use Rattle.vlog_waves.proofs.Cuts.{digits-cut, digits-end}
use Rattle.vlog_waves.proofs.Texts.{all-made, part-made}
use Rattle.vlog_waves.proofs.lines.push_digits.Goals as goal

pub loop-place-preserved : goal.loop-place-preserved
loop-place-preserved c =
    let word = c.args.word in
    let place = c.loop-place.place in
    record {
      made = part-made (c.args.text.now.items ++ word_digits 16 word) c.loop-place.text.items (word_digits (16 - place) word) ((48 + word / 2 ^ (15 - place) % 2) ∷ [])
          (word_digits (16 - (place + 1)) word) c.push_byte.new.text.items c.loop-place.invariant.made (digits-cut word place (omega arith)) c.in_ok-push_byte.ensures.text;
      long = omega (arith, c.loop-place.invariant.long, ap length c.in_ok-push_byte.ensures.text, length-append c.loop-place.text.items ((48 + word / 2 ^ (15 - place) % 2) ∷ []), c.push_byte.new.text.ok.0, c.loop-place.text.ok.0);
      room = omega (arith, c.loop-place.invariant.room, c.in_ok-push_byte.ensures.room);
    }

pub returns-clause-text : goal.returns-clause-text
returns-clause-text c =
    let word = c.args.word in
    all-made (c.args.text.now.items ++ word_digits 16 word) c.loop-place.text.items (word_digits (16 - c.loop-place.place) word) c.loop-place.invariant.made (digits-end word c.loop-place.place (omega arith))
