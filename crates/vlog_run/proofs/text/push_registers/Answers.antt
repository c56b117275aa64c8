use Rattle.std.proofs.Common.{◌+◌, ◌*◌, ◌<◌, ◌∷◌, [], ap, arith, length, length-append, vec_capacity, vec_len}
use Rattle.std.specs.Prelude.{Bool, map, if◌then◌else◌}
use Rattle.std.proofs.lemmas.List.{length-map}
use Rattle.std.proofs.lemmas.Result.{on_err_weaker}
use Rattle.vlog_run.specs.Text.{bit_digit, registers_text}
use Rattle.vlog_run.proofs.Texts.{length-registers}
use Rattle.vlog_run.proofs.text.push_registers.Goals as goal

pub returns-in_ok-push_bits-clause-full : goal.returns-in_ok-push_bits-clause-full
returns-in_ok-push_bits-clause-full c m entry shows =
    let bits = c.registers.result.now in
    on_err_weaker c.push_words.result (λ full. omega (
      arith,
      full,
      ap (λ (told : Bool). length (if told then registers_text entry else [])) c.if-registers.true,
      length-registers entry,
      ap length (c.registers.ensures m entry shows),
      ap length (c.words.ensures m entry shows),
      c.in_ok-push_byte.ensures.room,
      ap length c.in_ok-push_byte.ensures.text,
      length-append c.args.text.now.items (32 ∷ []),
      c.in_ok-push_bits.ensures.room,
      ap length c.in_ok-push_bits.ensures.text,
      length-append c.push_byte.new.text.items (map bit_digit bits),
      length-map bits bit_digit,
      c.args.text.now.ok.0,
      c.push_byte.new.text.ok.0,
      c.push_bits.new.text.ok.0,
    )) c.push_words.ensures.full
