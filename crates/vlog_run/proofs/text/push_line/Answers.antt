use Rattle.std.proofs.Common.{◌≡◌, ◌+◌, ◌<◌, ◌++◌, ◌∷◌, [], List, ℕ, Bool, append_assoc, ap, ◌∙◌, arith, cond, length, length-append, vec_capacity, vec_len}
use Rattle.std.specs.Prelude.{map}
use Rattle.std.proofs.lemmas.List.{length-map}
use Rattle.std.proofs.lemmas.Result.{on_err_weaker, on_ok_weaker}
use Rattle.vlog_semantics.specs.Named.{values_of}
use Rattle.vlog_run.specs.Text.{bit_digit, entry_line, registers_text}
use Rattle.vlog_run.proofs.Texts.{failed, length-line}
use Rattle.vlog_run.proofs.text.push_line.Goals as goal

pub returns-clause-text : goal.returns-clause-text
unfolding entry_line
returns-clause-text c m entry shows =
    let old = c.args.text.now.items in
    let bits = map bit_digit (values_of entry.outputs) in
    let more = cond c.args.registers (registers_text entry) [] in
    on_ok_weaker c.push_byte.result (λ pushed.
    pushed
    ∙ ap (λ text. text ++ 10 ∷ []) (c.in_ok-push_registers.ensures.text m entry shows
    ∙ ap (λ text. text ++ more) (c.in_ok-push_bits.ensures.text ∙ ap (λ (b : List Bool). old ++ map bit_digit b) (c.outputs.ensures m entry shows))
    ∙ append_assoc old bits more)
    ∙ append_assoc old (bits ++ more) (10 ∷ [])) c.push_byte.ensures.text

pub returns-in_err-push_bits-clause-full : goal.returns-in_err-push_bits-clause-full
returns-in_err-push_bits-clause-full c m entry shows =
    let full : vec_capacity c.args.text.now < vec_len c.args.text.now + length (entry_line c.args.registers entry) =
    omega (arith, c.in_err-push_bits.ensures.full, length-line c.args.registers entry, ap length (c.outputs.ensures m entry shows)) in
    failed c.from_residual.result full

pub returns-in_err-push_registers-clause-full : goal.returns-in_err-push_registers-clause-full
returns-in_err-push_registers-clause-full c m entry shows =
    let bits = c.outputs.result.now in
    let full : vec_capacity c.args.text.now < vec_len c.args.text.now + length (entry_line c.args.registers entry) =
    omega (
      arith,
      c.in_err-push_registers.ensures.full m entry shows,
      length-line c.args.registers entry,
      ap length (c.outputs.ensures m entry shows),
      c.in_ok-push_bits.ensures.room,
      ap length c.in_ok-push_bits.ensures.text,
      length-append c.args.text.now.items (map bit_digit bits),
      length-map bits bit_digit,
      c.args.text.now.ok.0,
      c.push_bits.new.text.ok.0,
    ) in
    failed c.from_residual-in_err-push_registers.result full

pub returns-clause-full : goal.returns-clause-full
returns-clause-full c m entry shows =
    let bits = c.outputs.result.now in
    let more = cond c.args.registers (registers_text entry) [] in
    on_err_weaker c.push_byte.result (λ full. omega (
      arith,
      full,
      length-line c.args.registers entry,
      ap length (c.outputs.ensures m entry shows),
      c.in_ok-push_bits.ensures.room,
      ap length c.in_ok-push_bits.ensures.text,
      length-append c.args.text.now.items (map bit_digit bits),
      length-map bits bit_digit,
      c.in_ok-push_registers.ensures.room,
      ap length (c.in_ok-push_registers.ensures.text m entry shows),
      length-append c.push_bits.new.text.items more,
      c.args.text.now.ok.0,
      c.push_bits.new.text.ok.0,
      c.push_registers.new.text.ok.0,
    )) c.push_byte.ensures.full
