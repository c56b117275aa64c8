use Rattle.std.proofs.Common.{◌≡◌, ◌∙◌, ◌+◌, ◌<◌, vec_capacity, vec_len, ℕ, List, [], ◌∷◌, ◌++◌, ap, arith, length, length-append, suc, refl}
use Rattle.std.proofs.lemmas.Result.{on_err_weaker, on_ok_weaker}
use Rattle.vlog_run.specs.Text.{bit_digit}
use Rattle.vlog_waves.specs.Waves.{identifier}
use Rattle.text_lines.specs.Written.{text_of}
use Rattle.vlog_waves.proofs.Texts.{failed, length-one, short-made}
use Rattle.vlog_waves.proofs.lines.push_bit.Goals as goal

pub returns-in_err-push_byte-clause-full : goal.returns-in_err-push_byte-clause-full
returns-in_err-push_byte-clause-full c =
    let byte : ℕ = bit_digit c.args.bit in
    let rest : List ℕ = identifier c.args.number in
    let line : length (byte ∷ rest) ≡ suc (length rest) = refl in
    let full : vec_capacity c.args.text.now < vec_len c.args.text.now + length (text_of ((byte ∷ rest) ∷ [])) = omega (arith, length-one (byte ∷ rest), line, c.in_err-push_byte.ensures.full) in
    failed c.from_residual.result full

pub returns-in_err-push_identifier-clause-full : goal.returns-in_err-push_identifier-clause-full
returns-in_err-push_identifier-clause-full c =
    let start = c.args.text.now.items in
    let byte : ℕ = bit_digit c.args.bit in
    let rest : List ℕ = identifier c.args.number in
    let line : length (byte ∷ rest) ≡ suc (length rest) = refl in
    let full : vec_capacity c.args.text.now < vec_len c.args.text.now + length (text_of ((byte ∷ rest) ∷ [])) =
    omega (arith, length-one (byte ∷ rest), line, c.in_err-push_identifier.ensures.full, c.in_ok-push_byte.ensures.room, ap length (c.in_ok-push_byte.ensures.text ∙ ap (λ (digit : ℕ). start ++ digit ∷ []) c.bit_digit.ensures), length-append start (byte ∷ []), c.args.text.now.ok.0, c.push_byte.new.text.ok.0) in
    failed c.from_residual-in_err-push_identifier.result full

pub returns-clause-text : goal.returns-clause-text
returns-clause-text c =
    on_ok_weaker c.push_byte-2.result
    (λ made. short-made c.args.text.now.items c.push_byte.new.text.items c.push_identifier.new.text.items c.push_byte-2.new.text.items (bit_digit c.args.bit) (identifier c.args.number) (c.in_ok-push_byte.ensures.text ∙ ap (λ (digit : ℕ). c.args.text.now.items ++ digit ∷ []) c.bit_digit.ensures) c.in_ok-push_identifier.ensures.text made) c.push_byte-2.ensures.text

pub returns-clause-full : goal.returns-clause-full
returns-clause-full c =
    let start = c.args.text.now.items in
    let byte : ℕ = bit_digit c.args.bit in
    let rest : List ℕ = identifier c.args.number in
    let line : length (byte ∷ rest) ≡ suc (length rest) = refl in
    on_err_weaker c.push_byte-2.result
    (λ full. omega (
      arith,
      length-one (byte ∷ rest),
      line,
      full,
      c.in_ok-push_byte.ensures.room,
      c.in_ok-push_identifier.ensures.room,
      ap length (c.in_ok-push_byte.ensures.text ∙ ap (λ (digit : ℕ). start ++ digit ∷ []) c.bit_digit.ensures),
      length-append start (byte ∷ []),
      ap length c.in_ok-push_identifier.ensures.text,
      length-append c.push_byte.new.text.items rest,
      c.args.text.now.ok.0,
      c.push_byte.new.text.ok.0,
      c.push_identifier.new.text.ok.0,
    ))
    c.push_byte-2.ensures.full
