use Rattle.std.proofs.Common.{◌≡◌, ◌+◌, ◌<◌, vec_capacity, vec_len, ℕ, List, [], ◌∷◌, ◌++◌, ap, arith, length, length-append, refl, suc}
use Rattle.std.proofs.lemmas.Result.{on_err_weaker, on_ok_weaker}
use Rattle.text_lines.specs.Written.{text_of}
use Rattle.vlog_waves.specs.Waves.{identifier, word_digits}
use Rattle.vlog_waves.proofs.Cuts.{length-digits}
use Rattle.vlog_waves.proofs.Texts.{failed, length-one, long-made}
use Rattle.vlog_waves.proofs.lines.push_word.Goals as goal

-- how long the line is
long : (number word : ℕ) → length (text_of ((98 ∷ (word_digits 16 word ++ (32 ∷ identifier number))) ∷ [])) ≡ 19 + length (identifier number)
long number word =
    let rest : List ℕ = word_digits 16 word ++ (32 ∷ identifier number) in
    let first : length (98 ∷ rest) ≡ suc (length rest) = refl in
    let last : length (32 ∷ identifier number) ≡ suc (length (identifier number)) = refl in
    omega (arith, length-one (98 ∷ rest), first, last, length-append (word_digits 16 word) (32 ∷ identifier number), length-digits 16 word)

pub returns-in_err-push_digits-clause-full : goal.returns-in_err-push_digits-clause-full
returns-in_err-push_digits-clause-full c =
    let start = c.args.text.now.items in
    let number = c.args.number in
    let word = c.args.word in
    let full : vec_capacity c.args.text.now < vec_len c.args.text.now + length (text_of ((98 ∷ (word_digits 16 word ++ (32 ∷ identifier number))) ∷ [])) =
    omega (arith, long number word, c.in_err-push_digits.ensures.full, c.in_ok-push_byte.ensures.room, ap length c.in_ok-push_byte.ensures.text, length-append start (98 ∷ []), c.push_byte.new.text.ok.0, length-digits 16 word, c.args.text.now.ok.0) in
    failed c.from_residual-in_err-push_digits.result full

pub returns-in_err-push_byte-2-clause-full : goal.returns-in_err-push_byte-2-clause-full
returns-in_err-push_byte-2-clause-full c =
    let start = c.args.text.now.items in
    let number = c.args.number in
    let word = c.args.word in
    let full : vec_capacity c.args.text.now < vec_len c.args.text.now + length (text_of ((98 ∷ (word_digits 16 word ++ (32 ∷ identifier number))) ∷ [])) =
    omega (arith, long number word, c.in_err-push_byte-2.ensures.full, c.in_ok-push_byte.ensures.room, ap length c.in_ok-push_byte.ensures.text, length-append start (98 ∷ []), c.push_byte.new.text.ok.0, c.in_ok-push_digits.ensures.room, ap length c.in_ok-push_digits.ensures.text, length-append c.push_byte.new.text.items (word_digits 16 word), c.push_digits.new.text.ok.0, length-digits 16 word, c.args.text.now.ok.0) in
    failed c.from_residual-in_err-push_byte-2.result full

pub returns-in_err-push_identifier-clause-full : goal.returns-in_err-push_identifier-clause-full
returns-in_err-push_identifier-clause-full c =
    let start = c.args.text.now.items in
    let number = c.args.number in
    let word = c.args.word in
    let full : vec_capacity c.args.text.now < vec_len c.args.text.now + length (text_of ((98 ∷ (word_digits 16 word ++ (32 ∷ identifier number))) ∷ [])) =
    omega (arith, long number word, c.in_err-push_identifier.ensures.full, c.in_ok-push_byte.ensures.room, ap length c.in_ok-push_byte.ensures.text, length-append start (98 ∷ []), c.push_byte.new.text.ok.0, c.in_ok-push_digits.ensures.room, ap length c.in_ok-push_digits.ensures.text, length-append c.push_byte.new.text.items (word_digits 16 word), c.push_digits.new.text.ok.0, c.in_ok-push_byte-2.ensures.room, ap length c.in_ok-push_byte-2.ensures.text, length-append c.push_digits.new.text.items (32 ∷ []), c.push_byte-2.new.text.ok.0, length-digits 16 word, c.args.text.now.ok.0) in
    failed c.from_residual-in_err-push_identifier.result full

pub returns-clause-text : goal.returns-clause-text
returns-clause-text c =
    on_ok_weaker c.push_byte-3.result
    (λ made. long-made c.args.text.now.items c.push_byte.new.text.items c.push_digits.new.text.items c.push_byte-2.new.text.items c.push_identifier.new.text.items c.push_byte-3.new.text.items 98 (word_digits 16 c.args.word) 32 (identifier c.args.number)
    c.in_ok-push_byte.ensures.text c.in_ok-push_digits.ensures.text c.in_ok-push_byte-2.ensures.text c.in_ok-push_identifier.ensures.text made) c.push_byte-3.ensures.text

pub returns-clause-full : goal.returns-clause-full
returns-clause-full c =
    let start = c.args.text.now.items in
    let number = c.args.number in
    let word = c.args.word in
    on_err_weaker c.push_byte-3.result (λ full. omega (arith, full, long number word, c.in_ok-push_byte.ensures.room, ap length c.in_ok-push_byte.ensures.text, length-append start (98 ∷ []), c.push_byte.new.text.ok.0, c.in_ok-push_digits.ensures.room, ap length c.in_ok-push_digits.ensures.text, length-append c.push_byte.new.text.items (word_digits 16 word), c.push_digits.new.text.ok.0, c.in_ok-push_byte-2.ensures.room, ap length c.in_ok-push_byte-2.ensures.text, length-append c.push_digits.new.text.items (32 ∷ []), c.push_byte-2.new.text.ok.0, c.in_ok-push_identifier.ensures.room, ap length c.in_ok-push_identifier.ensures.text, length-append c.push_byte-2.new.text.items (identifier number), c.push_identifier.new.text.ok.0, length-digits 16 word, c.args.text.now.ok.0)) c.push_byte-3.ensures.full
