use Rattle.std.proofs.Common.{◌++◌, ◌∷◌, [], length, sym, ap, subst, arith, length-append}
use Rattle.std.specs.Prelude.{Some}
use Rattle.bram_replace.specs.HexText.{bits_in}
use Rattle.bram_replace.specs.Collected.{Holds}
use Rattle.bram_replace.proofs.HexWords.{Holds-more, fits-from, digits-some, digits-few, length-bits_in}
use Rattle.bram_replace.proofs.hex_words.Words.take_word.Goals as goal

pub returns-in_ok-push_bits-clause-taken : goal.returns-in_ok-push_bits-clause-taken
returns-in_ok-push_bits-clause-taken c words holds =
    let word = c.args.word.now in
    let digits = c.args.self.now.digits in
    let bits = c.args.self.now.bits.items in
    let new = c.push_bits.new.bits.items in
    let fits = fits-from words word digits bits c.digit_count-digits.result c.has_width.result holds c.digit_count-digits.ensures c.has_width.ensures c.if-has_width.true in
    subst (λ count. Holds (words ++ word ∷ []) (Some count) new) (sym c.digit_count-digits.ensures)
    (Holds-more words word digits bits new holds (digits-some word c.requires) fits c.in_ok-push_bits.ensures)

pub returns-in_ok-push_bits-clause-room : goal.returns-in_ok-push_bits-clause-room
returns-in_ok-push_bits-clause-room c =
    let word = c.args.word.now in
    let bits = c.args.self.now.bits.items in
    omega (arith, ap length c.in_ok-push_bits.ensures, length-append bits (bits_in word), length-bits_in word, digits-few word)
