use Rattle.std.proofs.Common.{arith}
use Rattle.std.proofs.lemmas.Result.{err_from_is_err_and}
use Rattle.text_lines.specs.Words.{words_of}
use Rattle.text_lines.specs.declared.words.Separators.TheVariants.{Whitespace}
use Rattle.bram_replace.proofs.HexWords.{Went-none, Went-more, Went-refused, rest-written, first-written, word-room}
use Rattle.bram_replace.proofs.hex_words.Words.take_words.Goals as goal

pub loop-word-init : goal.loop-word-init
loop-word-init c = record {
  went = λ words holds. Went-none words _ _ _ holds;
  written = c.requires;
  room = omega arith;
}

pub take_word-requires : goal.take_word-requires
take_word-requires c = first-written _ _ _ c.in-Some.ensures.words c.loop-word.invariant.written

pub loop-word-preserved : goal.loop-word-preserved
loop-word-preserved c =
    let i = c.loop-word.invariant in
    let all = words_of Whitespace c.args.line.now in
    let rest = words_of Whitespace c.loop-word.rest.now in
    let more = words_of Whitespace c.in-Some.after.now in
    record {
      went = λ words holds. Went-more words all rest more c.in-Some.word.now c.loop-word.self.digits c.take_word.new.self.digits c.loop-word.self.bits.items c.take_word.new.self.bits.items
          (i.went words holds) c.in-Some.ensures.words (λ before held. c.in_ok-take_word.ensures.taken before held);
      written = rest-written rest more c.in-Some.word.now c.in-Some.ensures.words i.written;
      room = omega (arith, i.room, c.in_ok-take_word.ensures.room, word-room c.loop-word.rest.now c.in-Some.word.now c.in-Some.after.now c.in-Some.ensures.places.0 c.in-Some.ensures.places.1);
    }

pub returns-in_err-take_word-clause-refused : goal.returns-in_err-take_word-clause-refused
returns-in_err-take_word-clause-refused c words holds =
    let i = c.loop-word.invariant in
    let all = words_of Whitespace c.args.line.now in
    let rest = words_of Whitespace c.loop-word.rest.now in
    let more = words_of Whitespace c.in-Some.after.now in
    let p = err_from_is_err_and c.from_residual.result c.from_residual.ensures.1 in
    rw (p.1, p.2) (Went-refused words all rest more c.in-Some.word.now c.loop-word.self.digits c.loop-word.self.bits.items c.args.number c.in_err-take_word.field-0.0
    (i.went words holds) c.in-Some.ensures.words c.requires (λ before held. c.in_err-take_word.ensures.refused before held))
