use Rattle.std.proofs.Common.{◌≡◌, ◌+◌, ◌*◌, ◌≤◌, ◌++◌, length, refl, sym, ap, ◌∙◌, subst, arith, []}
use Rattle.std.specs.Prelude.{None, IfOk, OnOk, IfErr}
use Rattle.std.proofs.lemmas.Result.{err_from_is_err_and}
use Rattle.shared_lemmas.proofs.Cuts.{drop_cons}
use Rattle.text_lines.specs.Lines.{lines_of, whole_lines_of}
use Rattle.text_lines.specs.Words.{words_of}
use Rattle.text_lines.specs.declared.words.Separators.TheVariants.{Whitespace}
use Rattle.bram_replace.specs.HexText.{all_words, digits_set, words_cause, TellsHex}
use Rattle.bram_replace.specs.Collected.{Holds}
use Rattle.bram_replace.proofs.HexLines.{ReadSoFar, ReadSoFar-none, ReadSoFar-more, room-more, cut-end, first_fault, end_fault, contents-is}
use Rattle.bram_replace.proofs.hex_file.HexFile.read.Goals as goal

pub loop-line-init : goal.loop-line-init
loop-line-init c = record {
  lines = refl;
  within = omega arith;
  short = omega arith;
  read = ReadSoFar-none c.args.bytes.now c.new-words.result.digits c.new-words.result.bits.items c.new-words.ensures;
  room = omega (arith, ap length c.new-words.ensures.bits_are);
}

pub loop-line-preserved : goal.loop-line-preserved
loop-line-preserved c =
    let text = c.args.bytes.now in
    let i = c.loop-line.invariant in
    let line = c.in-Some.line in
    let count = c.loop-line.count in
    let at = drop_cons (lines_of text) count [] line.content.now (lines_of line.rest.now) (sym i.lines ∙ c.in-Some.ensures.lines) in
    let next = c.take_line.new.self.digits in
    let new = c.take_line.new.self.bits.items in
    record {
      lines = at.2;
      within = omega (arith, at.0);
      short = omega (arith, i.short, c.in-Some.ensures.shorter);
      read = ReadSoFar-more text line.content.now count c.loop-line.words.digits next c.loop-line.words.bits.items new i.read at.1
          (λ words holds. subst (λ l. Holds (words ++ words_of Whitespace l) next new) c.before_comment.ensures (c.in_ok-take_line.ensures.taken words holds))
          (λ words holds. subst (λ l. words_cause (digits_set (words ++ words_of Whitespace l)) (words_of Whitespace l) (count + 1) ≡ None) c.before_comment.ensures (c.in_ok-take_line.ensures.accepted words holds));
      room = room-more c.loop-line.left.now line.content.now line.whole.now line.rest.now (lines_of line.rest.now) (whole_lines_of line.rest.now) (length c.loop-line.words.bits.items) (length new) (4 * length text)
          c.in-Some.ensures.lines c.in-Some.ensures.whole_lines c.in-Some.ensures.parts i.room
          (subst (λ l. length new ≤ length c.loop-line.words.bits.items + 4 * length l) c.before_comment.ensures c.in_ok-take_line.ensures.room);
    }

pub returns-in_err-take_line-clause-refused : goal.returns-in_err-take_line-clause-refused
returns-in_err-take_line-clause-refused c =
    let text = c.args.bytes.now in
    let i = c.loop-line.invariant in
    let line = c.in-Some.line in
    let count = c.loop-line.count in
    let told = c.in_err-take_line.field-0.0 in
    let at = drop_cons (lines_of text) count [] line.content.now (lines_of line.rest.now) (sym i.lines ∙ c.in-Some.ensures.lines) in
    let p = err_from_is_err_and c.from_residual.result c.from_residual.ensures.1 in
    rw (p.1, p.2) (first_fault text line.content.now count c.loop-line.words.digits c.loop-line.words.bits.items told i.read at.0 at.1
    (λ words holds. subst (λ l. TellsHex (words_cause (digits_set (words ++ words_of Whitespace l)) (words_of Whitespace l) (count + 1)) told) c.before_comment.ensures (c.in_err-take_line.ensures.refused words holds)))

pub of-requires-clause-width : goal.of-requires-clause-width
of-requires-clause-width c = c.loop-line.invariant.read.holds.range

pub returns-clause-read : goal.returns-clause-read
returns-clause-read c =
    let text = c.args.bytes.now in
    let i = c.loop-line.invariant in
    let all = cut-end text c.loop-line.left.now c.loop-line.count i.lines c.in_default.ensures.lines i.within in
    let read = subst (λ count. ReadSoFar text count c.loop-line.words.digits c.loop-line.words.bits.items) all i.read in
    subst (λ v. IfOk c.of.result (λ file. file ≡ v)) (contents-is text) (c.of.ensures.read (all_words text) read.holds)

pub returns-clause-accepted : goal.returns-clause-accepted
returns-clause-accepted c =
    let text = c.args.bytes.now in
    let i = c.loop-line.invariant in
    let all = cut-end text c.loop-line.left.now c.loop-line.count i.lines c.in_default.ensures.lines i.within in
    let read = subst (λ count. ReadSoFar text count c.loop-line.words.digits c.loop-line.words.bits.items) all i.read in
    subst (λ fault. OnOk c.of.result (fault ≡ None)) (sym (end_fault text c.loop-line.words.digits c.loop-line.words.bits.items read)) (c.of.ensures.accepted (all_words text) read.holds)

pub returns-clause-refused : goal.returns-clause-refused
returns-clause-refused c =
    let text = c.args.bytes.now in
    let i = c.loop-line.invariant in
    let all = cut-end text c.loop-line.left.now c.loop-line.count i.lines c.in_default.ensures.lines i.within in
    let read = subst (λ count. ReadSoFar text count c.loop-line.words.digits c.loop-line.words.bits.items) all i.read in
    subst (λ fault. IfErr c.of.result (TellsHex fault)) (sym (end_fault text c.loop-line.words.digits c.loop-line.words.bits.items read)) (c.of.ensures.refused (all_words text) read.holds)
