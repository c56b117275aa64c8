use Rattle.std.proofs.Common.{◌≡◌, true, refl, sym, ap, ◌∙◌, subst, arith}
use Rattle.asc_text.specs.Rows.{is_memory_line, memory_bit}
use Rattle.bram_replace.proofs.Putting.{not_ended, next-digits, next-content, next-lines, row-there}
use Rattle.bram_replace.proofs.ram.ram_bits.Goals as goal

pub loop-row-init : goal.loop-row-init
loop-row-init c = record { lines = refl; there = λ word bit few low. absurd (omega arith) }

pub next_line-line-requires : goal.next_line-line-requires
next_line-line-requires c = not_ended c.args.text.now c.loop-row.left.now c.loop-row.row c.requires c.loop-row.invariant.lines (omega arith)

pub put_line-requires-clause-digits : goal.put_line-requires-clause-digits
put_line-requires-clause-digits c =
    let line = c.next_line-line.result in
    subst (λ l. is_memory_line l ≡ true) (sym c.trimmed.ensures)
    (next-digits c.args.text.now c.loop-row.left.now line.content.now line.rest.now c.loop-row.row c.requires c.loop-row.invariant.lines c.next_line-line.ensures.lines (omega arith))

pub loop-row-preserved : goal.loop-row-preserved
loop-row-preserved c =
    let i = c.loop-row.invariant in
    let text = c.args.text.now in
    let left = c.loop-row.left.now in
    let row = c.loop-row.row in
    let line = c.next_line-line.result in
    record {
      lines = next-lines text left line.content.now line.rest.now row i.lines c.next_line-line.ensures.lines;
      there = row-there c.loop-row.bits c.put_line.new.bits text line.content.now row i.there c.put_line.ensures.before
          (λ index bit few low. c.put_line.ensures.there index bit few low ∙ ap (λ l. memory_bit l index bit) c.trimmed.ensures)
          (next-content text left line.content.now line.rest.now row i.lines c.next_line-line.ensures.lines);
    }

pub returns : goal.returns
returns c = λ word bit few low. c.loop-row.invariant.there word bit (omega arith) low
