use Rattle.std.proofs.Common.{◌++◌, refl, sym, ap, ◌∙◌, arith}
use Rattle.text_lines.specs.Lines.{lines_of, whole_lines_of, line_at}
use Rattle.bram_replace.specs.Replaced.{memory_line_with}
use Rattle.bram_replace.specs.Rams.{listed}
use Rattle.index_search.proofs.Gathered.{appended-none, appended-more}
use Rattle.bram_replace.proofs.Putting.{not_ended, next-digits, next-lines, next-wholes, next-whole, next-size}
use Rattle.bram_replace.proofs.ram.append_lines.Goals as goal

pub loop-row-init : goal.loop-row-init
loop-row-init c = record { written = appended-none _ _; lines = refl; wholes = refl }

pub next_line-line-requires : goal.next_line-line-requires
next_line-line-requires c = not_ended c.args.text.now c.loop-row.left.now c.loop-row.row c.requires c.loop-row.invariant.lines (omega arith)

pub append_line-requires-clause-size : goal.append_line-requires-clause-size
append_line-requires-clause-size c =
    let line = c.next_line-line.result in
    next-size c.loop-row.left.now line.content.now line.whole.now (lines_of line.rest.now) (whole_lines_of line.rest.now) c.next_line-line.ensures.lines c.next_line-line.ensures.whole_lines
    (next-digits c.args.text.now c.loop-row.left.now line.content.now line.rest.now c.loop-row.row c.requires c.loop-row.invariant.lines c.next_line-line.ensures.lines (omega arith))

pub loop-row-preserved : goal.loop-row-preserved
loop-row-preserved c =
    let i = c.loop-row.invariant in
    let text = c.args.text.now in
    let left = c.loop-row.left.now in
    let row = c.loop-row.row in
    let line = c.next_line-line.result in
    record {
      written = appended-more c.args.bytes.now.items c.loop-row.bytes.items c.append_line.new.bytes.items row
          (λ row. memory_line_with (listed c.args.old.now) (listed c.args.new.now) row (line_at (whole_lines_of text) row)) i.written
          (c.in_ok-append_line.ensures ∙ ap (λ whole. c.loop-row.bytes.items ++ memory_line_with (listed c.args.old.now) (listed c.args.new.now) row whole)
          (sym (next-whole text left line.whole.now line.rest.now row i.wholes c.next_line-line.ensures.whole_lines)));
      lines = next-lines text left line.content.now line.rest.now row i.lines c.next_line-line.ensures.lines;
      wholes = next-wholes text left line.whole.now line.rest.now row i.wholes c.next_line-line.ensures.whole_lines;
    }
