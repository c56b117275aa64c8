use Rattle.std.proofs.Common.{◌+◌, Some, sym, subst, arith}
use Rattle.std.proofs.lemmas.List.{take_rest}
use Rattle.plane_map.specs.Layout.{Layout}
use Rattle.plane_map.specs.Runs.{AreRunsOf}
use Rattle.asc_text.proofs.PlainLines.{more-rows}
use Rattle.asc_text.proofs.reading.reader.plain.set_rows_of_width.Goals as goal

pub loop-row-preserved : goal.loop-row-preserved
loop-row-preserved c =
    let args = c.args in
    let i = c.loop-row.invariant in
    let left = c.loop-row.left.now in
    let took = c.if-not-set_plain_row.ensures in
    record {
      from = omega (arith, i.from);
      within = omega arith;
      runs = subst (λ (layout : Layout). AreRunsOf layout args.runs.x args.runs.y args.runs) (sym took.2.gains.layout) i.runs;
      taken = λ kind wide. rw (take_rest left (args.width + 1))
          (more-rows kind args.runs.x args.runs.y args.first c.loop-row.row args.width (Some args.image.now) c.loop-row.image c.set_plain_row.new.image args.text.now left i.from (omega arith) wide (i.taken kind wide) took.0 took.1 took.2);
    }
