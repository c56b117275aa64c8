use Rattle.std.proofs.Common.{ap, arith, sym, ◌∙◌}
use Rattle.vlog_engine.specs.Marks.{is_marked}
use Rattle.vlog_engine.proofs.Marked.{marks-more}
use Rattle.vlog_engine.proofs.marks.mark_all.Goals as goal

pub loop-place-preserved : goal.loop-place-preserved
loop-place-preserved c place within =
    marks-more (is_marked c.args.marks.now place) c.args.places.now c.loop-place.place-index place c.loop-place.marks c.set_mark.new.marks (omega arith) (c.loop-place.invariant place within)
    (λ same. ap (is_marked c.set_mark.new.marks) (sym same) ∙ c.set_mark.ensures.own (omega (arith, within, same))) (c.set_mark.ensures.others place)
