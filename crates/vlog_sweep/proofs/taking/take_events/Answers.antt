use Rattle.std.proofs.Common.{◌≡◌, ◌<◌, ap, arith, length, sym, ◌∙◌}
use Rattle.vlog_sweep.specs.Strands.{turned}
use Rattle.vlog_sweep.specs.declared.strand.Strand.{Strand}
use Rattle.vlog_sweep.proofs.ByTurns.{ahead-more, done-more}
use Rattle.vlog_sweep.proofs.taking.take_events.Goals as goal

pub loop-lane-preserved : goal.loop-lane-preserved
loop-lane-preserved c =
    let active = c.args.active in
    let lane = c.loop-lane.lane in
    let old = c.args.strands.now in
    let now = c.loop-lane.strands in
    let inv = c.loop-lane.invariant in
    let item : Strand = c.index-strands-lane.result in
    let next : Strand = c.take_event.new.strand in
    let within : lane < length now = omega arith in
    let is = c.index-strands-lane.is in
    let next_is : next ≡ turned 0 active lane item = c.take_event.ensures ∙ ap (turned 0 active lane) (sym is) in
    record {
      done = done-more 0 active lane old now item next within is next_is inv.done inv.ahead;
      ahead = ahead-more lane old now next inv.ahead;
    }
