use Rattle.vlog_semantics.specs.Run.{start}
use Rattle.vlog_waves.proofs.Alike.{alike-fitting}
use Rattle.vlog_waves.proofs.tracer.Tracer.new.Goals as goal

pub invariant_of-result-clause-alike : goal.invariant_of-result-clause-alike
invariant_of-result-clause-alike c =
    let m = c.args.module.now in
    let shows = c.in_ok-runner.ensures in
    alike-fitting m c.in_ok-values.values c.in_ok-next.next (c.in_ok-values.ensures.fits (start m) shows) (c.in_ok-next.ensures.fits (start m) shows)

pub returns : goal.returns
returns c =
    let m = c.args.module.now in
    let shows = c.in_ok-runner.ensures in
    record {
      shows = shows;
      fits = c.in_ok-values.ensures.fits (start m) shows;
      held = c.in_ok-values.ensures.held (start m) shows;
    }
