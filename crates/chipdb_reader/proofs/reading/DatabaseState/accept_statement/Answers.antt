use Rattle.chipdb_reader.proofs.Outcomes.{ok-both}
use Rattle.chipdb_reader.proofs.reading.DatabaseState.accept_statement.Goals as goal

pub returns-clause-taken : goal.returns-clause-taken
returns-clause-taken c =
    ok-both c.begin.result _ _ _ c.begin.ensures.fits c.begin.ensures.begun (λ x fits begun. record {
      bits = c.statement.new.bits;
      below = c.in_ok-below.below;
      says = c.in_ok-below.ensures.says;
      added = c.in_ok-below.ensures.added;
      fits = fits;
      begun = begun;
    })
