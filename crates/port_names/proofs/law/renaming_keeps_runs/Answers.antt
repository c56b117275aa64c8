use Rattle.port_names.proofs.Laws.{renaming-keeps-runs}
use Rattle.port_names.proofs.law.renaming_keeps_runs.Goals as goal

pub returns : goal.returns
returns c renaming m = renaming-keeps-runs renaming m
