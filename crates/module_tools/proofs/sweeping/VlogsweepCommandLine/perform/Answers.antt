use Rattle.clap.specs.Words.{found_of, rows_of}
use Rattle.module_tools.specs.Laws.{vlogsweep-speaks}
use Rattle.module_tools.specs.Vlogsweep.{vlogsweep_task_by}
use Rattle.module_tools.proofs.sweeping.VlogsweepCommandLine.perform.Goals as goal

pub returns-in-Err-clause-does : goal.returns-in-Err-clause-does
returns-in-Err-clause-does g c =
    let rows = rows_of (found_of c.args.matches.now) in
    c.give_up.ensures (vlogsweep_task_by rows) (vlogsweep-speaks rows)
