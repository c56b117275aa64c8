use Rattle.std.proofs.Common.{List, ℕ, sym, subst}
use Rattle.std.specs.Prelude.{IfOk, IfErr, Result}
use Rattle.chipdb_reader.specs.Database.{Database}
use Rattle.tool_run.specs.Tasks.{Done}
use Rattle.selfrun_tool.specs.Inside.{StopsAs}
use Rattle.selfrun_tool.specs.Selfrun.{IsAnswerBy}
use Rattle.selfrun_tool.proofs.running.told_from.Goals as goal

pub returns-clause-bytes : goal.returns-clause-bytes
returns-clause-bytes c =
    subst (λ (read : Result Database (List ℕ)). IfOk c.told_of.result (λ bytes. IsAnswerBy c.args.request read (Done bytes.items))) (sym c.in_ok-db.ensures.database) c.told_of.ensures.bytes

pub returns-clause-stops : goal.returns-clause-stops
returns-clause-stops c = subst (λ (read : Result Database (List ℕ)). IfErr c.told_of.result (StopsAs (IsAnswerBy c.args.request read))) (sym c.in_ok-db.ensures.database) c.told_of.ensures.stops
