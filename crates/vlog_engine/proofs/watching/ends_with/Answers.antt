use Rattle.std.proofs.Common.{Some, ap, length, sym, ◌-◌, ◌∙◌}
use Rattle.std.proofs.lemmas.Bool.{eqb-true}
use Rattle.vlog_engine.proofs.Placed.{has-got}
use Rattle.vlog_engine.proofs.watching.ends_with.Goals as goal

pub returns-in-Some : goal.returns-in-Some
returns-in-Some c on =
    has-got c.args.list.now (length c.args.list.now - 1) c.args.number (sym c.in-Some.ensures.value ∙ ap Some (eqb-true c.in-Some.last.now c.args.number on))
