use Rattle.std.proofs.Common.{◌≤◌, sym, subst}
use Rattle.std.specs.Prelude.{All}
use Rattle.vlog_emit.specs.Each.{IsRegisterIn}
use Rattle.vlog_emit.proofs.Within.{registers-within, reads-moded, writes-moded}
use Rattle.vlog_emit.proofs.emitting.append_changes.Goals as goal

pub append_register_items-requires-clause-within : goal.append_register_items-requires-clause-within
append_register_items-requires-clause-within c =
    subst (All (IsRegisterIn c.args.design.now)) (sym c.registers.ensures.registers) (registers-within c.args.design.now c.registers.ensures.design)

pub append_reads-requires-clause-modes : goal.append_reads-requires-clause-modes
append_reads-requires-clause-modes c = subst (All (λ ram. ram.read ≤ 3)) (sym c.rams-rams.ensures.rams) (reads-moded c.args.design.now c.rams-rams.ensures.design)

pub append_writes-requires-clause-modes : goal.append_writes-requires-clause-modes
append_writes-requires-clause-modes c = subst (All (λ ram. ram.write ≤ 3)) (sym c.rams-rams.ensures.rams) (writes-moded c.args.design.now c.rams-rams.ensures.design)
