use Rattle.std.proofs.lemmas.Result.{on_ok_weaker}
use Rattle.long_runs.proofs.Heads.{asked-names}
use Rattle.long_runs.proofs.head.push_asked.Goals as goal

pub returns-in_ok-push_registers : goal.returns-in_ok-push_registers
returns-in_ok-push_registers c =
    on_ok_weaker c.push_registers-then-registers.result
    (λ made. asked-names c.args.text.now.items c.push_registers.new.text.items c.push_registers-then-registers.new.text.items c.args.items.now c.args.registers c.if-registers.true c.in_ok-push_registers.ensures made)
    c.push_registers-then-registers.ensures
