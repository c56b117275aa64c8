use Rattle.std.proofs.Common.{◌≡◌, ◌++◌, map, take}
use Rattle.fabric_module.specs.Written.{register_item}
use Rattle.vlog_emit.proofs.sections.append_registers.Given as goal

abbrev pub invariant-loop-register : goal.invariant-loop-register
invariant-loop-register l = l.items.items ≡ l.initial.items.items ++ map register_item (take l.register-index l.registers)
