use Rattle.std.proofs.Common.{◌≡◌, ◌++◌, map, take}
use Rattle.fabric_module.specs.Written.{read_register}
use Rattle.vlog_emit.proofs.sections.append_words.Given as goal

abbrev pub invariant-loop-ram : goal.invariant-loop-ram
invariant-loop-ram l = l.items.items ≡ l.initial.items.items ++ map read_register (take l.ram-index l.rams)
