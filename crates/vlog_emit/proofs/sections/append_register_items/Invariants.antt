use Rattle.std.proofs.Common.{◌≡◌, ◌++◌, flat_map, take}
use Rattle.fabric_module.specs.Written.{register_items}
use Rattle.vlog_emit.specs.Each.{EachFabric}
use Rattle.vlog_emit.proofs.sections.append_register_items.Given as goal

abbrev pub invariant-loop-register : goal.invariant-loop-register
invariant-loop-register l = EachFabric l.design (λ fabric. l.items.items ≡ l.initial.items.items ++ flat_map (register_items fabric) (take l.register-index l.registers))
