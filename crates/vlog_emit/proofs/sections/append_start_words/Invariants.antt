use Rattle.std.proofs.Common.{◌≡◌, ◌++◌, [], get_or}
use Rattle.fabric_model.specs.Tiles.{each_below}
use Rattle.fabric_module.specs.Written.{start_item}
use Rattle.vlog_emit.specs.Each.{EachFabric}
use Rattle.vlog_emit.proofs.sections.append_start_words.Given as goal

abbrev pub invariant-loop-word : goal.invariant-loop-word
invariant-loop-word l = EachFabric l.design (λ fabric. l.items.items ≡ l.initial.items.items ++ each_below l.word (start_item l.ram (get_or fabric.start l.place [])))
