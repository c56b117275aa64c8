use Rattle.fabric_model.specs.Fabric.{fabric_with}
use Rattle.fabric_model.proofs.Events.{none-on_register}
use Rattle.fabric_model.proofs.NarrowMemories.{narrow-memories}
use Rattle.fabric_model.proofs.law.narrow_rams_are_memories.Goals as goal

pub returns-clause-memories : goal.returns-clause-memories
returns-clause-memories c options db image events first entries run = narrow-memories options db image events first entries run

pub returns-clause-alone : goal.returns-clause-alone
unfolding fabric_with
returns-clause-alone c options db image net without = none-on_register (fabric_with options db image) without net
