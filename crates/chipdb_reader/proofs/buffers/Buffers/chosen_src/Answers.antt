use Rattle.std.proofs.Common.{◌∙◌, ap, drop}
use Rattle.std.specs.Prelude.{nat_eq}
use Rattle.std.specs.Map.{lookup}
use Rattle.std.proofs.lemmas.List.{take_rest}
use Rattle.chipdb_reader.specs.Buffers.{choices_of}
use Rattle.chipdb_reader.proofs.BufferSteps.{first-lookup}
use Rattle.chipdb_reader.proofs.buffers.Buffers.chosen_src.Goals as goal

pub returns-else-self : goal.returns-else-self
returns-else-self c =
    c.first_src.ensures ∙ first-lookup c.args.values _
    ∙ ap (λ ls. lookup (nat_eq c.args.values) (choices_of ls)) (take_rest c.deref.result.now c.args.self.now.start ∙ ap (drop c.args.self.now.start) c.deref.ensures.value)
