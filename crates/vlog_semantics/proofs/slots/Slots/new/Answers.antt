use Rattle.std.proofs.Common.{ap}
use Rattle.std.specs.Prelude.{bytes_eq}
use Rattle.std.specs.Map.{lookup}
use Rattle.vlog_semantics.specs.Slots.{Finds}
use Rattle.vlog_semantics.proofs.slots.Slots.new.Goals as goal

pub returns : goal.returns
unfolding Finds
returns c = λ name. ap (λ entries. lookup (λ key. bytes_eq name key.items) entries) c.new.ensures.empty
