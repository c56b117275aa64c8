use Rattle.std.proofs.Common.{ℕ, List, fold, take}
use Rattle.vlog_semantics.specs.declared.plan.Operand.{Operand}
use Rattle.vlog_semantics.specs.Slots.{slot_of}
use Rattle.vlog_semantics.specs.Held.{Holds}
use Rattle.vlog_semantics.specs.Plans.{output_operand}
use Rattle.vlog_semantics.proofs.build.assign_outputs.Given as goal

abbrev pub invariant-loop-item : goal.invariant-loop-item
invariant-loop-item l = (entries : List (List ℕ × Operand)) → Holds l.initial.outputs entries → Holds l.outputs (fold (output_operand (slot_of l.bits) (slot_of l.words)) entries (take l.item-index l.items))
