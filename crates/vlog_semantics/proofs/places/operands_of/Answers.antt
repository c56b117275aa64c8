use Rattle.std.proofs.Common.{arith, length-set, ◌∙◌}
use Rattle.vlog_semantics.specs.Plans.{operand_of}
use Rattle.vlog_semantics.specs.Slots.{slot_of}
use Rattle.vlog_semantics.proofs.Filling.{filled-next, filled-all}
use Rattle.vlog_semantics.proofs.places.operands_of.Goals as goal

pub loop-place-preserved : goal.loop-place-preserved
loop-place-preserved g c = record {
  size = length-set _ _ _ ∙ c.loop-place.invariant.size;
  filled = filled-next (operand_of (slot_of c.args.bits.now) (slot_of c.args.words.now)) c.args.atoms.now c.loop-place.operands c.loop-place.place c.get.result.now c.operand_of.result
      (omega (arith, c.requires)) (omega (arith, c.loop-place.invariant.size)) c.loop-place.invariant.filled c.get.ensures c.operand_of.ensures;
}

pub returns : goal.returns
returns g c =
    filled-all (operand_of (slot_of c.args.bits.now) (slot_of c.args.words.now)) c.args.atoms.now c.loop-place.operands c.loop-place.place (omega (arith, c.requires)) (omega (arith, c.loop-place.invariant.size)) c.loop-place.invariant.filled
