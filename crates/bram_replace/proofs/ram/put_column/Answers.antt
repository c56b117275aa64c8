use Rattle.std.proofs.Common.{arith}
use Rattle.bram_replace.proofs.Putting.{column-put, column-begun, column-ended}
use Rattle.bram_replace.proofs.ram.put_column.Goals as goal

pub loop-word-init : goal.loop-word-init
loop-word-init c = λ word place few low. column-begun c.args.bits.now c.args.to.now c.args.column c.args.bit word place

pub loop-word-preserved : goal.loop-word-preserved
loop-word-preserved c =
    column-put c.loop-word.bits c.args.bits.now c.args.to.now c.args.column c.args.bit c.loop-word.word c.column_bit.result (omega arith) c.requires.bit (omega arith) c.column_bit.ensures c.loop-word.invariant

pub returns : goal.returns
returns c = column-ended c.loop-word.bits c.args.bits.now c.args.to.now c.args.column c.args.bit c.loop-word.word (omega arith) c.loop-word.invariant
