use Rattle.std.proofs.Common.{◌∙◌, arith}
use Rattle.bram_replace.proofs.Putting.{rest-more, word-there, word-before}
use Rattle.bram_replace.proofs.ram.put_word.Goals as goal

pub loop-bit-preserved : goal.loop-bit-preserved
loop-bit-preserved c =
    let i = c.loop-bit.invariant in
    record {
      left = rest-more c.args.value c.loop-bit.rest c.loop-bit.bit i.left;
      there = word-there c.loop-bit.bits c.args.word c.loop-bit.bit c.args.value c.loop-bit.rest (omega arith) c.requires (omega arith) i.left i.there;
      before = λ word bit few low. word-before c.loop-bit.bits c.args.word c.loop-bit.bit _ (omega arith) c.requires (omega arith) word bit few low ∙ i.before word bit few low;
    }
