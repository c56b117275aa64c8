use Rattle.vlog_engine.proofs.Bits.{choice-each}
use Rattle.vlog_engine.proofs.lane_words.choices_of.Goals as goal

pub returns : goal.returns
returns c = record {
  each = λ lane index within few. choice-each c.args.a c.every.result c.one_of.result c.every-2.result lane index (c.every.ensures lane within) (c.one_of.ensures lane) (c.every-2.ensures lane within) within few;
}
