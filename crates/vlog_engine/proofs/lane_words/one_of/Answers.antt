use Rattle.vlog_engine.proofs.Bits.{bit-select}
use Rattle.vlog_engine.proofs.lane_words.one_of.Goals as goal

pub returns : goal.returns
returns c lane = bit-select c.args.choice c.args.one c.args.other lane
