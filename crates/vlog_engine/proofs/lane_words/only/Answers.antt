use Rattle.std.proofs.lemmas.Nat.{one_shl}
use Rattle.vlog_engine.proofs.Bits.{bit-only}
use Rattle.vlog_engine.proofs.lane_words.only.Goals as goal

pub returns : goal.returns
returns c other = bit-only _ c.args.lane other (one_shl c.args.lane 64 c.requires)
