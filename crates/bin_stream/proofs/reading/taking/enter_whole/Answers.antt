use Rattle.std.proofs.Common.{rules}
use Rattle.bin_stream.proofs.Stages.{refuses-cut}
use Rattle.bin_stream.proofs.reading.taking.enter_whole.Goals as goal

pub returns-then-is_cut-clause-cut : goal.returns-then-is_cut-clause-cut
returns-then-is_cut-clause-cut c = λ _ commands stands.
    refuses-cut commands c.args.at.offset c.args.at.bytes.now c.in-Err.fault (c.in-Err.ensures.refused commands stands) (search rules)
