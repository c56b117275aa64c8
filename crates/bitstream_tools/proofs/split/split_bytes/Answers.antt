use Rattle.bitstream_tools.proofs.SplitStops.{stops-told}
use Rattle.bitstream_tools.proofs.split.split_bytes.Goals as goal

pub returns-clause-stops : goal.returns-clause-stops
returns-clause-stops c =
    stops-told c.args.bytes.now c.args.wanted c.split_stop.result c.in-Err.ensures.decided (c.split_stop.ensures _ c.in-Err.ensures.refused)
