use Rattle.std.proofs.Common.{◌∙◌, sym}
use Rattle.long_events.specs.Streams.{events_left}
use Rattle.long_events.specs.inside.Cursors.{moves_left}
use Rattle.long_events.proofs.Given.{length-events_from}
use Rattle.long_events.proofs.stream.EventStream.left.Goals as goal

pub returns : goal.returns
unfolding events_left
returns c =
    let stream = c.args.self.now in
    sym stream.counted ∙ sym (length-events_from stream.bits.items (moves_left stream.steps.items stream.cursor))
