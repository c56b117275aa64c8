use Rattle.long_events.proofs.Counts.{tallies-end, tallies-give, tallies-repeat, tallies-toggle}
use Rattle.long_events.proofs.counting.Tally.take.Goals as goal

pub returns-in-Give : goal.returns-in-Give
returns-in-Give c rest tallies = rw (c.in-Give.is, c.add.ensures) (tallies-give c.args.self.now c.in-Give.field-0 rest tallies)

pub returns-in-Toggle : goal.returns-in-Toggle
returns-in-Toggle c rest tallies = rw (c.in-Toggle.is, c.add-in-Toggle.ensures, c.from.ensures) (tallies-toggle c.args.self.now c.in-Toggle.pin c.in-Toggle.count rest tallies)

pub returns-in-Repeat : goal.returns-in-Repeat
returns-in-Repeat c rest tallies =
    let room = rw c.in-Repeat.is at c.requires.room in
    rw (c.in-Repeat.is, c.repeat.ensures, c.from-in-Repeat.ensures) (tallies-repeat c.args.self.now c.in-Repeat.count rest room.0 room.1 tallies)

pub returns-in-End : goal.returns-in-End
returns-in-End c rest tallies =
    let room = rw c.in-End.is at c.requires.room in
    rw (c.in-End.is, c.begin.ensures) (tallies-end c.args.self.now rest room tallies)
