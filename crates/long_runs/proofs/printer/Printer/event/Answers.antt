use Rattle.std.proofs.Common.{refl}
use Rattle.vlog_semantics.specs.Run.{followed}
use Rattle.long_runs.proofs.Kept.{followed-names}
use Rattle.long_runs.proofs.Printed.{prints-next, room-next}
use Rattle.long_runs.proofs.printer.Printer.event.Goals as goal

pub put_event-requires : goal.put_event-requires
put_event-requires c =
    let p = c.requires.printing in
    room-next c.args.self.now c.event.new.self p.m p.entry c.args.event p.prints c.requires.short (c.event.ensures.shows p.m p.entry p.prints.shows)

pub returns-clause-text : goal.returns-clause-text
returns-clause-text c m entry prints =
    let next = followed m entry c.args.event in
    c.put_event.ensures.text m entry next prints.names (followed-names m entry c.args.event prints.names) prints.seen (c.event.ensures.shows m entry prints.shows)

pub returns-clause-prints : goal.returns-clause-prints
returns-clause-prints c m entry prints =
    let next = followed m entry c.args.event in
    let shows = c.event.ensures.shows m entry prints.shows in
    prints-next c.args.self.now _ m entry c.args.event prints refl refl c.put_event.ensures.room shows
    (c.put_event.ensures.seen m entry next prints.names (followed-names m entry c.args.event prints.names) prints.seen shows)
