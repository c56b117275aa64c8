use Rattle.std.proofs.Common.{refl}
use Rattle.long_runs.proofs.Printed.{prints-kept, room-here}
use Rattle.long_runs.proofs.printer.Printer.end.Goals as goal

pub put_end-requires : goal.put_end-requires
put_end-requires c =
    let p = c.requires.printing in
    room-here c.args.self.now p.m p.entry p.prints c.requires.short

pub returns-clause-text : goal.returns-clause-text
returns-clause-text c m entry prints = c.put_end.ensures.text m entry prints.shows

pub returns-clause-prints : goal.returns-clause-prints
returns-clause-prints c m entry prints = prints-kept c.args.self.now _ m entry refl refl refl refl c.put_end.ensures.room prints
