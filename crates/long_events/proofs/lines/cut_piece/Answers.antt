use Rattle.std.proofs.Common.{◌∙◌, ◌+◌, ◌-◌, drop, length, length-drop, sym, take_all, arith}
use Rattle.long_events.proofs.Pieces.{piece-after, piece-before, piece-none, piece-whole}
use Rattle.long_events.proofs.lines.cut_piece.Goals as goal

pub returns-in-Some-clause-first : goal.returns-in-Some-clause-first
returns-in-Some-clause-first c = piece-before c.args.line.now c.in-Some.space (sym c.in-Some.ensures.place)

pub returns-in-Some-clause-after : goal.returns-in-Some-clause-after
returns-in-Some-clause-after c =
    let line = c.args.line.now in
    let next = c.in-Some.space + 1 in
    take_all (length line - next) (drop next line) (omega (arith, length-drop next line)) ∙ piece-after line c.in-Some.space (sym c.in-Some.ensures.place)

pub returns-in-None-clause-first : goal.returns-in-None-clause-first
returns-in-None-clause-first c = piece-whole c.args.line.now (sym c.in-None.ensures.place)

pub returns-in-None-clause-after : goal.returns-in-None-clause-after
returns-in-None-clause-after c = piece-none c.args.line.now (sym c.in-None.ensures.place)
