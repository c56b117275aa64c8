use Rattle.std.proofs.Common.{ap, arith}
use Rattle.vlog_semantics.specs.declared.layout.SlotLayout.{SlotLayout}
use Rattle.vlog_engine.proofs.Calls.{idle-then, stays-then}
use Rattle.vlog_engine.proofs.Waves.{change-awaits}
use Rattle.vlog_engine.proofs.board.Board.change.Goals as goal

pub begin-requires : goal.begin-requires
begin-requires g c = omega (arith, c.requires, ap (λ (layout : SlotLayout). layout.input_count) c.keep.ensures.same.layout)

pub returns-clause-same : goal.returns-clause-same
returns-clause-same g c =
    let a = c.args.self.now in
    let b = c.keep.new.self in
    let d = c.begin.new.self in
    let e = c.turn.new.self in
    stays-then a e c.run_waves.new.self (stays-then a d e (stays-then a b d c.keep.ensures.same c.begin.ensures.same) c.turn.ensures.same) c.run_waves.ensures.same

pub returns-clause-idle : goal.returns-clause-idle
returns-clause-idle g c lane within off =
    let a = c.args.self.now in
    let b = c.keep.new.self in
    let d = c.begin.new.self in
    let e = c.turn.new.self in
    let two = stays-then a b d c.keep.ensures.same c.begin.ensures.same in
    let three = stays-then a d e two c.turn.ensures.same in
    idle-then lane a e c.run_waves.new.self three
    (idle-then lane a d e two (idle-then lane a b d c.keep.ensures.same (c.keep.ensures.idle lane) (c.begin.ensures.idle lane within off)) (c.turn.ensures.idle lane))
    (c.run_waves.ensures.idle lane within off)

pub returns-clause-changed : goal.returns-clause-changed
returns-clause-changed g c lane m entry on shows =
    c.run_waves.ensures.shown lane m _ on
    (change-awaits m entry lane c.args.self.now c.keep.new.self c.begin.new.self c.turn.new.self (record { pin = c.args.pin; bit = g.V.Value.at c.args.bits lane }) shows c.requires
    c.keep.ensures.same (c.keep.ensures.idle lane) (c.keep.ensures.next lane) c.begin.ensures.same c.begin.ensures.moments (c.begin.ensures.changed lane shows.within on)
    c.turn.ensures.same (c.turn.ensures.idle lane) c.turn.ensures.earlier)
