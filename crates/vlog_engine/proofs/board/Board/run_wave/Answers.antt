use Rattle.std.proofs.Common.{◌∙◌}
use Rattle.vlog_engine.specs.Boards.{cells_in}
use Rattle.vlog_engine.specs.StepKinds.Step.{at_wave}
use Rattle.vlog_engine.specs.Waves.{earlier_in}
use Rattle.vlog_engine.proofs.Calls.{changed-in, idle-then, settled-idle, shown-idle, stays-then}
use Rattle.vlog_engine.proofs.board.Board.run_wave.Goals as goal

pub returns-clause-same : goal.returns-clause-same
returns-clause-same g c =
    stays-then c.args.self.now c.settle.new.self c.show.new.self
    (stays-then c.args.self.now c.clock.new.self c.settle.new.self c.clock.ensures.same c.settle.ensures.same) c.show.ensures.same

pub returns-clause-moments : goal.returns-clause-moments
returns-clause-moments g c = c.show.ensures.moments ∙ c.settle.ensures.moments ∙ c.clock.ensures.moments

pub returns-clause-idle : goal.returns-clause-idle
returns-clause-idle g c lane within off =
    let on = g.V.Value.at c.args.lanes lane in
    let a = c.args.self.now in
    let b = c.clock.new.self in
    let d = c.settle.new.self in
    let one = idle-then lane a b d c.clock.ensures.same (c.clock.ensures.idle lane within off) (settled-idle on lane b d c.settle.ensures.same (c.settle.ensures.settled lane within) off) in
    idle-then lane a d c.show.new.self (stays-then a b d c.clock.ensures.same c.settle.ensures.same) one
    (shown-idle on lane d c.show.new.self c.show.ensures.same (c.show.ensures.shown lane within) off)

pub returns-clause-changed : goal.returns-clause-changed
returns-clause-changed g c lane within on =
    let active = g.V.Value.at c.args.lanes lane in
    let a = c.args.self.now in
    changed-in (at_wave a.layout.input_count a.layout.first_wire (earlier_in a lane) (cells_in a lane)) lane active active a c.clock.new.self c.settle.new.self c.show.new.self
    c.clock.ensures.same c.settle.ensures.same (c.clock.ensures.clocked lane within on) (c.settle.ensures.settled lane within) on (c.show.ensures.shown lane within) on
