use Rattle.std.proofs.Common.{subst}
use Rattle.vlog_engine.specs.Circuits.{watched}
use Rattle.vlog_engine.specs.Lanes.{lane_bits}
use Rattle.vlog_engine.specs.Passing.{IsSettled}
use Rattle.vlog_engine.proofs.Marked.{tracked-first}
use Rattle.vlog_engine.proofs.Watched.{wires-first}
use Rattle.vlog_engine.proofs.start.settle_first.Goals as goal

pub returns : goal.returns
returns g c lane first count within rising read room =
    let circuit = c.args.circuit.now in
    let before = lane_bits g.V.Value.at lane c.args.cells.now in
    subst (λ a. IsSettled a first count circuit.gates.items (watched circuit) circuit.settles.items before (lane_bits g.V.Value.at lane c.settle.new.cells) c.settle.new.marks) (c.every.ensures lane within)
    (c.settle.ensures.settled lane first count (watched circuit) within rising (wires-first circuit) read room
    (tracked-first (watched circuit) before c.args.marks.now c.requires.room c.requires.marks))
