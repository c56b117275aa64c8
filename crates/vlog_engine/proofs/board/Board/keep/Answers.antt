use Rattle.std.proofs.Common.{ap, arith, length, take, ◌∙◌}
use Rattle.vlog_engine.specs.Lanes.{lane_bits}
use Rattle.vlog_engine.proofs.Waves.{moments-few, lane-take}
use Rattle.vlog_engine.proofs.board.Board.keep.Goals as goal

pub keep-requires : goal.keep-requires
keep-requires g c =
    let r = c.args.self.now in
    omega (arith, r.next_room, moments-few r.layout, r.sources_room, r.cells_room, r.cells.ok.0, ap length c.deref.ensures.value)

pub returns-clause-next : goal.returns-clause-next
returns-clause-next g c lane =
    let r = c.args.self.now in
    ap (lane_bits g.V.Value.at lane) (c.keep.ensures.next ∙ ap (take (r.moments.next.len)) c.deref.ensures.value)
    ∙ lane-take g.V.Value.at lane r.cells.items r.moments.next.len
    ∙ ap (λ n. take n (lane_bits g.V.Value.at lane r.cells.items)) r.next_room
