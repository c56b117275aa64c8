use Rattle.std.proofs.Common.{arith}
use Rattle.plane_map.proofs.Offsets.{places-from, entry-onto}
use Rattle.plane_map.proofs.layout.Layout.quarter.Goals as goal

pub unreachable-requires : goal.unreachable-requires
unreachable-requires c =
    let places = places-from c.self.inside.banks 4 4 c.self.invariant.layout.banks in
    let at = entry-onto c.self.inside.banks 4 places c.args.bank c.requires in
    c.in-None.ensures at.0 (omega (arith, at.1, places.count_is)) at.2
