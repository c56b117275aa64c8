use Rattle.std.proofs.Common.{arith}
use Rattle.plane_map.proofs.Offsets.{places-from, entry-onto}
use Rattle.plane_map.proofs.layout.Layout.pad_row_at.Goals as goal

pub unreachable-requires : goal.unreachable-requires
unreachable-requires c =
    let places = places-from c.self.inside.pad_rows 16 16 c.self.invariant.layout.pad_rows in
    let at = entry-onto c.self.inside.pad_rows 16 places c.args.row c.requires in
    c.in-None.ensures at.0 (omega (arith, at.1, places.count_is)) at.2
