use Rattle.std.proofs.Common.{◌≡◌, ◌+◌, ◌-◌, arith, slice_index_or}
use Rattle.plane_map.specs.Layout.{start_in}
use Rattle.layout_file.proofs.ReadWidths.{start_in-nothing, start_in-last}
use Rattle.layout_file.proofs.conditions.+start_in.Goals as goal

pub returns-then-columns-eq0-clause-is : goal.returns-then-columns-eq0-clause-is
returns-then-columns-eq0-clause-is t c = start_in-nothing c.args.widths.now c.args.columns (omega arith)

pub returns-clause-is : goal.returns-clause-is
returns-clause-is t c =
    let last : start_in c.args.widths.now c.args.columns ≡ start_in c.args.widths.now (c.args.columns - 1) + slice_index_or c.args.widths.now (c.args.columns - 1) 0
    = start_in-last c.args.widths.now c.args.columns (c.args.columns - 1) (omega arith) in
    omega (arith, last, c.start_in.ensures.is)
