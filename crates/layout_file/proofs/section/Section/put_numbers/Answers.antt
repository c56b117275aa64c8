use Rattle.std.proofs.Common.{◌-◌, length, arith}
use Rattle.plane_map.specs.Layout.{are_places, are_widths}
use Rattle.layout_file.specs.declared.field.Numbers.TheVariants.{Widths, SideColumns, PadColumns, PadRows}
use Rattle.layout_file.specs.declared.fault.LayoutCause.TheVariants.{Width, Place}
use Rattle.layout_file.proofs.AcceptedNumbers.{IsAccepted, accepted, no-cause-not, places-bytes, widths-small, widths-cut}
use Rattle.layout_file.proofs.section.Section.put_numbers.Goals as goal

pub widths-requires-clause-small : goal.widths-requires-clause-small
widths-requires-clause-small c =
    let known : IsAccepted c.args.self.now Widths c.args.numbers.now = rw c.in-Widths.is at (accepted c.args.self.now c.args.field c.args.numbers.now c.requires) in
    widths-small c.args.self.now.layout.device c.args.numbers.now (no-cause-not (are_widths c.args.self.now.layout.device c.args.numbers.now) Width known.fit)

pub set_widths-requires : goal.set_widths-requires
set_widths-requires c =
    let known : IsAccepted c.args.self.now Widths c.args.numbers.now = rw c.in-Widths.is at (accepted c.args.self.now c.args.field c.args.numbers.now c.requires) in
    widths-cut c.args.self.now.layout.device c.args.numbers.now c.widths.result (17 - length c.args.numbers.now)
    (no-cause-not (are_widths c.args.self.now.layout.device c.args.numbers.now) Width known.fit) c.widths.ensures

pub bytes-requires : goal.bytes-requires
bytes-requires c =
    let known : IsAccepted c.args.self.now SideColumns c.args.numbers.now = rw c.in-SideColumns.is at (accepted c.args.self.now c.args.field c.args.numbers.now c.requires) in
    (omega arith, (known.count, places-bytes 18 18 c.args.numbers.now (no-cause-not (are_places 18 18 c.args.numbers.now) Place known.fit) (omega arith)))

pub bytes-requires-in-PadColumns : goal.bytes-requires-in-PadColumns
bytes-requires-in-PadColumns c =
    let known : IsAccepted c.args.self.now PadColumns c.args.numbers.now = rw c.in-PadColumns.is at (accepted c.args.self.now c.args.field c.args.numbers.now c.requires) in
    (omega arith, (known.count, places-bytes 18 42 c.args.numbers.now (no-cause-not (are_places 18 42 c.args.numbers.now) Place known.fit) (omega arith)))

pub bytes-requires-in-PadRows : goal.bytes-requires-in-PadRows
bytes-requires-in-PadRows c =
    let known : IsAccepted c.args.self.now PadRows c.args.numbers.now = rw c.in-PadRows.is at (accepted c.args.self.now c.args.field c.args.numbers.now c.requires) in
    (omega arith, (known.count, places-bytes 16 16 c.args.numbers.now (no-cause-not (are_places 16 16 c.args.numbers.now) Place known.fit) (omega arith)))
