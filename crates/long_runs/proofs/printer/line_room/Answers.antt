use Rattle.std.proofs.Common.{arith, ap, length, length-append}
use Rattle.vlog_run.specs.Text.{entry_line}
use Rattle.long_runs.proofs.printer.line_room.Goals as goal

pub returns : goal.returns
returns c m entry shows =
    let line = entry_line c.args.registers entry in
    let made = ap length (c.in_ok-push_line.ensures.text m entry shows) in
    omega (arith, made, c.len.ensures, c.push_line.new.text.ok.0, length-append c.new-line.result.items line, ap length c.new-line.ensures.items)
