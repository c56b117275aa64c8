use Rattle.std.proofs.Common.{◌≡◌, ◌++◌, arith, subst}
use Rattle.std.specs.Prelude.{OnOk}
use Rattle.vlog_run.specs.Text.{entry_line}
use Rattle.long_runs.proofs.Printed.{ok-where}
use Rattle.long_runs.proofs.printer.put_line.Goals as goal

pub unwrap-requires : goal.unwrap-requires
unwrap-requires c =
    let r = c.requires in
    ok-where c.push_line.result (c.push_line.ensures.full r.m r.entry r.shows) (λ full. omega (arith, full, r.fits))

pub returns-clause-text : goal.returns-clause-text
returns-clause-text c m entry shows =
    let text = c.args.text.now.items in
    subst (λ result. OnOk result (c.push_line.new.text.items ≡ text ++ entry_line c.args.registers entry)) c.unwrap.ensures (c.push_line.ensures.text m entry shows)
