use Rattle.std.proofs.Common.{◌∙◌, ℕ, List, ◌++◌, ap, append-nil, sym}
use Rattle.vlog_run.specs.Text.{entry_line}
use Rattle.long_runs.specs.Shown.{numbered_line}
use Rattle.long_runs.proofs.Sights.{changed-text, lines-seen, same-text}
use Rattle.long_runs.proofs.printer.put_changed.Goals as goal

pub returns-then-not-is_same-clause-text : goal.returns-then-not-is_same-clause-text
returns-then-not-is_same-clause-text c m before entry first second sees shows =
    let registers = c.args.registers in
    let text = c.args.text.now.items in
    let line = entry_line registers entry in
    let other = c.is_same.ensures.other m before entry sees shows c.if-not-is_same.true in
    c.put_numbered_line.ensures.text m entry shows
    ∙ ap (λ (behind : List ℕ). text ++ behind) (changed-text (entry_line registers before) line (numbered_line c.args.number line) other)

pub returns-else-not-is_same-clause-text : goal.returns-else-not-is_same-clause-text
returns-else-not-is_same-clause-text c m before entry first second sees shows =
    let registers = c.args.registers in
    let text = c.args.text.now.items in
    let line = entry_line registers entry in
    let now = c.is_same.ensures.sees m entry shows c.if-not-is_same.false in
    let lines = lines-seen c.args.seen.now registers before entry sees now in
    sym (append-nil text) ∙ ap (λ (behind : List ℕ). text ++ behind) (same-text (entry_line registers before) line (numbered_line c.args.number line) lines)
