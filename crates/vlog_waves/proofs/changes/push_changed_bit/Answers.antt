use Rattle.std.proofs.Common.{◌∙◌, List, ℕ, ◌++◌, ap, append-nil, sym}
use Rattle.vlog_waves.proofs.Cuts.{same-bit}
use Rattle.vlog_waves.proofs.changes.push_changed_bit.Goals as goal

pub returns-then-old-new-clause-text : goal.returns-then-old-new-clause-text
returns-then-old-new-clause-text c =
    sym (append-nil c.args.text.now.items) ∙ ap (λ (more : List ℕ). c.args.text.now.items ++ more) (sym (same-bit c.args.number c.args.old c.args.new c.if-old-new.true))
