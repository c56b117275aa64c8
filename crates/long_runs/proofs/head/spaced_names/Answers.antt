use Rattle.long_runs.proofs.Heads.{names-spaced}
use Rattle.long_runs.proofs.head.spaced_names.Goals as goal

pub returns : goal.returns
returns c =
    names-spaced c.args.module.now c.args.registers c.ports.result.now c.items.result.now c.new-text.result.items c.push_outputs.new.text.items c.push_asked.new.text.items c.new-text.ensures.items
    c.ports.ensures.ports c.items.ensures.items c.in_ok-push_outputs.ensures c.in_ok-push_asked.ensures
