use Rattle.std.proofs.Common.{ap, cond, ◌∙◌}
use Rattle.vlog_engine.proofs.changes.both.Goals as goal

pub returns : goal.returns
returns g c lane within = c.select.ensures lane within ∙ ap (cond (g.V.Value.at c.args.one lane) (g.V.Value.at c.args.other lane)) (c.every.ensures lane within)
