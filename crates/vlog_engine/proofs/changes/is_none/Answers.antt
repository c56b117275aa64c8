use Rattle.std.proofs.Common.{ap, ◌∙◌}
use Rattle.std.proofs.lemmas.Bool.{not-true}
use Rattle.vlog_engine.proofs.changes.is_none.Goals as goal

pub returns : goal.returns
returns g c on lane within = ap (λ value. g.V.Value.at value lane) (c.differs.ensures (not-true c.differs.result on)) ∙ c.every.ensures lane within
