use Rattle.std.proofs.Common.{ap, ◌∙◌}
use Rattle.chipdb_reader.specs.Kept.{name_lines}
use Rattle.chipdb_reader.specs.Nets.{names_with}
use Rattle.chipdb_reader.proofs.Found.{net-names-found}
use Rattle.chipdb_reader.proofs.chip_db.ChipDb.names_of.Goals as goal

pub returns : goal.returns
returns c =
    rw (← c.self.view_is) (ap (λ names. name_lines c.self.inside.texts.arena (names_with c.args.net names)) c.names_of.ensures
    ∙ net-names-found c.self.inside.texts.arena c.self.inside.nets c.args.net c.self.invariant.indexed.nets_indexed c.self.invariant.indexed.closed)
