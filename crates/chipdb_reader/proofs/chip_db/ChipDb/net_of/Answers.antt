use Rattle.std.proofs.Common.{sym, ◌∙◌}
use Rattle.chipdb_reader.specs.Nets.{net_names}
use Rattle.chipdb_reader.proofs.Found.{net-found, net-none}
use Rattle.chipdb_reader.proofs.chip_db.ChipDb.net_of.Goals as goal

pub returns-in-None : goal.returns-in-None
returns-in-None c =
    rw (← c.self.view_is) (sym (net-none c.self.inside.texts (net_names c.self.inside.nets) c.args.x c.args.y c.args.name.now c.self.invariant.indexed.texts_indexed c.self.invariant.sound.names (sym c.in-None.ensures)))

pub returns-in-Some : goal.returns-in-Some
returns-in-Some c =
    rw (← c.self.view_is) (c.net_of.ensures ∙ c.self.invariant.indexed.nets_indexed.found (record { x = c.args.x; y = c.args.y; name = c.in-Some.name })
    ∙ net-found c.self.inside.texts (net_names c.self.inside.nets) c.args.x c.args.y c.args.name.now c.in-Some.name c.self.invariant.indexed.texts_indexed c.self.invariant.sound.names (sym c.in-Some.ensures))
