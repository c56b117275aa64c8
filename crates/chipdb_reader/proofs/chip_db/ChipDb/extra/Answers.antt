use Rattle.std.proofs.Common.{ap, eqb, sym, ◌∙◌}
use Rattle.std.specs.Prelude.{find}
use Rattle.std.specs.Option.{option_map}
use Rattle.chipdb_reader.specs.declared.items.Extra.{Extra}
use Rattle.chipdb_reader.proofs.Found.{extra-found, extra-none}
use Rattle.chipdb_reader.proofs.chip_db.ChipDb.extra.Goals as goal

pub returns-in-None : goal.returns-in-None
returns-in-None c =
    rw (← c.self.view_is) (sym (extra-none c.self.inside.texts c.self.inside.extras.items c.args.name.now c.self.invariant.indexed.texts_indexed c.self.invariant.sound.extras (sym c.in-None.ensures)))

pub returns-in-Some : goal.returns-in-Some
returns-in-Some c =
    rw (← c.self.view_is) (c.first_extra.ensures ∙ ap (λ extras. option_map (λ (e : Extra). e.at) (find (λ (e : Extra). eqb e.name c.in-Some.name) extras)) c.deref.ensures.value
    ∙ extra-found c.self.inside.texts c.self.inside.extras.items c.args.name.now c.in-Some.name c.self.invariant.indexed.texts_indexed c.self.invariant.sound.extras (sym c.in-Some.ensures))
