use Rattle.std.proofs.Common.{ap, eqb, sym, ◌∙◌, ◌&&◌}
use Rattle.std.specs.Prelude.{position}
use Rattle.chipdb_lines.specs.Statements.{is_same_kind}
use Rattle.chipdb_reader.specs.declared.items.Function.{Function}
use Rattle.chipdb_reader.proofs.Found.{function-found, function-none}
use Rattle.chipdb_reader.proofs.chip_db.ChipDb.function.Goals as goal

pub returns-in-None : goal.returns-in-None
returns-in-None c =
    rw (← c.self.view_is) (sym (function-none c.self.inside.texts c.self.inside.bits c.self.inside.functions.items c.args.kind c.args.name.now c.self.invariant.indexed.texts_indexed c.self.invariant.sound.functions (sym c.in-None.ensures)))

pub returns-in-Some : goal.returns-in-Some
returns-in-Some c =
    rw (← c.self.view_is) (c.first_function.ensures ∙ ap (position (λ (f : Function). is_same_kind f.kind c.args.kind && eqb f.name c.in-Some.name)) c.deref.ensures.value
    ∙ function-found c.self.inside.texts c.self.inside.bits c.self.inside.functions.items c.args.kind c.args.name.now c.in-Some.name c.self.invariant.indexed.texts_indexed c.self.invariant.sound.functions (sym c.in-Some.ensures))
