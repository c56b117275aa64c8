use Rattle.std.proofs.Common.{sym, ◌∙◌}
use Rattle.asc_text.proofs.Pieces.{nothing-written}
use Rattle.ice_gen.specs.Database.{names_in_row}
use Rattle.ice_gen.proofs.Nameless.{row-nameless}
use Rattle.ice_gen.proofs.names.append_row.Goals as goal

pub returns-else-may_be_named : goal.returns-else-may_be_named
returns-else-may_be_named c =
    nothing-written c.args.text.now.items (names_in_row c.args.device c.args.net c.args.y) (row-nameless c.args.device c.args.net c.args.y c.requires.database (sym c.may_be_named.ensures ∙ c.if-may_be_named.false))
