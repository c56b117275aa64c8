use Rattle.std.proofs.Common.{sym, ◌∙◌}
use Rattle.port_names.proofs.Given.{atoms-stay}
use Rattle.port_names.proofs.renamed.rename_atoms.Goals as goal

pub returns-else-names_listed : goal.returns-else-names_listed
returns-else-names_listed c = atoms-stay c.args.renaming.now c.args.atoms.now (sym c.names_listed.ensures ∙ c.if-names_listed.false)
