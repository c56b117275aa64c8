use Rattle.chipdb_lines.proofs.statements.below_keyword.Goals as goal

pub returns-in-None-chip-clause-says : goal.returns-in-None-chip-clause-says
returns-in-None-chip-clause-says c = rw (c.in-None-chip.is, c.in-Some.is) (c.below_none.ensures.says c.args.bits.now)

pub returns-in-None-chip-clause-added : goal.returns-in-None-chip-clause-added
returns-in-None-chip-clause-added c = c.below_none.ensures.added c.args.bits.now
