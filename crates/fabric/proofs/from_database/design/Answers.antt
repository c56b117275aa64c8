use Rattle.fabric.proofs.from_database.design.Goals as goal

pub returns-clause-design : goal.returns-clause-design
returns-clause-design c = c.design_with.ensures.design

pub returns-clause-options : goal.returns-clause-options
returns-clause-options c = c.design_with.ensures.options

pub returns-clause-taken : goal.returns-clause-taken
returns-clause-taken c = c.design_with.ensures.taken

pub returns-clause-refused : goal.returns-clause-refused
returns-clause-refused c = c.design_with.ensures.refused

pub returns-clause-one_value : goal.returns-clause-one_value
returns-clause-one_value c = c.design_with.ensures.one_value

pub returns-clause-chains : goal.returns-clause-chains
returns-clause-chains c = c.design_with.ensures.chains

pub returns-clause-clocks : goal.returns-clause-clocks
returns-clause-clocks c = c.design_with.ensures.clocks

pub returns-clause-one_run : goal.returns-clause-one_run
returns-clause-one_run c = c.design_with.ensures.one_run
