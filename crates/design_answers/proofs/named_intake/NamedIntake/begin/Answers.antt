use Rattle.std.proofs.Common.{get_or, [], refl}
use Rattle.tool_inputs.specs.DesignInput.{answer_to_both}
use Rattle.design_answers.proofs.named_intake.NamedIntake.begin.Goals as goal

pub returns-in-Ok-clause-taken : goal.returns-in-Ok-clause-taken
returns-in-Ok-clause-taken c = (refl, c.new.ensures, c.in-Ok.ensures.taken, c.reader_for.ensures)

pub returns-in-Err-clause-stops : goal.returns-in-Err-clause-stops
returns-in-Err-clause-stops c = λ texts answer. c.in-Err.ensures.stops (answer_to_both answer (get_or texts 0 []) (get_or texts 1 []))
