use Rattle.std.proofs.Common.{◌∙◌, Bool, Some, [], ap, get_or, sym}
use Rattle.design_tools.specs.Vlog.{listed}
use Rattle.design_tools.proofs.source.read_source.Goals as goal

pub returns-in-Ok-clause-symbols : goal.returns-in-Ok-clause-symbols
returns-in-Ok-clause-symbols c = λ layout texts takes.
    ap Some (c.in-Ok.ensures.symbols layout texts takes) ∙ ap (λ (has : Bool). listed has (get_or texts 1 [])) (sym c.if-has_list.true)
