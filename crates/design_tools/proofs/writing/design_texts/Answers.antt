use Rattle.std.proofs.lemmas.Result.{IfOk-weaker}
use Rattle.design_tools.specs.Sources.{symbols_in}
use Rattle.design_tools.proofs.Written.{written_done}
use Rattle.design_tools.proofs.writing.design_texts.Goals as goal

pub returns : goal.returns
returns c =
    IfOk-weaker c.both_texts.result _ _
    (λ made shown db image is. written_done c.args.name.now (symbols_in c.args.symbols.now) db image c.args.design.now c.in_ok-module.module made.target.items made.beside.items is (c.in_ok-module.ensures.made db image is) (shown db image is))
    c.both_texts.ensures
