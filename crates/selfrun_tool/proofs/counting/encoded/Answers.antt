use Rattle.std.proofs.lemmas.Result.{IfOk-weaker}
use Rattle.layout_file.specs.Layouts.{standard_layouts}
use Rattle.selfrun_tool.proofs.counting.encoded.Goals as goal

pub returns-clause-read : goal.returns-clause-read
returns-clause-read c = IfOk-weaker c.encode.result _ _ (λ bytes read. read standard_layouts c.requires) c.encode.ensures.read
