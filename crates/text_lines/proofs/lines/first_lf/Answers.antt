use Rattle.std.proofs.Common.{◌==◌}
use Rattle.text_lines.proofs.Cuts.{position_of_first}
use Rattle.text_lines.proofs.lines.first_lf.Goals as goal

pub returns : goal.returns
returns c = position_of_first (λ byte. byte == 10) c.args.text.now c.memchr.result c.memchr.ensures
