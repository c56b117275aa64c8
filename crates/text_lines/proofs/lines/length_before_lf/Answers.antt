use Rattle.std.proofs.Common.{◌∙◌, sym}
use Rattle.text_lines.proofs.Cuts.{position_or_len-none, position_or_len-here}
use Rattle.text_lines.proofs.lines.length_before_lf.Goals as goal

pub returns-then-is_first_lf : goal.returns-then-is_first_lf
returns-then-is_first_lf c = sym (position_or_len-here _ c.args.text.now c.args.guess (sym c.is_first_lf.ensures ∙ c.if-is_first_lf.true))

pub returns-in-None : goal.returns-in-None
returns-in-None c = sym (position_or_len-none _ c.args.text.now (sym c.in-None.ensures))
