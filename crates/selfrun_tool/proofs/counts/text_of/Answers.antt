use Rattle.std.proofs.Common.{[], ◌++◌, ◌∙◌, ap}
use Rattle.text_lines.specs.Written.{text_of}
use Rattle.asc_text.proofs.Pieces.{lines-joined}
use Rattle.selfrun_tool.specs.Counted.{counts_text, design_lines, run_lines}
use Rattle.selfrun_tool.proofs.counts.text_of.Goals as goal

pub returns : goal.returns
unfolding counts_text
returns c =
    let design = design_lines c.args.device c.args.counts.now in
    lines-joined [] _ _ design (run_lines c.args.counts.now) (c.in_ok-append_design.ensures ∙ ap (λ text. text ++ text_of design) c.new-text.ensures.items) c.in_ok-append_run.ensures
