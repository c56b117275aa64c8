use Rattle.std.proofs.Common.{[], ◌++◌, ◌∙◌, ap}
use Rattle.text_lines.specs.Written.{text_of}
use Rattle.asc_text.proofs.Pieces.{lines-joined}
use Rattle.image_stat.specs.Counts.{cell_lines, net_lines, stat_text}
use Rattle.image_stat.proofs.counts.text_of.Goals as goal

pub returns : goal.returns
unfolding stat_text
returns c =
    let cells = cell_lines c.args.counts.now in
    lines-joined [] _ _ cells (net_lines c.args.counts.now) (c.in_ok-append_cells.ensures ∙ ap (λ text. text ++ text_of cells) c.new-text.ensures.items) c.in_ok-append_nets.ensures
