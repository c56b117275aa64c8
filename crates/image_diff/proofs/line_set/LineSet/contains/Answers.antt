use Rattle.std.proofs.Common.{◌∙◌, ap}
use Rattle.image_diff.specs.Differences.{is_among}
use Rattle.image_diff.proofs.LineSets.{among-keys}
use Rattle.image_diff.proofs.line_set.LineSet.contains.Goals as goal

pub returns : goal.returns
returns c =
    c.contains.ensures ∙ among-keys (λ key. key.now) c.args.line.now c.self.inside.lines.keys
    ∙ ap (λ lines. is_among lines c.args.line.now) c.self.view_is
