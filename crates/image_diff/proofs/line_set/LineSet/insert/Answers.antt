use Rattle.image_diff.proofs.LineSets.{keys-more}
use Rattle.image_diff.proofs.line_set.LineSet.insert.Goals as goal

pub returns : goal.returns
returns c =
    keys-more (λ key. key.now) c.self.inside.lines.keys c.insert.new.self.keys c.args.line c.args.self.now
    c.in_ok-insert.ensures.keys c.self.view_is
