use Rattle.std.proofs.Common.{◌∙◌, sym}
use Rattle.image_explain.proofs.names.name_at.Goals as goal

pub returns-in-Some : goal.returns-in-Some
returns-in-Some c =
    c.indexed_name.ensures ∙ c.requires c.args.net c.in-Some.firsts.now (sym c.in-Some.ensures.value) c.args.at.x c.args.at.y
