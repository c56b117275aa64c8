use Rattle.std.proofs.Common.{List, ap, ◌∙◌}
use Rattle.std.specs.List.{list_any}
use Rattle.chipdb_reader.specs.Database.{Pll}
use Rattle.fabric_model.specs.Plls.{is_line_of}
use Rattle.fabric_plls.proofs.Kept.{any-named}
use Rattle.fabric_plls.proofs.unnamed.is_named.Goals as goal

pub returns : goal.returns
returns c =
    c.is_named_by.ensures ∙ any-named c.args.x c.args.y c.args.name.now c.plls.result.now
    ∙ ap (λ (plls : List Pll). list_any (λ pll. list_any (is_line_of c.args.x c.args.y c.args.name.now) pll.lines) plls) c.plls.ensures
