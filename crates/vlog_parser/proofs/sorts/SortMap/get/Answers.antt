use Rattle.std.proofs.Common.{◌∙◌, ap}
use Rattle.vlog_module.specs.WellFormed.{sort_in}
use Rattle.vlog_parser.proofs.NameKeys.{value-keys}
use Rattle.vlog_parser.proofs.sorts.SortMap.get.Goals as goal

pub returns : goal.returns
returns c =
    c.copied.ensures ∙ c.get.ensures.value ∙ value-keys (λ key. key.now) c.args.name.now c.self.inside.sorts.entries
    ∙ ap (λ declared. sort_in declared c.args.name.now) c.self.view_is
