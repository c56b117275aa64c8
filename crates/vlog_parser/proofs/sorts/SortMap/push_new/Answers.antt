use Rattle.std.proofs.Common.{◌∙◌, ap, refl}
use Rattle.vlog_module.specs.WellFormed.{sort_in}
use Rattle.indexmap.proofs.CallerLemmas.{insert_entry-new}
use Rattle.vlog_parser.proofs.NameKeys.{value-keys, entries-push}
use Rattle.vlog_parser.proofs.sorts.SortMap.push_new.Goals as goal

pub returns : goal.returns
returns c =
    let absent = value-keys (λ key. key.now) c.args.name.now c.self.inside.sorts.entries ∙ ap (λ declared. sort_in declared c.args.name.now) c.self.view_is ∙ c.requires in
    entries-push (λ key. key.now) c.self.inside.sorts.entries c.insert.new.self.entries c.args.name c.args.sort c.args.self.now c.args.name.now
    (c.in_ok-insert.ensures.entries ∙ insert_entry-new _ c.self.inside.sorts c.args.name c.args.sort absent) c.self.view_is refl
