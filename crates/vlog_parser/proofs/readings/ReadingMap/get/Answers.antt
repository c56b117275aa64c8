use Rattle.std.proofs.Common.{◌∙◌, ap}
use Rattle.std.specs.Option.{option_map}
use Rattle.vlog_module.specs.Maps.{value_in}
use Rattle.vlog_parser.specs.Seen.{seen_reading}
use Rattle.vlog_parser.proofs.WireReadings.{value-seen}
use Rattle.vlog_parser.proofs.readings.ReadingMap.get.Goals as goal

pub returns : goal.returns
returns c =
    ap (option_map seen_reading) (c.copied.ensures ∙ c.get.ensures.value)
    ∙ value-seen (λ key. key.now) seen_reading c.args.name.now c.self.inside.readings.entries
    ∙ ap (λ read. value_in read c.args.name.now) c.self.view_is
