use Rattle.std.proofs.Common.{◌∙◌, Some, ap, map, refl}
use Rattle.std.specs.Prelude.{bytes_eq, if◌then◌else◌}
use Rattle.vlog_module.specs.Maps.{value_in}
use Rattle.vlog_parser.specs.Seen.{seen_reading}
use Rattle.vlog_parser.proofs.WireReadings.{seen_entry, value-put}
use Rattle.vlog_parser.proofs.readings.ReadingMap.put.Goals as goal

pub returns : goal.returns
returns c other =
    ap (λ entries. value_in (map (seen_entry (λ key. key.now) seen_reading) entries) other) c.in_ok-insert.ensures.entries
    ∙ value-put (λ key. key.now) seen_reading _ c.args.name c.args.reading other (λ one. refl) c.self.inside.readings.entries
    ∙ ap (λ read. if bytes_eq c.args.name.now other then Some (seen_reading c.args.reading) else value_in read other) c.self.view_is
