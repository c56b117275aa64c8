use Rattle.std.proofs.Common.{◌&&◌, ap, sym, ◌∙◌}
use Rattle.std.proofs.lemmas.Result.{on_ok_weaker}
use Rattle.std.specs.Option.{option_map}
use Rattle.vlog_module.specs.WellFormed.{is_unless}
use Rattle.vlog_parser.specs.Kept.{is_only_unless}
use Rattle.vlog_parser.specs.Seen.{seen_reading}
use Rattle.vlog_parser.proofs.WireReadings.{joined}
use Rattle.vlog_parser.proofs.readings.ReadingMap.push.Goals as goal

pub returns-in-Some : goal.returns-in-Some
returns-in-Some c =
    let kept = sym c.get.ensures ∙ ap (option_map seen_reading) c.in-Some.is in
    on_ok_weaker c.put.result (λ put. joined c.args.self.now c.put.new.self c.args.name.now (seen_reading c.both.result) (seen_reading c.args.reading) put
    (λ reset set. c.both.ensures reset set ∙ ap (λ one. is_only_unless one reset set && is_unless reset set (seen_reading c.args.reading)) (sym kept))) c.put.ensures

pub returns-in-None : goal.returns-in-None
returns-in-None c =
    let none = sym c.get.ensures ∙ ap (option_map seen_reading) c.in-None.is in
    on_ok_weaker c.put-in-None.result (λ put. joined c.args.self.now c.put-in-None.new.self c.args.name.now (seen_reading c.args.reading) (seen_reading c.args.reading) put
    (λ reset set. ap (λ one. is_only_unless one reset set && is_unless reset set (seen_reading c.args.reading)) (sym none))) c.put-in-None.ensures
