use Rattle.std.proofs.lemmas.Result.{err_from_is_err_and}
use Rattle.ice_image.specs.Either.{configuration_of}
use Rattle.chipdb_reader.specs.Kept.{database_in}
use Rattle.fabric_model.proofs.PinsFault.{pins-taken}
use Rattle.image_stat.proofs.Refused.{all-taken, links-cause, plls-cause, pins-cause, rams-cause}
use Rattle.image_stat.proofs.parts.used_parts.Goals as goal

pub returns-in_err-links-clause-refused : goal.returns-in_err-links-clause-refused
returns-in_err-links-clause-refused c =
    let cause = links-cause c.args.all_pins (database_in c.args.db.now) (configuration_of c.args.image.now) c.in_err-links.field-0.0 c.in_err-links.ensures.refused in
    let told = err_from_is_err_and c.from_residual.result c.from_residual.ensures.1 in
    rw (told.1, told.2) cause

pub returns-in_err-sources-clause-refused : goal.returns-in_err-sources-clause-refused
returns-in_err-sources-clause-refused c =
    let cause = plls-cause c.args.all_pins (database_in c.args.db.now) (configuration_of c.args.image.now) c.in_ok-links.ensures.taken c.in_err-sources.field-0.0 c.in_err-sources.ensures.refused in
    let told = err_from_is_err_and c.from_residual-in_err-sources.result c.from_residual-in_err-sources.ensures.1 in
    rw (told.1, told.2) cause

pub returns-in_err-pins-clause-refused : goal.returns-in_err-pins-clause-refused
returns-in_err-pins-clause-refused c =
    let cause = pins-cause c.args.all_pins (database_in c.args.db.now) (configuration_of c.args.image.now) c.in_ok-links.ensures.taken c.in_ok-sources.ensures.taken c.in_err-pins.field-0.0 c.in_err-pins.ensures.refused in
    let told = err_from_is_err_and c.from_residual-in_err-pins.result c.from_residual-in_err-pins.ensures.1 in
    rw (told.1, told.2) cause

pub returns-in_err-rams-clause-refused : goal.returns-in_err-rams-clause-refused
returns-in_err-rams-clause-refused c =
    let cause = rams-cause c.args.all_pins (database_in c.args.db.now) (configuration_of c.args.image.now) c.in_ok-links.ensures.taken
    (pins-taken c.args.all_pins (database_in c.args.db.now) (configuration_of c.args.image.now) c.in_ok-sources.ensures.taken c.in_ok-pins.ensures.taken)
    c.in_err-rams.field-0.0 c.in_err-rams.ensures.refused in
    let told = err_from_is_err_and c.from_residual-in_err-rams.result c.from_residual-in_err-rams.ensures.1 in
    rw (told.1, told.2) cause

pub returns-clause-taken : goal.returns-clause-taken
returns-clause-taken c =
    all-taken c.args.all_pins (database_in c.args.db.now) (configuration_of c.args.image.now) c.in_ok-links.ensures.taken
    (pins-taken c.args.all_pins (database_in c.args.db.now) (configuration_of c.args.image.now) c.in_ok-sources.ensures.taken c.in_ok-pins.ensures.taken) c.in_ok-rams.ensures.taken
