use Rattle.std.proofs.Common.{◌∙◌, sym}
use Rattle.std.proofs.lemmas.Option.{slice_get-get_or}
use Rattle.fabric_wiring.proofs.Passed.{entered}
use Rattle.fabric_wiring.proofs.places.enter.Goals as goal

pub returns-in-Some : goal.returns-in-Some
returns-in-Some c = λ given passed.
    entered c.args.drives.now c.args.i c.args.class _ c.in-Some.first c.args.places.now c.args.twice c.lesser.result given
    (slice_get-get_or c.args.drives.now c.args.i _ c.requires.place) c.requires.class (sym c.driver_at.ensures ∙ c.in-Some.is) c.lesser.ensures passed
