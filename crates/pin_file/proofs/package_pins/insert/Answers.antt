use Rattle.std.proofs.Common.{◌∙◌, ℕ, Vec, Global}
use Rattle.std.specs.Prelude.{bytes_eq}
use Rattle.indexmap.proofs.CallerLemmas.{insert_entry-new}
use Rattle.pin_file.proofs.package_pins.insert.Goals as goal

pub returns-in-Ok : goal.returns-in-Ok
returns-in-Ok c = c.in-Ok.ensures.entries ∙ insert_entry-new (λ (a b : Vec ℕ Global). bytes_eq a.items b.items) c.args.places.now c.args.pin c.args.place c.requires
