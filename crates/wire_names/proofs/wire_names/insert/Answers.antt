use Rattle.std.proofs.Common.{◌∙◌, ℕ, Vec, Global}
use Rattle.std.specs.Prelude.{bytes_eq}
use Rattle.indexmap.proofs.CallerLemmas.{insert_entry-new}
use Rattle.wire_names.proofs.wire_names.insert.Goals as goal

pub returns-in-Ok : goal.returns-in-Ok
returns-in-Ok c = c.in-Ok.ensures.entries ∙ insert_entry-new (λ (a b : Vec ℕ Global). bytes_eq a.items b.items) c.args.by_wire.now c.args.wire c.args.name c.requires
