use Rattle.std.proofs.Common.{ap, ◌∙◌}
use Rattle.std.specs.Ordering.{nat_cmp}
use Rattle.std.specs.Cmp.Lexicographic.{slice_cmp}
use Rattle.std.specs.BTreeMap.{get}
use Rattle.bram_replace.proofs.Repeats.{Finds-all}
use Rattle.bram_replace.proofs.columns.Columns.place.Goals as goal

pub returns-in-Some : goal.returns-in-Some
returns-in-Some c =
    let found = get (slice_cmp nat_cmp) c.args.self.now.places in
    record { found = λ bit is. c.in-Some.ensures.value ∙ ap found is ∙ Finds-all c.args.self.now.file.now found bit c.args.self.now.indexed }

pub returns-in-None : goal.returns-in-None
returns-in-None c =
    let found = get (slice_cmp nat_cmp) c.args.self.now.places in
    record { found = λ bit is. c.in-None.ensures.value ∙ ap found is ∙ Finds-all c.args.self.now.file.now found bit c.args.self.now.indexed }
