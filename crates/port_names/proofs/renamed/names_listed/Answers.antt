use Rattle.std.proofs.Common.{sym, arith, ◌∙◌}
use Rattle.std.proofs.lemmas.Map.Keys.{any_passes_from_place}
use Rattle.port_names.specs.Listed.{has_listed}
use Rattle.port_names.proofs.Given.{none-next}
use Rattle.port_names.proofs.renamed.names_listed.Goals as goal

pub returns-then-names_one : goal.returns-then-names_one
returns-then-names_one c =
    sym (any_passes_from_place (has_listed c.args.renaming.now) c.args.atoms.now c.loop-place.place c.get.result.now c.get.ensures (sym c.names_one.ensures ∙ c.if-names_one.true))

pub loop-place-preserved : goal.loop-place-preserved
loop-place-preserved c =
    none-next (has_listed c.args.renaming.now) c.args.atoms.now c.loop-place.place c.get.result.now (omega arith) c.get.ensures c.loop-place.invariant (sym c.names_one.ensures ∙ c.if-names_one.false)
