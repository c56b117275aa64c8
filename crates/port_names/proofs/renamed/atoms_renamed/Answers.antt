use Rattle.std.proofs.Common.{arith, ◌∙◌}
use Rattle.port_names.specs.Listed.{given_by}
use Rattle.port_names.specs.Renamed.{renamed_atom}
use Rattle.port_names.proofs.Given.{made-next}
use Rattle.port_names.proofs.renamed.atoms_renamed.Goals as goal

pub loop-place-preserved : goal.loop-place-preserved
loop-place-preserved c =
    c.in_ok-push.ensures.pushed
    ∙ made-next (renamed_atom (given_by c.args.renaming.now)) c.args.atoms.now c.loop-place.renamed c.loop-place.place c.get.result.now c.in_ok-atom_renamed.field-0 (omega arith) c.get.ensures
    c.loop-place.invariant c.in_ok-atom_renamed.ensures
