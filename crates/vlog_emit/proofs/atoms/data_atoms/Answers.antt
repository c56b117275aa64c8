use Rattle.std.proofs.Common.{[], ◌/◌, get_or, ap, ◌∙◌}
use Rattle.std.specs.Prelude.{None}
use Rattle.narrow_words.specs.Narrow.{share}
use Rattle.fabric_model.specs.Rams.{data_bit}
use Rattle.fabric_module.specs.Rights.{atom_or_0}
use Rattle.vlog_emit.proofs.Steps.{each-start, each-step}
use Rattle.vlog_emit.proofs.atoms.data_atoms.Goals as goal

pub loop-place-init : goal.loop-place-init
loop-place-init c fabric kept =
    c.new-atoms.ensures ∙ each-start (λ j. atom_or_0 fabric (get_or c.args.ports.now (data_bit c.args.mode (j / share c.args.mode)) None)) []

pub loop-place-preserved : goal.loop-place-preserved
loop-place-preserved c fabric kept =
    each-step (λ j. atom_or_0 fabric (get_or c.args.ports.now (data_bit c.args.mode (j / share c.args.mode)) None)) c.loop-place.place [] c.loop-place.atoms
    c.push.new.self c.in_ok-atom.atom (c.loop-place.invariant fabric kept) c.in_ok-push.ensures.pushed
    (c.in_ok-atom.ensures fabric kept ∙ ap (λ k. atom_or_0 fabric (get_or c.args.ports.now k None)) c.data_bit.ensures.is)
