use Rattle.std.proofs.Common.{◌++◌, take, ap, ◌∙◌, append_assoc}
use Rattle.std.specs.Prelude.{flat_map}
use Rattle.fabric_wiring.specs.First.{ram_inputs, unclocked_in, first_on}
use Rattle.fabric_wiring.proofs.Clocked.{unclocked-more}
use Rattle.fabric_wiring.proofs.users.or_first_port.Goals as goal

pub loop-ram-preserved : goal.loop-ram-preserved
loop-ram-preserved c = λ before is.
    let rams = c.args.rams.now in
    let so_far = unclocked_in c.args.links.now c.args.ends.now (flat_map ram_inputs (take c.loop-ram.ram-index rams)) in
    let after = c.or_ports-found.ensures (before ++ so_far) (c.loop-ram.invariant before is) in
    after
    ∙ (ap (first_on c.args.device) (append_assoc before so_far _)
    ∙ ap (λ l. first_on c.args.device (before ++ l)) (unclocked-more c.args.links.now c.args.ends.now ram_inputs rams c.loop-ram.ram-index _ c.loop-ram-test.true))
