use Rattle.std.proofs.Common.{◌≡◌, ◌∙◌, arith}
use Rattle.fabric_model.specs.Wiring.{clocked_wiring}
use Rattle.fabric_model.proofs.Within.{within-parts}
use Rattle.fabric_wiring.proofs.ReadRows.{clocked-classes, wires-kept}
use Rattle.fabric_wiring.proofs.clocking.clocked_wires.Goals as goal

pub returns-clause-wires : goal.returns-clause-wires
returns-clause-wires g c =
    let within = within-parts g.fabric c.requires.0.within in
    let all : c.in_ok-count.count ≡ g.fabric.nets = c.in_ok-count.ensures ∙ c.requires.1.0.classes in
    wires-kept g.fabric within (clocked_wiring g.fabric) (clocked-classes g.fabric within) c.args.drivers.now c.requires.1.0
    (record { driven = c.in_ok-driven.driven; reads = c.in_ok-reads.reads })
    (c.in_ok-driven.ensures.length ∙ all) (c.in_ok-reads.ensures.length ∙ all)
    (λ class less. c.in_ok-driven.ensures.marks class (omega (arith, less, all)))
    (λ class less. c.in_ok-reads.ensures.rows class (omega (arith, less, all)))
