use Rattle.std.proofs.Common.{◌≡◌, ◌∙◌, arith}
use Rattle.fabric_model.specs.Wiring.{wiring_of}
use Rattle.fabric_model.proofs.Within.{within-parts}
use Rattle.fabric_wiring.specs.DriverLists.{driver_in}
use Rattle.fabric_wiring.proofs.ReadRows.{reads-links, logic-classes, logic-row, wires-kept}
use Rattle.fabric_wiring.proofs.reading.wires.Goals as goal

pub rows_of-requires-clause-nets : goal.rows_of-requires-clause-nets
rows_of-requires-clause-nets g c = λ class less.
    reads-links g.fabric (within-parts g.fabric c.requires.0.within) c.args.parts.now c.requires.0 c.args.drivers.now c.requires.1 class
    (omega (arith, less, c.in_ok-count.ensures))

pub returns-clause-wires : goal.returns-clause-wires
returns-clause-wires g c =
    let drivers = c.args.drivers.now in
    let within = within-parts g.fabric c.requires.0.within in
    let all : c.in_ok-count.count ≡ g.fabric.nets = c.in_ok-count.ensures ∙ c.requires.1.classes in
    wires-kept g.fabric within (wiring_of g.fabric) (logic-classes g.fabric within) drivers c.requires.1
    (record { driven = c.in_ok-driven.driven; reads = c.in_ok-reads.reads })
    (c.in_ok-driven.ensures.length ∙ all) (c.in_ok-reads.ensures.length ∙ all)
    (λ class less. c.in_ok-driven.ensures.marks class (omega (arith, less, all)))
    (λ class less.
    c.in_ok-reads.ensures.rows class (omega (arith, less, all))
    ∙ logic-row g.fabric c.args.parts.now.links c.requires.0.classes class (driver_in drivers class) (c.requires.1.each class less))
