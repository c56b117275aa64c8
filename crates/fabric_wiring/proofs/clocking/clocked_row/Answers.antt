use Rattle.std.proofs.Common.{◌≡◌, ℕ, ◌<◌, ◌++◌, true, length, map, sym, ap, ◌∙◌, subst, arith}
use Rattle.std.specs.Prelude.{option_to_list, IfSome}
use Rattle.graph_order.specs.Wiring.{has}
use Rattle.fabric_model.specs.Drivers.{drivers_of, nets_read}
use Rattle.fabric_model.specs.Wiring.{clocks_of_value}
use Rattle.fabric_model.proofs.Within.{within-parts}
use Rattle.fabric_wiring.specs.Drives.{rule_of, drive_of}
use Rattle.fabric_wiring.specs.Clocking.{clocking_row}
use Rattle.fabric_wiring.proofs.ClockNets.{clocks-within}
use Rattle.fabric_wiring.proofs.ReadRows.{reads-links, clocked-row}
use Rattle.fabric_wiring.proofs.clocking.clocked_row.Goals as goal

pub row_of-requires : goal.row_of-requires
row_of-requires g c =
    subst (λ drive. IfSome drive (λ d. (net : ℕ) → has (nets_read (rule_of d.rule)) net ≡ true → net < length c.args.parts.now.links.classes)) (sym c.of_class-drive.ensures)
    (reads-links g.fabric (within-parts g.fabric c.requires.0.within) c.args.parts.now c.requires.0 c.args.drivers.now c.requires.1.0 c.args.class c.requires.1.1.1)

pub append_clocks-requires : goal.append_clocks-requires
append_clocks-requires g c =
    let less : c.args.class < g.fabric.nets = omega (arith, c.requires.1.0.classes, c.requires.1.1.1) in
    let within = clocks-within g.fabric c.requires.0.within c.args.class _ (c.requires.1.0.each c.args.class less) in (
      c.requires.0,
      (
        c.requires.1.1.0,
        subst (λ drive. IfSome drive (λ d. (net : ℕ) → has (clocks_of_value g.fabric (rule_of d.rule)) net ≡ true → net < g.fabric.nets)) (sym c.of_class-drive.ensures)
            within,
      ),
    )

pub returns : goal.returns
returns g c =
    let drive = c.of_class-drive.result in
    let less : c.args.class < g.fabric.nets = omega (arith, c.requires.1.0.classes, c.requires.1.1.1) in
    let kept : drivers_of g.fabric c.args.class ≡ map drive_of (option_to_list drive) =
    c.requires.1.0.each c.args.class less ∙ ap (λ d. map drive_of (option_to_list d)) (sym c.of_class-drive.ensures) in
    c.in_ok-append_clocks.ensures ∙ ap (λ row. row ++ clocking_row g.fabric drive) c.in_ok-row.ensures
    ∙ clocked-row g.fabric c.args.parts.now.links c.requires.0.classes c.args.class drive kept
