use Rattle.std.proofs.Common.{◌++◌, sym, ap, ◌∙◌}
use Rattle.std.specs.Prelude.{option_to_list}
use Rattle.fabric_wiring.proofs.ClockNets.{option-below, classes-option}
use Rattle.fabric_wiring.proofs.clocking.append_clock.Goals as goal

pub clock_class-requires : goal.clock_class-requires
clock_class-requires g c = (c.requires.0, (c.requires.1.0, option-below g.fabric c.args.net c.requires.1.1))

pub returns-in_ok-push-in-Some : goal.returns-in_ok-push-in-Some
returns-in_ok-push-in-Some g c =
    c.in_ok-push-in-Some.ensures.items
    ∙ ap (λ more. c.args.row.now.items ++ more) (ap option_to_list c.in-Some.ensures ∙ sym (classes-option g.fabric c.args.net))
