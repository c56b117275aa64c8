use Rattle.std.proofs.Common.{◌<◌, sym, ap, ◌∙◌, subst}
use Rattle.fabric_model.specs.Clocks.{clock_class, register_class}
use Rattle.fabric_model.specs.Within.{IsNetIn}
use Rattle.fabric_wiring.specs.Ends.{end_in}
use Rattle.fabric_wiring.proofs.clocking.clock_class.Goals as goal

pub returns-in-None : goal.returns-in-None
unfolding clock_class
returns-in-None g c = ap (clock_class g.fabric) (sym c.in-None.is)

pub returns-in-Some : goal.returns-in-Some
unfolding clock_class
returns-in-Some g c =
    let net = c.in-Some.net in
    let less : net < g.fabric.nets = subst (IsNetIn g.fabric.nets) c.in-Some.is c.requires.1.1 in
    c.register_class.ensures
    ∙ ap register_class (c.end_at.ensures ∙ ap (end_in c.args.ends.now) (c.class_of.ensures ∙ c.requires.0.classes net) ∙ c.requires.1.0.each net less)
    ∙ ap (clock_class g.fabric) (sym c.in-Some.is)
