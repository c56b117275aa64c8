use Rattle.std.proofs.Common.{◌++◌, ap, ◌∙◌}
use Rattle.std.specs.Prelude.{flat_map}
use Rattle.std.proofs.lemmas.List.Elements.{All-weaker}
use Rattle.fabric_model.specs.declared.register.Register.{Register}
use Rattle.fabric_model.specs.declared.ram.RamCell.{RamCell}
use Rattle.fabric_model.specs.Within.{IsNetIn, IsRegisterIn, IsRamIn}
use Rattle.fabric_wiring.specs.Ends.{end_in}
use Rattle.fabric_wiring.specs.Users.{fault_of}
use Rattle.fabric_wiring.specs.First.{register_inputs, ram_inputs, unclocked_in, first_on}
use Rattle.fabric_wiring.proofs.Clocked.{first-fault}
use Rattle.fabric_wiring.proofs.users.first_unclocked.Goals as goal

pub returns : goal.returns
returns g c =
    let links = c.args.parts.now.links in
    let ends = c.args.ends.now in
    let device = c.args.device in
    let of_parts = c.requires.0 in
    let nets = g.fabric.nets in
    let registers = unclocked_in links ends (flat_map register_inputs g.fabric.registers) in
    let first =
    c.first_register-register.ensures ∙ ap (λ l. first_on device (unclocked_in links ends (flat_map register_inputs l))) (c.deref.ensures.value ∙ of_parts.registers) in
    let all =
    c.or_first_port.ensures registers first ∙ ap (λ l. first_on device (registers ++ unclocked_in links ends (flat_map ram_inputs l))) (c.deref-2.ensures.value ∙ of_parts.rams) in
    ap fault_of all
    ∙ first-fault device g.fabric links ends
    (λ net less. ap (end_in ends) (of_parts.classes net) ∙ c.requires.1.each net less)
    (All-weaker (IsRegisterIn nets) (λ (register : Register). IsNetIn nets register.clk) (λ register in'. in'.clk) g.fabric.registers of_parts.within.registers)
    (All-weaker (IsRamIn nets) (λ (ram : RamCell). IsNetIn nets ram.rclk) (λ ram in'. in'.rclk) g.fabric.rams of_parts.within.rams)
    (All-weaker (IsRamIn nets) (λ (ram : RamCell). IsNetIn nets ram.wclk) (λ ram in'. in'.wclk) g.fabric.rams of_parts.within.rams)
