use Rattle.std.proofs.Common.{◌≡◌, ◌++◌, length, ap, ap₂, ◌∙◌, arith}
use Rattle.fabric_model.specs.Registers.{flips_among, pin_registers_of}
use Rattle.fabric.proofs.Composed.{flips-counted}
use Rattle.fabric.proofs.parts.registers.Goals as goal

pub returns : goal.returns
returns c =
    let counted : length c.in_ok-registers.registers.items ≡ flips_among c.args.lcs.now = ap length c.in_ok-registers.ensures ∙ flips-counted c.args.inputs c.args.lcs.now in
    let flips : c.len-flips.result ≡ flips_among c.args.lcs.now = omega (arith, counted) in
    let more : c.deref.result.now ≡ pin_registers_of (flips_among c.args.lcs.now) c.args.pins.now =
    c.deref.ensures.value ∙ (c.in_ok-pin_registers.ensures ∙ ap (λ count. pin_registers_of count c.args.pins.now) flips) in
    c.in_ok-extend_from_slice.ensures.items ∙ ap₂ (λ first second. first ++ second) c.in_ok-registers.ensures more
