use Rattle.std.proofs.Common.{◌+◌, ◌-◌, Bool, List, [], ◌∷◌, arith, drop, get_or, set, take}
use Rattle.std.proofs.lemmas.List.{take_more_set}
use Rattle.vlog_module.specs.declared.modules.Port.{Port}
use Rattle.vlog_waves.specs.Variables.{port_bits}
use Rattle.vlog_waves.proofs.Texts.{part-made}
use Rattle.vlog_waves.proofs.Alike.{bits-next, next-within}
use Rattle.vlog_waves.proofs.values.copy_ports.Goals as goal

pub loop-place-preserved : goal.loop-place-preserved
loop-place-preserved c =
    let ports : List Port = c.args.ports.now in
    let inputs : List Bool = c.args.inputs.now in
    let outputs : List Bool = c.args.outputs.now in
    let bits : List Bool = c.loop-place.bits in
    let place = c.loop-place.place in
    let input = c.loop-place.input in
    let next = c.next_input-input.result in
    let port : Port = c.index-ports-place.result in
    let bit : Bool = c.port_bit.result in
    let inv = c.loop-place.invariant in
    record {
      made = part-made (port_bits ports inputs outputs) (take place bits) (port_bits (drop place ports) (drop input inputs) (drop (place - input) outputs)) (bit ∷ [])
          (port_bits (drop (place + 1) ports) (drop next inputs) (drop (place + 1 - next) outputs)) (take (place + 1) (set bits place bit)) inv.made
          (bits-next ports inputs outputs place input next port bit (omega arith) inv.few c.port_bit.ensures c.next_input-input.ensures) (take_more_set bits place bit (omega arith));
      few = next-within (get_or ports place port).output place input next c.next_input-input.ensures inv.few;
    }
