use Rattle.std.proofs.Common.{◌∙◌, ap}
use Rattle.pin_file.specs.Faults.{ports_of}
use Rattle.pin_file.specs.Feeding.{kept_in}
use Rattle.design_tools.specs.Sources.{symbols_in}
use Rattle.design_tools.proofs.Written.{accepted_done, pins_stop}
use Rattle.design_tools.proofs.naming.texts_by_pins.Goals as goal

pub named_texts-requires-clause-accepted : goal.named_texts-requires-clause-accepted
named_texts-requires-clause-accepted c = record {
  chosen = kept_in c.args.pins.now;
  text = c.args.text.now;
  faultless = c.in-Ok.ensures.accepted;
  are = c.deref.ensures.value ∙ c.in-Ok.ensures.names ∙ ap (λ ports. ports_of (kept_in c.args.pins.now) ports c.args.text.now) c.requires.ports;
}

pub returns-in_ok-named_texts-in-Ok-clause-bytes : goal.returns-in_ok-named_texts-in-Ok-clause-bytes
returns-in_ok-named_texts-in-Ok-clause-bytes c = λ db image of.
    accepted_done c.args.name.now (symbols_in c.args.symbols.now) (kept_in c.args.pins.now) c.args.text.now db image c.args.design.now of c.deref.result.now c.in_ok-named_texts-in-Ok.field-0.target.items
    c.in_ok-named_texts-in-Ok.field-0.beside.items
    c.in-Ok.ensures.accepted
    (c.deref.ensures.value ∙ c.in-Ok.ensures.names ∙ ap (λ ports. ports_of (kept_in c.args.pins.now) ports c.args.text.now) c.requires.ports)
    (c.in_ok-named_texts-in-Ok.ensures db image of)

pub returns-in-Err-clause-stops : goal.returns-in-Err-clause-stops
returns-in-Err-clause-stops c = λ db image of.
    pins_stop c.args.name.now (symbols_in c.args.symbols.now) (kept_in c.args.pins.now) c.args.text.now db image c.args.design.now of c.in-Err.fault c.pin_stop.result
    c.in-Err.ensures.refused c.pin_stop.ensures
