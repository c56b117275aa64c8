use Rattle.std.proofs.Common.{◌∙◌, ap₂, List, map, sym}
use Rattle.std.specs.Prelude.{codes}
use Rattle.ice_gen.specs.Events.{generated_events}
use Rattle.ice_gen.specs.declared.event.PinEvent.{PinEvent}
use Rattle.fabric_model.specs.declared.input_port.InputPort.{InputPort}
use Rattle.fabric_module.specs.Matching.{module_event}
use Rattle.selfrun_tool.specs.Counted.{events_for}
use Rattle.selfrun_tool.proofs.Ran.{inputs-named, ran-is}
use Rattle.selfrun_tool.proofs.counting.run.Goals as goal

pub ones_of-requires : goal.ones_of-requires
ones_of-requires c =
    let made = generated_events c.args.request.seed c.args.request.events in
    let same = c.deref-2.ensures.value ∙ c.in_ok-events.ensures
    ∙ ap₂ (λ (inputs : List InputPort) (given : List PinEvent). map module_event (events_for inputs given)) c.inputs.ensures.inputs (c.deref.ensures.value ∙ c.in_ok-made.ensures) in
    inputs-named c.args.design.now (codes "selfrun") made c.in_ok-module.«module» c.deref-2.result.now c.inputs.ensures.design c.in_ok-module.ensures.made same

pub returns : goal.returns
returns c =
    let made = generated_events c.args.request.seed c.args.request.events in
    let same = c.deref-2.ensures.value ∙ c.in_ok-events.ensures
    ∙ ap₂ (λ (inputs : List InputPort) (given : List PinEvent). map module_event (events_for inputs given)) c.inputs.ensures.inputs (c.deref.ensures.value ∙ c.in_ok-made.ensures) in
    ran-is c.args.design.now made c.in_ok-module.«module» c.deref-2.result.now (record { events = c.len.result; ones = c.in_ok-ones.ones })
    c.in_ok-module.ensures.runs same (c.len.ensures ∙ sym c.deref-2.ensures.len) c.in_ok-ones.ensures
