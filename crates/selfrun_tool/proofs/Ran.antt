-- The run of a design's module is the run of its fabric.
use Rattle.std.proofs.Common.{◌≡◌, ℕ, ◌<◌, Bool, false, List, length, map, sym, ap, ◌∙◌, subst}
use Rattle.std.specs.Prelude.{All}
use Rattle.std.proofs.lemmas.List.{length-map}
use Rattle.std.proofs.lemmas.List.Elements.{All-map}
use Rattle.ice_image.specs.Configuration.{Configuration}
use Rattle.chipdb_reader.specs.Database.{Database}
use Rattle.ice_gen.specs.declared.event.PinEvent.{PinEvent}
use Rattle.vlog_module.specs.Parts.{Parts}
use Rattle.vlog_module.specs.declared.modules.Port.{Port}
use Rattle.vlog_semantics.specs.declared.event.Event.{Event as ModuleEvent}
use Rattle.vlog_semantics.specs.Named.{names_of}
use Rattle.vlog_semantics.specs.Run.{input_names, module_run}
use Rattle.fabric_model.specs.declared.input_port.InputPort.{InputPort}
use Rattle.fabric_model.specs.Fabric.{Fabric, fabric_with, inputs_of, reading_all}
use Rattle.fabric_model.proofs.Alike.{inputs-with}
use Rattle.fabric.specs.Kept.{Kept}
use Rattle.fabric.specs.Design.{IsDesignOf, IsDesign}
use Rattle.fabric_module.specs.Matching.{module_event}
use Rattle.fabric_module.specs.Names.{input_port_name}
use Rattle.fabric_module.specs.Written.{ports_of, module_of}
use Rattle.fabric_module.proofs.Ports.{inputs-start}
use Rattle.vlog_emit.specs.Runs.{RunsAs}
use Rattle.selfrun_tool.specs.declared.counting.Ran.{Ran}
use Rattle.selfrun_tool.specs.Counted.{events_for, ones_in}
use Rattle.selfrun_tool.specs.Inside.{IsRunOf, fabric_events, module_bits}
use Rattle.selfrun_tool.proofs.PinEvents.{events-among}
use Rattle.selfrun_tool.proofs.Runs.{bits-alike}

-- ---- pins

-- the module has an input for each input port
inputs-count : (fabric : Fabric) → length (input_names (ports_of fabric)) ≡ length (inputs_of fabric)
inputs-count fabric =
    let inputs = inputs_of fabric in
    ap (λ (names : List (List ℕ × Bool)). length (names_of names)) (inputs-start fabric)
    ∙ length-map (map (λ (port : InputPort). (input_port_name port, false)) inputs) (λ (entry : List ℕ × Bool). entry.0)
    ∙ length-map inputs (λ (port : InputPort). (input_port_name port, false))

-- the events that are run name inputs of the module
pub inputs-named : (design : Kept) (name : List ℕ) (made : List PinEvent) (m : Parts) (events : List ModuleEvent) → IsDesign design
    → ((db : Database) (image : Configuration) → IsDesignOf db image design → m ≡ module_of (fabric_with design.parts.options db image) design.order name)
    → events ≡ map module_event (events_for design.inputs made) → All (λ event. event.pin < length (input_names m.ports)) events
unfolding module_of
inputs-named design name made m events is module_is events_are =
    let db = is.0 in
    let image = is.1 in
    let kept = is.2.kept in
    let fabric = fabric_with design.parts.options db image in
    let ports : m.ports ≡ ports_of fabric = ap (λ (one : Parts). one.ports) (module_is db image is.2) in
    let count : length design.inputs ≡ length (input_names m.ports) =
    ap (λ (list : List InputPort). length list) kept.inputs ∙ sym (ap (λ (list : List Port). length (input_names list)) ports ∙ inputs-count fabric) in
    let among : All (λ (event : ModuleEvent). event.pin < length design.inputs) (map module_event (events_for design.inputs made)) =
    All-map (λ (event : ModuleEvent). event.pin < length design.inputs) module_event (events_for design.inputs made) (events-among design.inputs made) in
    subst (λ (n : ℕ). All (λ (event : ModuleEvent). event.pin < n) events) count
    (subst (All (λ (event : ModuleEvent). event.pin < length design.inputs)) (sym events_are) among)

-- ---- the run

pub ran-is : (design : Kept) (made : List PinEvent) (m : Parts) (events : List ModuleEvent) (ran : Ran)
    → ((db : Database) (image : Configuration) → IsDesignOf db image design → RunsAs design.parts.options db image m)
    → events ≡ map module_event (events_for design.inputs made) → ran.events ≡ length events → ran.ones ≡ ones_in (module_bits (module_run m events)) → IsRunOf design made ran
ran-is design made m events ran runs events_are count ones db image is =
    let given = fabric_events design.parts.options db image made in
    let inputs : design.inputs ≡ inputs_of (fabric_with (reading_all design.parts.options) db image) = is.kept.inputs ∙ inputs-with design.parts.options db image in
    let same : events ≡ map module_event given = events_are ∙ ap (λ pins. map module_event (events_for pins made)) inputs in
    record {
      events = count ∙ ap (λ (list : List ModuleEvent). length list) same ∙ length-map given module_event;
      ones = λ entries run. ones ∙ ap (λ list. ones_in (module_bits (module_run m list))) same
          ∙ ap ones_in (bits-alike (fabric_with (reading_all design.parts.options) db image) entries (module_run m (map module_event given)) ((runs db image is).alike given entries run));
    }
