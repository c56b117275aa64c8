-- Events by their pins.
use Rattle.std.proofs.Common.{◌≡◌, ℕ, ◌+◌, ◌<◌, List, [], ◌∷◌, ◌++◌, ap, append-nil, get_or, length, refl, take, ◌∙◌, map, rules}
use Rattle.std.specs.Prelude.{All, position, Option, Some, None}
use Rattle.std.proofs.lemmas.List.{take_more, map-append}
use Rattle.std.proofs.lemmas.List.Concat.{flat_map-append}
use Rattle.std.proofs.lemmas.List.Elements.{All-append}
use Rattle.std.proofs.lemmas.List.Quantifiers.{position-Some}
use Rattle.ice_gen.specs.declared.event.PinEvent.{PinEvent}
use Rattle.fabric_model.specs.declared.input_port.InputPort.{InputPort}
use Rattle.fabric_model.specs.Steps.{Event}
use Rattle.fabric_module.specs.Matching.{module_event}
use Rattle.selfrun_tool.specs.Counted.{event_at, event_for, events_for, is_port_of}

-- one more event
pub events-more : (inputs : List InputPort) (made : List PinEvent) (i : ℕ) (d : PinEvent) → i < length made
    → map module_event (events_for inputs (take (i + 1) made)) ≡ map module_event (events_for inputs (take i made)) ++ map module_event (event_for inputs (get_or made i d))
unfolding events_for
events-more inputs made i d within =
    ap (λ part. map module_event (events_for inputs part)) (take_more made i d within)
    ∙ ap (map module_event) (flat_map-append (event_for inputs) (take i made) (get_or made i d ∷ []) ∙ ap (λ (more : List Event). events_for inputs (take i made) ++ more) (append-nil (event_for inputs (get_or made i d))))
    ∙ map-append module_event (events_for inputs (take i made)) (event_for inputs (get_or made i d))

-- ---- pins are inputs

abbrev IsAmong : ℕ → Event → Type 0
IsAmong count event = event.pin < count

event-among : (inputs : List InputPort) (event : PinEvent) (place : Option ℕ) → position (is_port_of event) inputs ≡ place → All (IsAmong (length inputs)) (event_at event.bit place)
event-among inputs event None is = search rules
event-among inputs event (Some place) is = search (rules, position-Some)

pub events-among : (inputs : List InputPort) (made : List PinEvent) → All (IsAmong (length inputs)) (events_for inputs made)
unfolding events_for
events-among inputs [] = search rules
events-among inputs (event ∷ made) =
    All-append (IsAmong (length inputs)) (event_for inputs event) (events_for inputs made) (event-among inputs event (position (is_port_of event) inputs) refl) (events-among inputs made)
