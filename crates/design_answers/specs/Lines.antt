-- The run of a fabric as lines, in the form in which `vlogrun` writes the run of a module.
use Rattle.std.specs.Prelude.{ℕ, Bool, List, [], ◌∷◌, ◌++◌, map, flat_map, if◌then◌else◌}
use Rattle.bit_plane.specs.BitList.{word_of}
use Rattle.vlog_module.specs.declared.modules.Port.{Port}
use Rattle.vlog_semantics.specs.declared.event.Event.{Event as ModuleEvent}
use Rattle.vlog_run.specs.Events.{events_of}
use Rattle.vlog_run.specs.Text.{bit_digit, word_text}
use Rattle.fabric_model.specs.Values.{State}
use Rattle.fabric_model.specs.Steps.{Event, Entry}

-- a space, the registers of one bit, and the read register of each RAM
abbrev pub state_text : State → List ℕ
state_text state = 32 ∷ map bit_digit state.bits ++ flat_map word_text (map word_of state.reads)

-- the outputs in the order of the ports, then the registers if they are asked for
unfoldable pub fabric_line : Bool → Entry → List ℕ
fabric_line registers entry = map bit_digit entry.outputs ++ (if registers then state_text entry.state else []) ++ 10 ∷ []

-- a line at the start and one after each event
abbrev pub fabric_text : Bool → List Entry → List ℕ
fabric_text registers entries = flat_map (fabric_line registers) entries

-- an event of a module as an event of a fabric
abbrev pub fabric_event : ModuleEvent → Event
fabric_event event = record { pin = event.pin; bit = event.bit }

-- the events of a text as events of a fabric, given the ports of the module that is written for the fabric
abbrev pub fabric_events : List Port → List ℕ → List Event
fabric_events ports events = map fabric_event (events_of ports events)
