-- The entry of a lane after calls.
use Rattle.std.proofs.Common.{◌≡◌, ℕ, Bool, true, false, List, [], ◌∷◌, cond, fold, refl, ◌∙◌}
use Rattle.vlog_module.specs.Parts.{Parts}
use Rattle.vlog_semantics.specs.declared.event.Event.{Event}
use Rattle.vlog_semantics.specs.Entries.{Entry}
use Rattle.vlog_semantics.specs.Run.{followed}
use Rattle.vlog_semantics.specs.Values.{bit_of}
use Rattle.vlog_semantics.proofs.Runs.{last_entry}
use Rattle.vlog_lanes.specs.declared.call.Call.{Call}
use Rattle.vlog_lanes.specs.Lanes.{lane_event, lane_events}

-- the entry of a lane after a call
abbrev pub called : Parts → ℕ → Entry → Call → Entry
called m lane entry call = cond (bit_of call.active lane) (followed m entry (lane_event call.pin call.bits lane)) entry

first-event : (m : Parts) (entry : Entry) (event : Event) (events : List Event) (active : Bool)
    → last_entry m (cond active (followed m entry event) entry) events ≡ last_entry m entry (cond active (event ∷ events) events)
first-event m entry event events true = refl
first-event m entry event events false = refl

pub called-all : (m : Parts) (lane : ℕ) (entry : Entry) (calls : List Call) → fold (called m lane) entry calls ≡ last_entry m entry (lane_events calls lane)
called-all m lane entry [] = refl
called-all m lane entry (call ∷ calls) =
    called-all m lane (called m lane entry call) calls
    ∙ first-event m entry (lane_event call.pin call.bits lane) (lane_events calls lane) (bit_of call.active lane)
