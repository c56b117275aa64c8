-- Bit-parallel lanes: a word has a bit for each lane; and the events that calls give to a lane.
use Rattle.std.specs.Prelude.{ℕ, Bool, List, [], ◌∷◌, if◌then◌else◌}
use Rattle.vlog_semantics.specs.declared.event.Event.{Event}
use Rattle.vlog_semantics.specs.Values.{bit_of}
use Rattle.vlog_engine.specs.Lanes.{lane_bits}
use Rattle.vlog_lanes.specs.declared.call.Call.{Call}

-- the bits that a lane has in words
abbrev pub lane_of : ℕ → List ℕ → List Bool
lane_of lane words = lane_bits bit_of lane words

-- the event of a lane: an input gets the lane's bit of a word
abbrev pub lane_event : ℕ → ℕ → ℕ → Event
lane_event pin word lane = record { pin = pin; bit = bit_of word lane }

-- the events of a lane: one for each call in which the lane is active
abbrev pub lane_events : List Call → ℕ → List Event
lane_events [] lane = []
lane_events (call ∷ calls) lane =
    if bit_of call.active lane then lane_event call.pin call.bits lane ∷ lane_events calls lane else lane_events calls lane
