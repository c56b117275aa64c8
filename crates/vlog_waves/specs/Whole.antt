-- The bytes of a VCD that is made while it is written.
use Rattle.std.specs.Prelude.{ℕ, List}
use Rattle.long_events.specs.Streams.{events_left}
use Rattle.vlog_waves.specs.declared.waves.Waves.{Waves}
use Rattle.vlog_waves.specs.Waves.{waves_text}

abbrev pub waves_in : Waves → List ℕ
waves_in waves = waves_text waves.names waves.«module» (events_left waves.events)
