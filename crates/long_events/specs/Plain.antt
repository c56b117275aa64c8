-- Plain lists of events as lists of the long form.
use Rattle.std.specs.Prelude.{◌≡◌, ◌<◌, ℕ, ◌-◌, ◌^◌, List, None, codes, length}
use Rattle.vlog_module.specs.declared.modules.Port.{Port}
use Rattle.vlog_semantics.specs.Run.{pin_of}
use Rattle.vlog_run.specs.Events.{event_fault, events_of}
use Rattle.long_events.specs.Lists.{long_events, long_fault}

-- a plain list without a fault, in fewer than 2^64 - 1 bytes, for ports of which no input is named `repeat`
pub record IsPlain (ports : List Port) (bytes : List ℕ) : Type 0 where
  pub faultless : event_fault ports bytes ≡ None
  pub unnamed : pin_of ports (codes "repeat") ≡ None
  pub short : length bytes < 2 ^ 64 - 1

-- a list of the long form without a fault that stands for the events of the plain list
pub record StandsAlike (ports : List Port) (bytes : List ℕ) : Type 0 where
  pub accepted : long_fault ports bytes ≡ None
  pub same : long_events ports bytes ≡ events_of ports bytes

-- the long form extends the plain one
abbrev pub ExtendsPlain : List Port → List ℕ → Type 0
ExtendsPlain ports bytes = IsPlain ports bytes → StandsAlike ports bytes
