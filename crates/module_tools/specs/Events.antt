-- Lists of events, in the plain form and in the long one.
use Rattle.std.specs.Prelude.{ℕ, List, Option}
use Rattle.std.specs.Option.{option_map}
use Rattle.vlog_module.specs.declared.modules.Port.{Port}
use Rattle.vlog_semantics.specs.declared.event.Event.{Event}
use Rattle.vlog_run.specs.Events.{event_fault, events_of}
use Rattle.long_events.specs.declared.fault.LongFault.{LongFault}
use Rattle.long_events.specs.declared.fault.LongFault.TheVariants as fault
use Rattle.long_events.specs.Lists.{long_events, long_fault}
use Rattle.module_tools.specs.declared.told.EventsForm.{EventsForm}
use Rattle.module_tools.specs.declared.told.EventsForm.TheVariants.{Plain, Long}

-- the events that a text stands for that has no fault
abbrev pub events_in : EventsForm → List Port → List ℕ → List Event
events_in Plain ports bytes = events_of ports bytes
events_in Long ports bytes = long_events ports bytes

-- the fault of a text, if it has one
abbrev pub list_fault : EventsForm → List Port → List ℕ → Option LongFault
list_fault Plain ports bytes = option_map fault.Event (event_fault ports bytes)
list_fault Long ports bytes = long_fault ports bytes
