-- Worked values of the definitions.
use Rattle.std.proofs.Common.{◌≡◌, ℕ, Bool, true, false, List, [], ◌∷◌, None, Some, refl}
use Rattle.std.specs.Prelude.{codes}
use Rattle.index_search.specs.Places.{first_below, last_below}
use Rattle.seeds.specs.Seeds.{seed_of}
use Rattle.text_lines.specs.Lines.{lines_of, trimmed}
use Rattle.vlog_module.specs.declared.modules.Port.{Port}
use Rattle.vlog_semantics.specs.declared.event.Event.{Event}
use Rattle.vlog_run.specs.declared.event.EventFault.TheVariants.{Form, Pin}
use Rattle.vlog_run.specs.Events.{event_of}
use Rattle.long_events.specs.declared.fault.LongFault.TheVariants as fault
use Rattle.long_events.specs.Lists.{count_fault, lines_fault, long_events, long_fault}
use Rattle.long_events.specs.Moves.{events_from, parts_of, times}
use Rattle.long_events.specs.Steps.{step_of}

input : List ℕ → Port
input name = record { name = name; output = false }

output : List ℕ → Port
output name = record { name = name; output = true }

event : ℕ → Bool → Event
event pin bit = record { pin = pin; bit = bit }

-- one input has the name of a word of the form
ports : List Port
ports = input (codes "a") ∷ output (codes "y") ∷ input (codes "b") ∷ input (codes "repeat") ∷ []

-- ---- what texts stand for

-- an input begins with 0, and goes on from the bit that it has
toggles : long_events ports (codes "a ~ 3\nb 1\nb ~ 2\na ~ 01\n")
    ≡ event 0 true ∷ event 0 false ∷ event 0 true ∷ event 1 true ∷ event 1 false ∷ event 1 true ∷ event 0 false ∷ []
unfolding step_of seed_of event_of lines_of trimmed parts_of events_from ports input output event
toggles = refl

-- lines that are repeated, some of them inside others; an input goes on from one time to the next
repeats : long_events ports (codes "b 1\nrepeat 2\na ~ 1\nrepeat 3\nb ~ 1\nend\nend \nb 0\n")
    ≡ event 1 true ∷ event 0 true ∷ event 1 false ∷ event 1 true ∷ event 1 false ∷ event 0 false ∷ event 1 true ∷ event 1 false ∷ event 1 true ∷ event 1 false ∷ []
unfolding step_of seed_of event_of lines_of trimmed parts_of times events_from ports input output event
repeats = refl

-- one `repeat` after another, and one with nothing inside
follows : long_events ports (codes "repeat 1\na 1\nend\n\nrepeat 7\nend\nrepeat 2\na ~ 1\nend")
    ≡ event 0 true ∷ event 0 false ∷ event 0 true ∷ []
unfolding step_of seed_of event_of lines_of trimmed parts_of times events_from ports input output event
follows = refl

-- ---- refusals

fine : long_fault ports (codes "a 1\na ~ 2 \nrepeat 2\nrepeat 1\nb ~ 00000000000000000001\nend\nend\n") ≡ None
unfolding lines_fault count_fault first_below last_below step_of seed_of event_of lines_of trimmed parts_of times ports input output
fine = refl

refuses_counts : long_fault ports (codes "a ~ 4294967295\na ~ 4294967296\n") ≡ Some (fault.Event (Form 2))
unfolding lines_fault count_fault first_below last_below step_of seed_of event_of lines_of trimmed ports input output
refuses_counts = refl

refuses_none : long_fault ports (codes "repeat 4294967295\na ~ 0\nend\n") ≡ Some (fault.Event (Form 2))
unfolding lines_fault count_fault first_below last_below step_of seed_of event_of lines_of trimmed ports input output
refuses_none = refl

-- the word wins over the input of that name
refuses_input : long_fault ports (codes "repeat ~ 1\n") ≡ Some (fault.Event (Form 1))
unfolding lines_fault count_fault first_below last_below step_of seed_of event_of lines_of trimmed ports input output
refuses_input = refl

refuses_outputs : long_fault ports (codes "a 1\ny ~ 1\n") ≡ Some (fault.Event (Pin 2))
unfolding lines_fault count_fault first_below last_below step_of seed_of event_of lines_of trimmed ports input output
refuses_outputs = refl

refuses_blanks : long_fault ports (codes "a  ~ 1\n") ≡ Some (fault.Event (Form 1))
unfolding lines_fault count_fault first_below last_below step_of seed_of event_of lines_of trimmed ports input output
refuses_blanks = refl

-- an `end` without a `repeat`
refuses_end : long_fault ports (codes "repeat 2\nend\nend\nrepeat 0\n") ≡ Some (fault.Repeat 3)
unfolding lines_fault count_fault first_below last_below step_of seed_of event_of lines_of trimmed ports input output
refuses_end = refl

-- a ninth level
refuses_level : long_fault ports (codes "repeat 1\nrepeat 1\nrepeat 1\nrepeat 1\nrepeat 1\nrepeat 1\nrepeat 1\nrepeat 1\nend\nrepeat 1\nrepeat 1\n") ≡ Some (fault.Repeat 11)
unfolding lines_fault count_fault first_below last_below step_of seed_of event_of lines_of trimmed ports input output
refuses_level = refl

-- of two without an `end` the outer one is told, and a faulty line goes before
refuses_open : long_fault ports (codes "repeat 2\nend\nrepeat 3\nrepeat 4\nrepeat 5\nend\n") ≡ Some (fault.Repeat 3)
unfolding lines_fault count_fault first_below last_below step_of seed_of event_of lines_of trimmed parts_of times ports input output
refuses_open = refl

refuses_first : long_fault ports (codes "repeat 2\na 1\na 2\n") ≡ Some (fault.Event (Form 3))
unfolding lines_fault count_fault first_below last_below step_of seed_of event_of lines_of trimmed ports input output
refuses_first = refl
