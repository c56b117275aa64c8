-- Worked values of the definitions.
use Rattle.std.proofs.Common.{◌≡◌, ℕ, Bool, true, false, List, [], ◌∷◌, None, Some, refl}
use Rattle.std.specs.Prelude.{codes, map}
use Rattle.vlog_module.specs.declared.atoms.Atom.{Atom}
use Rattle.vlog_module.specs.declared.atoms.Atom.TheVariants.{Bit, Whole}
use Rattle.vlog_module.specs.declared.item.Item.TheVariants.{Register, Word, Memory, Wire, Assign, FlipFlop, AsyncFlipFlop, AsyncReset, Read, ReadNarrow, Write, WriteNarrow, Start}
use Rattle.vlog_module.specs.declared.item.Lut.{Lut}
use Rattle.vlog_module.specs.declared.item.Right.TheVariants.{Whole as RightWhole, Lut as RightLut, Choose}
use Rattle.vlog_module.specs.declared.modules.Port.{Port}
use Rattle.vlog_module.specs.Parts.{Parts}
use Rattle.text_lines.specs.Lines.{lines_of, trimmed}
use Rattle.index_search.specs.Places.{first_below}
use Rattle.vlog_semantics.specs.declared.event.Event.{Event}
use Rattle.vlog_run.specs.declared.event.EventFault.TheVariants.{Form, Pin}
use Rattle.vlog_run.specs.Events.{event_fault, event_of, events_of, first_fault}
use Rattle.vlog_semantics.specs.Run.{acted, changed, followed, module_run, moved_up, run_from, settled, start, waved}
use Rattle.vlog_run.specs.Text.{entry_line, run_text}

input : List ℕ → Port
input name = record { name = name; output = false }

output : List ℕ → Port
output name = record { name = name; output = true }

event : ℕ → Bool → Event
event pin bit = record { pin = pin; bit = bit }

-- ---- an inverter

inverter : Lut
inverter = record { word = 21845; ins = Whole (codes "n_1") ∷ Bit false ∷ Bit false ∷ Bit false ∷ [] }

chip : Parts
chip = record {
  name = codes "chip";
  ports = input (codes "io_0_1_0") ∷ output (codes "io_0_2_0") ∷ [];
  items = Wire (codes "n_0") (RightWhole (codes "io_0_1_0")) ∷ Wire (codes "n_1") (RightWhole (codes "n_0")) ∷ Wire (codes "n_2") (RightLut inverter)
      ∷ Wire (codes "n_3") (RightWhole (codes "n_2")) ∷ Assign (codes "io_0_2_0") (Whole (codes "n_3")) ∷ [];
}

inverts : run_text chip (event 0 true ∷ event 0 false ∷ event 0 false ∷ []) false ≡ codes "1\n0\n1\n1\n"
unfolding run_text module_run run_from followed changed acted waved start settled entry_line chip inverter input output event
inverts = refl

reads_lines : events_of chip.ports (codes "io_0_1_0 1\n\nio_0_1_0 0\r\n") ≡ event 0 true ∷ event 0 false ∷ []
unfolding event_of lines_of trimmed chip input output event
reads_lines = refl

refuses_outputs : event_fault chip.ports (codes "io_0_2_0 1\n") ≡ Some (Pin 1)
unfolding event_of lines_of trimmed first_fault first_below chip input output
refuses_outputs = refl

refuses_forms : event_fault chip.ports (codes "\nio_0_1_0 1\nio_0_1_0  1\nmodule 1\n") ≡ Some (Form 3)
unfolding event_of lines_of trimmed first_fault first_below chip input output
refuses_forms = refl

-- spaces and tabs at a line's end don't count, also before CR LF, and an empty line is skipped
cuts_lines : events_of chip.ports (codes " \t\nio_0_1_0 1 \t\n\n \r\nio_0_1_0 0\t\r\n  ") ≡ event 0 true ∷ event 0 false ∷ []
unfolding event_of lines_of trimmed chip input output event
cuts_lines = refl

fine_lines : event_fault chip.ports (codes " \t\nio_0_1_0 1 \t\n\n \r\nio_0_1_0 0\t\r\n  ") ≡ None
unfolding event_of lines_of trimmed first_fault first_below chip input output
fine_lines = refl

-- lines that are passed over count
counts_lines : event_fault chip.ports (codes "\n \nio_0_1_0 1\n\t\nio_0_3_0 1 \n") ≡ Some (Pin 5)
unfolding event_of lines_of trimmed first_fault first_below chip input output
counts_lines = refl

-- a space before the name, or a second one after it
refuses_blanks : event_fault chip.ports (codes "io_0_1_0 1\n io_0_1_0 1\n") ≡ Some (Form 2)
unfolding event_of lines_of trimmed first_fault first_below chip input output
refuses_blanks = refl

refuses_two_blanks : event_fault chip.ports (codes "io_0_1_0  1 \n") ≡ Some (Form 1)
unfolding event_of lines_of trimmed first_fault first_below chip input output
refuses_two_blanks = refl

refuses_tabs : event_fault chip.ports (codes "io_0_1_0\t1\n") ≡ Some (Form 1)
unfolding event_of lines_of trimmed first_fault first_below chip input output
refuses_tabs = refl

-- a CR that no LF follows is a byte of its line
refuses_lone_cr : event_fault chip.ports (codes "io_0_1_0 1\r") ≡ Some (Form 1)
unfolding event_of lines_of trimmed first_fault first_below chip input output
refuses_lone_cr = refl

refuses_cr_before_blank : event_fault chip.ports (codes "io_0_1_0 1\r \n") ≡ Some (Form 1)
unfolding event_of lines_of trimmed first_fault first_below chip input output
refuses_cr_before_blank = refl

-- ---- a flip-flop at falling edges

-- two registers that shift
shift : Parts
shift = record {
  name = codes "shift";
  ports = input (codes "c") ∷ input (codes "d") ∷ output (codes "q") ∷ [];
  items = Register (codes "r") true ∷ Register (codes "s") false ∷ Assign (codes "q") (Whole (codes "s"))
      ∷ FlipFlop true (codes "c") (Bit true) (Bit false) false (codes "r") (record { word = 43690; ins = Whole (codes "d") ∷ Bit false ∷ Bit false ∷ Bit false ∷ [] })
      ∷ FlipFlop true (codes "c") (Bit true) (Bit false) false (codes "s") (record { word = 43690; ins = Whole (codes "r") ∷ Bit false ∷ Bit false ∷ Bit false ∷ [] }) ∷ [];
}

shifts : run_text shift (event 0 true ∷ event 0 false ∷ event 1 true ∷ event 0 true ∷ event 0 false ∷ []) true ≡ codes "0 10\n0 10\n1 01\n1 01\n1 01\n0 10\n"
unfolding run_text module_run run_from followed changed acted waved start settled entry_line shift input output event
shifts = refl

-- ---- a memory

bits_of : List Bool → List Atom
bits_of bits = map Bit bits

-- word 5 is 1234; at an edge it is read, and then ABCD is written to it under the mask 00FF
memory : Parts
memory = record {
  name = codes "memory";
  ports = input (codes "c") ∷ input (codes "we") ∷ [];
  items = Word (codes "r") 0 ∷ Memory (codes "mem")
      ∷ Read false (codes "c") (Bit true) (Bit true) (codes "r") (codes "mem") (bits_of (true ∷ false ∷ true ∷ false ∷ false ∷ false ∷ false ∷ false ∷ []))
      ∷ Write false (codes "c") (Bit true) (Whole (codes "we")) (codes "mem") (bits_of (true ∷ false ∷ true ∷ false ∷ false ∷ false ∷ false ∷ false ∷ []))
      (bits_of (true ∷ true ∷ true ∷ true ∷ true ∷ true ∷ true ∷ true ∷ false ∷ false ∷ false ∷ false ∷ false ∷ false ∷ false ∷ false ∷ []))
      (bits_of (true ∷ false ∷ true ∷ true ∷ false ∷ false ∷ true ∷ true ∷ true ∷ true ∷ false ∷ true ∷ false ∷ true ∷ false ∷ true ∷ []))
      ∷ Start (codes "mem") 5 4660 ∷ [];
}

writes : run_text memory (event 1 true ∷ event 0 true ∷ event 0 false ∷ event 1 false ∷ event 0 true ∷ []) true
    ≡ codes "  0000\n  0000\n  1234\n  1234\n  1234\n  ab34\n"
unfolding run_text module_run run_from followed changed acted waved start settled entry_line memory bits_of input output event
writes = refl

-- word 5 is 1234. A word of 8 bits, A5, is written in the places 1, 3, 5 .. of it; then it is read as words of 4 and of 2 bits
narrow : Parts
narrow = record {
  name = codes "narrow";
  ports = input (codes "c") ∷ input (codes "we") ∷ [];
  items = Word (codes "r") 0 ∷ Word (codes "s") 0 ∷ Word (codes "t") 0 ∷ Memory (codes "mem")
      ∷ Read false (codes "c") (Bit true) (Bit true) (codes "r") (codes "mem") (bits_of (true ∷ false ∷ true ∷ false ∷ false ∷ false ∷ false ∷ false ∷ []))
      ∷ ReadNarrow false (codes "c") (Bit true) (Bit true) (codes "s") (codes "mem") (bits_of (true ∷ false ∷ true ∷ false ∷ false ∷ false ∷ false ∷ false ∷ []))
      (bits_of (true ∷ true ∷ false ∷ [])) 4369
      ∷ ReadNarrow false (codes "c") (Bit true) (Bit true) (codes "t") (codes "mem") (bits_of (true ∷ false ∷ true ∷ false ∷ false ∷ false ∷ false ∷ false ∷ []))
      (bits_of (true ∷ true ∷ true ∷ [])) 257
      ∷ WriteNarrow false (codes "c") (Bit true) (Whole (codes "we")) (codes "mem") (bits_of (true ∷ false ∷ true ∷ false ∷ false ∷ false ∷ false ∷ false ∷ []))
      21845 (bits_of (true ∷ false ∷ false ∷ []))
      (bits_of (true ∷ true ∷ false ∷ false ∷ true ∷ true ∷ false ∷ false ∷ false ∷ false ∷ true ∷ true ∷ false ∷ false ∷ true ∷ true ∷ []))
      ∷ Start (codes "mem") 5 4660 ∷ [];
}

writes_narrow : run_text narrow (event 1 true ∷ event 0 true ∷ event 0 false ∷ event 1 false ∷ event 0 true ∷ []) true
    ≡ codes "  0000 0000 0000\n  0000 0000 0000\n  1234 0000 0000\n  1234 0000 0000\n  1234 0000 0000\n  9836 1100 0100\n"
unfolding run_text module_run run_from followed changed acted waved start settled entry_line narrow bits_of input output event
writes_narrow = refl

-- bits of a pattern that are moved past the highest are lost
cuts_patterns : moved_up 43691 1 ≡ 21846
cuts_patterns = refl

-- ---- registers with an asynchronous set or reset

-- at falling edges of `c` the register gets what it hasn't; it is 1 while `r` is, and the wire that reads it sees that
toggle : Parts
toggle = record {
  name = codes "toggle";
  ports = input (codes "c") ∷ input (codes "r") ∷ output (codes "q") ∷ output (codes "f") ∷ [];
  items = Register (codes "ff") false ∷ Wire (codes "n_5") (RightWhole (codes "r")) ∷ Wire (codes "n_2") (Choose (codes "n_5") true (codes "ff"))
      ∷ Wire (codes "n_1") (RightWhole (codes "n_2")) ∷ Assign (codes "q") (Whole (codes "n_1")) ∷ Assign (codes "f") (Whole (codes "ff"))
      ∷ AsyncFlipFlop true (codes "c") (codes "n_5") true (codes "ff") (Bit true) inverter ∷ [];
}

-- the bit comes with the wire and without an edge, and stays; an edge while the wire is 1 changes nothing
toggles : run_text toggle (event 1 true ∷ event 1 false ∷ event 0 true ∷ event 0 false ∷ event 1 true ∷ event 0 true ∷ event 0 false ∷ event 1 false ∷ []) true
    ≡ codes "00 0\n11 1\n11 1\n11 1\n00 0\n11 1\n11 1\n11 1\n11 1\n"
unfolding run_text module_run run_from followed changed acted waved start settled entry_line toggle inverter input output event
toggles = refl

-- without a clock
latch : Parts
latch = record {
  name = codes "latch";
  ports = input (codes "r") ∷ output (codes "q") ∷ output (codes "f") ∷ [];
  items = Register (codes "ff") true ∷ Wire (codes "n_5") (RightWhole (codes "r")) ∷ Wire (codes "n_2") (Choose (codes "n_5") false (codes "ff"))
      ∷ Assign (codes "q") (Whole (codes "n_2")) ∷ Assign (codes "f") (Whole (codes "ff")) ∷ AsyncReset (codes "n_5") false (codes "ff") ∷ [];
}

latches : run_text latch (event 0 true ∷ event 0 false ∷ []) true ≡ codes "11 1\n00 0\n00 0\n"
unfolding run_text module_run run_from followed changed acted waved start settled entry_line latch input output event
latches = refl

-- ---- registers as clocks

-- a register that becomes what it isn't
opposite : List ℕ → Lut
opposite name = record { word = 21845; ins = Whole name ∷ Bit false ∷ Bit false ∷ Bit false ∷ [] }

-- each register but the first one turns when the one before it falls
ripple : Parts
ripple = record {
  name = codes "ripple";
  ports = input (codes "c") ∷ output (codes "q") ∷ [];
  items = Register (codes "a") false ∷ Register (codes "b") false ∷ Register (codes "d") false ∷ Assign (codes "q") (Whole (codes "d"))
      ∷ FlipFlop false (codes "c") (Bit true) (Bit false) false (codes "a") (opposite (codes "a"))
      ∷ FlipFlop true (codes "a") (Bit true) (Bit false) false (codes "b") (opposite (codes "b"))
      ∷ FlipFlop true (codes "b") (Bit true) (Bit false) false (codes "d") (opposite (codes "d")) ∷ [];
}

-- it counts the rising edges; the last event changes all three
counts : run_text ripple (event 0 true ∷ event 0 false ∷ event 0 true ∷ event 0 false ∷ event 0 true ∷ event 0 false ∷ event 0 true ∷ []) true
    ≡ codes "0 000\n0 100\n0 100\n0 010\n0 010\n0 110\n0 110\n1 001\n"
unfolding run_text module_run run_from followed changed acted waved start settled entry_line ripple opposite input output event
counts = refl
