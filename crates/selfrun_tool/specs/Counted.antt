-- The counts of a generated design and of its run, and their text.
use Rattle.std.specs.Prelude.{ℕ, ◌+◌, Bool, false, ◌&&◌, ◌==◌, List, [], ◌∷◌, ◌++◌, length, filter, flat_map, position, codes, decimal, if◌then◌else◌, Option, None, Some}
use Rattle.text_lines.specs.Lines.{lines_of}
use Rattle.text_lines.specs.Written.{text_of}
use Rattle.plane_map.specs.declared.device.DeviceName.{DeviceName}
use Rattle.ice_image.specs.Configuration.{Configuration}
use Rattle.asc_text.specs.Canonical.{with_word}
use Rattle.plane_map.specs.DeviceWords.{device_word}
use Rattle.bin_stream.specs.CanonicalBytes.{canonical_bytes}
use Rattle.chipdb_reader.specs.Database.{Database}
use Rattle.image_explain.specs.Explained.{explained}
use Rattle.ice_gen.specs.declared.event.PinEvent.{PinEvent}
use Rattle.fabric_model.specs.declared.input_port.InputPort.{InputPort}
use Rattle.fabric_model.specs.declared.input_port.InputPort.TheVariants.{Pad, Outside, Pll}
use Rattle.fabric_model.specs.Fabric.{fabric_of}
use Rattle.fabric_model.specs.Cells.{cells_of}
use Rattle.fabric_model.specs.Rams.{rams_of}
use Rattle.fabric_model.specs.Wiring.{clocked_wiring}
use Rattle.fabric_model.specs.Steps.{Event, Entry}
use Rattle.design_answers.specs.Order.{write_order}
use Rattle.selfrun_tool.specs.declared.counts.Counts.{Counts}

-- ---- events

-- the row of the tile, on the left edge, whose first pin gets the bit
abbrev pub pin_row : PinEvent → ℕ
pin_row event = if event.second then 2 else 1

-- whether an input port is the one that gets the bit: `io_0_2_0`, or `io_0_1_0`
abbrev pub is_port_of : PinEvent → InputPort → Bool
is_port_of event (Pad x y n) = (x == 0) && ((y == pin_row event) && (n == 0))
is_port_of event (Outside x y n) = false
is_port_of event (Pll x y output) = false

-- the event of a port by its index among the input ports; none if it isn't one of them
abbrev pub event_at : Bool → Option ℕ → List Event
event_at bit None = []
event_at bit (Some place) = record { pin = place; bit = bit } ∷ []

abbrev pub event_for : List InputPort → PinEvent → List Event
event_for inputs event = event_at event.bit (position (is_port_of event) inputs)

-- the events whose port is among the input ports; the others are left out
unfoldable pub events_for : List InputPort → List PinEvent → List Event
events_for inputs events = flat_map (event_for inputs) events

-- ---- counts

-- how many of some bits are 1
abbrev pub ones_in : List Bool → ℕ
ones_in bits = length (filter (λ bit. bit) bits)

-- the output bits at the start and after each event
abbrev pub output_bits : List Entry → List Bool
output_bits entries = flat_map (λ entry. entry.outputs) entries

-- the counts of a database, an image, events and the entries of their run
unfoldable pub counts_of : Database → Configuration → List Event → List Entry → Counts
counts_of db image events entries = record {
  bin = length (canonical_bytes image);
  nets = db.chip.nets;
  cells = length (cells_of db image);
  rams = length (rams_of db image);
  wires = length (write_order (clocked_wiring (fabric_of db image)));
  events = length events;
  explained = length (lines_of (explained db image None));
  ones = ones_in (output_bits entries);
}

-- ---- the text

-- a word, a space and a number
abbrev pub number_line : List ℕ → ℕ → List ℕ
number_line word number = with_word word (decimal number)

-- the lines of the design
abbrev pub design_lines : DeviceName → Counts → List (List ℕ)
design_lines device counts =
    with_word (codes "device") (device_word device)
    ∷ number_line (codes "bin") counts.bin
    ∷ number_line (codes "nets") counts.nets
    ∷ number_line (codes "cells") counts.cells
    ∷ number_line (codes "rams") counts.rams
    ∷ number_line (codes "wires") counts.wires
    ∷ []

-- the lines of its run, which has a line at the start and one after each event
abbrev pub run_lines : Counts → List (List ℕ)
run_lines counts =
    number_line (codes "events") counts.events
    ∷ number_line (codes "lines") (counts.events + 1)
    ∷ number_line (codes "explain") counts.explained
    ∷ number_line (codes "ones") counts.ones
    ∷ []

-- all ten lines
unfoldable pub counts_text : DeviceName → Counts → List ℕ
counts_text device counts = text_of (design_lines device counts ++ run_lines counts)
