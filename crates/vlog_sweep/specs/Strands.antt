-- Lists of events that are being run, each in its lane (strands), and the text with room for each of their lines.
use Rattle.std.specs.Prelude.{◌≡◌, ℕ, ◌+◌, ◌-◌, ◌*◌, ◌<◌, ◌≤◌, Bool, false, true, ◌==◌, List, [], ◌∷◌, ◌++◌, Option, None, Some, drop, flat_map, fold, get_or, if◌then◌else◌, length, map, slice_get, take}
use Rattle.vlog_module.specs.Parts.{Parts}
use Rattle.vlog_semantics.specs.declared.event.Event.{Event}
use Rattle.vlog_semantics.specs.Entries.{Entry}
use Rattle.vlog_semantics.specs.Run.{followed, run_from, start}
use Rattle.vlog_semantics.specs.Values.{bit_of}
use Rattle.vlog_run.specs.Text.{bit_digit, entry_line}
use Rattle.vlog_lanes.specs.declared.lanes.Lanes.{Lanes}
use Rattle.vlog_lanes.specs.Lanes.{lane_of}
use Rattle.vlog_lanes.specs.Showing.{Shows}
use Rattle.vlog_sweep.specs.declared.list.EventList.{EventList}
use Rattle.vlog_sweep.specs.declared.strand.Strand.{Strand}

-- ---- events

-- the events of a list that its lane has had
abbrev pub had : Strand → List Event
had strand = take strand.taken strand.list.now.events.items

abbrev pub rest : Strand → List Event
rest strand = drop strand.taken strand.list.now.events.items

abbrev pub left_of : Strand → ℕ
left_of strand = length strand.list.now.events.items - strand.taken

-- the next event of a list, if any is left
abbrev pub next_of : Strand → Option Event
next_of strand = slice_get strand.list.now.events.items strand.taken

-- whether an event is on this input
abbrev pub is_on : ℕ → Option Event → Bool
is_on pin (Some event) = event.pin == pin
is_on pin None = false

abbrev pub has_bit : Option Event → Bool
has_bit (Some event) = event.bit
has_bit None = false

-- a list after its lane had an event, and after a line of `width` bytes is written for it
abbrev pub stepped : ℕ → Strand → Strand
stepped width strand = record { list = strand.list; taken = strand.taken + 1; at = strand.at + width }

-- a list after a call on the lanes of a word
abbrev pub turned : ℕ → ℕ → ℕ → Strand → Strand
turned width active lane strand = if bit_of active lane then stepped width strand else strand

-- the entry of a lane after the events that it has had
abbrev pub entry_of : Parts → Strand → Entry
entry_of m strand = fold (followed m) (start m) (had strand)

abbrev pub next_entry : Parts → Strand → Entry
next_entry m strand = fold (followed m) (start m) (take (strand.taken + 1) strand.list.now.events.items)

-- each lane shows the entry of its list
abbrev pub ShowsAll : Parts → Lanes → List Strand → Type 0
ShowsAll m lanes strands = (k : ℕ) (d : Strand) → k < length strands → Shows lanes k m (entry_of m (get_or strands k d))

-- a call that gave some lanes, at least one, the next events of their lists
pub record Called (before after : Lanes) (strands : List Strand) (active : ℕ) : Type 0 where
  pub some : (k : ℕ) × (k < length strands) × (bit_of active k ≡ true)
  pub left : (k : ℕ) (d : Strand) → k < length strands → bit_of active k ≡ true → (get_or strands k d).taken < length (get_or strands k d).list.now.events.items
  pub shown : (m : Parts) (width : ℕ) → ShowsAll m before strands → (k : ℕ) (d : Strand) → k < length strands → Shows after k m (entry_of m (turned width active k (get_or strands k d)))

-- ---- lines

-- the line of a lane's outputs
abbrev pub line_of : List ℕ → ℕ → List ℕ
line_of outputs lane = map bit_digit (lane_of lane outputs) ++ 10 ∷ []

-- a text with a line written over the bytes at an offset
abbrev pub line_put : List ℕ → ℕ → List ℕ → List ℕ
line_put text at line = take at text ++ (line ++ drop (at + length line) text)

-- ---- the text

-- the heading of a list and the lines that are written so far
abbrev pub written : Parts → Strand → List ℕ
written m strand = strand.list.now.heading.items ++ flat_map (entry_line false) (run_from m (start m) (had strand))

-- the part of a list in the text: what is written, and room for the line of each event that is left
abbrev pub part : Parts → List ℕ → Strand → List ℕ
part m line strand = written m strand ++ flat_map (λ event. line) (rest strand)

-- the text is the parts of the lists, one after another, and each list has the offset of its next line
pub record Stands (m : Parts) (line : List ℕ) (strands : List Strand) (text : List ℕ) : Type 0 where
  pub parts : text ≡ flat_map (part m line) strands
  pub places : (k : ℕ) (d : Strand) → k < length strands → (get_or strands k d).at ≡ length (flat_map (part m line) (take k strands)) + length (written m (get_or strands k d))
  pub within : (k : ℕ) (d : Strand) → k < length strands → (get_or strands k d).taken ≤ length (get_or strands k d).list.now.events.items

-- ---- before the first event

-- the text of a list before the first event: the line of the start in place of each of its lines
abbrev pub begun_text : List ℕ → EventList → List ℕ
begun_text line list = list.heading.items ++ (line ++ flat_map (λ event. line) list.events.items)

-- how many bytes it has, if each line has `width` bytes
abbrev pub list_size : ℕ → EventList → ℕ
list_size width list = length list.heading.items + (width + length list.events.items * width)
