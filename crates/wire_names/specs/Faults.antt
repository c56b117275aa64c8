-- Which names a list gives to which wires, and which of its lines are faulty.
use Rattle.std.specs.Prelude.{◌≡◌, ℕ, ◌+◌, not, ◌||◌, List, [], ◌∷◌, length, take, flat_map, if◌then◌else◌, Option, Some, None}
use Rattle.text_lines.specs.Lines.{lines_of, line_at}
use Rattle.index_search.specs.Places.{first_below}
use Rattle.name_set.specs.Sets.{has_name}
use Rattle.vlog_module.specs.Parts.{Parts}
use Rattle.vlog_semantics.specs.Named.{names_of, values_of}
use Rattle.wire_names.specs.declared.fault.WireNamesCause.{WireNamesCause}
use Rattle.wire_names.specs.declared.fault.WireNamesCause.TheVariants.{Form, Wire, WireTwice, NameTwice}
use Rattle.wire_names.specs.declared.fault.WireNamesFault.{WireNamesFault}
use Rattle.wire_names.specs.declared.fault.WireNamesFault.TheVariants.{At, Memory}
use Rattle.wire_names.specs.Lines.{Line, Passed, Named, Unknown, line_of}
use Rattle.wire_names.specs.Names.{is_declared, is_wire}

-- ---- the names

-- the wire and the name of a line
abbrev pub named_by : Line → List (List ℕ × List ℕ)
named_by Passed = []
named_by (Named wire name) = (wire, name) ∷ []
named_by Unknown = []

-- the wires that lines name, each with its name, in the order of the lines
unfoldable pub named_in : List (List ℕ) → List (List ℕ × List ℕ)
named_in lines = flat_map (λ line. named_by (line_of line)) lines

-- the names that a list gives to wires
unfoldable pub wires_named : List ℕ → List (List ℕ × List ℕ)
wires_named text = named_in (lines_of text)

-- ---- the first fault

-- Why a wire can't be called so, after these: it has to be a wire of the module that has no name yet, and the name has to be free. So it is
-- neither declared in the module nor the name of another wire.
abbrev pub cause_for : Parts → List (List ℕ × List ℕ) → List ℕ → List ℕ → Option WireNamesCause
cause_for m earlier wire name =
    if not (is_wire m wire) then Some Wire
    else if has_name (names_of earlier) wire then Some WireTwice
    else if is_declared m name || has_name (values_of earlier) name then Some NameTwice
    else None

-- why a line is faulty, after lines that name these wires
abbrev pub cause_of : Parts → List (List ℕ × List ℕ) → Line → Option WireNamesCause
cause_of m earlier Passed = None
cause_of m earlier Unknown = Some Form
cause_of m earlier (Named wire name) = cause_for m earlier wire name

-- a line number with what is wrong with that line
abbrev pub fault_with : ℕ → Option WireNamesCause → Option WireNamesFault
fault_with line None = None
fault_with line (Some cause) = Some (At line cause)

-- what is wrong with the line at an index
abbrev pub fault_at : Parts → List (List ℕ) → ℕ → Option WireNamesFault
fault_at m lines n = fault_with (n + 1) (cause_of m (named_in (take n lines)) (line_of (line_at lines n)))

-- the first faulty line of a list of names for the wires of a module; lines are numbered from 1
unfoldable pub names_fault_of : Parts → List ℕ → Option WireNamesFault
names_fault_of m text = let lines = lines_of text in first_below (length lines) (fault_at m lines)

-- the reported fault is that one; out of memory may come in place of any answer
abbrev pub Tells : Option WireNamesFault → WireNamesFault → Type 0
Tells first (Memory e) = Unit {0}
Tells first fault = first ≡ Some fault
