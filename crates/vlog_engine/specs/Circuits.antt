-- A module over cells, and the values of its cells.
use Rattle.std.specs.Prelude.{◌≡◌, ◌↔◌, ◌<◌, ◌+◌, ◌*◌, ℕ, Bool, true, false, ◌==◌, List, [], ◌∷◌, ◌++◌, flat_map, get_or, length, map, if◌then◌else◌}
use Rattle.vlog_semantics.specs.Cells.{cell_at, part_at, tail_of, zero_cell}
use Rattle.vlog_semantics.specs.declared.gates.Gate.{Gate}
use Rattle.vlog_semantics.specs.declared.plan.Plan.{Plan}
use Rattle.vlog_engine.specs.declared.circuit.Circuit.{Circuit}
use Rattle.vlog_engine.specs.declared.groups.Group.{Group}
use Rattle.vlog_engine.specs.Flips.{AreApart, AreAt, flip_gate}
use Rattle.vlog_engine.specs.Groups.{IsGroup}
use Rattle.vlog_engine.specs.Marks.{IsRead}
use Rattle.vlog_engine.specs.Resolved.{resolved, resolved_gate, resolved_settle}
use Rattle.vlog_engine.specs.StepKinds.Step.{at_event, at_wave}
use Rattle.vlog_engine.specs.Roots.{root, roots_of}

-- the value that each cell shows: that of the cell for which it is an alias
abbrev pub shown_by : List ℕ → List Bool → List Bool
shown_by roots cells = map (cell_at cells) roots

-- a wire that isn't an alias, with its fan-in over cells that aren't aliases
abbrev pub kept_gate : List ℕ → Gate → List Gate
kept_gate roots gate = if root roots gate.slot == gate.slot then resolved_gate roots gate ∷ [] else []

-- the cells from one on have the bits of words
abbrev pub ArePartsAt : ℕ → List ℕ → List Bool → Type 0
ArePartsAt from words cells = (place : ℕ) → place < 16 * length words → get_or cells (from + place) false ≡ part_at words place

-- ---- what is watched: the wires, then the flip-flops of each group

abbrev pub flip_gates : Group → List Gate
flip_gates group = map flip_gate group.flips.items

abbrev pub watched : Circuit → List Gate
watched circuit = circuit.gates.items ++ (flat_map flip_gates circuit.rising.items ++ (flat_map flip_gates circuit.falling.items ++ flip_gates circuit.waves))

-- the flip-flops of a group are watched from its first place on, and the group tells whether their registers are apart
pub record IsWatched (watched : List Gate) (group : Group) : Type 0 where
  pub places : AreAt group.first_place group.flips.items watched
  pub apart : group.are_apart ≡ true ↔ AreApart group.flips.items

-- the circuit of a plan with `bits` names of one bit, of which the first ones aren't wires, and `words` registers of 16 bits
pub record IsCircuit (first bits words : ℕ) (plan : Plan) (circuit : Circuit) : Type 0 where
  pub bits_are : circuit.bits ≡ bits
  pub roots : circuit.roots.items ≡ roots_of (bits + 16 * words + 2) (zero_cell bits words) plan.gates.items plan.settles.items
  pub gates : circuit.gates.items ≡ flat_map (kept_gate circuit.roots.items) plan.gates.items
  pub read : IsRead (watched circuit) circuit.readers.items
  pub watched_count : circuit.watched_count ≡ length (watched circuit)
  pub settles : circuit.settles.items ≡ map (resolved_settle bits words circuit.roots.items) plan.settles.items
  pub outputs : circuit.outputs.items ≡ map (resolved bits words circuit.roots.items) plan.outputs.items
  pub rising : (pin : ℕ) (none : Group) → pin < length circuit.rising.items
      → IsGroup (at_event (record { pin = pin; bit = true })) first bits words circuit.roots.items plan (get_or circuit.rising.items pin none)
  pub falling : (pin : ℕ) (none : Group) → pin < length circuit.falling.items
      → IsGroup (at_event (record { pin = pin; bit = false })) first bits words circuit.roots.items plan (get_or circuit.falling.items pin none)
  pub rising_watched : (pin : ℕ) (none : Group) → pin < length circuit.rising.items → IsWatched (watched circuit) (get_or circuit.rising.items pin none)
  pub falling_watched : (pin : ℕ) (none : Group) → pin < length circuit.falling.items → IsWatched (watched circuit) (get_or circuit.falling.items pin none)
  pub waves_watched : IsWatched (watched circuit) circuit.waves

-- the group has what waves run: the items whose clock is a register, which stand from cell `from` up to cell `first`
abbrev pub AreWaves : ℕ → ℕ → ℕ → ℕ → List ℕ → Plan → Group → Type 0
AreWaves from first bits words roots plan group = (earlier now : List Bool) → IsGroup (at_wave from first earlier now) first bits words roots plan group

-- the cells that no wire has: these have these bits, the bits of these words, 0 and 1
pub record AreSources (first : ℕ) (bits : List Bool) (words : List ℕ) (cells : List Bool) : Type 0 where
  pub below : (cell : ℕ) → cell < first → cell_at cells cell ≡ cell_at bits cell
  pub rest : (place : ℕ) → place < 16 * length words + 2 → get_or cells (length bits + place) false ≡ get_or (tail_of words) place false
