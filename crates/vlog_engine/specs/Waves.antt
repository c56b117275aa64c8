-- What a board keeps for waves, and what a lane shows before them.
use Rattle.std.specs.Prelude.{◌≡◌, ◌<◌, ℕ, Bool, List, take}
use Rattle.vlog_module.specs.Parts.{Parts}
use Rattle.vlog_semantics.specs.Entries.{Entry}
use Rattle.vlog_semantics.specs.ModuleSlots.{IsNamed}
use Rattle.vlog_semantics.specs.Named.{values_of}
use Rattle.vlog_semantics.specs.Run.{readable, waved}
use Rattle.vlog_engine.specs.declared.board.Board.{Board}
use Rattle.vlog_engine.specs.declared.value.Value.{Ghosts}
use Rattle.vlog_engine.specs.Boards.{Shows}
use Rattle.vlog_engine.specs.Lanes.{lane_bits}

-- the inputs and registers of a lane before the last step
abbrev pub earlier_in : {V : Type 0} {g : Ghosts V} → Board V g → ℕ → List Bool
earlier_in {g = g} board lane = lane_bits g.at lane board.moments.earlier.items

-- the inputs and registers of a lane before the step that is run
abbrev pub next_in : {V : Type 0} {g : Ghosts V} → Board V g → ℕ → List Bool
next_in {g = g} board lane = lane_bits g.at lane board.moments.next.items

-- bits have those of the inputs and registers of an entry
pub record HasEarlier (first : ℕ) (entry : Entry) (bits : List Bool) : Type 0 where
  pub are : take first bits ≡ take first (values_of (readable entry).bits)

-- A lane shows an entry that comes after another one, whose inputs and registers are kept; the waves that are left, at most this many, lead to
-- a last entry.
pub record AwaitsWaves {V : Type 0} {g : Ghosts V} (board : Board V g) (lane : ℕ) (m : Parts) (left : ℕ) (last : Entry) : Type 0 where
  pub prior : Entry
  pub now : Entry
  pub named : IsNamed m prior
  pub shows : Shows board lane m now
  pub earlier : 0 < left → HasEarlier board.layout.first_wire prior (earlier_in board lane)
  pub last_is : waved m left prior now ≡ last
