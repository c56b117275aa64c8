-- What a call leaves in a lane, half by half.
use Rattle.std.proofs.Common.{◌≡◌, ℕ, Bool, true, false, List, [], ap, ap₂, arith, cond, length, refl, subst, sym, ◌∙◌}
use Rattle.std.specs.Prelude.{map}
use Rattle.vlog_semantics.specs.declared.layout.SlotLayout.{SlotLayout}
use Rattle.vlog_semantics.specs.Steps.{operand_value}
use Rattle.vlog_engine.specs.declared.board.Board.{Board}
use Rattle.vlog_engine.specs.declared.circuit.Circuit.{Circuit}
use Rattle.vlog_engine.specs.declared.value.Value.{Ghosts}
use Rattle.vlog_engine.specs.Boards.{IsChangedIn, IsClockedIn, IsIdleIn, IsSettledIn, IsShownIn, IsTrackedIn, StaysLaidOut, cells_in, memories_in, outputs_in, words_in}
use Rattle.vlog_engine.specs.Circuits.{watched}
use Rattle.vlog_engine.specs.Groups.{IsGroup}
use Rattle.vlog_engine.specs.Marks.{AreRising, IsTracked}
use Rattle.vlog_engine.specs.Passing.{IsClocked, IsSettled}
use Rattle.vlog_engine.specs.StepKinds.{Step}
use Rattle.vlog_engine.proofs.Lanes.{lane-length}
use Rattle.vlog_engine.proofs.Stored.{clocked-like}

pub stays-then : {V : Type 0} {g : Ghosts V} (a b c : Board V g) → StaysLaidOut a b → StaysLaidOut b c → StaysLaidOut a c
stays-then a b c one two = record { layout = two.layout ∙ one.layout; circuit = two.circuit ∙ one.circuit; words_room = two.words_room ∙ one.words_room }

-- ---- lanes that get no event

pub idle-then : {V : Type 0} {g : Ghosts V} (lane : ℕ) (a b c : Board V g) → StaysLaidOut a b → IsIdleIn lane a b → IsIdleIn lane b c → IsIdleIn lane a c
idle-then lane a b c same one two = record {
  cells = two.cells ∙ one.cells;
  words = two.words ∙ one.words;
  memories = two.memories ∙ one.memories;
  outputs = two.outputs ∙ one.outputs;
  tracked = λ first count rising room tracked.
      two.tracked first count (subst (λ (k : Circuit). AreRising first count k.gates.items) (sym same.circuit) rising) (omega (arith, room, ap (λ (list : List Bool). length list) one.cells))
      (one.tracked first count rising room tracked);
}

pub settled-idle : {V : Type 0} {g : Ghosts V} (active : Bool) (lane : ℕ) (a b : Board V g) → StaysLaidOut a b → IsSettledIn active lane a b → active ≡ false → IsIdleIn lane a b
settled-idle active lane a b same known off = record {
  cells = known.idle off;
  words = known.words;
  memories = known.memories;
  outputs = known.outputs;
  tracked = λ first count rising room tracked.
      subst (λ (k : Circuit). IsTracked (watched k) (cells_in b lane) b.marks.items) (sym same.circuit) (known.settled first count rising room tracked).tracked;
}

pub shown-idle : {V : Type 0} {g : Ghosts V} (active : Bool) (lane : ℕ) (a b : Board V g) → StaysLaidOut a b → IsShownIn active lane a b → active ≡ false → IsIdleIn lane a b
shown-idle active lane a b same known off = record {
  cells = known.cells;
  words = known.words;
  memories = known.memories;
  outputs = known.outputs ∙ ap (λ k. cond k (map (operand_value (cells_in a lane) []) a.circuit.outputs.items) (outputs_in a lane)) off;
  tracked = λ first count rising room tracked.
      subst (λ (k : Circuit). IsTracked (watched k) (cells_in b lane) b.marks.items) (sym same.circuit)
      (subst (λ k. IsTracked (watched a.circuit) k b.marks.items) (sym known.cells)
      (subst (IsTracked (watched a.circuit) (cells_in a lane)) (sym known.marks) tracked));
}

-- ---- lanes whose input changes

pub clocked-then-idle : {V : Type 0} {g : Ghosts V} (step : Step) (lane : ℕ) (a b c : Board V g) → StaysLaidOut a b → IsClockedIn step lane a b → IsIdleIn lane b c
    → length (cells_in b lane) ≡ length (cells_in a lane) → IsClockedIn step lane a c
clocked-then-idle step lane a b c same one two size = record {
  group = one.group;
  grouped = one.grouped;
  clocked = λ tracked.
      clocked-like a.circuit.bits step one.group (words_in a lane) (words_in a lane) (words_in b lane) (words_in c lane) (memories_in a lane) (memories_in a lane) (memories_in b lane) (memories_in c lane)
      (cells_in a lane) (cells_in a lane) (cells_in b lane) (cells_in c lane) (one.clocked tracked) refl (sym two.words) refl (sym two.memories) refl (sym two.cells);
  tracked = λ first count rising room tracked.
      two.tracked first count (subst (λ (k : Circuit). AreRising first count k.gates.items) (sym same.circuit) rising) (omega (arith, room, size)) (one.tracked first count rising room tracked);
}

pub idle-then-clocked : {V : Type 0} {g : Ghosts V} (step : Step) (lane : ℕ) (a b c : Board V g) → StaysLaidOut a b → IsIdleIn lane a b → (IsTrackedIn a lane → IsTrackedIn b lane) → IsClockedIn step lane b c
    → IsClockedIn step lane a c
idle-then-clocked step lane a b c same one stays two = record {
  group = two.group;
  grouped =
      subst (λ n. IsGroup step a.layout.first_wire a.circuit.bits n a.circuit.roots.items a.layout.plan two.group) same.words_room
      (subst (λ (k : SlotLayout). IsGroup step k.first_wire a.circuit.bits b.next_words.len a.circuit.roots.items k.plan two.group) same.layout
      (subst (λ (k : Circuit). IsGroup step b.layout.first_wire k.bits b.next_words.len k.roots.items b.layout.plan two.group) same.circuit two.grouped));
  clocked = λ tracked.
      clocked-like a.circuit.bits step two.group (words_in a lane) (words_in b lane) (words_in c lane) (words_in c lane) (memories_in a lane) (memories_in b lane) (memories_in c lane) (memories_in c lane)
      (cells_in a lane) (cells_in b lane) (cells_in c lane) (cells_in c lane)
      (subst (λ (k : Circuit). IsClocked true k.bits step two.group (words_in b lane) (words_in c lane) (memories_in b lane) (memories_in c lane) (cells_in b lane) (cells_in c lane)) same.circuit (two.clocked (stays tracked)))
      one.words refl one.memories refl one.cells refl;
  tracked = λ first count rising room tracked.
      two.tracked first count (subst (λ (k : Circuit). AreRising first count k.gates.items) (sym same.circuit) rising) (omega (arith, room, ap (λ (list : List Bool). length list) one.cells))
      (one.tracked first count rising room tracked);
}

-- boards with the same slots have as many cells
pub same-size : {V : Type 0} {g : Ghosts V} (lane : ℕ) (a b : Board V g) → StaysLaidOut a b → length (cells_in b lane) ≡ length (cells_in a lane)
same-size {g = g} lane a b same =
    omega (
      arith,
      lane-length g.at lane a.cells.items,
      lane-length g.at lane b.cells.items,
      a.cells_room,
      b.cells_room,
      a.cells.ok.0,
      b.cells.ok.0,
      same.words_room,
      ap (λ (k : Circuit). k.bits) same.circuit,
    )

pub changed-in : {V : Type 0} {g : Ghosts V} (step : Step) (lane : ℕ) (settling showing : Bool) (a b c d : Board V g) → StaysLaidOut a b → StaysLaidOut b c → IsClockedIn step lane a b
    → IsSettledIn settling lane b c → settling ≡ true → IsShownIn showing lane c d → showing ≡ true → IsChangedIn step lane a d
changed-in step lane settling showing a b c d same same_two clocked settled on shown on_two =
    let size = same-size lane a b same in
    let circuits : c.circuit ≡ a.circuit = same_two.circuit ∙ same.circuit in
    record {
      group = clocked.group;
      grouped = clocked.grouped;
      between = cells_in b lane;
      size = size;
      clocked = λ tracked.
          clocked-like a.circuit.bits step clocked.group (words_in a lane) (words_in a lane) (words_in b lane) (words_in d lane) (memories_in a lane) (memories_in a lane) (memories_in b lane) (memories_in d lane)
          (cells_in a lane) (cells_in a lane) (cells_in b lane) (cells_in b lane) (clocked.clocked tracked) refl (sym (shown.words ∙ settled.words)) refl (sym (shown.memories ∙ settled.memories)) refl refl;
      settled = λ first count rising room tracked.
          let rising_now = subst (λ (k : Circuit). AreRising first count k.gates.items) (sym same.circuit) rising in
          subst (λ (k : Circuit). IsSettled true first count k.gates.items (watched k) k.settles.items (cells_in b lane) (cells_in d lane) d.marks.items) same.circuit
          (subst (λ k. IsSettled true first count b.circuit.gates.items (watched b.circuit) b.circuit.settles.items (cells_in b lane) k d.marks.items) (sym shown.cells)
          (subst (IsSettled true first count b.circuit.gates.items (watched b.circuit) b.circuit.settles.items (cells_in b lane) (cells_in c lane)) (sym shown.marks)
          (subst (λ k. IsSettled k first count b.circuit.gates.items (watched b.circuit) b.circuit.settles.items (cells_in b lane) (cells_in c lane) c.marks.items) on
          (settled.settled first count rising_now (omega (arith, room, size)) (clocked.tracked first count rising room tracked)))));
      outputs = shown.outputs
          ∙ ap (λ k. cond k (map (operand_value (cells_in c lane) []) c.circuit.outputs.items) (outputs_in c lane)) on_two
          ∙ ap₂ (λ (list : List Bool) (k : Circuit). map (operand_value list []) k.outputs.items) (sym shown.cells) circuits;
    }
