-- Where a cursor stands among lines, and what it has left to do.
use Rattle.std.specs.Prelude.{◌≡◌, ◌≤◌, ◌+◌, ◌-◌, ◌&&◌, ℕ, zero, suc, Bool, true, List, [], ◌∷◌, ◌++◌, bytes_eq, drop, flat_map, get_or, length, nat_lt, replicate, slice_set, if◌then◌else◌}
use Rattle.long_events.specs.declared.cursor.Cursor.{Cursor}
use Rattle.long_events.specs.declared.cursor.Frame.{Frame}
use Rattle.long_events.specs.declared.cursor.Turn.{Turn}
use Rattle.long_events.specs.declared.cursor.Turn.TheVariants.{Moved, Turned, Ended}
use Rattle.long_events.specs.declared.moves.Move.{Move}
use Rattle.long_events.specs.declared.moves.Move.TheVariants.{Toggled}
use Rattle.long_events.specs.declared.step.Step.{Step}
use Rattle.long_events.specs.declared.step.Step.TheVariants.{Give, Toggle, Repeat, End}
use Rattle.long_events.specs.Moves.{led_by, times}
use Rattle.long_events.specs.inside.Nesting.{closings, nests}

-- ---- what a cursor does

-- a cursor gives a move, or it turns to other lines
pub data Tick : Type 0 where
  given : Move → Tick
  turned : Tick

-- a body comes so many times, with a turn at its `repeat` and at its `end` each time
abbrev pub turned_over : ℕ → List (List Tick) → List (List Tick)
turned_over count [] = []
turned_over count (body ∷ parts) = led_by (turned ∷ times count (body ++ turned ∷ [])) parts

-- what a cursor does over lines, in the same parts as their moves
unfoldable pub tick_parts : List Step → List (List Tick)
tick_parts [] = [] ∷ []
tick_parts (Give event ∷ steps) = led_by (given (Move.Given event) ∷ []) (tick_parts steps)
tick_parts (Toggle pin count ∷ steps) = led_by (turned ∷ replicate count (given (Toggled pin))) (tick_parts steps)
tick_parts (Repeat count ∷ steps) = turned_over count (tick_parts steps)
tick_parts (End ∷ steps) = [] ∷ tick_parts steps

abbrev pub tick_moves : Tick → List Move
tick_moves (given move) = move ∷ []
tick_moves turned = []

-- ---- where it stands

-- the frame of the `repeat` that so many others are around
abbrev pub frame_at : List Frame → ℕ → Frame
frame_at frames level = get_or frames level (record { start = 0; left = 0 })

-- the lines after a `repeat` once more, with the turn at the `end`
abbrev pub pass : List Step → ℕ → List Tick
pass steps start = get_or (tick_parts (drop start steps)) 0 [] ++ turned ∷ []

-- what is left to do: the first part, then what is left of the innermost body, and so on outwards
abbrev pub resumed : List Step → List Frame → ℕ → List (List Tick) → List Tick
resumed steps frames zero parts = get_or parts 0 []
resumed steps frames (suc depth) parts =
    get_or parts 0 [] ++ (turned ∷ times (frame_at frames depth).left (pass steps (frame_at frames depth).start) ++ resumed steps frames depth (drop 1 parts))

unfoldable pub ticks_left : List Step → Cursor → List Tick
ticks_left steps cursor =
    replicate cursor.toggles (given (Toggled cursor.pin)) ++ resumed steps cursor.frames cursor.depth (tick_parts (drop cursor.place steps))

-- the moves that are left
unfoldable pub moves_left : List Step → Cursor → List Move
moves_left steps cursor = flat_map tick_moves (ticks_left steps cursor)

-- whether the bodies of the open `repeat`s end with these closings, from the innermost one outwards
abbrev pub joins : List Step → List Frame → ℕ → List ℕ → Bool
joins steps frames zero ends = true
joins steps frames (suc depth) ends =
    nests (suc depth) (drop (frame_at frames depth).start steps)
    && (bytes_eq (closings (frame_at frames depth).start (drop (frame_at frames depth).start steps)) ends && joins steps frames depth (drop 1 ends))

-- a cursor stands among lines in which each `repeat` has its `end`
pub record Stands (steps : List Step) (cursor : Cursor) : Type 0 where
  pub deep : cursor.depth ≤ 8
  pub room : length cursor.frames ≡ 8
  pub nested : nests cursor.depth (drop cursor.place steps) ≡ true
  pub joined : joins steps cursor.frames cursor.depth (closings cursor.place (drop cursor.place steps)) ≡ true

-- a cursor before the first step
abbrev pub begun : Cursor
begun = record { place = 0; pin = 0; toggles = 0; frames = replicate 8 (record { start = 0; left = 0 }); depth = 0 }

-- ---- a turn

-- the cursor has passed a step
abbrev pub passed : Cursor → Cursor
passed cursor = record { place = cursor.place + 1; pin = cursor.pin; toggles = cursor.toggles; frames = cursor.frames; depth = cursor.depth }

-- the cursor has passed a step that toggles an input
abbrev pub toggling : Cursor → ℕ → ℕ → Cursor
toggling cursor pin count = record { place = cursor.place + 1; pin = pin; toggles = count; frames = cursor.frames; depth = cursor.depth }

-- the cursor has entered the body of a `repeat`
abbrev pub opened : Cursor → ℕ → Cursor
opened cursor count = record {
  place = cursor.place + 1;
  pin = cursor.pin;
  toggles = cursor.toggles;
  frames = slice_set cursor.frames cursor.depth (record { start = cursor.place + 1; left = count - 1 });
  depth = cursor.depth + 1;
}

-- the frame of the innermost open `repeat`
abbrev pub innermost : Cursor → Frame
innermost cursor = frame_at cursor.frames (cursor.depth - 1)

-- the cursor has gone back to the beginning of the innermost body
abbrev pub again : Cursor → Cursor
again cursor = record {
  place = (innermost cursor).start;
  pin = cursor.pin;
  toggles = cursor.toggles;
  frames = slice_set cursor.frames (cursor.depth - 1) (record { start = (innermost cursor).start; left = (innermost cursor).left - 1 });
  depth = cursor.depth;
}

-- the cursor has left the innermost body
abbrev pub outside : Cursor → Cursor
outside cursor = record { place = cursor.place + 1; pin = cursor.pin; toggles = cursor.toggles; frames = cursor.frames; depth = cursor.depth - 1 }

-- the cursor has passed an `end`
abbrev pub closed : Cursor → Cursor
closed cursor = if nat_lt 0 (innermost cursor).left then again cursor else outside cursor

-- the cursor has done the first of what was left
abbrev pub Does : Turn → List Tick → List Tick → Type 0
Does (Moved move) old new = old ≡ given move ∷ new
Does Turned old new = old ≡ turned ∷ new
Does Ended old new = (old ≡ []) × (new ≡ [])
