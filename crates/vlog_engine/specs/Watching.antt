-- How flip-flops come to be watched.
use Rattle.std.specs.Prelude.{◌≡◌, ◌<◌, ◌++◌, ℕ, true, List, [], Vec, get_or, length}
use Rattle.std.specs.Global.{Global}
use Rattle.vlog_semantics.specs.declared.gates.Gate.{Gate}
use Rattle.vlog_engine.specs.declared.groups.Group.{Group}
use Rattle.vlog_engine.specs.Marks.{AreWithin, IsRead, has, lists_of}

-- the lists of these cells get a wire, and no list loses one
pub record AddsReader (place : ℕ) (cells : List ℕ) (old new : List (Vec ℕ Global)) : Type 0 where
  pub size : length new ≡ length old
  pub kept : (cell number : ℕ) → has (get_or (lists_of old) cell []) number ≡ true → has (get_or (lists_of new) cell []) number ≡ true
  pub here : (cell : ℕ) → cell < length old → has cells cell ≡ true → has (get_or (lists_of new) cell []) place ≡ true

-- the lists of cells get wires, of which the first one has this index
pub record AddsWires (first : ℕ) (wires : List Gate) (old new : List (Vec ℕ Global)) : Type 0 where
  pub size : length new ≡ length old
  pub read : (gates : List Gate) → length gates ≡ first → AreWithin (length old) wires → IsRead gates old → IsRead (gates ++ wires) new

-- a group has the same items as before
pub record HasSameItems (old new : Group) : Type 0 where
  pub flips : new.flips.items ≡ old.flips.items
  pub reads : new.reads.items ≡ old.reads.items
  pub writes : new.writes.items ≡ old.writes.items
