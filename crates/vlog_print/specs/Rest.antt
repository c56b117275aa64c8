-- A text, and what slots and values add to it.
use Rattle.std.specs.Prelude.{ℕ, List, ◌++◌, map, take, drop}
use Rattle.vlog_forms.specs.declared.slot.Slot.{Slot}
use Rattle.vlog_forms.specs.declared.value.Value as read
use Rattle.vlog_forms.specs.Values.{Value, seen}
use Rattle.vlog_forms.specs.Printed.{written}

-- the values that the values of the code stand for
abbrev pub all_seen : List read.Value → List Value
all_seen values = map seen values

-- a text with what slots add to it; the first `next` values filled earlier slots
unfoldable pub with_rest : List ℕ → List Slot → List read.Value → ℕ → List ℕ
with_rest text slots values next = text ++ written slots (take next (all_seen values)) (drop next (all_seen values))
