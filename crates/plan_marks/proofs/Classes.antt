-- What holds of the classes of marks.
use Rattle.std.proofs.Common.{ℕ, Bool, true, false}
use Rattle.std.specs.Prelude.{if◌then◌else◌}
use Rattle.plan_marks.specs.declared.plan.CellPart.{CellPart}
use Rattle.plan_marks.specs.declared.plan.PinPart.{PinPart}
use Rattle.plan_marks.specs.Plans.{cell_class, pin_class}

-- what holds of the classes of cells
pub cell-classes : (P : ℕ → Type 0) → P 100 → P 99 → P 102 → P 108 → (cell : CellPart) → P (cell_class cell)
cell-classes P d c f l cell = by cell.carry cell.flip
  where
    by : (carry flip : Bool) → P (if carry then (if flip then 100 else 99) else (if flip then 102 else 108))
    by true true = d
    by true false = c
    by false true = f
    by false false = l

-- what holds of the classes of pins
pub pin-classes : (P : ℕ → Type 0) → P 113 → P 98 → P 112 → P 111 → P 106 → P 105 → (pin : PinPart) → P (pin_class pin)
pin-classes P q b p o j i pin = by pin.is_switched pin.is_output pin.has_register
  where
    by : (switched output register : Bool) → P (if switched then (if register then 113 else 98) else if output then (if register then 112 else 111) else if register then 106 else 105)
    by true output true = q
    by true output false = b
    by false true true = p
    by false true false = o
    by false false true = j
    by false false false = i
