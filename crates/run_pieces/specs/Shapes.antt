-- That an item has its shape, and that a use is in its range, are facts with at most one proof.
use Rattle.std.proofs.Props.{props}
use Rattle.vlog_module.specs.declared.item.Item.{Item}
use Rattle.vlog_module.specs.declared.item.Item.TheVariants.{Register, Word, Memory, Wire, Assign, FlipFlop, AsyncFlipFlop, AsyncReset, Read, ReadNarrow, Write, WriteNarrow, Start}
use Rattle.vlog_module.specs.declared.item.Right.{Right}
use Rattle.vlog_module.specs.declared.item.Right.TheVariants as right
use Rattle.vlog_module.specs.Uses.{Use}
use Rattle.vlog_module.specs.Uses.Use.{Declares, Reads, ReadsBit, Clocks, Takes, Assigns, Chooses, AssignsAsync, Starts}
use Rattle.vlog_module.specs.WellFormed.{IsInRange, IsRight, IsShaped}

pub right-prop : (made : Right) → IsProp (IsRight made)
right-prop (right.Bit bit) = hlevel (props)
right-prop (right.Whole name) = hlevel (props)
right-prop (right.Part name k) = hlevel (props)
right-prop (right.Lut lut) = hlevel (props)
right-prop (right.Majority a b c) = hlevel (props)
right-prop (right.Choose reset set name) = hlevel (props)

pub shaped-prop : (item : Item) → IsProp (IsShaped item)
shaped-prop (Register name start) = hlevel (props)
shaped-prop (Word name start) = hlevel (props)
shaped-prop (Memory name) = hlevel (props)
shaped-prop (Wire name made) = right-prop made
shaped-prop (Assign name value) = hlevel (props)
shaped-prop (FlipFlop falling clock enable reset set target lut) = hlevel (props)
shaped-prop (AsyncFlipFlop falling clock reset set target enable lut) = hlevel (props)
shaped-prop (AsyncReset reset set target) = hlevel (props)
shaped-prop (Read falling clock clock_enable enable target memory address) = hlevel (props)
shaped-prop (ReadNarrow falling clock clock_enable enable target memory address shift pattern) = hlevel (props)
shaped-prop (Write falling clock clock_enable enable memory address mask bits) = hlevel (props)
shaped-prop (WriteNarrow falling clock clock_enable enable memory address pattern shift bits) = hlevel (props)
shaped-prop (Start memory k word) = hlevel (props)

pub in_range-prop : (used : Use) → IsProp (IsInRange used)
in_range-prop (Declares sort name) = hlevel (props)
in_range-prop (Reads name) = hlevel (props)
in_range-prop (ReadsBit name k) = hlevel (props)
in_range-prop (Clocks name) = hlevel (props)
in_range-prop (Takes sort name) = hlevel (props)
in_range-prop (Assigns sort name) = hlevel (props)
in_range-prop (Chooses reset set name) = hlevel (props)
in_range-prop (AssignsAsync reset set name) = hlevel (props)
in_range-prop (Starts name k) = hlevel (props)
