-- What the bytes so far settle, if more may follow.
use Rattle.std.specs.Prelude.{◌≡◌, Bool, true, false, Result, Ok, Err}
use Rattle.ice_image.specs.Configuration.{Configuration}
use Rattle.bin_stream.specs.Refusals.{Fault, fault_at}
use Rattle.bin_stream.specs.declared.fault.BinCause.{BinCause}
use Rattle.bin_stream.specs.declared.fault.BinCause.TheVariants.{NoPreamble, Truncated}
use Rattle.bin_stream.specs.declared.fault.BinFault.{BinFault}
use Rattle.bin_stream.specs.declared.fault.BinFault.TheVariants.{At, Memory}

-- whether a cause is that the input ended early: without a preamble, within a command or before the wake-up
abbrev pub is_unfinished : BinCause → Bool
is_unfinished NoPreamble = true
is_unfinished Truncated = true
is_unfinished cause = false

-- a fault other than out of memory is the fault of the bytes, and not that they ended early
abbrev pub Settles : Result Configuration Fault → BinFault → Type 0
Settles read (At offset cause) = (read ≡ Err (fault_at offset cause)) × (is_unfinished cause ≡ false)
Settles read (Memory e) = Unit {0}

-- the bytes spell an image, or their fault is that they ended early
abbrev pub IsOpen : Result Configuration Fault → Type 0
IsOpen (Ok image) = Unit {0}
IsOpen (Err fault) = is_unfinished fault.cause ≡ true
