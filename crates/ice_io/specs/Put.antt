-- How many bytes were written before writing failed.
use Rattle.std.specs.Prelude.{◌≡◌, ℕ, ◌+◌, ◌-◌, ◌<◌, ◌≤◌, List, length, take, Option, Result, Ok, Err, IfErr}
use Rattle.std.specs.Io.KnownBytes.{Appends}
use Rattle.ice_io.specs.declared.sink.PutFault.{PutFault}
use Rattle.ice_io.specs.declared.sink.PutFault.TheVariants.{Failed}

-- how many bytes were written before the fault
abbrev pub written_before : PutFault → ℕ
written_before (Failed written) = written

-- if writing failed, P holds of how many bytes had been written
abbrev pub ForWritten : {T : Type 0} → Result T PutFault → (ℕ → Type 0) → Type 0
ForWritten result P = IfErr result (λ fault. P (written_before fault))

-- After the first `sent` bytes of a text, either the whole of the next piece was written, or its first bytes, up to the count that the fault
-- has. The result is how many bytes of the text have been written in all.
abbrev pub Sends : Option (List ℕ) → Option (List ℕ) → ℕ → List ℕ → Result ℕ PutFault → Type 0
Sends old new sent piece (Ok now) = Appends old new piece × (now ≡ sent + length piece)
Sends old new sent piece (Err fault) =
    Appends old new (take (written_before fault - sent) piece)
    × (sent ≤ written_before fault)
    × (written_before fault < sent + length piece)
