-- Sources over readers and sinks over writers: what is under them, how often they failed, and how much was read.
use Rattle.std.specs.Prelude.{◌≡◌, ℕ, ◌<◌, Option, None, Some, IfSome, ⊤}
use Rattle.ice_io.specs.Faults.{Rose}
use Rattle.ice_io.specs.declared.real.StdSource.{StdSource}
use Rattle.ice_io.specs.declared.real.StdSink.{StdSink}

-- the reader under a source
abbrev pub reader_of : {R : Type 0} → StdSource R → R
reader_of source = source.inner

-- how many reads of a source have failed
abbrev pub read_faults : {R : Type 0} → StdSource R → ℕ
read_faults source = source.faults

-- how many bytes were read from a source
abbrev pub read_bytes : {R : Type 0} → StdSource R → ℕ
read_bytes source = source.bytes_read

-- the writer under a sink
abbrev pub writer_of : {W : Type 0} → StdSink W → W
writer_of sink = sink.inner

-- how many writes to a sink have failed
abbrev pub write_faults : {W : Type 0} → StdSink W → ℕ
write_faults sink = sink.faults

-- a call failed: nothing was open for it, or the count of faults rose of what was open, and is still
abbrev pub FailsOver : {S : Type 0} → (S → ℕ) → Option S → Option S → Type 0
FailsOver faults None after = ⊤
FailsOver faults (Some old) (Some new) = Rose (faults old) (faults new)
FailsOver faults (Some old) None = ⊥

-- a file is as it was opened, to be read from its start, or it was moved to a later place, if its place is known
abbrev pub StandsAt : {F : Type 0} → (F → Option ℕ) → F → F → ℕ → Type 0
StandsAt place opened file at = (at ≡ 0 → file ≡ opened) × (0 < at → IfSome (place opened) (λ before. place file ≡ Some at))
