-- How many bytes the waves of a run may have.
use Rattle.std.specs.Prelude.{◌≡◌, ℕ, ◌+◌, ◌*◌, ◌^◌, ◌++◌, Bool, false, List, length, nat_lt}
use Rattle.text_lines.specs.Written.{text_of}
use Rattle.vlog_module.specs.Parts.{Parts}
use Rattle.vlog_semantics.specs.Run.{start}
use Rattle.vlog_waves.specs.Variables.{values_in}
use Rattle.vlog_waves.specs.Waves.{head_lines, start_lines}
use Rattle.vlog_waves.specs.declared.fault.WavesFault.{WavesFault}
use Rattle.vlog_waves.specs.declared.fault.WavesFault.TheVariants as fault

-- the most bytes of the VCD of a run with so many events: the lines before the first event, and for each event 32 for its time and 32 for each
-- variable
abbrev pub most_bytes : List (List ℕ × List ℕ) → Parts → ℕ → ℕ
most_bytes names m events =
    length (text_of (head_lines names m ++ start_lines (values_in m (start m)))) + events * (32 * length (values_in m (start m)) + 32)

-- whether that many bytes can be counted in 64 bits
unfoldable pub waves_fit : List (List ℕ × List ℕ) → Parts → ℕ → Bool
waves_fit names m events = nat_lt (most_bytes names m events) (2 ^ 64)

-- the VCD can't be prepared because it may be too long, or because memory is out
abbrev pub TellsWaves : Bool → WavesFault → Type 0
TellsWaves fit fault.Long = fit ≡ false
TellsWaves fit (fault.Memory e) = Unit {0}
