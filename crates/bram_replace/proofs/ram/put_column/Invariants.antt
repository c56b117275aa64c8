use Rattle.std.proofs.Common.{◌≡◌, ℕ, ◌<◌, ◌==◌, ◌&&◌}
use Rattle.std.specs.Prelude.{nat_lt, if◌then◌else◌}
use Rattle.bram_replace.specs.Columns.{column_bit}
use Rattle.bram_replace.specs.Rams.{listed}
use Rattle.bram_replace.proofs.ram.put_column.Given as goal

abbrev pub invariant-loop-word : goal.invariant-loop-word
invariant-loop-word l = (word place : ℕ) → word < 256 → place < 16
    → listed l.bits word place ≡ (if nat_lt word l.word && (place == l.bit) then column_bit l.to l.column word else listed l.fn.bits word place)
