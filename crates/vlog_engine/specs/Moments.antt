-- How much is kept for waves.
use Rattle.std.specs.Prelude.{ℕ, ◌==◌, vec_len, if◌then◌else◌}
use Rattle.vlog_semantics.specs.declared.layout.SlotLayout.{SlotLayout}

-- how many inputs and registers are kept: all, or none if no register is a clock
abbrev pub moments_size : SlotLayout → ℕ
moments_size layout = if vec_len layout.plan.clocks == 0 then 0 else layout.first_wire
