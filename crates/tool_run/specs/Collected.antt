-- Texts that are collected from pieces.
use Rattle.std.specs.Prelude.{◌≡◌, ℕ, List, IfSome}
use Rattle.tool_run.specs.declared.collected.Collected.{Collected}

-- what was collected is this text, unless there was no memory for it
abbrev pub Collects : List ℕ → Collected → Type 0
Collects text collected = IfSome collected.bytes (λ bytes. bytes.items ≡ text)
