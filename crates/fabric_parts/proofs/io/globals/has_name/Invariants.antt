use Rattle.std.proofs.Common.{◌≡◌, ◌<◌, ℕ, false, get_or}
use Rattle.std.specs.Prelude.{bytes_eq}
use Rattle.chipdb_reader.specs.declared.items.NetName.{NetName}
use Rattle.chipdb_reader.specs.Texts.{text_at}
use Rattle.fabric_parts.proofs.io.globals.has_name.Given as goal

abbrev pub invariant-loop-named : goal.invariant-loop-named
invariant-loop-named l = (k : ℕ) (d : NetName) → k < l.named-index → bytes_eq l.name (text_at l.db.texts (get_or l.named-items k d).name) ≡ false
