-- The slots of an entry's names.
use Rattle.std.proofs.Common.{◌≡◌, ℕ, Bool, List, ◌++◌, append_assoc, ap, ap₂, length, sym, ◌∙◌}
use Rattle.std.proofs.lemmas.List.{length-map, map-append}
use Rattle.vlog_module.specs.Maps.{value_in}
use Rattle.vlog_module.specs.Parts.{Parts}
use Rattle.vlog_semantics.specs.Entries.{Entry}
use Rattle.vlog_semantics.specs.ModuleSlots.{IsNamed, places_of}
use Rattle.vlog_semantics.specs.Named.{values_of}
use Rattle.vlog_semantics.specs.Numbered.{numbered}
use Rattle.vlog_semantics.specs.Run.{readable}
use Rattle.vlog_semantics.proofs.Beginning.{same-places}
use Rattle.vlog_semantics.proofs.Clocked.{entry_places, with_registers}

-- the slots of an entry's names
pub places-same : (m : Parts) (entry : Entry) → IsNamed m entry → entry_places entry ≡ places_of m
places-same m entry named =
    same-places (entry_places entry) (places_of m)
    (ap (λ names. value_in (numbered 0 names)) named.inputs)
    (ap (λ names. value_in (numbered 0 names))
    (map-append (λ (e : List ℕ × Bool). e.0) (entry.inputs ++ entry.registers) entry.wires
    ∙ ap₂ (λ a b. a ++ b) (map-append (λ (e : List ℕ × Bool). e.0) entry.inputs entry.registers ∙ ap₂ (λ a b. a ++ b) named.inputs named.registers) named.wires))
    (ap₂ (λ n names. value_in (numbered n names)) (sym (length-map entry.inputs (λ (e : List ℕ × Bool). e.0)) ∙ ap length named.inputs) named.registers)
    (ap (λ names. value_in (numbered 0 names)) named.words)
    (ap (λ names. value_in (numbered 0 names)) named.memories)

-- the bits, after registers were given new ones
pub registers-apart : (entry : Entry) → values_of (readable entry).bits ≡ with_registers entry entry.registers
registers-apart entry =
    map-append (λ (e : List ℕ × Bool). e.1) (entry.inputs ++ entry.registers) entry.wires
    ∙ ap (λ list. list ++ values_of entry.wires) (map-append (λ (e : List ℕ × Bool). e.1) entry.inputs entry.registers)
    ∙ append_assoc (values_of entry.inputs) (values_of entry.registers) (values_of entry.wires)
