-- What a runner that shows an entry has.
use Rattle.std.proofs.Common.{◌≡◌, ℕ, List, ap, length, sym, ◌∙◌}
use Rattle.std.proofs.lemmas.List.{length-map}
use Rattle.vlog_module.specs.Parts.{Parts}
use Rattle.vlog_semantics.specs.Entries.{Entry}
use Rattle.vlog_semantics.specs.ModuleSlots.{IsNamed}
use Rattle.vlog_semantics.specs.Named.{names_of, values_of}
use Rattle.vlog_run.specs.declared.runner.Runner.{Runner}
use Rattle.vlog_run.specs.Showing.{Shows}

-- an entry that a runner shows has the names of the module
pub named-shown : (runner : Runner) (m : Parts) (entry : Entry) → Shows runner m entry → IsNamed m entry
named-shown runner m entry shows = shows.shown.named

-- as many values as names
pub values-named : {A : Type 0} (entries : List (List ℕ × A)) (names : List (List ℕ)) → names_of entries ≡ names → length (values_of entries) ≡ length names
values-named {A = A} entries names are = length-map entries (λ (e : List ℕ × A). e.1) ∙ sym (length-map entries (λ (e : List ℕ × A). e.0)) ∙ ap length are
