-- What is counted while a module runs.
use Rattle.std.proofs.Common.{◌≡◌, ℕ, ◌+◌, ◌<◌, Bool, true, false, List, [], ◌∷◌, ◌++◌, ap, ap₂, append-nil, arith, get_or, length, refl, take, ◌∙◌}
use Rattle.std.specs.List.{AllZip}
use Rattle.std.proofs.lemmas.List.{take_more}
use Rattle.std.proofs.lemmas.List.Concat.{flat_map-append}
use Rattle.vlog_module.specs.Parts.{Parts}
use Rattle.vlog_semantics.specs.declared.event.Event.{Event as ModuleEvent}
use Rattle.vlog_semantics.specs.Entries.{Entry as ModuleEntry}
use Rattle.vlog_semantics.specs.Named.{values_of}
use Rattle.vlog_semantics.specs.Run.{followed, run_from}
use Rattle.vlog_semantics.proofs.Runs.{last_entry, run-push}
use Rattle.fabric_model.specs.Fabric.{Fabric}
use Rattle.fabric_model.specs.Steps.{Entry}
use Rattle.fabric_module.specs.Matching.{Matches}
use Rattle.selfrun_tool.specs.Counted.{ones_in, output_bits}
use Rattle.selfrun_tool.specs.Inside.{module_bits}

-- ---- ones

pub ones-append : (bits more : List Bool) → ones_in (bits ++ more) ≡ ones_in bits + ones_in more
ones-append [] more = omega arith
ones-append (true ∷ bits) more = omega (arith, ones-append bits more)
ones-append (false ∷ bits) more = ones-append bits more

-- ---- one more event

pub bits-more : (m : Parts) (entry : ModuleEntry) (events : List ModuleEvent) (i : ℕ) (d : ModuleEvent) → i < length events
    → module_bits (run_from m entry (take (i + 1) events)) ≡ module_bits (run_from m entry (take i events)) ++ values_of (followed m (last_entry m entry (take i events)) (get_or events i d)).outputs
bits-more m entry events i d within =
    let next = followed m (last_entry m entry (take i events)) (get_or events i d) in
    ap module_bits (ap (run_from m entry) (take_more events i d within) ∙ run-push m entry (take i events) (get_or events i d))
    ∙ flat_map-append (λ (one : ModuleEntry). values_of one.outputs) (run_from m entry (take i events)) (next ∷ [])
    ∙ ap (λ bits. module_bits (run_from m entry (take i events)) ++ bits) (append-nil (values_of next.outputs))

-- ---- the fabric's run

-- a module that matches a fabric has the outputs of the fabric
pub bits-alike : (fabric : Fabric) (entries : List Entry) (others : List ModuleEntry) → AllZip (Matches fabric) entries others → module_bits others ≡ output_bits entries
bits-alike fabric [] [] all = refl
bits-alike fabric [] (other ∷ others) all = absurd all
bits-alike fabric (entry ∷ entries) [] all = absurd all
bits-alike fabric (entry ∷ entries) (other ∷ others) all = ap₂ (λ (bits more : List Bool). bits ++ more) all.0.outputs.valued (bits-alike fabric entries others all.1)
