-- The lines of the run of a module that matches a fabric.
use Rattle.std.proofs.Common.{◌≡◌, ℕ, Bool, List, [], ◌∷◌, ◌++◌, map, refl, sym, ap, ap₂, ◌∙◌}
use Rattle.std.specs.Prelude.{flat_map, if◌then◌else◌}
use Rattle.std.specs.List.{AllZip}
use Rattle.vlog_module.specs.Parts.{Parts}
use Rattle.vlog_semantics.specs.declared.event.Event.{Event as ModuleEvent}
use Rattle.vlog_semantics.specs.Entries.{Entry as ModuleEntry}
use Rattle.vlog_run.specs.Events.{events_of}
use Rattle.vlog_semantics.specs.Run.{module_run}
use Rattle.vlog_run.specs.Text.{bit_digit, word_text, registers_text, entry_line, run_text}
use Rattle.fabric_model.specs.declared.input_port.InputPort.{InputPort}
use Rattle.fabric_model.specs.Fabric.{Fabric}
use Rattle.fabric_model.specs.Outputs.{Output}
use Rattle.fabric_model.specs.Steps.{Entry}
use Rattle.fabric_module.specs.Matching.{MatchesAs, module_event}
use Rattle.design_answers.specs.Lines.{fabric_event, fabric_events, fabric_line, fabric_text, state_text}

-- ---- lines

module _ (input_name : InputPort → List ℕ) (name_of : Output → List ℕ) (fabric : Fabric) where
  -- the registers of a module are the state of the fabric
  state-shown : (entry : Entry) (other : ModuleEntry) → MatchesAs input_name name_of fabric entry other → registers_text other ≡ state_text entry.state
  state-shown entry other matches =
      ap₂ (λ bits words. 32 ∷ map bit_digit bits ++ flat_map word_text words) matches.registers.valued matches.words.valued

  -- one line
  line-shown : (registers : Bool) (entry : Entry) (other : ModuleEntry) → MatchesAs input_name name_of fabric entry other → entry_line registers other ≡ fabric_line registers entry
  unfolding entry_line fabric_line
  line-shown registers entry other matches =
      ap₂ (λ outputs (state : List ℕ). map bit_digit outputs ++ (if registers then state else []) ++ 10 ∷ []) matches.outputs.valued (state-shown entry other matches)

  -- all lines
  lines-shown : (registers : Bool) (entries : List Entry) (others : List ModuleEntry) → AllZip (MatchesAs input_name name_of fabric) entries others
      → flat_map (entry_line registers) others ≡ fabric_text registers entries
  lines-shown registers [] [] all = refl
  lines-shown registers [] (other ∷ others) all = absurd all
  lines-shown registers (entry ∷ entries) [] all = absurd all
  lines-shown registers (entry ∷ entries) (other ∷ others) all =
      ap₂ (λ line lines. line ++ lines) (line-shown registers entry other all.0) (lines-shown registers entries others all.1)

-- ---- events

-- the events of the module and of the fabric correspond, in both directions
same-events : (events : List ModuleEvent) → map module_event (map fabric_event events) ≡ events
same-events [] = refl
same-events (event ∷ events) = ap (λ rest. event ∷ rest) (same-events events)

-- ---- the text

-- The lines of a module's run, if it matches the run of a fabric.
pub run-shown : (input_name : InputPort → List ℕ) (name_of : Output → List ℕ) (fabric : Fabric) (m : Parts) (registers : Bool) (events : List ℕ) (entries : List Entry)
    → AllZip (MatchesAs input_name name_of fabric) entries (module_run m (map module_event (fabric_events m.ports events)))
    → run_text m (events_of m.ports events) registers ≡ fabric_text registers entries
unfolding run_text
run-shown input_name name_of fabric m registers events entries matches =
    ap (λ given. flat_map (entry_line registers) (module_run m given)) (sym (same-events (events_of m.ports events)))
    ∙ lines-shown input_name name_of fabric registers entries _ matches
