-- Outputs over slots have the values of their atoms.
use Rattle.std.proofs.Common.{◌≡◌, ℕ, Bool, true, false, cond, List, [], ◌∷◌, ◌++◌, ap, ap₂, flat_map, fold, refl, ◌∙◌}
use Rattle.std.specs.Prelude.{bytes_eq, map}
use Rattle.std.proofs.lemmas.List.{map-append}
use Rattle.vlog_module.specs.declared.item.Item.{Item}
use Rattle.vlog_module.specs.declared.item.Item.TheVariants.{Assign}
use Rattle.vlog_module.specs.declared.modules.Port.{Port}
use Rattle.vlog_semantics.specs.declared.plan.Operand.{Operand}
use Rattle.vlog_semantics.specs.declared.plan.Operand.TheVariants.{Constant}
use Rattle.vlog_semantics.specs.Entries.{put}
use Rattle.vlog_semantics.specs.Named.{values_of}
use Rattle.vlog_semantics.specs.Plans.{blank_output, operand_of, output_operand, outputs_of}
use Rattle.vlog_semantics.specs.Run.{output_start, output_step}
use Rattle.vlog_semantics.specs.Steps.{operand_value}
use Rattle.vlog_semantics.specs.Values.{Readable}
use Rattle.vlog_semantics.proofs.Atoms.{operand-at, slots_of}

-- names with the values of their operands
abbrev valued : List Bool → List ℕ → List (List ℕ × Operand) → List (List ℕ × Bool)
valued bits words entries = map (λ entry. (entry.0, operand_value bits words entry.1)) entries

values-valued : (bits : List Bool) (words : List ℕ) (entries : List (List ℕ × Operand)) → map (operand_value bits words) (values_of entries) ≡ values_of (valued bits words entries)
values-valued bits words [] = refl
values-valued bits words (entry ∷ entries) = ap (λ rest. operand_value bits words entry.1 ∷ rest) (values-valued bits words entries)

valued-put : (bits : List Bool) (words : List ℕ) (entries : List (List ℕ × Operand)) (name : List ℕ) (operand : Operand)
    → valued bits words (put entries name operand) ≡ put (valued bits words entries) name (operand_value bits words operand)
valued-put bits words [] name operand = refl
valued-put bits words (entry ∷ entries) name operand =
    elim (bytes_eq entry.0 name) as (λ b. valued bits words (cond b ((entry.0, operand) ∷ entries) (entry ∷ put entries name operand))
    ≡ cond b ((entry.0, operand_value bits words operand) ∷ valued bits words entries) ((entry.0, operand_value bits words entry.1) ∷ put (valued bits words entries) name (operand_value bits words operand))) [
      | true ↦ refl
      | false ↦ ap (λ rest. (entry.0, operand_value bits words entry.1) ∷ rest) (valued-put bits words entries name operand)
    ]

valued-port : (bits : List Bool) (words : List ℕ) (port : Port) → valued bits words (blank_output port) ≡ output_start port
valued-port bits words port =
    elim port.output as (λ b. valued bits words (cond b ((port.name, Constant false) ∷ []) []) ≡ cond b ((port.name, false) ∷ []) []) [ true ↦ refl | false ↦ refl ]

valued-ports : (bits : List Bool) (words : List ℕ) (ports : List Port) → valued bits words (flat_map blank_output ports) ≡ flat_map output_start ports
valued-ports bits words [] = refl
valued-ports bits words (port ∷ ports) =
    map-append (λ (entry : List ℕ × Operand). (entry.0, operand_value bits words entry.1)) (blank_output port) (flat_map blank_output ports)
    ∙ ap₂ (λ first rest. first ++ rest) (valued-port bits words port) (valued-ports bits words ports)

valued-fold : (from : Readable) (entries : List (List ℕ × Operand)) (items : List Item)
    → valued (values_of from.bits) (values_of from.words) (fold (output_operand (slots_of from.bits) (slots_of from.words)) entries items)
    ≡ fold (output_step from) (valued (values_of from.bits) (values_of from.words) entries) items
valued-fold from entries [] = refl
valued-fold from entries (Assign name value ∷ items) =
    let operand : Operand = operand_of (slots_of from.bits) (slots_of from.words) value in
    valued-fold from (put entries name operand) items
    ∙ ap (λ outputs. fold (output_step from) outputs items)
    (valued-put (values_of from.bits) (values_of from.words) entries name operand
    ∙ ap (put (valued (values_of from.bits) (values_of from.words) entries) name) (operand-at from value))
valued-fold from entries (other ∷ items) = valued-fold from entries items

-- the outputs
pub outputs-same : (from : Readable) (ports : List Port) (items : List Item)
    → map (operand_value (values_of from.bits) (values_of from.words)) (values_of (outputs_of (slots_of from.bits) (slots_of from.words) ports items))
    ≡ values_of (fold (output_step from) (flat_map output_start ports) items)
outputs-same from ports items =
    values-valued (values_of from.bits) (values_of from.words) (outputs_of (slots_of from.bits) (slots_of from.words) ports items)
    ∙ ap values_of (valued-fold from (flat_map blank_output ports) items
    ∙ ap (λ outputs. fold (output_step from) outputs items) (valued-ports (values_of from.bits) (values_of from.words) ports))
