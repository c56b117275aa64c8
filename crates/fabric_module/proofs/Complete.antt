-- Each output of a written module is assigned.
use Rattle.std.proofs.Common.{◌≡◌, ℕ, true, List, [], ◌∷◌, ◌++◌, map, refl, sym, ap, ◌∙◌, subst}
use Rattle.std.specs.Prelude.{All, Contains, ◌||◌, filter, flat_map, bytes_eq, IsTrue}
use Rattle.std.specs.List.{list_any}
use Rattle.std.proofs.lemmas.Grind.{flat_map-append}
use Rattle.std.proofs.lemmas.List.Folds.{list_any-append}
use Rattle.std.proofs.lemmas.List.Elements.{All-nil, All-cons, All-weaker, All-contains, All-contains_itself, All-map}
use Rattle.std.proofs.lemmas.Bool.{or_left, or_right}
use Rattle.shared_lemmas.proofs.Bytes.{bytes_eq-same}
use Rattle.vlog_module.specs.declared.item.Item.{Item}
use Rattle.vlog_module.specs.Uses.{uses_of}
use Rattle.vlog_module.specs.WellFormed.{assigned_by, is_assigned, IsComplete}
use Rattle.vlog_module.specs.declared.modules.Port.{Port}
use Rattle.fabric_model.specs.Fabric.{Fabric}
use Rattle.fabric_model.specs.Outputs.{Output, outputs_of}
use Rattle.fabric_model.proofs.OneValue.{filter-has}
use Rattle.fabric_module.specs.Names.{output_name}
use Rattle.fabric_module.specs.Written.{output_assign}
use Rattle.fabric_module.proofs.Ports.{ports_of, port_of, outputs-ports}

assigned-both : (first second : List Item) (name : List ℕ) → is_assigned (first ++ second) name ≡ (is_assigned first name || is_assigned second name)
assigned-both first second name =
    ap (λ uses. list_any (λ other. bytes_eq other name) (flat_map assigned_by uses)) (flat_map-append uses_of first second)
    ∙ (ap (list_any (λ other. bytes_eq other name)) (flat_map-append assigned_by (flat_map uses_of first) (flat_map uses_of second))
    ∙ list_any-append (λ other. bytes_eq other name) (flat_map assigned_by (flat_map uses_of first)) (flat_map assigned_by (flat_map uses_of second)))

pub assigned-front : (first second : List Item) (name : List ℕ) → is_assigned first name ≡ true → is_assigned (first ++ second) name ≡ true
assigned-front first second name is = assigned-both first second name ∙ or_left (is_assigned first name) (is_assigned second name) is

pub assigned-after : (first second : List Item) (name : List ℕ) → is_assigned second name ≡ true → is_assigned (first ++ second) name ≡ true
assigned-after first second name is = assigned-both first second name ∙ or_right (is_assigned first name) (is_assigned second name) is

module _ (fabric : Fabric) where
  all-assigned : (outputs : List Output) → All (λ output. is_assigned (map (output_assign fabric) outputs) (output_name output) ≡ true) outputs
  all-assigned [] = All-nil (λ output. is_assigned [] (output_name output) ≡ true)
  all-assigned (output ∷ outputs) =
      All-cons (λ other. is_assigned (map (output_assign fabric) (output ∷ outputs)) (output_name other) ≡ true) output outputs
      (rw (bytes_eq-same (output_name output) (output_name output) refl) refl)
      (All-weaker (λ other. is_assigned (map (output_assign fabric) outputs) (output_name other) ≡ true) (λ other. is_assigned (map (output_assign fabric) (output ∷ outputs)) (output_name other) ≡ true)
      (λ other is. assigned-after (output_assign fabric output ∷ []) (map (output_assign fabric) outputs) (output_name other) is) outputs (all-assigned outputs))

  -- items that assign all outputs, with others around them
  pub outputs-complete : (front back : List Item) → IsComplete (ports_of fabric) (front ++ (map (output_assign fabric) (outputs_of fabric) ++ back))
  outputs-complete front back =
      let items = front ++ (map (output_assign fabric) (outputs_of fabric) ++ back) in
      let assigned : All (λ (port : Port). is_assigned (front ++ (map (output_assign fabric) (outputs_of fabric) ++ back)) port.name ≡ true) (filter (λ port. port.output) (ports_of fabric)) =
      subst (All (λ (port : Port). is_assigned (front ++ (map (output_assign fabric) (outputs_of fabric) ++ back)) port.name ≡ true)) (sym (outputs-ports fabric))
      (All-map (λ (port : Port). is_assigned (front ++ (map (output_assign fabric) (outputs_of fabric) ++ back)) port.name ≡ true) port_of (outputs_of fabric)
      (All-weaker (λ output. is_assigned (map (output_assign fabric) (outputs_of fabric)) (output_name output) ≡ true) (λ output. is_assigned (front ++ (map (output_assign fabric) (outputs_of fabric) ++ back)) (output_name output) ≡ true)
      (λ output is.
      assigned-after front (map (output_assign fabric) (outputs_of fabric) ++ back) (output_name output)
      (assigned-front (map (output_assign fabric) (outputs_of fabric)) back (output_name output) is)) (outputs_of fabric) (all-assigned (outputs_of fabric)))) in
      All-weaker (λ (port : Port). Contains (ports_of fabric) port) (λ (port : Port). IsTrue port.output → IsTrue (is_assigned items port.name))
      (λ port there is.
      All-contains (λ (other : Port). is_assigned items other.name ≡ true) (filter (λ other. other.output) (ports_of fabric)) port assigned
      (filter-has (λ other. other.output) (ports_of fabric) port there is)) (ports_of fabric) (All-contains_itself (ports_of fabric))
