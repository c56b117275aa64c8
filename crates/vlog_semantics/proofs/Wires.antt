-- Wires over slots.
use Rattle.std.proofs.Common.{◌≡◌, ℕ, ◌+◌, ◌<◌, Bool, List, [], ◌∷◌, ◌++◌, Option, append_assoc, append-nil, ap, arith, ap₂, fold, get_or, length, set, sym, take, ◌∙◌}
use Rattle.std.proofs.lemmas.List.{take_more, map_push, set_at, length-map}
use Rattle.vlog_module.specs.declared.item.Item.{Item}
use Rattle.vlog_module.specs.declared.item.Item.TheVariants.{Wire}
use Rattle.vlog_module.specs.Maps.{value_in}
use Rattle.vlog_semantics.specs.Named.{names_of, values_of}
use Rattle.vlog_semantics.specs.Numbered.{numbered}
use Rattle.vlog_semantics.specs.Plans.{rule_of, wires_of}
use Rattle.vlog_semantics.specs.Run.{wire_step}
use Rattle.vlog_semantics.specs.Steps.{rule_value, wire_slot}
use Rattle.vlog_semantics.specs.Values.{Readable, right_value}
use Rattle.vlog_semantics.proofs.Atoms.{rule-same, slots_of}
use Rattle.vlog_semantics.specs.ModuleSlots.{wire_names}

-- the wires of one item more
pub wires_of-push : (words : List ℕ → Option ℕ) (names : List (List ℕ)) (items : List Item) (item : Item)
    → wires_of words names (items ++ item ∷ []) ≡ wires_of words names items ++ wires_of words (names ++ wire_names items) (item ∷ [])
wires_of-push words names [] item = ap (λ all. wires_of words all (item ∷ [])) (sym (append-nil names))
wires_of-push words names (Wire name right ∷ items) item =
    ap (λ rest. record { slot = length names; rule = rule_of (value_in (numbered 0 names)) words right } ∷ rest)
    (wires_of-push words (names ++ name ∷ []) items item
    ∙ ap (λ all. wires_of words (names ++ name ∷ []) items ++ wires_of words all (item ∷ [])) (append_assoc names (name ∷ []) (wire_names items)))
wires_of-push words names (other ∷ items) item = wires_of-push words names items item

pub wires_of-more : (words : List ℕ → Option ℕ) (names : List (List ℕ)) (items : List Item) (i : ℕ) (item : Item) → i < length items → item ≡ get_or items i item
    → wires_of words names (take (i + 1) items) ≡ wires_of words names (take i items) ++ wires_of words (names ++ wire_names (take i items)) (item ∷ [])
wires_of-more words names items i item within at =
    ap (wires_of words names) (take_more items i item within ∙ ap (λ last. take i items ++ last ∷ []) (sym at)) ∙ wires_of-push words names (take i items) item

-- ---- the values of wires

-- the names of wires, once they have their values
pub names-settled : (known : List (List ℕ × Bool)) (words : List (List ℕ × ℕ)) (wires : List (List ℕ × Bool)) (items : List Item)
    → names_of (fold (wire_step known words) wires items) ≡ names_of wires ++ wire_names items
names-settled known words wires [] = sym (append-nil (names_of wires))
names-settled known words wires (Wire name right ∷ items) =
    let wire : List ℕ × Bool = (name, right_value (record { bits = known ++ wires; words = words }) right) in
    names-settled known words (wires ++ wire ∷ []) items
    ∙ ap (λ names. names ++ wire_names items) (map_push (λ (e : List ℕ × Bool). e.0) wires wire)
    ∙ append_assoc (names_of wires) (name ∷ []) (wire_names items)
names-settled known words wires (other ∷ items) = names-settled known words wires items

-- each wire gets its value, whatever it had before
pub settle-same : (known : List (List ℕ × Bool)) (words : List (List ℕ × ℕ)) (done : List (List ℕ × Bool)) (items : List Item) (old : List Bool) → length old ≡ length (wire_names items)
    → fold (wire_slot (values_of words)) (values_of (known ++ done) ++ old) (wires_of (slots_of words) (names_of (known ++ done)) items) ≡ values_of (known ++ fold (wire_step known words) done items)
settle-same known words done [] [] size = append-nil (values_of (known ++ done))
settle-same known words done [] (bit ∷ old) size = absurd (omega arith)
settle-same known words done (Wire name right ∷ items) [] size = absurd (omega arith)
settle-same known words done (Wire name right ∷ items) (bit ∷ old) size =
    let from : Readable = record { bits = known ++ done; words = words } in
    let value : Bool = right_value from right in
    let entry : List ℕ × Bool = (name, value) in
    let names : List (List ℕ) = names_of (known ++ done) in
    let bits : List Bool = values_of (known ++ done) in
    let next : (known ++ done) ++ entry ∷ [] ≡ known ++ (done ++ entry ∷ []) = append_assoc known done (entry ∷ []) in
    let set_to : set (bits ++ bit ∷ old) (length names) (rule_value (bits ++ bit ∷ old) (values_of words) (rule_of (slots_of (known ++ done)) (slots_of words) right)) ≡ values_of (known ++ (done ++ entry ∷ [])) ++ old =
    ap (set (bits ++ bit ∷ old) (length names)) (rule-same from (bit ∷ old) right)
    ∙ set_at bits bit old value (length names) (length-map (known ++ done) (λ (e : List ℕ × Bool). e.1) ∙ sym (length-map (known ++ done) (λ (e : List ℕ × Bool). e.0)))
    ∙ sym (append_assoc bits (value ∷ []) old)
    ∙ ap (λ list. list ++ old) (sym (map_push (λ (e : List ℕ × Bool). e.1) (known ++ done) entry) ∙ ap values_of next) in
    let named : names ++ name ∷ [] ≡ names_of (known ++ (done ++ entry ∷ [])) =
    sym (map_push (λ (e : List ℕ × Bool). e.0) (known ++ done) entry) ∙ ap names_of next in
    ap₂ (λ list all. fold (wire_slot (values_of words)) list (wires_of (slots_of words) all items)) set_to named
    ∙ settle-same known words (done ++ entry ∷ []) items old (omega arith)
settle-same known words done (other ∷ items) old size = settle-same known words done items old size
