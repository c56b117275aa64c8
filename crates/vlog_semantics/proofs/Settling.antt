-- Registers with an asynchronous set or reset, over slots and by their names.
use Rattle.std.proofs.Common.{◌≡◌, ℕ, Bool, true, false, cond, List, Option, Some, None, ap₂, fold, get_or, refl, set, sym, ◌∙◌}
use Rattle.std.specs.Prelude.{unwrap_or}
use Rattle.std.specs.List.{filter_map}
use Rattle.std.specs.Option.{option_map, option_map_or, option_to_list}
use Rattle.vlog_module.specs.declared.atoms.Atom.TheVariants.{Whole}
use Rattle.vlog_module.specs.declared.item.Item.{Item}
use Rattle.vlog_module.specs.declared.item.Item.TheVariants.{AsyncFlipFlop, AsyncReset}
use Rattle.vlog_semantics.specs.Entries.{Entry, put}
use Rattle.vlog_semantics.specs.Named.{names_of, values_of}
use Rattle.vlog_semantics.specs.Plans.{Places, of_two, settle_of, settle_over}
use Rattle.vlog_semantics.specs.Run.{readable, settle_step}
use Rattle.vlog_semantics.specs.Steps.{settle_slot}
use Rattle.vlog_semantics.specs.Values.{Readable, atom_value}
use Rattle.vlog_semantics.proofs.Clocked.{entry_places, register-placed, with_registers}
use Rattle.vlog_semantics.proofs.Lookups.{names-put, value_in-slots}
use Rattle.vlog_semantics.proofs.Stepping.{cond-same, fold-keeps, fold-same}

-- ---- one item

names-rest : (from : Readable) (registers : List (List ℕ × Bool)) (reset target : List ℕ) (set_to : Bool)
    → names_of (cond (atom_value from (Whole reset)) (put registers target set_to) registers) ≡ names_of registers
names-rest from registers reset target set_to =
    elim (atom_value from (Whole reset)) as (λ b. names_of (cond b (put registers target set_to) registers) ≡ names_of registers) [
      | true ↦ names-put registers target set_to
      | false ↦ refl
    ]

names-step : (from : Readable) (registers : List (List ℕ × Bool)) (item : Item) → names_of (settle_step from registers item) ≡ names_of registers
names-step from registers (AsyncFlipFlop falling clock reset set_to target enable lut) = names-rest from registers reset target set_to
names-step from registers (AsyncReset reset set_to target) = names-rest from registers reset target set_to
names-step from registers other = refl

settle-slots : (bits next : List Bool) (wire target : Option ℕ) (set_to : Bool)
    → fold (settle_slot bits) next (option_to_list (of_two wire target (λ w slot. record { wire = w; set = set_to; target = slot })))
    ≡ cond (unwrap_or (option_map (λ slot. get_or bits slot false) wire) false) (option_map_or (λ slot. set next slot set_to) target next) next
settle-slots bits next None target set_to = refl
settle-slots bits next (Some wire) None set_to = cond-same _ next
settle-slots bits next (Some wire) (Some slot) set_to = refl

registers-out : (entry : Entry) (b : Bool) (x y : List (List ℕ × Bool)) → cond b (with_registers entry x) (with_registers entry y) ≡ with_registers entry (cond b x y)
registers-out entry true x y = refl
registers-out entry false x y = refl

settle-over : (entry : Entry) (registers : List (List ℕ × Bool)) (reset target : List ℕ) (set_to : Bool) → names_of registers ≡ names_of entry.registers
    → fold (settle_slot (values_of (readable entry).bits)) (with_registers entry registers) (option_to_list (settle_over (entry_places entry) reset set_to target))
    ≡ with_registers entry (cond (atom_value (readable entry) (Whole reset)) (put registers target set_to) registers)
settle-over entry registers reset target set_to named =
    let at : Places = entry_places entry in
    let next : List Bool = with_registers entry registers in
    let acts : Bool = atom_value (readable entry) (Whole reset) in
    settle-slots (values_of (readable entry).bits) next (at.bits reset) (at.registers target) set_to
    ∙ ap₂ (λ value list. cond (unwrap_or value false) list next) (sym (value_in-slots (readable entry).bits reset false)) (register-placed entry registers target set_to named)
    ∙ registers-out entry acts (put registers target set_to) registers

settle-step : (entry : Entry) (registers : List (List ℕ × Bool)) (item : Item) → names_of registers ≡ names_of entry.registers
    → fold (settle_slot (values_of (readable entry).bits)) (with_registers entry registers) (option_to_list (settle_of (entry_places entry) item))
    ≡ with_registers entry (settle_step (readable entry) registers item)
settle-step entry registers (AsyncFlipFlop falling clock reset set_to target enable lut) named = settle-over entry registers reset target set_to named
settle-step entry registers (AsyncReset reset set_to target) named = settle-over entry registers reset target set_to named
settle-step entry registers other named = refl

-- ---- all items

-- asynchronous sets and resets of registers, over slots
pub rests-same : (entry : Entry) (registers : List (List ℕ × Bool)) (items : List Item) → names_of registers ≡ names_of entry.registers
    → fold (settle_slot (values_of (readable entry).bits)) (with_registers entry registers) (filter_map (settle_of (entry_places entry)) items)
    ≡ with_registers entry (fold (settle_step (readable entry)) registers items)
rests-same entry registers items named =
    fold-same (settle_slot (values_of (readable entry).bits)) (settle_of (entry_places entry)) (with_registers entry) (settle_step (readable entry))
    (λ next. names_of next ≡ names_of entry.registers)
    (λ next item kept. names-step (readable entry) next item ∙ kept)
    (λ next item kept. settle-step entry next item kept)
    registers items named

pub names-rests : (from : Readable) (registers : List (List ℕ × Bool)) (items : List Item) → names_of (fold (settle_step from) registers items) ≡ names_of registers
names-rests from registers items =
    fold-keeps (settle_step from) (λ next. names_of next ≡ names_of registers)
    (λ next item kept. names-step from next item ∙ kept) registers items refl
