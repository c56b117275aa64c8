-- Clocked items over slots do what the items of the module do.
use Rattle.std.proofs.Common.{◌≡◌, ℕ, Bool, true, false, cond, List, ◌++◌, Option, Some, None, append-nil, ap, ap₂, flat_map, fold, length, refl, set, sym, ◌∙◌}
use Rattle.std.specs.Prelude.{◌&&◌, ◌||◌}
use Rattle.std.specs.Option.{option_map, option_map_or, option_to_list}
use Rattle.std.proofs.Math.Bool.{or_comm}
use Rattle.std.proofs.lemmas.List.Sums.{fold-append}
use Rattle.std.proofs.lemmas.List.{length-map}
use Rattle.vlog_module.specs.declared.atoms.Atom.TheVariants.{Whole}
use Rattle.vlog_module.specs.declared.item.Item.{Item}
use Rattle.vlog_module.specs.declared.item.Item.TheVariants.{FlipFlop as FlipItem, AsyncFlipFlop as FlipAtOnceItem}
use Rattle.vlog_module.specs.Maps.{value_in}
use Rattle.vlog_semantics.specs.declared.plan.FlipFlop.{FlipFlop}
use Rattle.vlog_semantics.specs.declared.plan.Operand.{Operand}
use Rattle.vlog_semantics.specs.declared.plan.Table.{Table}
use Rattle.vlog_semantics.specs.Entries.{Entry, put}
use Rattle.vlog_semantics.specs.Named.{names_of, values_of}
use Rattle.vlog_semantics.specs.Numbered.{numbered}
use Rattle.vlog_semantics.specs.Plans.{Places, at_reset, clock_slot, flip_of, flip_steps, of_two, operand_of, slot_operand, table_of}
use Rattle.vlog_semantics.specs.Run.{Edges, next_bit, put_given, readable, register_step}
use Rattle.vlog_semantics.specs.Steps.{SlotEdges, flip_slot, operand_value, table_value}
use Rattle.vlog_semantics.specs.Values.{Readable, atom_value, lut_value}
use Rattle.vlog_semantics.proofs.Atoms.{operand-at, slots_of, table-at}
use Rattle.vlog_semantics.proofs.Lookups.{put-slot}
use Rattle.vlog_semantics.proofs.Resting.{put-again}
use Rattle.vlog_semantics.proofs.Stepping.{cond-same, fold-keeps, fold-same-steps, given-out, names-given}

-- how names are resolved by the names of an entry
abbrev pub entry_places : Entry → Places
entry_places entry = record {
  pins = slots_of entry.inputs;
  bits = slots_of (readable entry).bits;
  registers = value_in (numbered (length entry.inputs) (names_of entry.registers));
  words = slots_of entry.words;
  memories = slots_of entry.memories;
}

-- the bits, if the registers have these
abbrev pub with_registers : Entry → List (List ℕ × Bool) → List Bool
with_registers entry registers = values_of entry.inputs ++ (values_of registers ++ values_of entry.wires)

-- a register gets a bit in its slot
pub register-placed : (entry : Entry) (registers : List (List ℕ × Bool)) (target : List ℕ) (value : Bool) → names_of registers ≡ names_of entry.registers
    → option_map_or (λ slot. set (with_registers entry registers) slot value) ((entry_places entry).registers target) (with_registers entry registers) ≡ with_registers entry (put registers target value)
register-placed entry registers target value named =
    let next : List Bool = with_registers entry registers in
    ap (λ names. option_map_or (λ slot. set next slot value) (value_in (numbered (length entry.inputs) names) target) next) (sym named)
    ∙ sym (put-slot (values_of entry.inputs) registers (values_of entry.wires) target value (length entry.inputs) (length-map entry.inputs (λ (e : List ℕ × Bool). e.1)))

-- ---- edges

-- whether a clock has its edge, by its slot; a name without a slot has none
abbrev pub at_slot : SlotEdges → Bool → Option ℕ → Bool
at_slot slots falling (Some slot) = slots falling slot
at_slot slots falling None = false

-- edges over slots are edges over the names of an entry
abbrev pub EdgesAgree : Entry → Edges → SlotEdges → Type 0
EdgesAgree entry edges slots = (falling : Bool) (clock : List ℕ) → at_slot slots falling (clock_slot (entry_places entry) clock) ≡ edges falling clock

-- ---- flip-flops

-- a flip-flop over slots
abbrev made_flip : Bool → Operand → Operand → Bool → Table → ℕ → ℕ → FlipFlop
made_flip falling enable reset set_to table pin slot = record {
  edge = record { clock = pin; falling = falling };
  enable = enable;
  reset = reset;
  set = set_to;
  target = slot;
  table = table;
}

flip-slots : (slots : SlotEdges) (bits : List Bool) (words : List ℕ) (next : List Bool) (falling : Bool) (pin target : Option ℕ) (enable reset : Operand) (set_to : Bool) (table : Table)
    → fold (flip_slot slots bits words) next (option_to_list (of_two pin target (made_flip falling enable reset set_to table)))
    ≡ cond (at_slot slots falling pin && operand_value bits words enable)
    (option_map_or (λ slot. set next slot (cond (operand_value bits words reset) set_to (table_value bits words table))) target next) next
flip-slots slots bits words next falling None target enable reset set_to table = refl
flip-slots slots bits words next falling (Some pin) None enable reset set_to table = cond-same _ next
flip-slots slots bits words next falling (Some pin) (Some slot) enable reset set_to table = refl

-- a flip-flop whose operands have these values
flip-acts : (entry : Entry) (edges : Edges) (slots : SlotEdges) (registers : List (List ℕ × Bool)) (falling : Bool) (clock target : List ℕ) (enable reset : Operand) (set_to : Bool) (table : Table) (enabled is_reset looked_up : Bool)
    → EdgesAgree entry edges slots → names_of registers ≡ names_of entry.registers
    → operand_value (values_of (readable entry).bits) (values_of entry.words) enable ≡ enabled
    → operand_value (values_of (readable entry).bits) (values_of entry.words) reset ≡ is_reset
    → table_value (values_of (readable entry).bits) (values_of entry.words) table ≡ looked_up
    → fold (flip_slot slots (values_of (readable entry).bits) (values_of entry.words)) (with_registers entry registers)
    (option_to_list (of_two (clock_slot (entry_places entry) clock) ((entry_places entry).registers target) (made_flip falling enable reset set_to table)))
    ≡ with_registers entry (put_given registers (cond (edges falling clock && enabled) (Some (target, cond is_reset set_to looked_up)) None))
flip-acts entry edges slots registers falling clock target enable reset set_to table enabled is_reset looked_up agree named enables resets looks =
    let bits : List Bool = values_of (readable entry).bits in
    let words : List ℕ = values_of entry.words in
    let at : Places = entry_places entry in
    let next : List Bool = with_registers entry registers in
    let found : Option ℕ = at.registers target in
    let value : Bool = cond is_reset set_to looked_up in
    let acts : Bool = edges falling clock && enabled in
    let clocked : at_slot slots falling (clock_slot at clock) ≡ edges falling clock = agree falling clock in
    flip-slots slots bits words next falling (clock_slot at clock) found enable reset set_to table
    ∙ ap₂ (λ c e. cond (c && e) (option_map_or (λ slot. set next slot (cond (operand_value bits words reset) set_to (table_value bits words table))) found next) next) clocked enables
    ∙ ap₂ (λ r v. cond acts (option_map_or (λ slot. set next slot (cond r set_to v)) found next) next) resets looks
    ∙ ap (λ list. cond acts list next) (register-placed entry registers target value named)
    ∙ given-out (with_registers entry) acts registers (target, value)

-- the second step of a flip-flop with asynchronous set or reset
reset-found : (falling : Bool) (enable reset : Operand) (set_to : Bool) (table : Table) (pin target : Option ℕ)
    → option_map at_reset (of_two pin target (made_flip falling enable reset set_to table)) ≡ of_two pin target (made_flip falling reset reset set_to table)
reset-found falling enable reset set_to table None target = refl
reset-found falling enable reset set_to table (Some pin) None = refl
reset-found falling enable reset set_to table (Some pin) (Some slot) = refl

-- what is given in one step or the other is given once
given-once : (b c : Bool) (registers : List (List ℕ × Bool)) (given : List ℕ × Bool)
    → put_given (put_given registers (cond b (Some given) None)) (cond c (Some given) None) ≡ put_given registers (cond (b || c) (Some given) None)
given-once true true registers given = put-again registers given.0 given.1 given.1
given-once true false registers given = refl
given-once false c registers given = refl

either-step : (clocked enabled is_reset : Bool) → ((clocked && enabled) || (clocked && is_reset)) ≡ (clocked && (is_reset || enabled))
either-step true enabled is_reset = or_comm enabled is_reset
either-step false enabled is_reset = refl

flip-step : (entry : Entry) (edges : Edges) (slots : SlotEdges) (registers : List (List ℕ × Bool)) (item : Item)
    → EdgesAgree entry edges slots → names_of registers ≡ names_of entry.registers
    → fold (flip_slot slots (values_of (readable entry).bits) (values_of entry.words)) (with_registers entry registers) (flip_steps (entry_places entry) item)
    ≡ with_registers entry (register_step edges entry registers item)
flip-step entry edges slots registers (FlipItem falling clock enable reset set_to target lut) agree named =
    let from : Readable = readable entry in
    ap (fold (flip_slot slots (values_of from.bits) (values_of entry.words)) (with_registers entry registers))
    (append-nil (option_to_list (flip_of (entry_places entry) (FlipItem falling clock enable reset set_to target lut))))
    ∙ flip-acts entry edges slots registers falling clock target _ _ set_to _ (atom_value from enable) (atom_value from reset) (lut_value from lut)
    agree named (operand-at from enable) (operand-at from reset) (table-at from lut)
flip-step entry edges slots registers (FlipAtOnceItem falling clock reset set_to target enable lut) agree named =
    let from : Readable = readable entry in
    let at : Places = entry_places entry in
    let step : List Bool → FlipFlop → List Bool = flip_slot slots (values_of from.bits) (values_of entry.words) in
    let pin : Option ℕ = clock_slot at clock in
    let slot : Option ℕ = at.registers target in
    let enabled_by : Operand = operand_of at.bits at.words enable in
    let reset_by : Operand = slot_operand (at.bits reset) in
    let table : Table = table_of at.bits at.words lut in
    let first : Option FlipFlop = of_two pin slot (made_flip falling enabled_by reset_by set_to table) in
    let second : Option FlipFlop = of_two pin slot (made_flip falling reset_by reset_by set_to table) in
    let clocked : Bool = edges falling clock in
    let enabled : Bool = atom_value from enable in
    let is_reset : Bool = atom_value from (Whole reset) in
    let given : List ℕ × Bool = (target, cond is_reset set_to (lut_value from lut)) in
    let next : List (List ℕ × Bool) = put_given registers (cond (clocked && enabled) (Some given) None) in
    fold-append step (with_registers entry registers) (option_to_list first) (option_to_list (option_map at_reset first))
    ∙ ap (λ found. fold step (fold step (with_registers entry registers) (option_to_list first)) (option_to_list found)) (reset-found falling enabled_by reset_by set_to table pin slot)
    ∙ ap (λ after. fold step after (option_to_list second))
    (flip-acts entry edges slots registers falling clock target enabled_by reset_by set_to table enabled is_reset (lut_value from lut) agree named (operand-at from enable) (operand-at from (Whole reset)) (table-at from lut))
    ∙ flip-acts entry edges slots next falling clock target reset_by reset_by set_to table is_reset is_reset (lut_value from lut)
    agree (names-given registers (cond (clocked && enabled) (Some given) None) ∙ named) (operand-at from (Whole reset)) (operand-at from (Whole reset)) (table-at from lut)
    ∙ ap (with_registers entry) (given-once (clocked && enabled) (clocked && is_reset) registers given)
    ∙ ap (λ acts. with_registers entry (put_given registers (cond acts (Some given) None))) (either-step clocked enabled is_reset)
flip-step entry edges slots registers other agree named = refl

-- the registers after a step
pub flips-same : (entry : Entry) (edges : Edges) (slots : SlotEdges) (registers : List (List ℕ × Bool)) (items : List Item)
    → EdgesAgree entry edges slots → names_of registers ≡ names_of entry.registers
    → fold (flip_slot slots (values_of (readable entry).bits) (values_of entry.words)) (with_registers entry registers) (flat_map (flip_steps (entry_places entry)) items)
    ≡ with_registers entry (fold (register_step edges entry) registers items)
flips-same entry edges slots registers items agree named =
    fold-same-steps (flip_slot slots (values_of (readable entry).bits) (values_of entry.words)) (flip_steps (entry_places entry)) (with_registers entry) (register_step edges entry)
    (λ next. names_of next ≡ names_of entry.registers)
    (λ next item kept. names-given next (next_bit edges entry item) ∙ kept)
    (λ next item kept. flip-step entry edges slots next item agree kept)
    registers items named

pub names-flips : (entry : Entry) (edges : Edges) (registers : List (List ℕ × Bool)) (items : List Item) → names_of (fold (register_step edges entry) registers items) ≡ names_of registers
names-flips entry edges registers items =
    fold-keeps (register_step edges entry) (λ next. names_of next ≡ names_of registers)
    (λ next item kept. names-given next (next_bit edges entry item) ∙ kept) registers items refl
