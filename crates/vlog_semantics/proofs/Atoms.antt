-- Operands over slots have the values of their atoms.
use Rattle.std.proofs.Common.{◌≡◌, ℕ, Bool, false, cond, List, [], ◌∷◌, ◌++◌, Option, Some, None, ap, ap₂, append-nil, get_or, refl, sym, ◌∙◌}
use Rattle.std.specs.Prelude.{map, unwrap_or}
use Rattle.std.specs.Option.{option_map, option_map_or}
use Rattle.vlog_module.specs.declared.atoms.Atom.{Atom}
use Rattle.vlog_module.specs.declared.atoms.Atom.TheVariants.{Bit, Whole, Part}
use Rattle.vlog_module.specs.declared.item.Lut.{Lut}
use Rattle.vlog_module.specs.declared.item.Right.{Right}
use Rattle.vlog_module.specs.declared.item.Right.TheVariants.{Bit as RightBit, Whole as RightWhole, Part as RightPart, Lut as RightLut, Majority as RightMajority, Choose as RightChoose}
use Rattle.vlog_module.specs.Maps.{value_in}
use Rattle.vlog_semantics.specs.Named.{names_of, values_of}
use Rattle.vlog_semantics.specs.Numbered.{numbered}
use Rattle.vlog_semantics.specs.Plans.{operand_of, operands_of, part_operand, rule_of, slot_operand, table_of}
use Rattle.vlog_semantics.specs.Steps.{operand_value, operands_value, rule_value, table_value}
use Rattle.vlog_semantics.specs.Values.{Readable, atom_value, atoms_value, bit_of, lut_value, majority, number_of, right_value}
use Rattle.vlog_semantics.proofs.Lookups.{value_in-slot, value_in-slots}

slot-value : (bits : List Bool) (words : List ℕ) (found : Option ℕ) → operand_value bits words (slot_operand found) ≡ unwrap_or (option_map (λ slot. get_or bits slot false) found) false
slot-value bits words (Some slot) = refl
slot-value bits words None = refl

part-value : (bits : List Bool) (words : List ℕ) (k : ℕ) (found : Option ℕ)
    → operand_value bits words (part_operand found k) ≡ option_map_or (λ word. bit_of word k) (option_map (λ slot. get_or words slot 0) found) false
part-value bits words k (Some slot) = refl
part-value bits words k None = refl

-- the slots of names of one bit, and of registers of 16 bits
abbrev pub slots_of : {A : Type 0} → List (List ℕ × A) → List ℕ → Option ℕ
slots_of entries = value_in (numbered 0 (names_of entries))

-- an operand, whatever is in later slots
pub operand-same : (from : Readable) (after : List Bool) (atom : Atom)
    → operand_value (values_of from.bits ++ after) (values_of from.words) (operand_of (slots_of from.bits) (slots_of from.words) atom) ≡ atom_value from atom
operand-same from after (Bit bit) = refl
operand-same from after (Whole name) =
    slot-value (values_of from.bits ++ after) (values_of from.words) (slots_of from.bits name)
    ∙ ap (λ value. unwrap_or value false) (sym (value_in-slot [] from.bits after name false 0 refl))
operand-same from after (Part name k) =
    part-value (values_of from.bits ++ after) (values_of from.words) k (slots_of from.words name)
    ∙ ap (λ value. option_map_or (λ word. bit_of word k) value false) (sym (value_in-slots from.words name 0))

operands-same : (from : Readable) (after : List Bool) (atoms : List Atom)
    → map (operand_value (values_of from.bits ++ after) (values_of from.words)) (operands_of (slots_of from.bits) (slots_of from.words) atoms) ≡ map (atom_value from) atoms
operands-same from after [] = refl
operands-same from after (atom ∷ atoms) = ap₂ (λ bit bits. bit ∷ bits) (operand-same from after atom) (operands-same from after atoms)

-- the number of operands
pub number-same : (from : Readable) (after : List Bool) (atoms : List Atom)
    → operands_value (values_of from.bits ++ after) (values_of from.words) (operands_of (slots_of from.bits) (slots_of from.words) atoms) ≡ atoms_value from atoms
number-same from after atoms = ap number_of (operands-same from after atoms)

-- a table
pub table-same : (from : Readable) (after : List Bool) (lut : Lut)
    → table_value (values_of from.bits ++ after) (values_of from.words) (table_of (slots_of from.bits) (slots_of from.words) lut) ≡ lut_value from lut
table-same from after lut = ap (bit_of lut.word) (number-same from after lut.ins)

-- a right side
pub rule-same : (from : Readable) (after : List Bool) (right : Right)
    → rule_value (values_of from.bits ++ after) (values_of from.words) (rule_of (slots_of from.bits) (slots_of from.words) right) ≡ right_value from right
rule-same from after (RightBit bit) = refl
rule-same from after (RightWhole name) = operand-same from after (Whole name)
rule-same from after (RightPart name k) = operand-same from after (Part name k)
rule-same from after (RightLut lut) = table-same from after lut
rule-same from after (RightMajority a b c) =
    ap₂ (λ f z. f z) (ap₂ majority (operand-same from after a) (operand-same from after b)) (operand-same from after c)
rule-same from after (RightChoose reset set_to target) =
    ap₂ (λ one other. cond one set_to other) (operand-same from after (Whole reset)) (operand-same from after (Whole target))

-- ---- all slots

pub operand-at : (from : Readable) (atom : Atom)
    → operand_value (values_of from.bits) (values_of from.words) (operand_of (slots_of from.bits) (slots_of from.words) atom) ≡ atom_value from atom
operand-at from atom =
    ap (λ bits. operand_value bits (values_of from.words) (operand_of (slots_of from.bits) (slots_of from.words) atom)) (sym (append-nil (values_of from.bits)))
    ∙ operand-same from [] atom

pub number-at : (from : Readable) (atoms : List Atom)
    → operands_value (values_of from.bits) (values_of from.words) (operands_of (slots_of from.bits) (slots_of from.words) atoms) ≡ atoms_value from atoms
number-at from atoms =
    ap (λ bits. operands_value bits (values_of from.words) (operands_of (slots_of from.bits) (slots_of from.words) atoms)) (sym (append-nil (values_of from.bits)))
    ∙ number-same from [] atoms

pub table-at : (from : Readable) (lut : Lut)
    → table_value (values_of from.bits) (values_of from.words) (table_of (slots_of from.bits) (slots_of from.words) lut) ≡ lut_value from lut
table-at from lut =
    ap (λ bits. table_value bits (values_of from.words) (table_of (slots_of from.bits) (slots_of from.words) lut)) (sym (append-nil (values_of from.bits)))
    ∙ table-same from [] lut
