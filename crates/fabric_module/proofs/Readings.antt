-- A register that a wire sets at once is read by its own driver's wire alone, and there but for the time in which that wire is 1.
use Rattle.std.proofs.Common.{◌≡◌, ℕ, zero, suc, Bool, true, false, List, [], ◌∷◌, map, get_or, refl, sym, ap, ◌∙◌, subst, inl, inr}
use Rattle.std.specs.Prelude.{All, Contains, Some, None, not, ◌||◌, bytes_eq}
use Rattle.std.proofs.lemmas.Bool.{cases_Bool, and_from}
use Rattle.std.proofs.lemmas.List.Elements.{All-nil, All-cons, All-head, All-tail, All-filter, All-contains_itself}
use Rattle.shared_lemmas.proofs.Bytes.{bytes_eq-same}
use Rattle.vlog_module.specs.Uses.{Use, right_uses}
use Rattle.vlog_module.specs.WellFormed.{Reading, read_by, is_unless, is_read_unless, wire_readings}
use Rattle.vlog_module.specs.WellFormed.Reading.{plainly, unless}
use Rattle.fabric_model.specs.declared.register.Register.{Register}
use Rattle.fabric_model.specs.declared.input_port.InputPort.{InputPort}
use Rattle.fabric_model.specs.Fabric.{Fabric, inputs_of}
use Rattle.fabric_model.specs.Drivers.{Drive, drives_of, is_driver_of, drivers_of, is_driven}
use Rattle.fabric_model.proofs.Within.{All-flat_map, All-single}
use Rattle.fabric_module.specs.Names.{input_port_name, register_name, wire_name}
use Rattle.fabric_module.specs.Rights.{input_name, setting_wire, right_by, class_right}
use Rattle.fabric_module.specs.Written.{class_wire}
use Rattle.fabric_module.proofs.Lists.{named-one}
use Rattle.fabric_module.proofs.Apart.{register-begins, input-no_register, wire-no_register}
use Rattle.fabric_module.proofs.Settled.{IsWritable}
use Rattle.fabric_module.proofs.Used.{Allows, right-fine}

-- what is read isn't a register that a wire sets at once, or is read but for the time in which that wire is 1
abbrev pub IsReadWell : Fabric → List ℕ × Reading → Type 0
IsReadWell fabric one = (register : Register) (wire : List ℕ) → Contains fabric.registers register → setting_wire fabric register ≡ Some wire
    → (not (bytes_eq one.0 (register_name register)) || is_unless wire register.«set» one.1) ≡ true

abbrev IsUsedWell : Fabric → Use → Type 0
IsUsedWell fabric used = All (IsReadWell fabric) (read_by used)

-- so each reading is as the register's item wants it
pub read-unless : (fabric : Fabric) (readings : List (List ℕ × Reading)) → All (IsReadWell fabric) readings → (register : Register) (wire : List ℕ)
    → Contains fabric.registers register → setting_wire fabric register ≡ Some wire → is_read_unless readings wire register.«set» (register_name register) ≡ true
read-unless fabric [] all register wire there is = refl
read-unless fabric (one ∷ readings) all register wire there is =
    and_from (not (bytes_eq one.0 (register_name register)) || is_unless wire register.«set» one.1) (is_read_unless readings wire register.«set» (register_name register))
    (All-head (IsReadWell fabric) one readings all register wire there is) (read-unless fabric readings (All-tail (IsReadWell fabric) one readings all) register wire there is)

name-no_register : (ports : List InputPort) (place : ℕ) (register : Register) → bytes_eq (get_or (map input_port_name ports) place []) (register_name register) ≡ false
name-no_register [] place register = register-begins (λ name. bytes_eq [] name ≡ false) (λ rest. refl) (λ rest. refl) (λ rest. refl) register
name-no_register (port ∷ ports) zero register = input-no_register port register
name-no_register (port ∷ ports) (suc place) register = name-no_register ports place register

itself : (wire : List ℕ) (set : Bool) → is_unless wire set (unless wire set) ≡ true
itself wire true = and_from (bytes_eq wire wire) true (bytes_eq-same wire wire refl) refl
itself wire false = and_from (bytes_eq wire wire) true (bytes_eq-same wire wire refl) refl

module _ (fabric : Fabric) (writable : IsWritable fabric) where
  -- another name is read well in each way
  other-well : (name : List ℕ) (reading : Reading) → ((register : Register) → bytes_eq name (register_name register) ≡ false) → IsReadWell fabric (name, reading)
  other-well name reading away register wire there is = rw (away register) refl

  -- a register that no wire sets is read plainly
  plain-well : (one : Register) → Contains fabric.registers one → setting_wire fabric one ≡ None → IsReadWell fabric (register_name one, plainly)
  plain-well one of_one none register wire there is =
      elim (cases_Bool (bytes_eq (register_name one) (register_name register))) [
        | inl same ↦
            let equal : one ≡ register = named-one register_name fabric.registers one register writable.registers of_one there same in
            let never : None ≡ Some wire = sym none ∙ (ap (setting_wire fabric) equal ∙ is) in absurd cc
        | inr away ↦ rw away refl
      ]

  -- one that a wire sets is read but for the time in which that wire is 1
  choice-well : (one : Register) (reset : List ℕ) → Contains fabric.registers one → setting_wire fabric one ≡ Some reset → IsReadWell fabric (register_name one, unless reset one.«set»)
  choice-well one reset of_one found register wire there is =
      elim (cases_Bool (bytes_eq (register_name one) (register_name register))) [
        | inl same ↦
            let equal : one ≡ register = named-one register_name fabric.registers one register writable.registers of_one there same in
            let wires : Some reset ≡ Some wire = sym found ∙ (ap (setting_wire fabric) equal ∙ is) in
            let wire_is : reset ≡ wire = cc in
            let sets : one.«set» ≡ register.«set» = ap (λ (r : Register). r.«set») equal in
            let as_read : is_unless wire register.«set» (unless reset one.«set») ≡ true =
            subst (λ w. is_unless w register.«set» (unless reset one.«set») ≡ true) wire_is
            (subst (λ bit. is_unless reset bit (unless reset one.«set») ≡ true) sets (itself reset one.«set»)) in
            rw (same, as_read) refl
        | inr away ↦ rw away refl
      ]

  reads-well : Allows fabric (is_driven fabric) (IsUsedWell fabric)
  reads-well = record {
    input = λ place within. All-single (IsReadWell fabric) (input_name fabric place, plainly) (other-well (input_name fabric place) plainly (name-no_register (inputs_of fabric) place));
    wire = λ class driven. All-single (IsReadWell fabric) (wire_name class, plainly) (other-well (wire_name class) plainly (wire-no_register class));
    register = λ register there none. All-single (IsReadWell fabric) (register_name register, plainly) (plain-well register there none);
    read = λ ram bit within few. All-nil (IsReadWell fabric);
    reset = λ class driven. All-nil (IsReadWell fabric);
    choice = λ register wire there is. All-single (IsReadWell fabric) (register_name register, unless wire register.«set») (choice-well register wire there is);
  }

  by-well : (drives : List Drive) → All (Contains (drives_of fabric)) drives → All (IsUsedWell fabric) (right_uses (right_by fabric drives))
  by-well [] all = All-nil (IsUsedWell fabric)
  by-well (drive ∷ drives) all =
      right-fine fabric (is_driven fabric) (IsUsedWell fabric) reads-well drive.rule (writable.places drive (All-head (Contains (drives_of fabric)) drive drives all)) (λ n reads connected. connected)

  -- what the wire of a class reads is read well
  pub class-well : (class : ℕ) → All (IsReadWell fabric) (wire_readings (class_wire fabric class))
  unfolding class_right drivers_of
  class-well class =
      All-flat_map (IsReadWell fabric) read_by (right_uses (class_right fabric class))
      (by-well (drivers_of fabric class) (All-filter (is_driver_of fabric class) (Contains (drives_of fabric)) (drives_of fabric) (All-contains_itself (drives_of fabric))))

  pub classes-well : (order : List ℕ) → All (λ item. All (IsReadWell fabric) (wire_readings item)) (map (class_wire fabric) order)
  classes-well [] = All-nil (λ item. All (IsReadWell fabric) (wire_readings item))
  classes-well (class ∷ order) = All-cons (λ item. All (IsReadWell fabric) (wire_readings item)) (class_wire fabric class) (map (class_wire fabric) order) (class-well class) (classes-well order)
