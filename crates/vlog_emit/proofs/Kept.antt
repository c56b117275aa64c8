-- What is kept of a design tells the drivers and the clocks of its fabric.
use Rattle.std.proofs.Common.{◌≡◌, ℕ, ◌<◌, true, false, List, [], ◌∷◌, ◌++◌, append_assoc, length, map, get_or, refl, sym, ap, ◌∙◌, subst, arith, inl, inr}
use Rattle.std.specs.Prelude.{Option, Some, None, option_to_list, flat_map, if◌then◌else◌}
use Rattle.std.proofs.lemmas.Bool.{cases_Bool}
use Rattle.vlog_module.specs.declared.item.Right.TheVariants as right
use Rattle.vlog_module.specs.declared.item.Item.{Item}
use Rattle.vlog_module.specs.declared.item.Item.TheVariants.{Start}
use Rattle.fabric_model.specs.declared.ram.RamCell.{RamCell}
use Rattle.fabric_model.specs.Joins.{class_of}
use Rattle.fabric_model.specs.Fabric.{Fabric, numbered}
use Rattle.fabric_model.specs.Outputs.{outputs_of}
use Rattle.fabric_model.specs.Drivers.{drivers_of}
use Rattle.fabric_model.specs.Values.{is_connected}
use Rattle.fabric_model.specs.Clocks.{ClockEnd, clock_end}
use Rattle.fabric_model.proofs.Joins.{class_of-le}
use Rattle.fabric_model.proofs.OneValue.{first-driver, first-is, none-driven}
use Rattle.fabric_model.specs.Links.{class_in}
use Rattle.fabric_wiring.specs.declared.drive.Drive.{Drive as KeptDrive}
use Rattle.fabric_wiring.specs.Drives.{drive_of, rule_of}
use Rattle.fabric_wiring.specs.DriverLists.{driver_in}
use Rattle.fabric_wiring.specs.Ends.{end_in}
use Rattle.fabric.specs.Kept.{Kept, word_in, IsKeptOf}
use Rattle.fabric_module.specs.Names.{memory_name}
use Rattle.fabric_module.specs.Rights.{class_right, right_by, right_of}
use Rattle.fabric_module.specs.Written.{end_name, clock_name, register_item, read_register, ram_memory, class_wire, output_assign, register_items, read_items, write_items, start_item, start_items, items_of}
use Rattle.vlog_emit.specs.Each.{nets_in}

module _ (fabric : Fabric) (design : Kept) (kept : IsKeptOf fabric design) where
  class-below : (net : ℕ) → net < nets_in design → class_of fabric.joins net < fabric.nets
  class-below net below = let least = class_of-le fabric.joins net in let count = kept.drivers.classes in omega arith

  -- the driver of a net's class
  drivers-are : (net : ℕ) → net < nets_in design
      → drivers_of fabric (class_of fabric.joins net) ≡ map drive_of (option_to_list (driver_in design.drivers (class_in design.parts.links net)))
  drivers-are net below =
      kept.drivers.each (class_of fabric.joins net) (class-below net below)
      ∙ ap (λ class. map drive_of (option_to_list (driver_in design.drivers class))) (sym (kept.parts.classes net))

  -- a net whose class has a driver
  pub connected-some : (net : ℕ) → net < nets_in design → (drive : KeptDrive) → driver_in design.drivers (class_in design.parts.links net) ≡ Some drive → is_connected fabric net ≡ true
  connected-some net below drive is =
      elim (cases_Bool (is_connected fabric net)) [
        | inl driven ↦ driven
        | inr away ↦
            let some : drivers_of fabric (class_of fabric.joins net) ≡ drive_of drive ∷ [] = drivers-are net below ∙ ap (λ found. map drive_of (option_to_list found)) is in
            let none : drivers_of fabric (class_of fabric.joins net) ≡ [] = none-driven fabric (class_of fabric.joins net) away in
            absurd cc
      ]

  -- one whose class has none
  pub connected-none : (net : ℕ) → net < nets_in design → driver_in design.drivers (class_in design.parts.links net) ≡ None → is_connected fabric net ≡ false
  connected-none net below is =
      elim (cases_Bool (is_connected fabric net)) [
        | inl driven ↦
            let none : drivers_of fabric (class_of fabric.joins net) ≡ [] = drivers-are net below ∙ ap (λ found. map drive_of (option_to_list found)) is in
            let found = first-driver fabric (class_of fabric.joins net) driven in
            let some : drivers_of fabric (class_of fabric.joins net) ≡ found.0 ∷ found.1 = first-is fabric (class_of fabric.joins net) found.0 found.1 found.2 in
            absurd cc
        | inr away ↦ away
      ]

  -- the right side of a class by its driver
  pub right-some : (class : ℕ) → class < nets_in design → (drive : KeptDrive) → driver_in design.drivers class ≡ Some drive → class_right fabric class ≡ right_of fabric (rule_of drive.rule)
  unfolding class_right
  right-some class below drive is =
      let count = kept.drivers.classes in
      let within : class < fabric.nets = omega arith in
      ap (right_by fabric) (kept.drivers.each class within ∙ ap (λ found. map drive_of (option_to_list found)) is)

  pub right-none : (class : ℕ) → class < nets_in design → driver_in design.drivers class ≡ None → class_right fabric class ≡ right.Bit false
  unfolding class_right
  right-none class below is =
      let count = kept.drivers.classes in
      let within : class < fabric.nets = omega arith in
      ap (right_by fabric) (kept.drivers.each class within ∙ ap (λ found. map drive_of (option_to_list found)) is)

  -- the class of joined nets that a net belongs to, if it has a driver
  pub driven-some : (net : ℕ) → net < nets_in design → (class : ℕ) → class ≡ class_in design.parts.links net → (found : Option KeptDrive) (drive : KeptDrive)
      → found ≡ driver_in design.drivers class → found ≡ Some drive → Some class ≡ (if is_connected fabric net then Some (class_of fabric.joins net) else None)
  driven-some net below class of_class found drive of_found is =
      let at : driver_in design.drivers (class_in design.parts.links net) ≡ Some drive = ap (driver_in design.drivers) (sym of_class) ∙ (sym of_found ∙ is) in
      rw (connected-some net below drive at) (ap (λ n. Some n) (of_class ∙ kept.parts.classes net))

  pub driven-none : (net : ℕ) → net < nets_in design → (class : ℕ) → class ≡ class_in design.parts.links net → (found : Option KeptDrive)
      → found ≡ driver_in design.drivers class → found ≡ None → None ≡ (if is_connected fabric net then Some (class_of fabric.joins net) else None)
  driven-none net below class of_class found of_found is =
      let at : driver_in design.drivers (class_in design.parts.links net) ≡ None = ap (driver_in design.drivers) (sym of_class) ∙ (sym of_found ∙ is) in
      rw (connected-none net below at) refl

  -- where the clock of a net comes from
  pub end-is : (net : ℕ) → net < nets_in design → end_in design.ends (class_in design.parts.links net) ≡ clock_end fabric net
  end-is net below =
      let count = kept.drivers.classes in
      let within : net < fabric.nets = omega arith in
      ap (end_in design.ends) (kept.parts.classes net) ∙ kept.ends.each net within

  -- its port
  pub clock-end : (net : ℕ) → net < nets_in design → (end : ClockEnd) → end ≡ end_in design.ends (class_in design.parts.links net) → end_name fabric end ≡ clock_name fabric (Some net)
  unfolding clock_name
  clock-end net below end at = ap (end_name fabric) (at ∙ end-is net below)

  -- a start word of a RAM
  pub start-is : (ram : RamCell) (place word : ℕ) → place < length design.parts.rams.items → word < 256 → (memory : List ℕ) (start : ℕ) → memory ≡ memory_name ram
      → start ≡ word_in design.words place word → Start memory word start ≡ start_item ram (get_or fabric.start place []) word
  start-is ram place word there below memory start of_memory of_start =
      let within : place < length fabric.rams = subst (λ rams. place < length rams) kept.parts.rams there in
      ap (λ name. Start name word start) of_memory ∙ ap (λ n. Start (memory_name ram) word n) (of_start ∙ kept.words.each place word within below)

  -- all items
  pub items-whole : (rams : List RamCell) (none state values changes starts : List Item) → rams ≡ design.parts.rams.items → none ≡ []
      → state ≡ none ++ (map register_item design.parts.registers.items ++ (map read_register design.parts.rams.items ++ map ram_memory design.parts.rams.items))
      → values ≡ state ++ (map (class_wire fabric) design.order ++ map (output_assign fabric) (outputs_of fabric))
      → changes ≡ values ++ (flat_map (register_items fabric) fabric.registers ++ (flat_map (read_items fabric) fabric.rams ++ flat_map (write_items fabric) fabric.rams))
      → starts ≡ changes ++ flat_map (start_items fabric) (numbered rams) → starts ≡ items_of fabric design.order
  unfolding items_of
  items-whole rams none state values changes starts of_rams of_none of_state of_values of_changes of_starts =
      let registers : design.parts.registers.items ≡ fabric.registers = kept.parts.registers in
      let memories : design.parts.rams.items ≡ fabric.rams = kept.parts.rams in
      let places : rams ≡ fabric.rams = of_rams ∙ memories in
      simp (of_starts, of_changes, of_values, of_state, of_none, registers, places, memories, append_assoc)
