-- The parts of a design and what its drivers name are there.
use Rattle.std.proofs.Common.{Bool, ◌≡◌, ℕ, ◌<◌, ◌≤◌, true, List, [], ◌∷◌, ◌++◌, length, map, get_or, refl, sym, ap, ◌∙◌, subst, arith, inl, inr}
use Rattle.std.specs.Prelude.{All, Contains, Option, Some, None, option_to_list}
use Rattle.std.proofs.lemmas.Bool.{cases_Bool}
use Rattle.std.proofs.lemmas.List.Elements.{All-from_get_or, All-nil, All-cons, All-head, All-tail, All-contains, All-contains_itself, All-weaker}
use Rattle.shared_lemmas.proofs.Lists.{All-both}
use Rattle.fabric_model.specs.Fabric.{Fabric, fabric_with}
use Rattle.fabric_model.specs.declared.signal.Signal.{Signal}
use Rattle.fabric_model.specs.declared.signal.Signal.TheVariants as signal
use Rattle.fabric_model.specs.declared.register.Register.{Register}
use Rattle.fabric_model.specs.Within.{IsNetIn, IsPinIn, IsRamIn, IsSignalIn as IsNetSignalIn, IsRegisterIn as IsNetRegisterIn}
use Rattle.fabric_model.specs.Drivers.{drivers_of, drives_of, is_driven, nets_read}
use Rattle.fabric_model.specs.Outputs.{Output, outputs_of}
use Rattle.fabric_model.specs.Signals.{net_or_0, signal_nets}
use Rattle.fabric_model.specs.Clocks.{LeadsTo, clock_end}
use Rattle.fabric_model.specs.Clocks.ClockEnd.{at_pin, at_register}
use Rattle.graph_order.specs.Wiring.{has}
use Rattle.fabric_model.proofs.Signals.{IsSignalThere, HasSignals, signal-there}
use Rattle.fabric_model.proofs.Settling.{outputs-have}
use Rattle.fabric_model.proofs.Facts.{has-some, has-source, has-left, has-right}
use Rattle.graph_order.proofs.OneOrder.{has-first}
use Rattle.fabric_model.proofs.OneValue.{first-driver, first-is, none-driven}
use Rattle.fabric_model.proofs.Clocking.{clocked-count}
use Rattle.fabric_model.proofs.Within.{fabric-within, outputs-within as read-by-outputs}
use Rattle.fabric_model.proofs.Chains.{clock_end-leads_clocked}
use Rattle.fabric_model.specs.Joins.{class_of}
use Rattle.fabric_model.specs.Links.{class_in}
use Rattle.fabric_wiring.specs.declared.drive.Rule.{Rule as KeptRule}
use Rattle.fabric_wiring.specs.declared.drive.Rule.TheVariants.{PinBit, Constant, Input, TableEntry, MajorityOf, RegisterBit, ReadBit, Copied}
use Rattle.fabric_wiring.specs.declared.drive.Drive.{Drive as KeptDrive}
use Rattle.fabric_wiring.specs.Drives.{drive_of, rule_of}
use Rattle.fabric_wiring.specs.Outputs.{output_of}
use Rattle.fabric_wiring.specs.DriverLists.{driver_in}
use Rattle.fabric_wiring.specs.Ends.{end_in}
use Rattle.fabric.specs.Kept.{Kept}
use Rattle.fabric.specs.Design.{IsDesign}
use Rattle.fabric_module.proofs.Lists.{item-there}
use Rattle.fabric_module.proofs.Rights.{IsPlaceIn}
use Rattle.fabric_module.proofs.Beginning.{IsPorted}
use Rattle.fabric_module.proofs.Configured.{fabric-started}
use Rattle.fabric_module.proofs.Settled.{IsWritable}
use Rattle.fabric_module.proofs.Ticks.{leads-place, leads-index}
use Rattle.fabric_module.proofs.Design.{fabric-writable}
use Rattle.vlog_emit.specs.Each.{nets_in, IsSignalIn, IsRegisterIn, IsRuleIn}
use Rattle.vlog_emit.proofs.Kept.{end-is}

-- ---- nets that may be missing

-- a net that may be missing exists if each net that it can be exists
net-from : (nets : ℕ) (net : Option ℕ) → ((n : ℕ) → net ≡ Some n → n < nets) → IsNetIn nets net
net-from nets None each = tt
net-from nets (Some n) each = each n refl

-- so is the net that an input reads
signal-from : (nets : ℕ) (source : Signal) → ((n : ℕ) → has (signal_nets source) n ≡ true → n < nets) → IsNetSignalIn nets source
signal-from nets (signal.Net net otherwise) each = net-from nets net (λ n at. each n (has-some net n at))
signal-from nets (signal.Input place) each = tt
signal-from nets (signal.Register place) each = tt

-- what holds of each item of a changed list holds of each item, once it is changed
all-unmapped : {A B : Type 0} (P : B → Type 0) (change : A → B) (list : List A) → All P (map change list) → All (λ item. P (change item)) list
all-unmapped P change [] all = All-nil (λ item. P (change item))
all-unmapped P change (item ∷ list) all =
    All-cons (λ one. P (change one)) item list (All-head P (change item) (map change list) all)
    (all-unmapped P change list (All-tail P (change item) (map change list) all))

-- ---- the parts

module _ (design : Kept) (is : IsDesign design) where
  abbrev fabric : Fabric
  fabric = fabric_with design.parts.options is.0 is.1

  count : nets_in design ≡ fabric.nets
  count = is.2.kept.drivers.classes

  writable : IsWritable fabric
  writable = fabric-writable design.parts.options is.0 is.1 is.2.fit is.2.few is.2.taken

  -- what an input reads is there
  signal-in : (source : Signal) → IsNetSignalIn (nets_in design) source → IsSignalThere fabric source → IsSignalIn design source
  signal-in (signal.Net net otherwise) net_in there = net_in
  signal-in (signal.Input place) net_in there = subst (λ pins. place < length pins) (sym is.2.kept.inputs) there
  signal-in (signal.Register place) net_in there = subst (λ registers. place < length registers) (sym is.2.kept.parts.registers) there.0

  register-in : (register : Register) → IsNetRegisterIn fabric.nets register → HasSignals fabric register → IsRegisterIn design register
  register-in register nets there =
      let counted : IsNetRegisterIn (nets_in design) register = subst (λ n. IsNetRegisterIn n register) (sym count) nets in
      record {
        clk = counted.clk;
        enable = signal-in register.enable counted.enable there.enable;
        sr = counted.sr;
        table = All-both (IsNetSignalIn (nets_in design)) (IsSignalThere fabric) (IsSignalIn design) signal-in register.table.ins counted.ins there.ins;
      }

  pub registers-within : All (IsRegisterIn design) design.parts.registers.items
  registers-within =
      subst (All (IsRegisterIn design)) (sym is.2.kept.parts.registers)
      (All-both (IsNetRegisterIn fabric.nets) (HasSignals fabric) (IsRegisterIn design) register-in
      fabric.registers is.2.kept.parts.within.registers writable.tables)

  pub pins-within : All (IsPinIn (nets_in design)) design.parts.pins.items
  pins-within =
      subst (λ nets. All (IsPinIn nets) design.parts.pins.items) (sym count)
      (subst (All (IsPinIn fabric.nets)) (sym is.2.kept.parts.pins) is.2.kept.parts.within.pins)

  pub rams-within : All (IsRamIn (nets_in design)) design.parts.rams.items
  rams-within =
      subst (λ nets. All (IsRamIn nets) design.parts.rams.items) (sym count)
      (subst (All (IsRamIn fabric.nets)) (sym is.2.kept.parts.rams) is.2.kept.parts.within.rams)

  ported : All IsPorted design.parts.rams.items
  ported = subst (All IsPorted) (sym is.2.kept.parts.rams) (fabric-started is.0 is.1 design.parts.options).each_port

  -- the modes of RAMs are 0 to 3
  pub reads-moded : All (λ ram. ram.read ≤ 3) design.parts.rams.items
  reads-moded = All-weaker IsPorted (λ ram. ram.read ≤ 3) (λ ram of_ram. of_ram.read_mode) design.parts.rams.items ported

  pub writes-moded : All (λ ram. ram.write ≤ 3) design.parts.rams.items
  writes-moded = All-weaker IsPorted (λ ram. ram.write ≤ 3) (λ ram of_ram. of_ram.write_mode) design.parts.rams.items ported

  pub order-within : All (λ class. class < nets_in design) design.order
  order-within = All-from_get_or (λ class. class < nets_in design) design.order 0 (λ place less.
      let below = (is.2.kept.order.each place less).ready.within in
      let same = clocked-count fabric in
      let nets = count in
      omega arith)

  -- ---- drivers

  -- the nets and places of a rule of the fabric
  rule-in : (rule : KeptRule) → IsPlaceIn fabric (rule_of rule)
      → ((net : ℕ) → has (nets_read (rule_of rule)) net ≡ true → net < nets_in design) → IsRuleIn design rule
  unfolding nets_read
  rule-in (PinBit place) there reads = subst (λ pins. place < length pins) (sym is.2.kept.inputs) there
  rule-in (Constant bit) there reads = tt
  rule-in (Input source) there reads = signal-in source (signal-from (nets_in design) source reads) there
  rule-in (TableEntry table) there reads =
      All-from_get_or (IsSignalIn design) table.ins (net_or_0 None)
      (λ k less. signal-in (get_or table.ins k (net_or_0 None)) (signal-from (nets_in design) (get_or table.ins k (net_or_0 None)) (λ n at. reads n (has-source table.ins k n at)))
      (signal-there fabric table.ins k there))
  rule-in (MajorityOf a b c) there reads =
      let first = option_to_list a in
      let second = option_to_list b in
      let third = option_to_list c in (
        net-from (nets_in design) a (λ n at. reads n (has-left first (second ++ third) n (has-some a n at))),
        net-from (nets_in design) b (λ n at. reads n (has-right first (second ++ third) n (has-left second third n (has-some b n at)))),
        net-from (nets_in design) c (λ n at. reads n (has-right first (second ++ third) n (has-right second third n (has-some c n at)))),
      )
  rule-in (RegisterBit place register) there reads =
      let among : Contains design.parts.registers.items register =
      subst (λ registers. Contains registers register) (sym is.2.kept.parts.registers) (item-there fabric.registers (place, register) there) in
      All-contains (IsRegisterIn design) design.parts.registers.items register registers-within among
  rule-in (ReadBit ram bit) there reads = subst (λ rams. ram < length rams) (sym is.2.kept.parts.rams) there.0
  rule-in (Copied net) there reads = reads net (has-first net [])

  -- what an output reads is there
  abbrev OutputThere : Output → Type 0
  OutputThere output = IsSignalThere fabric output.source × ((net : ℕ) → has (signal_nets output.source) net ≡ true → net < fabric.nets)

  outputs-there : All OutputThere (outputs_of fabric)
  outputs-there =
      All-weaker (Contains (outputs_of fabric)) OutputThere
      (λ output there. (
        All-contains (λ (one : Output). IsSignalThere fabric one.source) (outputs_of fabric) output (outputs-have fabric is.2.kept.parts.within) there,
        read-by-outputs fabric is.2.kept.parts.within output there,
      )) (outputs_of fabric) (All-contains_itself (outputs_of fabric))

  pub outputs-within : All (λ output. IsSignalIn design output.source) design.outputs
  outputs-within =
      All-weaker (λ output. OutputThere (output_of output)) (λ output. IsSignalIn design output.source)
      (λ output there. signal-in output.source (signal-from (nets_in design) output.source
      (λ net reads. let below : net < fabric.nets = there.1 net reads in let nets = count in omega arith)) there.0)
      design.outputs (all-unmapped OutputThere output_of design.outputs (subst (All OutputThere) (sym is.2.kept.outputs) outputs-there))

  -- what the driver of a class names
  pub driver-within : (class : ℕ) → class < nets_in design → (drive : KeptDrive) → driver_in design.drivers class ≡ Some drive → IsRuleIn design drive.rule
  driver-within class below drive at =
      let within : class < fabric.nets = (let nets = count in omega arith) in
      let one : drivers_of fabric class ≡ drive_of drive ∷ [] = is.2.kept.drivers.each class within ∙ ap (λ found. map drive_of (option_to_list found)) at in
      elim (cases_Bool (is_driven fabric class)) [
        | inl driven ↦
            let found = first-driver fabric class driven in
            let first : drivers_of fabric class ≡ found.0 ∷ found.1 = first-is fabric class found.0 found.1 found.2 in
            let same : found.0 ≡ drive_of drive = cc in
            let there : Contains (drives_of fabric) (drive_of drive) = subst (Contains (drives_of fabric)) same found.2.there in
            rule-in drive.rule (writable.places (drive_of drive) there)
            (λ net reads. let below : net < fabric.nets = (fabric-within is.0 is.1 is.2.fit design.parts.options).reads (drive_of drive) there net reads in let nets = count in omega arith)
        | inr away ↦ let none : drivers_of fabric class ≡ [] = none-driven fabric class away in absurd cc
      ]

  -- ---- clocks

  -- a chain ends at an input pin that is there
  pub clock-within : (net : ℕ) → net < nets_in design → (place : ℕ) (turned : Bool) → end_in design.ends (class_in design.parts.links net) ≡ at_pin place turned → place < length design.inputs
  clock-within net below place turned at =
      let ends : clock_end fabric net ≡ at_pin place turned = sym (end-is fabric design is.2.kept net below) ∙ at in
      subst (λ pins. place < length pins) (sym is.2.kept.inputs)
      (leads-place fabric writable
      (clock_end-leads_clocked fabric (fabric-within is.0 is.1 is.2.fit design.parts.options) design.order is.2.kept.order net) place turned ends)

  -- or at a register that is there
  pub register-within : (net : ℕ) → net < nets_in design → (class place : ℕ) (turned : Bool) → end_in design.ends (class_in design.parts.links net) ≡ at_register class place turned
      → place < length design.parts.registers.items
  register-within net below class place turned at =
      let within = fabric-within is.0 is.1 is.2.fit design.parts.options in
      let ends : clock_end fabric net ≡ at_register class place turned = sym (end-is fabric design is.2.kept net below) ∙ at in
      subst (λ registers. place < length registers) (sym is.2.kept.parts.registers)
      (leads-index fabric within (class_of fabric.joins net) class place turned
      (subst (LeadsTo fabric (class_of fabric.joins net)) ends (clock_end-leads_clocked fabric within design.order is.2.kept.order net)))
