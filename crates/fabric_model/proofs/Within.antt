-- The fabric of a database whose lines name nets of the device has no net past their number.
use Rattle.std.proofs.Common.{◌≡◌, ℕ, zero, suc, ◌+◌, ◌*◌, ◌<◌, ◌≤◌, Bool, true, false, List, [], ◌∷◌, ◌++◌, length, map, refl, subst, inl, inr, arith}
use Rattle.std.specs.Prelude.{All, Contains, not, Option, Some, None, find, filter, flat_map, option_map, option_and_then, option_to_list, get_or, if◌then◌else◌}
use Rattle.std.proofs.lemmas.Bool.{cases_Bool}
use Rattle.std.proofs.lemmas.List.{length-map, length-append}
use Rattle.std.proofs.lemmas.List.Elements.{All-nil, All-cons, All-head, All-tail, All-append, All-map, All-filter, All-weaker, All-contains, All-contains_itself}
use Rattle.index_search.proofs.Gathered.{All-gathered_below}
use Rattle.plane_map.specs.declared.device.DeviceName.{DeviceName}
use Rattle.plane_map.specs.declared.tile.TileKind.{TileKind}
use Rattle.plane_map.specs.declared.tile.TileKind.TheVariants.{Logic, RamB}
use Rattle.plane_map.specs.Layout.{kind_of, grid_width, grid_height}
use Rattle.chipdb_lines.specs.declared.chip.Chip.{Chip}
use Rattle.chipdb_lines.specs.Items.{NameLine, PllLine}
use Rattle.chipdb_lines.specs.Statements.{is_kind_there}
use Rattle.chipdb_reader.specs.declared.items.TileXy8.{TileXy8}
use Rattle.chipdb_reader.specs.declared.items.PinXy.{PinXy}
use Rattle.chipdb_reader.specs.Database.{Database, Link, Pll as PllCell}
use Rattle.chipdb_reader.specs.Lookups.{net_at, input_of}
use Rattle.chipdb_reader.specs.Fit.{IsFit, IsNameLine, IsLink}
use Rattle.ice_image.specs.Configuration.{Configuration}
use Rattle.index_search.specs.Places.{gathered_below, or_else}
use Rattle.fabric_model.specs.declared.cell.LogicCell.{LogicCell}
use Rattle.fabric_model.specs.declared.lut_inputs.LutInputs.{LutInputs}
use Rattle.fabric_model.specs.declared.lut_inputs.LutInputs.TheVariants as read
use Rattle.fabric_model.specs.declared.options.FabricOptions.{FabricOptions}
use Rattle.fabric_model.specs.Luts.{uses_input, used_input, inputs_read}
use Rattle.fabric_model.specs.declared.cell.CarrySet.{CarrySet}
use Rattle.fabric_model.specs.declared.signal.Signal.{Signal}
use Rattle.fabric_model.specs.declared.signal.Signal.TheVariants as signal
use Rattle.fabric_model.specs.declared.register.PinRegister.{PinRegister}
use Rattle.fabric_model.specs.declared.register.PinRegister.TheVariants as kind
use Rattle.fabric_model.specs.declared.register.Register.{Register}
use Rattle.fabric_model.specs.declared.ram.RamCell.{RamCell}
use Rattle.fabric_model.specs.declared.pin.Pin.{Pin}
use Rattle.fabric_model.specs.declared.pin.PadDrive.{PadDrive}
use Rattle.fabric_model.specs.declared.pin.PadDrive.TheVariants as drive
use Rattle.fabric_model.specs.declared.pin.PadData.{PadData}
use Rattle.fabric_model.specs.declared.pin.PadData.TheVariants as sends
use Rattle.fabric_model.specs.declared.pin.GlobalNet.{GlobalNet}
use Rattle.fabric_model.specs.declared.pin.GlobalFrom.{GlobalFrom}
use Rattle.fabric_model.specs.declared.pin.GlobalFrom.TheVariants.{Pad, Pll, Fabout}
use Rattle.fabric_model.specs.declared.pll.PllOutput.{PllOutput}
use Rattle.fabric_model.specs.declared.pll.PllOutput.TheVariants as output
use Rattle.fabric_model.specs.declared.pll.PllSource.{PllSource}
use Rattle.fabric_model.specs.declared.driver.Driver.{Driver}
use Rattle.fabric_model.specs.On.{is_link_on}
use Rattle.fabric_model.specs.Tiles.{over_grid, over_tiles, at_kind, each_below, item_if}
use Rattle.fabric_model.specs.Nets.{net_named}
use Rattle.fabric_model.specs.Cells.{cell_bits, cell_with, used_cell, cells_at, cells_of, set_with, sets_at, sets_of, carry_in_net}
use Rattle.fabric_model.specs.Rams.{port_net, is_ram_used, ram_at, rams_of}
use Rattle.fabric_model.specs.PinTypes.{is_by_register}
use Rattle.fabric_model.specs.Pins.{PinPlace, pin_places, drives, pin_with, port_at, pins_of, net_count, global_fabout, global_source, from_pll, source_of_global, global_pad, is_global_net, global_nets, nets_from, globals_of}
use Rattle.fabric_model.specs.Plls.{pll_type, outputs_in, output_line, output_pin, output_net, line_named, net_by, clock_source, source_of, sources_in, pll_sources, is_pin_at}
use Rattle.fabric_model.specs.PllPorts.{is_source_read, pll_ports}
use Rattle.fabric_model.specs.Fabric.{Fabric, Buffer, numbered_from, numbered, joins_of, buffer_of, buffers_of, fabric_with, flip_count}
use Rattle.fabric_model.specs.Drivers.{Rule, Drive, drives_if, drives_by, pin_drives, data_of, pad_of, enable_of, back_drives, lut_drives, flip_driver, flip_drives, lout_drives, carry_drives, set_drives, read_data_rule, ram_drive, ram_drives, global_rule, global_drives, buffer_drives, input_driver, input_drives, second_driver, second_drives, data_by_table, data_table, data_drives, pad_table, pad_drives, pll_drives, drives_of, nets_read}
use Rattle.fabric_model.specs.Drivers.Rule.{pin_bit, constant, input, table_entry, majority_of, register_bit, read_bit, copied}
use Rattle.graph_order.specs.Wiring.{has}
use Rattle.fabric_model.specs.Signals.{net_or_0, signal_nets}
use Rattle.fabric_model.specs.Registers.{table_of, register_of, flips_among, registers_of, registers_in, key_in, pin_keys, data_by, data_signal, pad_by, pad_signal, enable_signal, is_of_inputs, driven_net, clock_enable, taken_by, pin_register, pin_registers_of}
use Rattle.fabric_model.specs.Outputs.{Output, enable_outputs, pin_outputs, outputs_of}
use Rattle.fabric_model.specs.Within.{IsNetIn, IsPinIn, IsCellIn, IsSignalIn, is_async_at, IsRegisterIn, IsSetIn, IsRamIn, IsFromIn, IsGlobalIn, IsBufferIn, IsJoinIn, IsClosed}
use Rattle.graph_order.proofs.OneOrder.{has-none, has-cases}
use Rattle.fabric_model.proofs.OneValue.{IsWithin}

-- ---- lists

pub All-flat_map : {X A : Type 0} (P : A → Type 0) (f : X → List A) (xs : List X) → All (λ x. All P (f x)) xs → All P (flat_map f xs)
All-flat_map P f [] all = All-nil P
All-flat_map P f (x ∷ xs) all =
    All-append P (f x) (flat_map f xs) (All-head (λ y. All P (f y)) x xs all) (All-flat_map P f xs (All-tail (λ y. All P (f y)) x xs all))

pub All-single : {X : Type 0} (P : X → Type 0) (x : X) → P x → All P (x ∷ [])
All-single P x here = All-cons P x [] here (All-nil P)

pub All-item_if : {A : Type 0} (P : A → Type 0) (passes : Bool) (item : A) → P item → All P (item_if passes item)
All-item_if P true item here = All-single P item here
All-item_if P false item here = All-nil P

pub All-if : {A : Type 0} (P : A → Type 0) (passes : Bool) (list : List A) → All P list → All P (if passes then list else [])
All-if P true list all = all
All-if P false list all = All-nil P

pub All-unless : {A : Type 0} (P : A → Type 0) (passes : Bool) (list : List A) → All P list → All P (if passes then [] else list)
All-unless P true list all = All-nil P
All-unless P false list all = all

-- what holds of a list that is there if a test passes
pub if-when : {A : Type 0} (P : A → Type 0) (passes : Bool) (list : List A) → (passes ≡ true → All P list) → All P (if passes then list else [])
if-when P true list all = all refl
if-when P false list all = All-nil P

-- what holds of the items that pass a test
pub All-filtered : {A : Type 0} (P : A → Type 0) (test : A → Bool) (xs : List A) → All (λ x. test x ≡ true → P x) xs → All P (filter test xs)
All-filtered P test [] all = All-nil P
All-filtered P test (x ∷ xs) all =
    let rest = All-filtered P test xs (All-tail (λ y. test y ≡ true → P y) x xs all) in
    elim (cases_Bool (test x)) [
      | inl here ↦ rw here (All-cons P x (filter test xs) (All-head (λ y. test y ≡ true → P y) x xs all here) rest)
      | inr away ↦ rw away rest
    ]

-- what holds of an item that may be missing
abbrev pub HoldsOf : {A : Type 0} → (A → Type 0) → Option A → Type 0
HoldsOf P None = Unit {0}
HoldsOf P (Some item) = P item

-- what holds of all items holds of the one that is found
pub find-holds : {A : Type 0} (P : A → Type 0) (test : A → Bool) (items : List A) → All P items → HoldsOf P (find test items)
find-holds P test [] all = tt
find-holds P test (item ∷ items) all =
    elim (cases_Bool (test item)) [
      | inl here ↦ rw here (All-head P item items all)
      | inr away ↦ rw away (find-holds P test items (All-tail P item items all))
    ]

-- what holds of what each place of the grid gives
pub All-over_grid : {A : Type 0} (P : A → Type 0) (device : DeviceName) (given : ℕ → ℕ → List A)
    → ((x y : ℕ) → x < grid_width device → y < grid_height device → All P (given x y)) → All P (over_grid device given)
unfolding over_grid
All-over_grid P device given all =
    All-gathered_below P (grid_height device) (λ y. gathered_below (grid_width device) (λ x. given x y))
    (λ y low. All-gathered_below P (grid_width device) (λ x. given x y) (λ x left. all x y left low))

pub All-over_tiles : {A : Type 0} (P : A → Type 0) (device : DeviceName) (kind : TileKind) (given : ℕ → ℕ → List A)
    → ((x y : ℕ) → x < grid_width device → y < grid_height device → All P (given x y)) → All P (over_tiles device kind given)
All-over_tiles P device kind given all =
    All-over_grid P device (at_kind device kind given)
    (λ x y left low. All-if P (is_kind_there kind (kind_of device x y)) (given x y) (all x y left low))

pub All-numbered : {A : Type 0} (P : A → Type 0) (place : ℕ) (items : List A) → All P items → All (λ (pair : ℕ × A). P pair.1) (numbered_from place items)
unfolding numbered_from
All-numbered {A} P place [] all = All-nil (λ (pair : ℕ × A). P pair.1)
All-numbered {A} P place (item ∷ items) all =
    All-cons (λ (pair : ℕ × A). P pair.1) (place, item) (numbered_from (suc place) items) (All-head P item items all)
    (All-numbered P (suc place) items (All-tail P item items all))

-- the places of the items of a list are below their number
pub places-below : {X : Type 0} (from : ℕ) (xs : List X) → All (λ (place : ℕ × X). place.0 < from + length xs) (numbered_from from xs)
unfolding numbered_from
places-below {X} from [] = All-nil (λ (place : ℕ × X). place.0 < from + length {A = X} [])
places-below {X} from (x ∷ xs) =
    All-cons (λ (place : ℕ × X). place.0 < from + length (x ∷ xs)) (from, x) (numbered_from (suc from) xs) (omega arith)
    (All-weaker (λ (place : ℕ × X). place.0 < suc from + length xs) (λ (place : ℕ × X). place.0 < from + length (x ∷ xs)) (λ place found. omega (arith, found)) (numbered_from (suc from) xs) (places-below (suc from) xs))

-- after the first of two lists a test fails that no item of the second passes
past-false : {A : Type 0} (test : A → Bool) (xs ys : List A) (place : ℕ) → length xs ≤ place → All (λ y. test y ≡ false) ys
    → get_or (map test (xs ++ ys)) place false ≡ false
past-false test [] [] place past all = refl
past-false test [] (y ∷ ys) zero past all = All-head (λ y. test y ≡ false) y ys all
past-false test [] (y ∷ ys) (suc place) past all = past-false test [] ys place (omega arith) (All-tail (λ y. test y ≡ false) y ys all)
past-false test (x ∷ xs) ys zero past all = absurd (omega (arith, past))
past-false test (x ∷ xs) ys (suc place) past all = past-false test xs ys place (omega (arith, past)) all

has-All : (P : ℕ → Type 0) (list : List ℕ) (n : ℕ) → All P list → has list n ≡ true → P n
has-All P [] n all found = absurd (has-none n found)
has-All P (head ∷ rest) n all found =
    elim (has-cases head rest n found) [
      | inl here ↦ subst P here (All-head P head rest all)
      | inr after ↦ has-All P rest n (All-tail P head rest all) after
    ]

-- ---- nets that may be missing

abbrev Below : ℕ → ℕ → Type 0
Below nets net = net < nets

listed-in : (nets : ℕ) (net : Option ℕ) → IsNetIn nets net → All (Below nets) (option_to_list net)
listed-in nets None in' = All-nil (Below nets)
listed-in nets (Some net) in' = All-single (Below nets) net in'

get_or-in : (nets : ℕ) (list : List (Option ℕ)) (k : ℕ) → All (IsNetIn nets) list → IsNetIn nets (get_or list k None)
get_or-in nets [] k all = tt
get_or-in nets (net ∷ list) zero all = All-head (IsNetIn nets) net list all
get_or-in nets (net ∷ list) (suc k) all = get_or-in nets list k (All-tail (IsNetIn nets) net list all)

signal-in : (nets : ℕ) (source : Signal) → IsSignalIn nets source → All (Below nets) (signal_nets source)
signal-in nets (signal.Net net otherwise) in' = listed-in nets net in'
signal-in nets (signal.Input place) in' = All-nil (Below nets)
signal-in nets (signal.Register place) in' = All-nil (Below nets)

signals-in : (nets : ℕ) (ins : List Signal) → All (IsSignalIn nets) ins → All (Below nets) (flat_map signal_nets ins)
signals-in nets ins all = All-flat_map (Below nets) signal_nets ins (All-weaker (IsSignalIn nets) (λ source. All (Below nets) (signal_nets source)) (signal-in nets) ins all)

-- the inputs that a LUT reads are inputs of its cell
used_input-in : (nets word : ℕ) (ins : List (Option ℕ)) (k : ℕ) → All (IsNetIn nets) ins → IsNetIn nets (used_input word ins k)
used_input-in nets word ins k all =
    elim (cases_Bool (uses_input word k)) [
      | inl used ↦ rw used (get_or-in nets ins k all)
      | inr unused ↦ rw unused tt
    ]

inputs_read-in : (nets : ℕ) (inputs : LutInputs) (word : ℕ) (ins : List (Option ℕ)) → All (IsNetIn nets) ins → All (IsNetIn nets) (inputs_read inputs word ins)
inputs_read-in nets read.All word ins all = all
inputs_read-in nets read.Used word ins all =
    let P = IsNetIn nets in
    let input : (k : ℕ) → P (used_input word ins k) = λ k. used_input-in nets word ins k all in
    let used : ℕ → Option ℕ = used_input word ins in
    All-cons P (used 0) (used 1 ∷ used 2 ∷ used 3 ∷ []) (input 0)
    (All-cons P (used 1) (used 2 ∷ used 3 ∷ []) (input 1) (All-cons P (used 2) (used 3 ∷ []) (input 2) (All-cons P (used 3) [] (input 3) (All-nil P))))

-- so are those of its table
cell_signals-in : (nets : ℕ) (inputs : LutInputs) (lc : LogicCell) → IsCellIn nets lc → All (IsSignalIn nets) (table_of inputs lc).ins
cell_signals-in nets inputs lc in' =
    All-map (IsSignalIn nets) net_or_0 (inputs_read inputs lc.lut lc.ins) (inputs_read-in nets inputs lc.lut lc.ins in'.ins)

-- ---- drivers

record IsDriveIn (nets : ℕ) (drive : Drive) : Type 0 where
  net : drive.net < nets
  reads : All (Below nets) (nets_read drive.rule)

drives_if-in : (nets : ℕ) (by : Driver) (rule : Rule) (net : Option ℕ) → IsNetIn nets net → All (Below nets) (nets_read rule) → All (IsDriveIn nets) (drives_if by rule net)
drives_if-in nets by rule None in' reads = All-nil (IsDriveIn nets)
drives_if-in nets by rule (Some net) in' reads = All-single (IsDriveIn nets) (record { driver = by; net = net; rule = rule }) (record { net = in'; reads = reads })

module _ (nets : ℕ) where
  pin_drives-in : (pins : List Pin) (pin : Pin) → IsPinIn nets pin → All (IsDriveIn nets) (pin_drives pins pin)
  unfolding nets_read
  pin_drives-in pins pin in' = All-if (IsDriveIn nets) _ _ (drives_if-in nets _ (pin_bit _) pin.din_0 in'.din_0 (All-nil (Below nets)))

  -- one rule or another
  reads_if-in : (passes : Bool) (one other : Rule) → All (Below nets) (nets_read one) → All (Below nets) (nets_read other)
      → All (Below nets) (nets_read (if passes then one else other))
  reads_if-in true one other of_one of_other = of_one
  reads_if-in false one other of_one of_other = of_other

  register_reads-in : (place : ℕ) (register : Register) → IsRegisterIn nets register → All (Below nets) (nets_read (register_bit place register))
  unfolding nets_read
  register_reads-in place register in' = All-if (Below nets) register.is_async (option_to_list register.sr) (listed-in nets register.sr in'.sr)

  -- what a pin drives its pad with, its pad, and when it drives it
  module _ (flips : ℕ) (pins : List Pin) (pin : Pin) (in' : IsPinIn nets pin) where
    data_by-in : (sent : PadData) → IsSignalIn nets (data_by flips pins pin sent)
    data_by-in sends.Plain = in'.dout_0
    data_by-in sends.Registered = tt
    data_by-in sends.Inverted = in'.data_net
    data_by-in sends.Double = in'.data_net

    data-in : IsSignalIn nets (data_signal flips pins pin)
    data-in = data_by-in pin.sends

    pad_by-in : (driven : PadDrive) → IsSignalIn nets (pad_by flips pins pin driven)
    pad_by-in drive.Never = tt
    pad_by-in drive.Always = data-in
    pad_by-in drive.ByNet = in'.pad_net
    pad_by-in drive.ByRegister = in'.pad_net

    pad-in : IsSignalIn nets (pad_signal flips pins pin)
    pad-in = pad_by-in pin.drive

    enable_signal-in : IsSignalIn nets (enable_signal flips pins pin)
    enable_signal-in =
        elim (cases_Bool (is_by_register pin.drive)) [
          | inl here ↦ rw here tt
          | inr away ↦ rw away in'.enable
        ]

  four-in : (a b c d : Signal) → IsSignalIn nets a → IsSignalIn nets b → IsSignalIn nets c → IsSignalIn nets d → All (IsSignalIn nets) (a ∷ b ∷ c ∷ d ∷ [])
  four-in a b c d of_a of_b of_c of_d =
      All-cons (IsSignalIn nets) a (b ∷ c ∷ d ∷ []) of_a
      (All-cons (IsSignalIn nets) b (c ∷ d ∷ []) of_b (All-cons (IsSignalIn nets) c (d ∷ []) of_c (All-single (IsSignalIn nets) d of_d)))

  back_drives-in : (fabric : Fabric) (pin : Pin) → IsPinIn nets pin → All (IsDriveIn nets) (back_drives fabric pin)
  unfolding nets_read
  back_drives-in fabric pin in' =
      All-if (IsDriveIn nets) _ _
      (drives_if-in nets _ (input (pad_of fabric pin)) pin.din_0 in'.din_0 (signal-in nets (pad_of fabric pin) (pad-in (flip_count fabric) fabric.pins pin in')))

  data_table-in : (fabric : Fabric) (pin : Pin) → IsPinIn nets pin → (sent : PadData) → All (IsSignalIn nets) (data_by_table (flip_count fabric) fabric.pins pin sent).ins
  data_table-in fabric pin in' sends.Plain = four-in _ _ _ _ tt tt tt tt
  data_table-in fabric pin in' sends.Registered = four-in _ _ _ _ tt tt tt tt
  data_table-in fabric pin in' sends.Inverted = four-in _ _ _ _ tt tt tt tt
  data_table-in fabric pin in' sends.Double = four-in _ _ _ _ tt tt in'.outclk tt

  data_drives-in : (fabric : Fabric) (pin : Pin) → IsPinIn nets pin → All (IsDriveIn nets) (data_drives fabric pin)
  unfolding nets_read
  data_drives-in fabric pin in' =
      All-if (IsDriveIn nets) _ _
      (drives_if-in nets _ (table_entry (data_table fabric pin)) pin.data_net in'.data_net
      (signals-in nets (data_table fabric pin).ins (data_table-in fabric pin in' pin.sends)))

  pad_table-in : (fabric : Fabric) (pin : Pin) → IsPinIn nets pin → All (IsSignalIn nets) (pad_table fabric pin).ins
  pad_table-in fabric pin in' =
      four-in _ (data_of fabric pin) (enable_of fabric pin) _ tt (data-in (flip_count fabric) fabric.pins pin in') (enable_signal-in (flip_count fabric) fabric.pins pin in') tt

  pad_drives-in : (fabric : Fabric) (pin : Pin) → IsPinIn nets pin → All (IsDriveIn nets) (pad_drives fabric pin)
  unfolding nets_read
  pad_drives-in fabric pin in' =
      All-if (IsDriveIn nets) _ _
      (drives_if-in nets _ (table_entry (pad_table fabric pin)) pin.pad_net in'.pad_net (signals-in nets (pad_table fabric pin).ins (pad_table-in fabric pin in')))

  lut_reads-in : (inputs : LutInputs) (lc : LogicCell) → IsCellIn nets lc → All (Below nets) (nets_read (table_entry (table_of inputs lc)))
  unfolding nets_read
  lut_reads-in inputs lc in' = signals-in nets (table_of inputs lc).ins (cell_signals-in nets inputs lc in')

  lut_drives-in : (inputs : LutInputs) (lc : LogicCell) → IsCellIn nets lc → All (IsDriveIn nets) (lut_drives inputs lc)
  lut_drives-in inputs lc in' = drives_if-in nets _ (table_entry (table_of inputs lc)) lc.out in'.out (lut_reads-in inputs lc in')

  drives_by-in : (place : ℕ × Register) (by : Option Driver) → IsRegisterIn nets place.1 → All (IsDriveIn nets) (drives_by place by)
  drives_by-in place None in' = All-nil (IsDriveIn nets)
  drives_by-in place (Some by) in' = drives_if-in nets by (register_bit place.0 place.1) place.1.out in'.out (register_reads-in place.0 place.1 in')

  flip_drives-in : (place : ℕ × Register) → IsRegisterIn nets place.1 → All (IsDriveIn nets) (flip_drives place)
  flip_drives-in place in' = drives_by-in place (flip_driver place.1 place.1.kind) in'

  input_drives-in : (place : ℕ × Register) → IsRegisterIn nets place.1 → All (IsDriveIn nets) (input_drives place)
  input_drives-in place in' = drives_by-in place (input_driver place.1 place.1.kind) in'

  second_drives-in : (place : ℕ × Register) → IsRegisterIn nets place.1 → All (IsDriveIn nets) (second_drives place)
  second_drives-in place in' = drives_by-in place (second_driver place.1 place.1.kind) in'

  lout_drives-in : (inputs : LutInputs) (lc : LogicCell) → IsCellIn nets lc → All (IsDriveIn nets) (lout_drives inputs lc)
  lout_drives-in inputs lc in' = drives_if-in nets _ (table_entry (table_of inputs lc)) lc.lout in'.lout (lut_reads-in inputs lc in')

  carry_drives-in : (lc : LogicCell) → IsCellIn nets lc → All (IsDriveIn nets) (carry_drives lc)
  unfolding nets_read
  carry_drives-in lc in' =
      drives_if-in nets _ (majority_of (get_or lc.ins 1 None) (get_or lc.ins 2 None) lc.cin) lc.cout in'.cout
      (All-append (Below nets) (option_to_list (get_or lc.ins 1 None)) (option_to_list (get_or lc.ins 2 None) ++ option_to_list lc.cin)
      (listed-in nets (get_or lc.ins 1 None) (get_or-in nets lc.ins 1 in'.ins))
      (All-append (Below nets) (option_to_list (get_or lc.ins 2 None)) (option_to_list lc.cin)
      (listed-in nets (get_or lc.ins 2 None) (get_or-in nets lc.ins 2 in'.ins)) (listed-in nets lc.cin in'.cin)))

  set_drives-in : (set : CarrySet) → IsSetIn nets set → All (IsDriveIn nets) (set_drives set)
  unfolding nets_read
  set_drives-in set in' = drives_if-in nets _ (constant true) (Some set.net) in' (All-nil (Below nets))

  read_data-in : (ram mode bit : ℕ) → All (Below nets) (nets_read (read_data_rule ram mode bit))
  unfolding nets_read
  read_data-in ram mode bit = reads_if-in _ (read_bit ram _) (constant false) (All-nil (Below nets)) (All-nil (Below nets))

  ram_drives-in : (place : ℕ × RamCell) → IsRamIn nets place.1 → All (IsDriveIn nets) (ram_drives place)
  ram_drives-in place in' =
      All-flat_map (IsDriveIn nets) (ram_drive place) (numbered place.1.rdata)
      (All-weaker (λ (port : ℕ × Option ℕ). IsNetIn nets port.1) (λ (port : ℕ × Option ℕ). All (IsDriveIn nets) (ram_drive place port))
      (λ port here. drives_if-in nets _ (read_data_rule place.0 place.1.read port.0) port.1 here (read_data-in place.0 place.1.read port.0))
      (numbered place.1.rdata) (All-numbered (IsNetIn nets) 0 place.1.rdata in'.rdata))

  global_reads-in : (pins : List Pin) (plls : List PllSource) (from : GlobalFrom) → IsFromIn nets from → All (Below nets) (nets_read (global_rule pins plls from))
  unfolding nets_read
  global_reads-in pins plls (Pad x y n) in' = All-nil (Below nets)
  global_reads-in pins plls (Pll x y output) in' = All-nil (Below nets)
  global_reads-in pins plls (Fabout net) in' = All-single (Below nets) net in'

  global_drives-in : (pins : List Pin) (plls : List PllSource) (global : GlobalNet) → IsGlobalIn nets global → All (IsDriveIn nets) (global_drives pins plls global)
  global_drives-in pins plls global in' =
      drives_if-in nets _ (global_rule pins plls global.from) (Some global.net) in'.net (global_reads-in pins plls global.from in'.from)

  pll_drives-in : (pins : List Pin) (plls : List PllSource) (port : PllSource) → IsNetIn nets port.net → All (IsDriveIn nets) (pll_drives pins plls port)
  unfolding nets_read
  pll_drives-in pins plls port in' = drives_if-in nets _ (pin_bit _) port.net in' (All-nil (Below nets))

  buffer_drives-in : (buffer : Buffer) → IsBufferIn nets buffer → All (IsDriveIn nets) (buffer_drives buffer)
  unfolding nets_read
  buffer_drives-in buffer in' = drives_if-in nets _ (copied buffer.src) (Some buffer.dst) in'.dst (All-single (Below nets) buffer.src in'.src)

  -- what all of some parts drive
  gives-in : {X : Type 0} (Is : X → Type 0) (given : X → List Drive) → ((x : X) → Is x → All (IsDriveIn nets) (given x))
      → (parts : List X) → All Is parts → All (IsDriveIn nets) (flat_map given parts)
  gives-in Is given each parts all =
      All-flat_map (IsDriveIn nets) given parts (All-weaker Is (λ x. All (IsDriveIn nets) (given x)) each parts all)

module _ (fabric : Fabric) (in' : IsClosed fabric) where
  All-then : (first second : List Drive) → All (IsDriveIn fabric.nets) first → All (IsDriveIn fabric.nets) second → All (IsDriveIn fabric.nets) (first ++ second)
  All-then first second = All-append (IsDriveIn fabric.nets) first second

  drives-in : All (IsDriveIn fabric.nets) (drives_of fabric)
  unfolding drives_of
  drives-in =
      let nets = fabric.nets in
      All-then _ _ (gives-in nets (IsPinIn nets) (pin_drives fabric.pins) (pin_drives-in nets fabric.pins) fabric.pins in'.pins)
      (All-then _ _ (gives-in nets (IsPinIn nets) (back_drives fabric) (back_drives-in nets fabric) fabric.pins in'.pins)
      (All-then _ _ (gives-in nets (IsCellIn nets) (lut_drives fabric.lut_inputs) (lut_drives-in nets fabric.lut_inputs) _ (All-filter (λ lc. not lc.flip) (IsCellIn nets) fabric.lcs in'.lcs))
      (All-then _ _ (gives-in nets (λ (place : ℕ × Register). IsRegisterIn nets place.1) flip_drives (flip_drives-in nets) (numbered fabric.registers)
      (All-numbered (IsRegisterIn nets) 0 fabric.registers in'.registers))
      (All-then _ _ (gives-in nets (IsCellIn nets) (lout_drives fabric.lut_inputs) (lout_drives-in nets fabric.lut_inputs) fabric.lcs in'.lcs)
      (All-then _ _ (gives-in nets (IsCellIn nets) carry_drives (carry_drives-in nets) _ (All-filter (λ lc. lc.carry) (IsCellIn nets) fabric.lcs in'.lcs))
      (All-then _ _ (gives-in nets (IsSetIn nets) set_drives (set_drives-in nets) fabric.sets in'.sets)
      (All-then _ _ (gives-in nets (λ (place : ℕ × RamCell). IsRamIn nets place.1) ram_drives (ram_drives-in nets) (numbered fabric.rams) (All-numbered (IsRamIn nets) 0 fabric.rams in'.rams))
      (All-then _ _ (gives-in nets (IsGlobalIn nets) (global_drives fabric.pins fabric.plls) (global_drives-in nets fabric.pins fabric.plls) fabric.globals in'.globals)
      (All-then _ _ (gives-in nets (IsBufferIn nets) buffer_drives (buffer_drives-in nets) fabric.buffers in'.buffers)
      (All-then _ _ (gives-in nets (λ (place : ℕ × Register). IsRegisterIn nets place.1) input_drives (input_drives-in nets) (numbered fabric.registers)
      (All-numbered (IsRegisterIn nets) 0 fabric.registers in'.registers))
      (All-then _ _ (gives-in nets (λ (place : ℕ × Register). IsRegisterIn nets place.1) second_drives (second_drives-in nets) (numbered fabric.registers)
      (All-numbered (IsRegisterIn nets) 0 fabric.registers in'.registers))
      (All-then _ _ (gives-in nets (IsPinIn nets) (data_drives fabric) (data_drives-in nets fabric) fabric.pins in'.pins)
      (All-then _ _ (gives-in nets (IsPinIn nets) (pad_drives fabric) (pad_drives-in nets fabric) fabric.pins in'.pins)
      (gives-in nets (λ (port : PllSource). IsNetIn nets port.net) (pll_drives fabric.pins fabric.plls) (pll_drives-in nets fabric.pins fabric.plls) fabric.plls in'.plls))))))))))))))

  pub within-parts : IsWithin fabric
  within-parts = record {
    joins = λ a b there. let found = All-contains (IsJoinIn fabric.nets) fabric.joins (a, b) in'.joins there in (found.first, found.second);
    drives = λ drive there. (All-contains (IsDriveIn fabric.nets) (drives_of fabric) drive drives-in there).net;
    reads = λ drive there net reads.
        has-All (Below fabric.nets) (nets_read drive.rule) net (All-contains (IsDriveIn fabric.nets) (drives_of fabric) drive drives-in there).reads reads;
    closed = in';
  }

  -- what an output reads
  abbrev ReadsIn : Output → Type 0
  ReadsIn output = All (Below fabric.nets) (signal_nets output.source)

  enable-in : (pin : Pin) → IsPinIn fabric.nets pin → All ReadsIn (enable_outputs fabric pin)
  enable-in pin in'' =
      All-if ReadsIn _ (record { pin = pin; enable = true; source = enable_of fabric pin } ∷ [])
      (All-single ReadsIn (record { pin = pin; enable = true; source = enable_of fabric pin })
      (signal-in fabric.nets (enable_of fabric pin) (enable_signal-in fabric.nets (flip_count fabric) fabric.pins pin in'')))

  outputs-in : All ReadsIn (outputs_of fabric)
  unfolding outputs_of
  outputs-in =
      All-flat_map ReadsIn (pin_outputs fabric) (filter drives fabric.pins)
      (All-weaker (IsPinIn fabric.nets) (λ pin. All ReadsIn (pin_outputs fabric pin))
      (λ pin of_pin. All-cons ReadsIn (record { pin = pin; enable = false; source = data_of fabric pin }) (enable_outputs fabric pin)
      (signal-in fabric.nets (data_of fabric pin) (data-in fabric.nets (flip_count fabric) fabric.pins pin of_pin)) (enable-in pin of_pin))
      (filter drives fabric.pins) (All-filter drives (IsPinIn fabric.nets) fabric.pins in'.pins))

  -- the nets that outputs read are nets of the fabric
  pub outputs-within : (output : Output) → Contains (outputs_of fabric) output → (net : ℕ) → has (signal_nets output.source) net ≡ true → net < fabric.nets
  outputs-within output there net reads =
      has-All (Below fabric.nets) (signal_nets output.source) net (All-contains ReadsIn (outputs_of fabric) output outputs-in there) reads

-- ---- the fabric of a database

found-in : (nets : ℕ) (chip : Chip) → chip.nets ≤ nets → (test : NameLine → Bool) (lines : List NameLine) → All (IsNameLine chip) lines
    → IsNetIn nets (option_map (λ line. line.net) (find test lines))
found-in nets chip few test [] all = tt
found-in nets chip few test (line ∷ lines) all =
    elim (cases_Bool (test line)) [
      | inl here ↦ let low = (All-head (IsNameLine chip) line lines all).net_in in rw here (omega (arith, low, few))
      | inr away ↦ rw away (found-in nets chip few test lines (All-tail (IsNameLine chip) line lines all))
    ]

or_else-in : (nets : ℕ) (first other : Option ℕ) → IsNetIn nets first → IsNetIn nets other → IsNetIn nets (or_else first other)
or_else-in nets None other of_first of_other = of_other
or_else-in nets (Some net) other of_first of_other = of_first

module _ (db : Database) (image : Configuration) (fit : IsFit db) (nets : ℕ) (few : db.chip.nets ≤ nets) where
  named-in : (x y : ℕ) (name : List ℕ) → IsNetIn nets (net_named db x y name)
  unfolding net_at
  named-in x y name = found-in nets db.chip few _ db.names fit.names

  port-in : (x y : ℕ) (name : List ℕ) → IsNetIn nets (port_net db x y name)
  port-in x y name = or_else-in nets (net_named db x y name) (net_named db x (y + 1) name) (named-in x y name) (named-in x (y + 1) name)

  each-in : (count : ℕ) (given : ℕ → Option ℕ) → ((k : ℕ) → IsNetIn nets (given k)) → All (IsNetIn nets) (each_below count given)
  each-in count given all = All-gathered_below (IsNetIn nets) count (λ k. given k ∷ []) (λ k below. All-single (IsNetIn nets) (given k) (all k))

  joins-in : All (IsJoinIn nets) (joins_of db image)
  unfolding joins_of
  joins-in =
      All-map (IsJoinIn nets) (λ link. (link.src, link.dst)) (filter (is_link_on image) db.routings)
      (All-filter (is_link_on image) (λ link. IsJoinIn nets (link.src, link.dst)) db.routings
      (All-weaker (IsLink db.chip) (λ link. IsJoinIn nets (link.src, link.dst)) (λ link is. record { first = omega (arith, is.src_in, few); second = omega (arith, is.dst_in, few) }) db.routings fit.routings))

  buffers-in : All (IsBufferIn nets) (buffers_of db image)
  unfolding buffers_of
  buffers-in =
      All-map (IsBufferIn nets) buffer_of (filter (λ place. is_link_on image place.1) (numbered db.buffers))
      (All-filter (λ place. is_link_on image place.1) (λ place. IsBufferIn nets (buffer_of place)) (numbered db.buffers)
      (All-weaker (λ (place : ℕ × Link). IsLink db.chip place.1) (λ (place : ℕ × Link). IsBufferIn nets (buffer_of place))
      (λ place is. record { src = omega (arith, is.src_in, few); dst = omega (arith, is.dst_in, few) }) (numbered db.buffers) (All-numbered (IsLink db.chip) 0 db.buffers fit.buffers)))

  -- an inner net
  inner-in : (all : Bool) (net : ℕ) → (all ≡ true → net < nets) → IsNetIn nets (if all then Some net else None)
  inner-in true net room = room refl
  inner-in false net room = tt

  pin_with-in : (all : Bool) (j x y n : ℕ) → (all ≡ true → db.chip.nets + 2 * j + 1 < nets) → IsPinIn nets (pin_with all db image j x y n)
  unfolding pin_with
  pin_with-in all j x y n room = record {
    inclk = named-in x y _;
    outclk = named-in x y _;
    cen = named-in x y _;
    din_0 = named-in x y _;
    din_1 = named-in x y _;
    dout_0 = named-in x y _;
    dout_1 = named-in x y _;
    enable = named-in x y _;
    data_net = inner-in all (db.chip.nets + 2 * j) (λ is. let low = room is in omega (arith, low));
    pad_net = inner-in all (db.chip.nets + 2 * j + 1) room;
  }

  -- there are two inner nets for each pin
  abbrev HasRoom : Bool → Type 0
  HasRoom all = (j : ℕ) → j < length (pin_places image.layout.device) → all ≡ true → db.chip.nets + 2 * j + 1 < nets

  pins-in : (all : Bool) → HasRoom all → All (IsPinIn nets) (pins_of all db image)
  unfolding pins_of
  pins-in all room =
      let places = pin_places image.layout.device in
      All-flat_map (IsPinIn nets) (port_at all db image) (numbered places)
      (All-weaker (λ (place : ℕ × PinPlace). place.0 < 0 + length places) (λ place. All (IsPinIn nets) (port_at all db image place))
      (λ place below. All-item_if (IsPinIn nets) _ (pin_with all db image place.0 place.1.x place.1.y place.1.n)
      (pin_with-in all place.0 place.1.x place.1.y place.1.n (room place.0 (omega (arith, below))))) (numbered places) (places-below 0 places))

  carry_in-in : (x y i : ℕ) → IsNetIn nets (carry_in_net db x y i)
  carry_in-in x y zero = named-in x y _
  carry_in-in x y (suc i) = named-in x y _

  cell_with-in : (x y i : ℕ) (bits : List Bool) → IsCellIn nets (cell_with db image x y i bits)
  unfolding cell_with
  cell_with-in x y i bits = record {
    ins = each-in 4 _ (λ k. named-in x y _);
    out = named-in x y _;
    lout = named-in x y _;
    cout = named-in x y _;
    cin = carry_in-in x y i;
    clk = named-in x y _;
    cen = named-in x y _;
    sr = named-in x y _;
  }

  cells_at-in : (x y : ℕ) → All (IsCellIn nets) (cells_at db image x y)
  unfolding cells_at
  cells_at-in x y =
      All-gathered_below (IsCellIn nets) 8 (used_cell db image x y)
      (λ i below. All-item_if (IsCellIn nets) _ (cell_with db image x y i (cell_bits db image x y i)) (cell_with-in x y i _))

  cells-in : All (IsCellIn nets) (cells_of db image)
  unfolding cells_of
  cells-in = All-over_tiles (IsCellIn nets) image.layout.device Logic (cells_at db image) (λ x y left low. cells_at-in x y)

  register_of-in : (inputs : LutInputs) (lc : LogicCell) → IsCellIn nets lc → IsRegisterIn nets (register_of inputs lc)
  unfolding register_of
  register_of-in inputs lc in' = record {
    out = in'.out;
    clk = in'.clk;
    enable = in'.cen;
    sr = in'.sr;
    ins = cell_signals-in nets inputs lc in';
  }

  flips-in : (inputs : LutInputs) → All (IsRegisterIn nets) (registers_of inputs (cells_of db image))
  unfolding registers_of
  flips-in inputs =
      All-map (IsRegisterIn nets) (register_of inputs) (filter (λ lc. lc.flip) (cells_of db image))
      (All-filter (λ lc. lc.flip) (λ lc. IsRegisterIn nets (register_of inputs lc)) (cells_of db image)
      (All-weaker (IsCellIn nets) (λ lc. IsRegisterIn nets (register_of inputs lc)) (register_of-in inputs) (cells_of db image) cells-in))

  -- ---- registers of pins

  module _ (flips : ℕ) (pins : List Pin) (pin : Pin) (in' : IsPinIn nets pin) where
    driven-in : (register : PinRegister) → IsNetIn nets (driven_net pin register)
    driven-in kind.Input = in'.din_0
    driven-in kind.SecondInput = in'.din_1
    driven-in kind.InputClockEnable = tt
    driven-in kind.Output = tt
    driven-in kind.SecondOutput = tt
    driven-in kind.OutputClockEnable = tt
    driven-in kind.OutputEnable = tt

    clock-in : (register : PinRegister) → IsNetIn nets (if is_of_inputs register then pin.inclk else pin.outclk)
    clock-in register =
        elim (cases_Bool (is_of_inputs register)) [
          | inl here ↦ rw here in'.inclk
          | inr away ↦ rw away in'.outclk
        ]

    clock_enable-in : (register : PinRegister) → IsSignalIn nets (clock_enable flips pins pin register)
    clock_enable-in kind.Input = in'.cen
    clock_enable-in kind.SecondInput = tt
    clock_enable-in kind.InputClockEnable = tt
    clock_enable-in kind.Output = in'.cen
    clock_enable-in kind.SecondOutput = tt
    clock_enable-in kind.OutputClockEnable = tt
    clock_enable-in kind.OutputEnable = in'.cen

    taken-in : (register : PinRegister) → IsSignalIn nets (taken_by flips pins pin register)
    taken-in kind.Input = pad-in nets flips pins pin in'
    taken-in kind.SecondInput = pad-in nets flips pins pin in'
    taken-in kind.InputClockEnable = in'.cen
    taken-in kind.Output = in'.dout_0
    taken-in kind.SecondOutput = in'.dout_1
    taken-in kind.OutputClockEnable = in'.cen
    taken-in kind.OutputEnable = in'.enable

    pin_register-in : (register : PinRegister) → IsRegisterIn nets (pin_register flips pins pin register)
    unfolding pin_register
    pin_register-in register = record {
      out = driven-in register;
      clk = clock-in register;
      enable = clock_enable-in register;
      sr = tt;
      ins = four-in nets _ _ _ _ (taken-in register) tt tt tt;
    }

  pin_registers-in : (flips : ℕ) (pins : List Pin) → All (IsPinIn nets) pins → All (IsRegisterIn nets) (pin_registers_of flips pins)
  unfolding pin_registers_of
  pin_registers-in flips pins all =
      All-flat_map (IsRegisterIn nets) (λ pin. map (pin_register flips pins pin) (registers_in pin)) pins
      (All-weaker (IsPinIn nets) (λ pin. All (IsRegisterIn nets) (map (pin_register flips pins pin) (registers_in pin)))
      (λ pin in'. All-map (IsRegisterIn nets) (pin_register flips pins pin) (registers_in pin)
      (All-weaker (Contains (registers_in pin)) (λ register. IsRegisterIn nets (pin_register flips pins pin register))
      (λ register there. pin_register-in flips pins pin in' register) (registers_in pin) (All-contains_itself (registers_in pin)))) pins all)

  set_with-in : (x y : ℕ) (net : Option ℕ) → IsNetIn nets net → All (IsSetIn nets) (set_with x y net)
  set_with-in x y None in' = All-nil (IsSetIn nets)
  set_with-in x y (Some net) in' = All-single (IsSetIn nets) (record { x = x; y = y; net = net }) in'

  sets-in : All (IsSetIn nets) (sets_of db image)
  unfolding sets_of
  sets-in = All-over_tiles (IsSetIn nets) image.layout.device Logic (sets_at db image)
      (λ x y left low. All-if (IsSetIn nets) _ (set_with x y (net_named db x y _)) (set_with-in x y _ (named-in x y _)))

  ram_at-in : (x y : ℕ) → IsRamIn nets (ram_at db image x y)
  unfolding ram_at
  ram_at-in x y = record {
    rdata = each-in 16 _ (λ k. port-in x y _);
    wdata = each-in 16 _ (λ k. port-in x y _);
    mask = each-in 16 _ (λ k. port-in x y _);
    waddr = each-in 11 _ (λ k. port-in x y _);
    raddr = each-in 11 _ (λ k. port-in x y _);
    wclk = port-in x y _;
    wclke = port-in x y _;
    we = port-in x y _;
    rclk = port-in x y _;
    rclke = port-in x y _;
    re = port-in x y _;
  }

  rams-in : All (IsRamIn nets) (rams_of db image)
  unfolding rams_of
  rams-in = All-over_tiles (IsRamIn nets) image.layout.device RamB _
      (λ x y left low. All-if (IsRamIn nets) (is_ram_used db image x y) (ram_at db image x y ∷ []) (All-single (IsRamIn nets) (ram_at db image x y) (ram_at-in x y)))

  -- a source that may be missing
  IsGlobalSourceIn : Option GlobalFrom → Type 0
  IsGlobalSourceIn None = Unit {0}
  IsGlobalSourceIn (Some from) = IsFromIn nets from

  fabout-in : (tile : Option TileXy8) (name : List ℕ) → IsNetIn nets (option_and_then (λ (at : TileXy8). net_named db at.x at.y name) tile)
  fabout-in None name = tt
  fabout-in (Some tile) name = named-in tile.x tile.y name

  pll-in : (pad : PinXy) (source : Option PllSource) → IsFromIn nets (from_pll pad source)
  pll-in pad None = tt
  pll-in pad (Some source) = tt

  global_source-in : (sources : List PllSource) (pad : Option PinXy) (fabout : Option ℕ) → IsNetIn nets fabout → IsGlobalSourceIn (source_of_global sources pad fabout)
  unfolding IsGlobalSourceIn
  global_source-in sources (Some pad) fabout in' = pll-in pad (find (λ source. is_pin_at pad.x pad.y pad.n source.pin) sources)
  global_source-in sources None None in' = tt
  global_source-in sources None (Some net) in' = in'

  nets_from-in : (g : ℕ) (source : Option GlobalFrom) → IsGlobalSourceIn source → All (IsGlobalIn nets) (nets_from db g source)
  unfolding IsGlobalSourceIn global_nets
  nets_from-in g None in' = All-nil (IsGlobalIn nets)
  nets_from-in g (Some from) in' =
      All-map (IsGlobalIn nets) (λ net. record { g = g; net = net; from = from }) (global_nets db g)
      (All-gathered_below (λ net. IsGlobalIn nets (record { g = g; net = net; from = from })) db.chip.nets (λ net. item_if (is_global_net db g net) net)
      (λ net below. All-item_if (λ n. IsGlobalIn nets (record { g = g; net = n; from = from })) (is_global_net db g net) net (record { net = omega (arith, below, few); from = in' })))

  globals-in : (all : Bool) → All (IsGlobalIn nets) (globals_of all db image)
  unfolding globals_of
  globals-in all =
      let sources = pll_sources all db image in
      All-gathered_below (IsGlobalIn nets) 8 (λ g. nets_from db g (global_source sources db image g))
      (λ g below. nets_from-in g (global_source sources db image g) (global_source-in sources (global_pad db image g) (global_fabout db g) (fabout-in (input_of g db.global_inputs) _)))

  -- ---- PLLs

  abbrev IsSourceIn : PllSource → Type 0
  IsSourceIn source = IsNetIn nets source.net

  line_net-in : (line : Option PllLine) → IsNetIn nets (net_by db line)
  line_net-in None = tt
  line_net-in (Some line) = named-in line.x line.y line.word

  output_net-in : (pll : PllCell) (output : PllOutput) → IsNetIn nets (output_net db pll output)
  unfolding output_net
  output_net-in pll output = line_net-in (line_named (output_line output) pll)

  clock_source-in : (pll : PllCell) (output : PllOutput) (pin : Option PinXy) → All IsSourceIn (clock_source db pll output pin)
  clock_source-in pll output None = All-nil IsSourceIn
  clock_source-in pll output (Some pin) = All-single IsSourceIn _ (named-in pin.x pin.y _)

  source-in : (pll : PllCell) (output : PllOutput) → All IsSourceIn (source_of db image pll output)
  source-in pll output.A = clock_source-in pll output.A (output_pin image pll output.A)
  source-in pll output.B = clock_source-in pll output.B (output_pin image pll output.B)
  source-in pll output.Lock = All-single IsSourceIn _ (output_net-in pll output.Lock)
  source-in pll output.Sdo = All-single IsSourceIn _ (output_net-in pll output.Sdo)

  of_outputs-in : (pll : PllCell) (outputs : List PllOutput) → All IsSourceIn (flat_map (source_of db image pll) outputs)
  of_outputs-in pll [] = All-nil IsSourceIn
  of_outputs-in pll (output ∷ outputs) =
      All-append IsSourceIn (source_of db image pll output) (flat_map (source_of db image pll) outputs) (source-in pll output) (of_outputs-in pll outputs)

  sources-in : (pll : PllCell) → All IsSourceIn (sources_in db image pll)
  unfolding sources_in
  sources-in pll = of_outputs-in pll (outputs_in (pll_type db image pll))

  of_plls-in : (plls : List PllCell) → All IsSourceIn (flat_map (sources_in db image) plls)
  of_plls-in [] = All-nil IsSourceIn
  of_plls-in (pll ∷ plls) = All-append IsSourceIn (sources_in db image pll) (flat_map (sources_in db image) plls) (sources-in pll) (of_plls-in plls)

  pub all_sources-in : (all : Bool) → All IsSourceIn (pll_sources all db image)
  unfolding pll_sources
  all_sources-in all = All-if IsSourceIn all (flat_map (sources_in db image) db.plls) (of_plls-in db.plls)

  plls-in : (all : Bool) → All IsSourceIn (pll_ports all db image)
  unfolding pll_ports
  plls-in all = All-filter (is_source_read db image) IsSourceIn (pll_sources all db image) (all_sources-in all)

-- ---- registers of pins come after the flip-flops, and are synchronous

register-steady : (flips : ℕ) (pins : List Pin) (pin : Pin) (register : PinRegister) → (pin_register flips pins pin register).is_async ≡ false
unfolding pin_register
register-steady flips pins pin register = refl

pin_registers-steady : (flips : ℕ) (pins : List Pin) → All (λ (register : Register). register.is_async ≡ false) (pin_registers_of flips pins)
unfolding pin_registers_of
pin_registers-steady flips pins =
    let IsSteady = λ (register : Register). register.is_async ≡ false in
    All-flat_map IsSteady (λ pin. map (pin_register flips pins pin) (registers_in pin)) pins
    (All-weaker (Contains pins) (λ pin. All IsSteady (map (pin_register flips pins pin) (registers_in pin)))
    (λ pin there. All-map IsSteady (pin_register flips pins pin) (registers_in pin)
    (All-weaker (Contains (registers_in pin)) (λ register. IsSteady (pin_register flips pins pin register))
    (λ register in_pin. register-steady flips pins pin register) (registers_in pin) (All-contains_itself (registers_in pin)))) pins (All-contains_itself pins))

-- as many are made of all items of a list in one way as in another
made-alike : {X Y A B : Type 0} (one : X → Y → A) (two : X → Y → B) (parts : X → List Y) (xs : List X)
    → length (flat_map (λ x. map (one x) (parts x)) xs) ≡ length (flat_map (λ x. map (two x) (parts x)) xs)
made-alike one two parts [] = refl
made-alike one two parts (x ∷ xs) =
    let first = length-append (map (one x) (parts x)) (flat_map (λ y. map (one y) (parts y)) xs) in
    let second = length-append (map (two x) (parts x)) (flat_map (λ y. map (two y) (parts y)) xs) in
    let here = length-map (parts x) (one x) in
    let there = length-map (parts x) (two x) in
    let rest = made-alike one two parts xs in
    omega (arith, first, second, here, there, rest)

keys-counted : (flips : ℕ) (pins : List Pin) → length (pin_keys pins) ≡ length (pin_registers_of flips pins)
unfolding pin_registers_of
keys-counted flips pins = made-alike key_in (pin_register flips pins) registers_in pins

flips-counted : (inputs : LutInputs) (lcs : List LogicCell) → length (registers_of inputs lcs) ≡ flips_among lcs
unfolding registers_of
flips-counted inputs lcs = length-map (filter (λ lc. lc.flip) lcs) (register_of inputs)

registers-counted : (inputs : LutInputs) (lcs : List LogicCell) (pins : List Pin)
    → flips_among lcs + length (pin_keys pins) ≡ length (registers_of inputs lcs ++ pin_registers_of (flips_among lcs) pins)
registers-counted inputs lcs pins =
    let both = length-append (registers_of inputs lcs) (pin_registers_of (flips_among lcs) pins) in
    let flips = flips-counted inputs lcs in
    let keys = keys-counted (flips_among lcs) pins in
    omega (arith, both, flips, keys)

registers-steady : (inputs : LutInputs) (lcs : List LogicCell) (pins : List Pin) (place : ℕ) → flips_among lcs ≤ place
    → is_async_at (registers_of inputs lcs ++ pin_registers_of (flips_among lcs) pins) place ≡ false
registers-steady inputs lcs pins place past =
    let flips = flips-counted inputs lcs in
    past-false (λ (register : Register). register.is_async) (registers_of inputs lcs) (pin_registers_of (flips_among lcs) pins) place
    (omega (arith, past, flips)) (pin_registers-steady (flips_among lcs) pins)

-- ---- the whole

module _ (db : Database) (image : Configuration) where
  -- the nets of the database are among the nets
  pub nets-more : (all : Bool) → db.chip.nets ≤ net_count all db image
  nets-more true = omega arith
  nets-more false = omega arith

module _ (db : Database) (image : Configuration) (fit : IsFit db) where
  pub net-room : (all : Bool) (j : ℕ) → j < length (pin_places image.layout.device) → all ≡ true → db.chip.nets + 2 * j + 1 < net_count all db image
  net-room true j less is = omega (arith, less)
  net-room false j less is = absurd cc

  pub fabric-in : (options : FabricOptions) → IsClosed (fabric_with options db image)
  unfolding fabric_with
  fabric-in options =
      let all = options.all_pins in
      let inputs = options.lut_inputs in
      let nets = net_count all db image in
      let few = nets-more db image all in
      let pins = pins-in db image fit nets few all (net-room all) in
      record {
        joins = joins-in db image fit nets few;
        buffers = buffers-in db image fit nets few;
        pins = pins;
        plls = plls-in db image fit nets few all;
        globals = globals-in db image fit nets few all;
        lcs = cells-in db image fit nets few;
        registers = All-append (IsRegisterIn nets) (registers_of inputs (cells_of db image)) (pin_registers_of (flips_among (cells_of db image)) (pins_of all db image))
            (flips-in db image fit nets few inputs) (pin_registers-in db image fit nets few (flips_among (cells_of db image)) (pins_of all db image) pins);
        sets = sets-in db image fit nets few;
        rams = rams-in db image fit nets few;
        pinned = registers-counted inputs (cells_of db image) (pins_of all db image);
        steady = registers-steady inputs (cells_of db image) (pins_of all db image);
      }

  -- all nets of the fabric are nets of the device, or inner nets
  pub fabric-within : (options : FabricOptions) → IsWithin (fabric_with options db image)
  fabric-within options = within-parts (fabric_with options db image) (fabric-in options)
