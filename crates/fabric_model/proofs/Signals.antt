-- What inputs read is there: the input pins and the registers are those of the fabric.
use Rattle.std.proofs.Common.{◌≡◌, ℕ, zero, suc, ◌+◌, ◌<◌, ◌==◌, ◌&&◌, ◌||◌, Bool, true, false, List, [], ◌∷◌, ◌++◌, length, length-append, map, get_or, refl, sym, ap, ◌∙◌, subst, arith, inl, inr, eq-eqb}
use Rattle.std.proofs.lemmas.List.{length-map}
use Rattle.std.specs.Prelude.{All, Contains, filter, position, unwrap_or, not, None}
use Rattle.std.specs.List.{position_or_len}
use Rattle.std.proofs.lemmas.Bool.{cases_Bool, lt-ltb, and_from, and_parts, or_left, or_right}
use Rattle.std.proofs.lemmas.List.Elements.{All-cons, All-head, All-tail, All-map, All-append, All-weaker, All-contains_itself, Contains-append_left, Contains-append_right}
use Rattle.ice_image.specs.Configuration.{Configuration}
use Rattle.chipdb_reader.specs.Database.{Database}
use Rattle.chipdb_reader.specs.Fit.{IsFit}
use Rattle.fabric_model.specs.declared.cell.LogicCell.{LogicCell}
use Rattle.fabric_model.specs.declared.lut_inputs.LutInputs.{LutInputs}
use Rattle.fabric_model.specs.declared.options.FabricOptions.{FabricOptions}
use Rattle.fabric_model.specs.declared.pin.Pin.{Pin}
use Rattle.fabric_model.specs.declared.pin.PadDrive.{PadDrive}
use Rattle.fabric_model.specs.declared.pin.PadDrive.TheVariants as drive
use Rattle.fabric_model.specs.declared.pin.PadData.{PadData}
use Rattle.fabric_model.specs.declared.pin.PadData.TheVariants as sends
use Rattle.fabric_model.specs.declared.input_port.InputPort.TheVariants.{Pad, Outside}
use Rattle.fabric_model.specs.declared.signal.Signal.{Signal}
use Rattle.fabric_model.specs.declared.signal.Signal.TheVariants as signal
use Rattle.fabric_model.specs.declared.register.PinRegister.{PinRegister}
use Rattle.fabric_model.specs.declared.register.PinRegister.TheVariants as kind
use Rattle.fabric_model.specs.declared.register.Register.{Register}
use Rattle.fabric_model.specs.Luts.{inputs_read}
use Rattle.fabric_model.specs.Cells.{cells_of}
use Rattle.fabric_model.specs.Tiles.{item_if}
use Rattle.fabric_model.specs.PinTypes.{ever_drives, drives_at_times, is_by_register, has_register, has_table, is_double, takes_pad, takes_by_register}
use Rattle.fabric_model.specs.Pins.{drives, is_switched, is_pad_read, has_input, has_outside, pins_of}
use Rattle.fabric_model.specs.declared.pll.PllOutput.{PllOutput}
use Rattle.fabric_model.specs.declared.pll.PllSource.{PllSource}
use Rattle.fabric_model.specs.Plls.{output_number}
use Rattle.fabric_model.specs.InputPorts.{pin_inputs, inputs_among, inputs_with, pll_input, is_output_of, pll_place, is_same_place, is_same_port, input_place}
use Rattle.fabric_model.specs.Signals.{net_or_0}
use Rattle.fabric_model.specs.Registers.{table_of, register_of, flips_among, registers_of, registers_in, key_in, pin_keys, kind_number, is_same_key, register_in, data_by, pad_by, clock_enable, taken_by, pin_register, pin_registers_of}
use Rattle.fabric_model.specs.Fabric.{Fabric, numbered_from, numbered, flip_count, fabric_with, inputs_of}
use Rattle.fabric_model.specs.Drivers.{data_of, pad_of, enable_of, is_read_back, data_by_table, data_table, pad_table}
use Rattle.fabric_model.specs.Within.{IsClosed, is_async_at}
use Rattle.fabric_model.proofs.Apart.{All-every}
use Rattle.fabric_model.proofs.Contained.{contains-map, contains-flat_map}
use Rattle.fabric_model.proofs.Within.{All-flat_map, All-single, if-when, fabric-in}

-- what an input reads is there; a register that it reads has no asynchronous set or reset
abbrev pub IsSignalThere : Fabric → Signal → Type 0
IsSignalThere fabric (signal.Net net otherwise) = Unit {0}
IsSignalThere fabric (signal.Input place) = place < length (inputs_of fabric)
IsSignalThere fabric (signal.Register place) = (place < length fabric.registers) × (is_async_at fabric.registers place ≡ false)

-- what the inputs of a register read is there
pub record HasSignals (fabric : Fabric) (register : Register) : Type 0 where
  pub enable : IsSignalThere fabric register.enable
  pub ins : All (IsSignalThere fabric) register.table.ins

-- so is what each input of a table reads
pub signal-there : (fabric : Fabric) (ins : List Signal) (k : ℕ) → All (IsSignalThere fabric) ins → IsSignalThere fabric (get_or ins k (net_or_0 None))
signal-there fabric [] k all = tt
signal-there fabric (source ∷ ins) zero all = All-head (IsSignalThere fabric) source ins all
signal-there fabric (source ∷ ins) (suc k) all = signal-there fabric ins k (All-tail (IsSignalThere fabric) source ins all)

abbrev none : Signal
none = net_or_0 None

four-there : (fabric : Fabric) (a b c d : Signal) → IsSignalThere fabric a → IsSignalThere fabric b → IsSignalThere fabric c → IsSignalThere fabric d
    → All (IsSignalThere fabric) (a ∷ b ∷ c ∷ d ∷ [])
four-there fabric a b c d of_a of_b of_c of_d =
    All-cons (IsSignalThere fabric) a (b ∷ c ∷ d ∷ []) of_a
    (All-cons (IsSignalThere fabric) b (c ∷ d ∷ []) of_b (All-cons (IsSignalThere fabric) c (d ∷ []) of_c (All-single (IsSignalThere fabric) d of_d)))

-- ---- places

-- the item of a list at a place
pub record IsItemAt {A : Type 0} (items : List A) (place : ℕ) (item : A) : Type 0 where
  pub numbered : Contains (numbered items) (place, item)
  pub there : Contains items item
  pub named : (name : A → List ℕ) → get_or (map name items) place [] ≡ name item
  pub tested : (test : A → Bool) → get_or (map test items) place false ≡ test item

item-from : {A : Type 0} (n : ℕ) (items : List A) (place : ℕ) → place < length items
    → (item : A) × Contains (numbered_from n items) (n + place, item) × Contains items item
    × ((name : A → List ℕ) → get_or (map name items) place [] ≡ name item) × ((test : A → Bool) → get_or (map test items) place false ≡ test item)
unfolding numbered_from
item-from n [] place less = absurd (omega (arith, less))
item-from n (item ∷ items) zero less =
    let same : n ≡ n + 0 = omega arith in
    (item, subst (λ k. Contains (numbered_from n (item ∷ items)) (k, item)) same (0, omega arith, refl), (0, omega arith, refl), (λ name. refl), (λ test. refl))
item-from n (item ∷ items) (suc k) less =
    let rest = item-from (suc n) items k (omega (arith, less)) in
    let same : suc n + k ≡ n + suc k = omega arith in
    let numbers = rest.1 in
    let among = rest.2 in
    let moved : Contains (numbered_from n (item ∷ items)) (suc n + k, rest.0) = (suc numbers.0, omega (arith, numbers.1), numbers.2) in
    (rest.0, subst (λ j. Contains (numbered_from n (item ∷ items)) (j, rest.0)) same moved, (suc among.0, omega (arith, among.1), among.2), rest.3, rest.4)

pub item-at : {A : Type 0} (items : List A) (place : ℕ) → place < length items → (item : A) × IsItemAt items place item
item-at items place less =
    let found = item-from 0 items place less in
    let same : 0 + place ≡ place = omega arith in (
      found.0,
      record {
        numbered = subst (λ k. Contains (numbered items) (k, found.0)) same found.1;
        there = found.2;
        named = found.3;
        tested = found.4;
      },
    )

prefix-found : {X : Type 0} (test : X → Bool) (xs : List X) (item : X) → Contains xs item → test item ≡ true → position_or_len test xs < length xs
prefix-found test [] item (k, within, here) passes = absurd (omega (arith, within))
prefix-found test (x ∷ xs) item (zero, within, here) passes =
    let found : test x ≡ true = ap test here ∙ passes in rw found (omega arith)
prefix-found test (x ∷ xs) item (suc k, within, here) passes =
    elim (cases_Bool (test x)) [
      | inl found ↦ rw found (omega arith)
      | inr away ↦ rw away (omega (arith, prefix-found test xs item (k, omega (arith, within), here) passes))
    ]

-- the index of an item that is there is below their number
pub place-found : {X : Type 0} (test : X → Bool) (xs : List X) (item : X) → Contains xs item → test item ≡ true → unwrap_or (position test xs) (length xs) < length xs
place-found test xs item there passes =
    let inside : position_or_len test xs < length xs = prefix-found test xs item there passes in
    rw (lt-ltb (position_or_len test xs) (length xs) inside) inside

contains-if : {A : Type 0} (passes : Bool) (item : A) → passes ≡ true → Contains (item_if passes item) item
contains-if true item is = (0, omega arith, refl)
contains-if false item is = absurd cc

-- ---- input ports

same-place : (x y n : ℕ) → is_same_place x y n x y n ≡ true
same-place x y n = and_from (x == x) ((y == y) && (n == n)) (eq-eqb x x refl) (and_from (y == y) (n == n) (eq-eqb y y refl) (eq-eqb n n refl))

-- the port of a pin that is an input is one of the input ports
pub pad-port-there : (pins : List Pin) (pin : Pin) → Contains pins pin → has_input pin ≡ true → input_place pins (Pad pin.x pin.y pin.n) < length (inputs_among pins)
pad-port-there pins pin there is =
    let port = Pad pin.x pin.y pin.n in
    place-found (is_same_port port) (inputs_among pins) port
    (contains-flat_map pin_inputs pins pin port there
    (Contains-append_left (item_if (has_input pin) port) (item_if (has_outside pin) (Outside pin.x pin.y pin.n)) port (contains-if (has_input pin) port is)))
    (same-place pin.x pin.y pin.n)

-- and so is that of a switched pin whose pad is read
pub outside-port-there : (pins : List Pin) (pin : Pin) → Contains pins pin → has_outside pin ≡ true → input_place pins (Outside pin.x pin.y pin.n) < length (inputs_among pins)
outside-port-there pins pin there is =
    let port = Outside pin.x pin.y pin.n in
    place-found (is_same_port port) (inputs_among pins) port
    (contains-flat_map pin_inputs pins pin port there
    (Contains-append_right (item_if (has_input pin) (Pad pin.x pin.y pin.n)) (item_if (has_outside pin) port) port (contains-if (has_outside pin) port is)))
    (same-place pin.x pin.y pin.n)

-- an output of a PLL that is a port is one of the input ports
pub pll-port-there : (pins : List Pin) (plls : List PllSource) (x y : ℕ) (output : PllOutput) (source : PllSource) → Contains plls source → is_output_of x y output source ≡ true
    → pll_place pins plls x y output < length (inputs_with pins plls)
pll-port-there pins plls x y output source there passes =
    let found = place-found (is_output_of x y output) plls source there passes in
    let all = length-append (inputs_among pins) (map pll_input plls) in
    let own = length-map plls pll_input in
    omega (arith, found, all, own)

-- each output of a PLL is such an output
pub output-itself : (source : PllSource) → is_output_of source.x source.y source.output source ≡ true
output-itself source = same-place source.x source.y (output_number source.output)

-- the ports of pins come first
pub among-first : (fabric : Fabric) (place : ℕ) → place < length (inputs_among fabric.pins) → place < length (inputs_of fabric)
among-first fabric place low =
    let all = length-append (inputs_among fabric.pins) (map pll_input fabric.plls) in
    omega (arith, all, low)

-- ---- registers of pins

-- what holds of each register that a pin has
pub registers-all : (P : PinRegister → Type 0) (pin : Pin) → ((pin.reads_0 && takes_by_register pin.takes) ≡ true → P kind.Input) → (pin.reads_1 ≡ true → P kind.SecondInput)
    → (pin.reads_1 ≡ true → P kind.InputClockEnable) → ((drives pin && has_register pin.sends) ≡ true → P kind.Output)
    → ((drives pin && is_double pin.sends) ≡ true → P kind.SecondOutput) → ((drives pin && is_double pin.sends) ≡ true → P kind.OutputClockEnable)
    → (is_by_register pin.drive ≡ true → P kind.OutputEnable) → All P (registers_in pin)
registers-all P pin input second input_enable output second_output output_enable enable =
    let one : (passes : Bool) (register : PinRegister) → (passes ≡ true → P register) → All P (item_if passes register) =
    λ passes register of_register. if-when P passes (register ∷ []) (λ is. All-single P register (of_register is)) in
    All-append P _ _ (one _ kind.Input input)
    (All-append P _ _ (one _ kind.SecondInput second)
    (All-append P _ _ (one _ kind.InputClockEnable input_enable)
    (All-append P _ _ (one _ kind.Output output)
    (All-append P _ _ (one _ kind.SecondOutput second_output) (All-append P _ _ (one _ kind.OutputClockEnable output_enable) (one _ kind.OutputEnable enable))))))

module _ (pin : Pin) where
  abbrev from_output_enable : List PinRegister
  from_output_enable = item_if (drives pin && is_double pin.sends) kind.OutputClockEnable ++ item_if (is_by_register pin.drive) kind.OutputEnable

  abbrev from_second_output : List PinRegister
  from_second_output = item_if (drives pin && is_double pin.sends) kind.SecondOutput ++ from_output_enable

  abbrev from_output : List PinRegister
  from_output = item_if (drives pin && has_register pin.sends) kind.Output ++ from_second_output

  abbrev from_input_enable : List PinRegister
  from_input_enable = item_if pin.reads_1 kind.InputClockEnable ++ from_output

  abbrev from_second : List PinRegister
  from_second = item_if pin.reads_1 kind.SecondInput ++ from_input_enable

  has-input_enable : pin.reads_1 ≡ true → Contains (registers_in pin) kind.InputClockEnable
  has-input_enable is =
      Contains-append_right (item_if (pin.reads_0 && takes_by_register pin.takes) kind.Input) from_second kind.InputClockEnable
      (Contains-append_right (item_if pin.reads_1 kind.SecondInput) from_input_enable kind.InputClockEnable
      (Contains-append_left (item_if pin.reads_1 kind.InputClockEnable) from_output kind.InputClockEnable (contains-if pin.reads_1 kind.InputClockEnable is)))

  in-output : (register : PinRegister) → Contains from_output register → Contains (registers_in pin) register
  in-output register there =
      Contains-append_right (item_if (pin.reads_0 && takes_by_register pin.takes) kind.Input) from_second register
      (Contains-append_right (item_if pin.reads_1 kind.SecondInput) from_input_enable register
      (Contains-append_right (item_if pin.reads_1 kind.InputClockEnable) from_output register there))

  has-output : (drives pin && has_register pin.sends) ≡ true → Contains (registers_in pin) kind.Output
  has-output is =
      in-output kind.Output
      (Contains-append_left (item_if (drives pin && has_register pin.sends) kind.Output) from_second_output kind.Output (contains-if (drives pin && has_register pin.sends) kind.Output is))

  in-second_output : (register : PinRegister) → Contains from_second_output register → Contains (registers_in pin) register
  in-second_output register there =
      in-output register (Contains-append_right (item_if (drives pin && has_register pin.sends) kind.Output) from_second_output register there)

  has-second_output : (drives pin && is_double pin.sends) ≡ true → Contains (registers_in pin) kind.SecondOutput
  has-second_output is =
      in-second_output kind.SecondOutput
      (Contains-append_left (item_if (drives pin && is_double pin.sends) kind.SecondOutput) from_output_enable kind.SecondOutput
      (contains-if (drives pin && is_double pin.sends) kind.SecondOutput is))

  in-output_enable : (register : PinRegister) → Contains from_output_enable register → Contains (registers_in pin) register
  in-output_enable register there =
      in-second_output register (Contains-append_right (item_if (drives pin && is_double pin.sends) kind.SecondOutput) from_output_enable register there)

  has-output_clock : (drives pin && is_double pin.sends) ≡ true → Contains (registers_in pin) kind.OutputClockEnable
  has-output_clock is =
      in-output_enable kind.OutputClockEnable
      (Contains-append_left (item_if (drives pin && is_double pin.sends) kind.OutputClockEnable) (item_if (is_by_register pin.drive) kind.OutputEnable) kind.OutputClockEnable
      (contains-if (drives pin && is_double pin.sends) kind.OutputClockEnable is))

  has-enable : is_by_register pin.drive ≡ true → Contains (registers_in pin) kind.OutputEnable
  has-enable is =
      in-output_enable kind.OutputEnable
      (Contains-append_right (item_if (drives pin && is_double pin.sends) kind.OutputClockEnable) (item_if (is_by_register pin.drive) kind.OutputEnable) kind.OutputEnable
      (contains-if (is_by_register pin.drive) kind.OutputEnable is))

-- words
double-register : (sent : PadData) → is_double sent ≡ true → has_register sent ≡ true
double-register sends.Plain is = absurd cc
double-register sends.Registered is = absurd cc
double-register sends.Inverted is = absurd cc
double-register sends.Double is = refl

table-register : (sent : PadData) → has_table sent ≡ true → has_register sent ≡ true
table-register sends.Plain is = absurd cc
table-register sends.Registered is = absurd cc
table-register sends.Inverted is = refl
table-register sends.Double is = refl

times-ever : (driven : PadDrive) → drives_at_times driven ≡ true → ever_drives driven ≡ true
times-ever drive.Never is = absurd cc
times-ever drive.Always is = absurd cc
times-ever drive.ByNet is = refl
times-ever drive.ByRegister is = refl

-- ---- what pins read is there

module _ (fabric : Fabric) (closed : IsClosed fabric) (pin : Pin) (there : Contains fabric.pins pin) where
  abbrev There : Signal → Type 0
  There source = IsSignalThere fabric source

  -- a register that a pin has
  register-there : (register : PinRegister) → Contains (registers_in pin) register → There (register_in (flip_count fabric) fabric.pins pin register)
  register-there register has =
      let key = key_in pin register in
      let keys = pin_keys fabric.pins in
      let place = unwrap_or (position (is_same_key key) keys) (length keys) in
      let low : place < length keys =
      place-found (is_same_key key) keys key (contains-flat_map (λ (one : Pin). map (key_in one) (registers_in one)) fabric.pins pin key there (contains-map (key_in pin) (registers_in pin) register has))
      (and_from (is_same_place pin.x pin.y pin.n pin.x pin.y pin.n) (kind_number register == kind_number register) (same-place pin.x pin.y pin.n) (eq-eqb (kind_number register) (kind_number register) refl)) in
      let counted = closed.pinned in
      (omega (arith, low, counted), closed.steady (flip_count fabric + place) (omega arith))

  -- what a pin drives its pad with
  data_by-there : drives pin ≡ true → (sent : PadData) → pin.sends ≡ sent → There (data_by (flip_count fabric) fabric.pins pin sent)
  data_by-there driven sends.Plain is = tt
  data_by-there driven sends.Registered is =
      register-there kind.Output (has-output pin (and_from (drives pin) (has_register pin.sends) driven (ap has_register is)))
  data_by-there driven sends.Inverted is = tt
  data_by-there driven sends.Double is = tt

  pub data-there : drives pin ≡ true → There (data_of fabric pin)
  data-there driven = data_by-there driven pin.sends refl

  -- when a switched pin drives its pad
  pub enable-there : is_switched pin ≡ true → There (enable_of fabric pin)
  enable-there switched =
      elim (cases_Bool (is_by_register pin.drive)) [
        | inl here ↦ rw here (register-there kind.OutputEnable (has-enable pin here))
        | inr away ↦ rw away tt
      ]

  -- the pad of a pin that drives it, or that is an input
  pad_by-there : (driven : PadDrive) → pin.drive ≡ driven → (drives pin ≡ false → has_input pin ≡ true) → There (pad_by (flip_count fabric) fabric.pins pin driven)
  pad_by-there drive.Never is seen = among-first fabric _ (pad-port-there fabric.pins pin there (seen (ap ever_drives is)))
  pad_by-there drive.Always is seen = data-there (ap ever_drives is)
  pad_by-there drive.ByNet is seen = tt
  pad_by-there drive.ByRegister is seen = tt

  pad-there : (drives pin ≡ false → has_input pin ≡ true) → There (pad_of fabric pin)
  pad-there seen = pad_by-there pin.drive refl seen

  pub back-there : is_read_back pin ≡ true → There (pad_of fabric pin)
  back-there read =
      let driven : drives pin ≡ true = (and_parts (drives pin) _ read).0 in
      pad-there (λ away. let never : true ≡ false = sym driven ∙ away in absurd cc)

  -- the registers that a table of what the pin drives its pad with reads
  table_by-there : drives pin ≡ true → (sent : PadData) → pin.sends ≡ sent → has_table sent ≡ true → All There (data_by_table (flip_count fabric) fabric.pins pin sent).ins
  table_by-there driven sends.Plain is made = absurd cc
  table_by-there driven sends.Registered is made = absurd cc
  table_by-there driven sends.Inverted is made =
      four-there fabric (register_in (flip_count fabric) fabric.pins pin kind.Output) none none none
      (register-there kind.Output (has-output pin (and_from (drives pin) (has_register pin.sends) driven (ap has_register is)))) tt tt tt
  table_by-there driven sends.Double is made =
      four-there fabric (register_in (flip_count fabric) fabric.pins pin kind.SecondOutput) (register_in (flip_count fabric) fabric.pins pin kind.Output) (net_or_0 pin.outclk) none
      (register-there kind.SecondOutput (has-second_output pin (and_from (drives pin) (is_double pin.sends) driven (ap is_double is))))
      (register-there kind.Output (has-output pin (and_from (drives pin) (has_register pin.sends) driven (ap has_register is)))) tt tt

  pub data_table-there : (drives pin && has_table pin.sends) ≡ true → All There (data_table fabric pin).ins
  data_table-there made =
      let both = and_parts (drives pin) (has_table pin.sends) made in table_by-there both.0 pin.sends refl both.1

  -- and what that of its pad reads
  pub pad_table-there : has_outside pin ≡ true → All There (pad_table fabric pin).ins
  pad_table-there seen =
      let switched : is_switched pin ≡ true = (and_parts (is_switched pin) (is_pad_read pin) seen).0 in
      four-there fabric (signal.Input (input_place fabric.pins (Outside pin.x pin.y pin.n))) (data_of fabric pin) (enable_of fabric pin) none
      (among-first fabric _ (outside-port-there fabric.pins pin there seen)) (data-there (times-ever pin.drive switched)) (enable-there switched) tt

  -- ---- registers of the pin

  -- a pin whose pad is read is an input, if it never drives it
  read-seen : is_pad_read pin ≡ true → drives pin ≡ false → has_input pin ≡ true
  read-seen read away = and_from (not (drives pin)) (takes_pad pin.takes || is_pad_read pin) (ap not away) (or_right (takes_pad pin.takes) (is_pad_read pin) read)

  reads_0-seen : (pin.reads_0 && takes_by_register pin.takes) ≡ true → is_pad_read pin ≡ true
  reads_0-seen is = or_left pin.reads_0 (pin.reads_1 || pin.is_global) (and_parts pin.reads_0 (takes_by_register pin.takes) is).0

  reads_1-seen : pin.reads_1 ≡ true → is_pad_read pin ≡ true
  reads_1-seen is = or_right pin.reads_0 (pin.reads_1 || pin.is_global) (or_left pin.reads_1 pin.is_global is)

  abbrev Has : PinRegister → Type 0
  Has register = There (clock_enable (flip_count fabric) fabric.pins pin register) × There (taken_by (flip_count fabric) fabric.pins pin register)

  pin-signals : All Has (registers_in pin)
  pin-signals =
      registers-all Has pin (λ is. (tt, pad-there (read-seen (reads_0-seen is)))) (λ is. (register-there kind.InputClockEnable (has-input_enable pin is), pad-there (read-seen (reads_1-seen is))))
      (λ is. (tt, tt)) (λ is. (tt, tt)) (λ is. (register-there kind.OutputClockEnable (has-output_clock pin is), tt)) (λ is. (tt, tt)) (λ is. (tt, tt))

  pin_register-signals : (register : PinRegister) → Has register → HasSignals fabric (pin_register (flip_count fabric) fabric.pins pin register)
  unfolding pin_register
  pin_register-signals register has = record { enable = has.0; ins = four-there fabric (taken_by (flip_count fabric) fabric.pins pin register) none none none has.1 tt tt tt }

-- the inputs of a cell read nets
pub cell-signals : (fabric : Fabric) (inputs : LutInputs) (lc : LogicCell) → All (IsSignalThere fabric) (table_of inputs lc).ins
cell-signals fabric inputs lc =
    let ins = inputs_read inputs lc.lut lc.ins in
    All-map (IsSignalThere fabric) net_or_0 ins (All-every (λ net. IsSignalThere fabric (net_or_0 net)) (λ net. tt) ins)

flip-signals : (fabric : Fabric) (inputs : LutInputs) (lc : LogicCell) → HasSignals fabric (register_of inputs lc)
unfolding register_of
flip-signals fabric inputs lc = record { enable = tt; ins = cell-signals fabric inputs lc }

flips-signals : (fabric : Fabric) (inputs : LutInputs) (lcs : List LogicCell) → All (HasSignals fabric) (registers_of inputs lcs)
unfolding registers_of
flips-signals fabric inputs lcs =
    All-map (HasSignals fabric) (register_of inputs) (filter (λ lc. lc.flip) lcs)
    (All-every (λ lc. HasSignals fabric (register_of inputs lc)) (flip-signals fabric inputs) (filter (λ lc. lc.flip) lcs))

pin_registers-signals : (fabric : Fabric) → IsClosed fabric → All (HasSignals fabric) (pin_registers_of (flip_count fabric) fabric.pins)
unfolding pin_registers_of
pin_registers-signals fabric closed =
    let made = λ (pin : Pin). map (pin_register (flip_count fabric) fabric.pins pin) (registers_in pin) in
    All-flat_map (HasSignals fabric) made fabric.pins
    (All-weaker (Contains fabric.pins) (λ pin. All (HasSignals fabric) (made pin))
    (λ pin there. All-map (HasSignals fabric) (pin_register (flip_count fabric) fabric.pins pin) (registers_in pin)
    (All-weaker (Has fabric closed pin there) (λ register. HasSignals fabric (pin_register (flip_count fabric) fabric.pins pin register)) (pin_register-signals fabric closed pin there)
    (registers_in pin) (pin-signals fabric closed pin there))) fabric.pins (All-contains_itself fabric.pins))

-- what the inputs of registers read is there
pub registers-signals : (db : Database) (image : Configuration) (fit : IsFit db) (options : FabricOptions)
    → All (HasSignals (fabric_with options db image)) (fabric_with options db image).registers
unfolding fabric_with
registers-signals db image fit options =
    let fabric = fabric_with options db image in
    All-append (HasSignals fabric) (registers_of options.lut_inputs (cells_of db image)) (pin_registers_of (flips_among (cells_of db image)) (pins_of options.all_pins db image))
    (flips-signals fabric options.lut_inputs (cells_of db image)) (pin_registers-signals fabric (fabric-in db image fit options))
