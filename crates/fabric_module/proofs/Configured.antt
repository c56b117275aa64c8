-- What holds of the fabric that a database and an image configure: its names are apart, its RAMs have all their ports and start
-- words, and its drivers name parts that it has.
use Rattle.std.proofs.Common.{◌≡◌, ℕ, zero, suc, ◌+◌, ◌-◌, ◌<◌, ◌≤◌, Bool, true, false, List, [], ◌∷◌, ◌++◌, length, map, get_or, refl, sym, ap, ◌∙◌, subst, arith}
use Rattle.std.specs.Prelude.{All, Contains, Option, Some, None, not, ◌&&◌, ◌||◌, ◌==◌, codes, filter, flat_map, drop, bytes_eq, if◌then◌else◌}
use Rattle.std.proofs.lemmas.Bool.{and_from, and_parts, or_left}
use Rattle.std.proofs.lemmas.List.{length-append, append_cancel_left}
use Rattle.std.proofs.lemmas.List.Elements.{All-nil, All-cons, All-head, All-tail, All-append, All-map, All-weaker, All-contains, All-contains_itself}
use Rattle.shared_lemmas.proofs.Lists.{All-both}
use Rattle.shared_lemmas.proofs.Bytes.{bytes_eq-apart, bytes_eq-same}
use Rattle.bit_plane.proofs.Words.{bit_value-le}
use Rattle.index_search.proofs.Gathered.{All-gathered_below}
use Rattle.plane_map.specs.declared.device.DeviceName.{DeviceName}
use Rattle.plane_map.specs.declared.device.DeviceName.TheVariants.{Lp384, Hx1k, Hx8k}
use Rattle.plane_map.specs.declared.tile.TileKind.TheVariants.{Io, Logic, RamB, RamT}
use Rattle.plane_map.specs.Layout.{kind_of, grid_width, grid_height}
use Rattle.ice_image.specs.Configuration.{Configuration}
use Rattle.chipdb_lines.specs.Statements.{is_kind_there}
use Rattle.chipdb_reader.specs.Database.{Database}
use Rattle.index_search.specs.Places.{gathered_below}
use Rattle.fabric_model.specs.declared.cell.LogicCell.{LogicCell}
use Rattle.fabric_model.specs.declared.lut_inputs.LutInputs.{LutInputs}
use Rattle.fabric_model.specs.declared.options.FabricOptions.{FabricOptions}
use Rattle.fabric_model.specs.declared.input_port.InputPort.{InputPort}
use Rattle.fabric_model.specs.declared.input_port.InputPort.TheVariants.{Pad as PadPort, Outside as OutsidePort}
use Rattle.fabric_model.specs.declared.pin.PadDrive.{PadDrive}
use Rattle.fabric_model.specs.declared.pin.PadDrive.TheVariants as drive
use Rattle.fabric_model.specs.declared.register.PinRegister.{PinRegister}
use Rattle.fabric_model.specs.declared.register.PinRegister.TheVariants as kind
use Rattle.fabric_model.specs.declared.register.Register.{Register}
use Rattle.fabric_model.specs.PinTypes.{takes_pad, has_table, has_register, is_double, is_by_register, takes_by_register}
use Rattle.fabric_model.specs.InputPorts.{inputs_among, inputs_with, input_place, pll_place}
use Rattle.fabric_model.specs.Registers.{table_of, register_of, registers_of, flips_among, registers_in, kind_number, pin_register, pin_registers_of}
use Rattle.fabric_model.specs.On.{is_function_on}
use Rattle.fabric_model.specs.Nets.{ending_in}
use Rattle.fabric_model.specs.declared.ram.RamCell.{RamCell}
use Rattle.fabric_model.specs.declared.pin.Pin.{Pin}
use Rattle.fabric_model.specs.declared.pin.GlobalNet.{GlobalNet}
use Rattle.fabric_model.specs.declared.pin.GlobalFrom.{GlobalFrom}
use Rattle.fabric_model.specs.declared.pin.GlobalFrom.TheVariants.{Pad, Pll, Fabout}
use Rattle.fabric_model.specs.declared.pll.PllSource.{PllSource}
use Rattle.fabric_model.specs.declared.driver.Driver.{Driver}
use Rattle.fabric_model.specs.Tiles.{over_grid, each_below, item_if}
use Rattle.fabric_model.specs.Cells.{cell_bits, cell_with, used_cell, cells_at, cells_of}
use Rattle.fabric_model.specs.Rams.{mode_of, first_data_bit, is_ram_used, ram_at, rams_of, start_word, start_words}
use Rattle.fabric_model.specs.Pins.{PinPlace, pin_places, is_port, drives, is_pad_read, has_input, has_outside, pin_with, port_at, pins_of}
use Rattle.fabric_model.specs.Fabric.{Fabric, numbered, fabric_with}
use Rattle.fabric_model.specs.Drivers.{Rule, Drive, drives_if, pad_of, pin_drives, is_read_back, back_drives, lut_drives, drives_by, flip_driver, flip_drives, lout_drives, carry_drives, set_drives, read_data_rule, ram_drive, ram_drives, global_rule, global_drives, buffer_drives, input_driver, input_drives, second_driver, second_drives, data_table, data_drives, pad_table, pad_drives, pll_drives, drives_of}
use Rattle.fabric_model.specs.Drivers.Rule.{pin_bit, constant, input, table_entry, majority_of, register_bit, read_bit, copied}
use Rattle.fabric_model.specs.Within.{IsClosed}
use Rattle.fabric_model.proofs.Signals.{among-first, pll-port-there, output-itself, pad-port-there, back-there, data_table-there, pad_table-there, cell-signals}
use Rattle.fabric_model.proofs.OneValue.{each_below-length}
use Rattle.fabric_model.proofs.Within.{All-flat_map, All-item_if, All-if, if-when, All-single, All-over_tiles, All-numbered, places-below}
use Rattle.fabric_module.specs.Names.{two_numbers, three_numbers, pad_name, port_name, enable_name, outside_name, input_port_name, pin_prefix, register_name, read_name, memory_name}
use Rattle.fabric_module.specs.Written.{output_port, input_port, pin_ports}
use Rattle.fabric_module.proofs.Lists.{NamesDiffer, Apart}
use Rattle.fabric_module.proofs.Ports.{port_label, each-port}
use Rattle.fabric_module.proofs.Rights.{IsPlaceIn}
use Rattle.fabric_module.proofs.Beginning.{IsStarted, IsPorted}
use Rattle.fabric_model.proofs.Apart.{AreApart, All-every, apart-single, apart-item_if, apart-filter, apart-append, apart-weaker, apart-map, apart-flat_map, apart-gathered, apart-over_tiles, apart-numbered}
use Rattle.fabric_module.proofs.Apart.{IsSmall, two-same, three-same, three-tail, three-tails}

-- ---- lists

All-pair : {X : Type 0} (P Q : X → Type 0) (xs : List X) → All P xs → All Q xs → All (λ x. P x × Q x) xs
All-pair P Q [] of_p of_q = All-nil (λ x. P x × Q x)
All-pair P Q (x ∷ xs) of_p of_q = All-cons (λ x. P x × Q x) x xs (All-head P x xs of_p, All-head Q x xs of_q) (All-pair P Q xs (All-tail P x xs of_p) (All-tail Q x xs of_q))

count-gathered : {A B : Type 0} (n : ℕ) (first : ℕ → List A) (second : ℕ → List B) → ((k : ℕ) → length (first k) ≡ length (second k)) → length (gathered_below n first) ≡ length (gathered_below n second)
unfolding gathered_below
count-gathered zero first second same = refl
count-gathered (suc n) first second same =
    omega (arith, length-append (gathered_below n first) (first n), length-append (gathered_below n second) (second n), count-gathered n first second same, same n)

-- ---- places of the grid are small numbers

few-small : (n : ℕ) → n < 34 → IsSmall n
few-small n few = omega arith

width-few : (device : DeviceName) (x : ℕ) → x < grid_width device → x < 34
width-few Lp384 x within = omega arith
width-few Hx1k x within = omega arith
width-few Hx8k x within = omega arith

height-few : (device : DeviceName) (y : ℕ) → y < grid_height device → y < 34
height-few Lp384 y within = omega arith
height-few Hx1k y within = omega arith
height-few Hx8k y within = omega arith

-- ---- names

pub record AreSmall (x y n : ℕ) : Type 0 where
  pub first : IsSmall x
  pub second : IsSmall y
  pub third : IsSmall n

cell-numbers : (reads : LutInputs) (a b : LogicCell) → register_name (register_of reads a) ≡ register_name (register_of reads b) → three_numbers a.x a.y a.i ≡ three_numbers b.x b.y b.i
unfolding register_name register_of
cell-numbers reads a b same = cc

read-numbers : (a b : RamCell) → read_name a ≡ read_name b → two_numbers a.x a.y ≡ two_numbers b.x b.y
unfolding read_name
read-numbers a b same = cc

memory-numbers : (a b : RamCell) → memory_name a ≡ memory_name b → two_numbers a.x a.y ≡ two_numbers b.x b.y
unfolding memory_name
memory-numbers a b same = cc

unfoldable pub PinSmall : Pin → Type 0
PinSmall pin = AreSmall pin.x pin.y pin.n

unfoldable pub CellSmall : LogicCell → Type 0
CellSmall lc = AreSmall lc.x lc.y lc.i

unfoldable pub RamSmall : RamCell → Type 0
RamSmall ram = AreSmall ram.x ram.y 0

cell-places : (reads : LutInputs) (a b : LogicCell) → CellSmall a → CellSmall b → register_name (register_of reads a) ≡ register_name (register_of reads b) → (a.x ≡ b.x) × (a.y ≡ b.y) × (a.i ≡ b.i)
unfolding CellSmall
cell-places reads a b of_a of_b same = three-same a.x a.y a.i b.x b.y b.i of_a.first of_a.second of_a.third of_b.first of_b.second of_b.third (cell-numbers reads a b same)

pub read-places : (a b : RamCell) → RamSmall a → RamSmall b → read_name a ≡ read_name b → (a.x ≡ b.x) × (a.y ≡ b.y)
unfolding RamSmall
read-places a b of_a of_b same = two-same a.x a.y b.x b.y of_a.first of_a.second of_b.first of_b.second (read-numbers a b same)

pub memory-places : (a b : RamCell) → RamSmall a → RamSmall b → memory_name a ≡ memory_name b → (a.x ≡ b.x) × (a.y ≡ b.y)
unfolding RamSmall
memory-places a b of_a of_b same = two-same a.x a.y b.x b.y of_a.first of_a.second of_b.first of_b.second (memory-numbers a b same)

-- ---- places of pins

abbrev place_label : PinPlace → List ℕ
place_label place = pad_name place.x place.y place.n

pad-numbers : (x y n a b c : ℕ) → pad_name x y n ≡ pad_name a b c → three_numbers x y n ≡ three_numbers a b c
unfolding pad_name
pad-numbers x y n a b c same = cc

pad-same : (x y n a b c : ℕ) → three_numbers x y n ≡ three_numbers a b c → pad_name x y n ≡ pad_name a b c
unfolding pad_name
pad-same x y n a b c same = ap (λ list. codes "io_" ++ list) same

unfoldable PlaceSmall : PinPlace → Type 0
PlaceSmall place = AreSmall place.x place.y place.n

place-numbers : (a b : PinPlace) → PlaceSmall a → PlaceSmall b → place_label a ≡ place_label b → (a.x ≡ b.x) × (a.y ≡ b.y) × (a.n ≡ b.n)
unfolding PlaceSmall
place-numbers a b of_a of_b same =
    three-same a.x a.y a.n b.x b.y b.n of_a.first of_a.second of_a.third of_b.first of_b.second of_b.third (pad-numbers a.x a.y a.n b.x b.y b.n same)

module _ (device : DeviceName) where
  abbrev place_at : ℕ → ℕ → ℕ → PinPlace
  place_at x y n = record { x = x; y = y; n = n }

  place-small : (x y n : ℕ) → x < grid_width device → y < grid_height device → n < 2 → PlaceSmall (place_at x y n)
  unfolding PlaceSmall
  place-small x y n left low few =
      record { first = few-small x (width-few device x left); second = few-small y (height-few device y low); third = few-small n (omega arith) }

  places-small : All PlaceSmall (pin_places device)
  unfolding pin_places
  places-small =
      All-over_tiles PlaceSmall device Io (λ x y. each_below 2 (place_at x y))
      (λ x y left low. All-gathered_below PlaceSmall 2 (λ n. place_at x y n ∷ []) (λ n few. All-single PlaceSmall (place_at x y n) (place-small x y n left low few)))

  places-apart : Apart place_label (pin_places device)
  unfolding pin_places
  places-apart =
      apart-over_tiles (NamesDiffer place_label) PlaceSmall (λ place. place.x) (λ place. place.y)
      (λ a b of_a of_b other. bytes_eq-apart (place_label a) (place_label b) (λ same. other (place-numbers a b of_a of_b same).0))
      (λ a b of_a of_b other. bytes_eq-apart (place_label a) (place_label b) (λ same. other (place-numbers a b of_a of_b same).1))
      device Io (λ x y. each_below 2 (place_at x y))
      (λ x y left low. All-gathered_below (λ place. PlaceSmall place × (place.x ≡ x) × (place.y ≡ y)) 2 (λ n. place_at x y n ∷ [])
      (λ n few. All-single (λ place. PlaceSmall place × (place.x ≡ x) × (place.y ≡ y)) (place_at x y n) (place-small x y n left low few, refl, refl)))
      (λ x y left low. apart-gathered (NamesDiffer place_label) PlaceSmall (λ place. place.n)
      (λ a b of_a of_b other. bytes_eq-apart (place_label a) (place_label b) (λ same. other (place-numbers a b of_a of_b same).2)) 2 (λ n. place_at x y n ∷ [])
      (λ n few. All-single (λ place. PlaceSmall place × (place.n ≡ n)) (place_at x y n) (place-small x y n left low few, refl))
      (λ n few. apart-single (NamesDiffer place_label) (place_at x y n)))

-- ---- ports of pins

apart-with : {X : Type 0} (P : X → Type 0) (R : X → X → Type 0) (xs : List X) → All P xs → AreApart R xs → AreApart (λ a b. P a × P b × R a b) xs
apart-with P R [] all apart = tt
apart-with P R (x ∷ xs) all apart = (
  All-both P (R x) (λ y. P x × P y × R x y) (λ y of_y away. (All-head P x xs all, of_y, away)) xs (All-tail P x xs all) apart.0,
  apart-with P R xs (All-tail P x xs all) apart.1,
)

-- the name of the port of a pin, with a tail or without
abbrev name_as : Pin → Option (List ℕ) → List ℕ
name_as pin None = port_name pin
name_as pin (Some tail) = port_name pin ++ 95 ∷ tail

-- ports with the same name are ports of one place
name-same : (a b : Pin) → PinSmall a → PinSmall b → (one other : Option (List ℕ)) → name_as a one ≡ name_as b other → port_name a ≡ port_name b
unfolding PinSmall pad_name
name-same a b of_a of_b None None same = same
name-same a b of_a of_b None (Some tail) same =
    let numbers : three_numbers a.x a.y a.n ≡ three_numbers b.x b.y b.n ++ 95 ∷ tail = cc in
    absurd (three-tail a.x a.y a.n b.x b.y b.n tail of_a.first of_a.second of_a.third of_b.first of_b.second numbers)
name-same a b of_a of_b (Some tail) None same =
    let numbers : three_numbers a.x a.y a.n ++ 95 ∷ tail ≡ three_numbers b.x b.y b.n = cc in
    absurd (three-tail b.x b.y b.n a.x a.y a.n tail of_b.first of_b.second of_b.third of_a.first of_a.second (sym numbers))
name-same a b of_a of_b (Some tail) (Some other) same =
    let numbers : three_numbers a.x a.y a.n ++ 95 ∷ tail ≡ three_numbers b.x b.y b.n ++ 95 ∷ other = cc in
    ap (λ list. codes "io_" ++ list) (three-tails a.x a.y a.n b.x b.y b.n tail other of_a.first of_a.second of_a.third of_b.first of_b.second of_b.third numbers)

-- what holds of the three names that ports of a pin can have
pub each-name : (P : List ℕ → Type 0) (pin : Pin) → P (port_name pin) → P (enable_name pin) → P (outside_name pin.x pin.y pin.n) → All (λ port. P (port_label port)) (pin_ports pin)
each-name P pin of_port of_enable of_outside =
    each-port (λ port. P (port_label port)) pin of_port of_enable
    (All-append (λ port. P (input_port_name port)) (item_if (has_input pin) (PadPort pin.x pin.y pin.n)) (item_if (has_outside pin) (OutsidePort pin.x pin.y pin.n))
    (All-item_if (λ port. P (input_port_name port)) (has_input pin) (PadPort pin.x pin.y pin.n) of_port)
    (All-item_if (λ port. P (input_port_name port)) (has_outside pin) (OutsidePort pin.x pin.y pin.n) of_outside))

each-tail : (P : List ℕ → Type 0) (pin : Pin) → ((tail : Option (List ℕ)) → P (name_as pin tail)) → All (λ port. P (port_label port)) (pin_ports pin)
unfolding enable_name outside_name
each-tail P pin each = each-name P pin (each None) (each (Some (codes "en"))) (each (Some (codes "in")))

-- the ports of two pins
pins-across : (a b : Pin) → PinSmall a → PinSmall b → NamesDiffer port_name a b → All (λ one. All (NamesDiffer port_label one) (pin_ports b)) (pin_ports a)
pins-across a b of_a of_b away =
    each-tail (λ one. All (λ port. bytes_eq one (port_label port) ≡ false) (pin_ports b)) a
    (λ tail. each-tail (λ other. bytes_eq (name_as a tail) other ≡ false) b
    (λ other. bytes_eq-apart (name_as a tail) (name_as b other)
    (λ same. let never : true ≡ false = sym (bytes_eq-same (port_name a) (port_name b) (name-same a b of_a of_b tail other same)) ∙ away in absurd cc)))

tail-longer : (name tail : List ℕ) → name ≡ name ++ 95 ∷ tail → ⊥
tail-longer name tail same = absurd (omega (arith, ap length same, length-append name (95 ∷ tail)))

port-no_enable : (pin : Pin) → bytes_eq (port_name pin) (enable_name pin) ≡ false
unfolding enable_name
port-no_enable pin = bytes_eq-apart (port_name pin) (port_name pin ++ codes "_en") (tail-longer (port_name pin) (codes "en"))

port-no_outside : (pin : Pin) → bytes_eq (port_name pin) (outside_name pin.x pin.y pin.n) ≡ false
unfolding outside_name
port-no_outside pin = bytes_eq-apart (port_name pin) (port_name pin ++ codes "_in") (tail-longer (port_name pin) (codes "in"))

enable-no_outside : (pin : Pin) → bytes_eq (enable_name pin) (outside_name pin.x pin.y pin.n) ≡ false
unfolding enable_name outside_name
enable-no_outside pin =
    bytes_eq-apart (port_name pin ++ codes "_en") (port_name pin ++ codes "_in")
    (λ same. let never : false ≡ true = bytes_eq-same (codes "_en") (codes "_in") (append_cancel_left (port_name pin) (codes "_en") (codes "_in") same) in absurd cc)

-- a port at most
one-inside : (passes : Bool) (port : InputPort) → Apart port_label (map input_port (item_if passes port ++ []))
one-inside true port = (All-nil (NamesDiffer port_label (input_port port)), tt)
one-inside false port = tt

-- two outputs, and an input port at most
three-inside : (pin : Pin) (passes : Bool)
    → Apart port_label (output_port (port_name pin) ∷ output_port (enable_name pin) ∷ map input_port (item_if passes (OutsidePort pin.x pin.y pin.n)))
three-inside pin true = (
  All-cons (NamesDiffer port_label (output_port (port_name pin))) (output_port (enable_name pin)) (input_port (OutsidePort pin.x pin.y pin.n) ∷ []) (port-no_enable pin)
      (All-single (NamesDiffer port_label (output_port (port_name pin))) (input_port (OutsidePort pin.x pin.y pin.n)) (port-no_outside pin)),
  (
    All-single (NamesDiffer port_label (output_port (enable_name pin))) (input_port (OutsidePort pin.x pin.y pin.n)) (enable-no_outside pin),
    (All-nil (NamesDiffer port_label (input_port (OutsidePort pin.x pin.y pin.n))), tt),
  ),
)
three-inside pin false = (
  All-single (NamesDiffer port_label (output_port (port_name pin))) (output_port (enable_name pin)) (port-no_enable pin),
  (All-nil (NamesDiffer port_label (output_port (enable_name pin))), tt),
)

inside-by : (pin : Pin) (so : PadDrive) → pin.drive ≡ so → Apart port_label (pin_ports pin)
unfolding enable_name
inside-by pin drive.Never is = rw is (one-inside (takes_pad pin.takes || is_pad_read pin) (PadPort pin.x pin.y pin.n))
inside-by pin drive.Always is = rw is (All-nil (NamesDiffer port_label (output_port (port_name pin))), tt)
inside-by pin drive.ByNet is = rw is (three-inside pin (is_pad_read pin))
inside-by pin drive.ByRegister is = rw is (three-inside pin (is_pad_read pin))

-- the ports of one pin
pin-inside : (pin : Pin) → Apart port_label (pin_ports pin)
pin-inside pin = inside-by pin pin.drive refl

-- ---- registers of pins

-- the kind of a register by the first two bytes of its name
kind_in : List ℕ → ℕ
kind_in name =
    let second = get_or name 1 0 in
    if get_or name 0 0 == 99 then (if second == 105 then 2 else 5)
    else (if second == 105 then 0 else (if second == 106 then 1 else (if second == 111 then 3 else (if second == 113 then 4 else 6))))

kind-in : (register : PinRegister) (rest : List ℕ) → kind_in (pin_prefix register ++ rest) ≡ kind_number register
unfolding kind_in
kind-in kind.Input rest = refl
kind-in kind.SecondInput rest = refl
kind-in kind.InputClockEnable rest = refl
kind-in kind.Output rest = refl
kind-in kind.SecondOutput rest = refl
kind-in kind.OutputClockEnable rest = refl
kind-in kind.OutputEnable rest = refl

-- what comes after it
rest-in : (register : PinRegister) (rest : List ℕ) → drop 3 (pin_prefix register ++ rest) ≡ rest
rest-in kind.Input rest = refl
rest-in kind.SecondInput rest = refl
rest-in kind.InputClockEnable rest = refl
rest-in kind.Output rest = refl
rest-in kind.SecondOutput rest = refl
rest-in kind.OutputClockEnable rest = refl
rest-in kind.OutputEnable rest = refl

flip-no_pin_name : (rest more : List ℕ) (register : PinRegister) → bytes_eq (codes "ff_" ++ rest) (pin_prefix register ++ more) ≡ false
flip-no_pin_name rest more kind.Input = refl
flip-no_pin_name rest more kind.SecondInput = refl
flip-no_pin_name rest more kind.InputClockEnable = refl
flip-no_pin_name rest more kind.Output = refl
flip-no_pin_name rest more kind.SecondOutput = refl
flip-no_pin_name rest more kind.OutputClockEnable = refl
flip-no_pin_name rest more kind.OutputEnable = refl

-- kinds in ascending order, from a number on
abbrev IsRising : ℕ → List PinRegister → Type 0
IsRising from kinds = All (λ register. from ≤ kind_number register) kinds × AreApart (λ one other. kind_number one < kind_number other) kinds

rising-last : (passes : Bool) (register : PinRegister) → IsRising (kind_number register) (item_if passes register)
rising-last true register = (All-single (λ other. kind_number register ≤ kind_number other) register (omega arith), apart-single (λ one other. kind_number one < kind_number other) register)
rising-last false register = (All-nil (λ other. kind_number register ≤ kind_number other), tt)

rising-more : (passes : Bool) (register : PinRegister) (later : List PinRegister) → IsRising (suc (kind_number register)) later → IsRising (kind_number register) (item_if passes register ++ later)
rising-more true register later rising = (
  All-cons (λ other. kind_number register ≤ kind_number other) register later (omega arith)
      (All-weaker (λ other. suc (kind_number register) ≤ kind_number other) (λ other. kind_number register ≤ kind_number other) (λ other above. omega (arith, above)) later rising.0),
  (
    All-weaker (λ other. suc (kind_number register) ≤ kind_number other) (λ other. kind_number register < kind_number other) (λ other above. omega (arith, above)) later rising.0,
    rising.1,
  ),
)
rising-more false register later rising = (
  All-weaker (λ other. suc (kind_number register) ≤ kind_number other) (λ other. kind_number register ≤ kind_number other) (λ other above. omega (arith, above)) later rising.0,
  rising.1,
)

-- so are those of a pin
registers-rise : (pin : Pin) → AreApart (λ one other. kind_number one < kind_number other) (registers_in pin)
registers-rise pin =
    (rising-more (pin.reads_0 && takes_by_register pin.takes) kind.Input _
    (rising-more pin.reads_1 kind.SecondInput _
    (rising-more pin.reads_1 kind.InputClockEnable _
    (rising-more (drives pin && has_register pin.sends) kind.Output _
    (rising-more (drives pin && is_double pin.sends) kind.SecondOutput _
    (rising-more (drives pin && is_double pin.sends) kind.OutputClockEnable _ (rising-last (is_by_register pin.drive) kind.OutputEnable))))))).1

module _ (flips : ℕ) (pins : List Pin) where
  abbrev made : Pin → PinRegister → Register
  made pin register = pin_register flips pins pin register

  made-name : (pin : Pin) (register : PinRegister) → register_name (made pin register) ≡ pin_prefix register ++ three_numbers pin.x pin.y pin.n
  unfolding register_name pin_register
  made-name pin register = refl

  -- two registers of pins with the same name are of one place and one kind
  made-place : (a b : Pin) (one other : PinRegister) → register_name (made a one) ≡ register_name (made b other) → port_name a ≡ port_name b
  made-place a b one other same =
      let named : pin_prefix one ++ three_numbers a.x a.y a.n ≡ pin_prefix other ++ three_numbers b.x b.y b.n = sym (made-name a one) ∙ (same ∙ made-name b other) in
      pad-same a.x a.y a.n b.x b.y b.n (sym (rest-in one (three_numbers a.x a.y a.n)) ∙ (ap (drop 3) named ∙ rest-in other (three_numbers b.x b.y b.n)))

  made-kind : (pin : Pin) (one other : PinRegister) → register_name (made pin one) ≡ register_name (made pin other) → kind_number one ≡ kind_number other
  made-kind pin one other same =
      let numbers = three_numbers pin.x pin.y pin.n in
      let named : pin_prefix one ++ three_numbers pin.x pin.y pin.n ≡ pin_prefix other ++ three_numbers pin.x pin.y pin.n = sym (made-name pin one) ∙ (same ∙ made-name pin other) in
      sym (kind-in one numbers) ∙ (ap kind_in named ∙ kind-in other numbers)

  -- the registers of one pin
  registers-inside : (pin : Pin) → Apart register_name (map (made pin) (registers_in pin))
  registers-inside pin =
      apart-map (NamesDiffer register_name) (made pin) (registers_in pin)
      (apart-weaker (λ one other. kind_number one < kind_number other) (λ one other. NamesDiffer register_name (made pin one) (made pin other))
      (λ one other less. bytes_eq-apart (register_name (made pin one)) (register_name (made pin other)) (λ same. absurd (omega (arith, less, made-kind pin one other same))))
      (registers_in pin) (registers-rise pin))

  -- those of two pins
  registers-across : (a b : Pin) → NamesDiffer port_name a b → All (λ one. All (NamesDiffer register_name one) (map (made b) (registers_in b))) (map (made a) (registers_in a))
  registers-across a b away =
      All-map (λ one. All (NamesDiffer register_name one) (map (made b) (registers_in b))) (made a) (registers_in a)
      (All-every (λ one. All (NamesDiffer register_name (made a one)) (map (made b) (registers_in b)))
      (λ one. All-map (NamesDiffer register_name (made a one)) (made b) (registers_in b)
      (All-every (λ other. NamesDiffer register_name (made a one) (made b other))
      (λ other. bytes_eq-apart (register_name (made a one)) (register_name (made b other))
      (λ same. let never : true ≡ false = sym (bytes_eq-same (port_name a) (port_name b) (made-place a b one other same)) ∙ away in absurd cc)) (registers_in b))) (registers_in a))

  flip-no_made : (reads : LutInputs) (lc : LogicCell) (pin : Pin) (register : PinRegister) → NamesDiffer register_name (register_of reads lc) (made pin register)
  unfolding register_name register_of pin_register
  flip-no_made reads lc pin register = flip-no_pin_name (three_numbers lc.x lc.y lc.i) (three_numbers pin.x pin.y pin.n) register

  flip-no_pin : (reads : LutInputs) (lc : LogicCell) → All (NamesDiffer register_name (register_of reads lc)) (pin_registers_of flips pins)
  unfolding pin_registers_of
  flip-no_pin reads lc =
      All-flat_map (NamesDiffer register_name (register_of reads lc)) (λ pin. map (made pin) (registers_in pin)) pins
      (All-every (λ pin. All (NamesDiffer register_name (register_of reads lc)) (map (made pin) (registers_in pin)))
      (λ pin. All-map (NamesDiffer register_name (register_of reads lc)) (made pin) (registers_in pin)
      (All-every (λ register. NamesDiffer register_name (register_of reads lc) (made pin register)) (flip-no_made reads lc pin) (registers_in pin))) pins)

  pin_registers-apart : Apart port_name pins → Apart register_name (pin_registers_of flips pins)
  unfolding pin_registers_of
  pin_registers-apart apart =
      apart-flat_map (NamesDiffer register_name) (NamesDiffer port_name) (λ pin. map (made pin) (registers_in pin)) registers-across registers-inside pins apart

module _ (db : Database) (image : Configuration) where
  -- ---- pins

  module _ (all : Bool) where
    abbrev pin_of : ℕ × PinPlace → Pin
    pin_of place = pin_with all db image place.0 place.1.x place.1.y place.1.n

    placed-small : (place : ℕ × PinPlace) → PlaceSmall place.1 → PinSmall (pin_of place)
    unfolding PlaceSmall PinSmall pin_with
    placed-small place small = small

    placed-apart : (a b : ℕ × PinPlace) → NamesDiffer place_label a.1 b.1 → NamesDiffer port_name (pin_of a) (pin_of b)
    unfolding pin_with
    placed-apart a b away = away

    pins-apart : Apart port_name (pins_of all db image)
    unfolding pins_of
    pins-apart =
        apart-flat_map (NamesDiffer port_name) (λ one other. NamesDiffer place_label one.1 other.1) (port_at all db image)
        (λ a b away. All-item_if (λ one. All (NamesDiffer port_name one) (port_at all db image b)) (is_port (pin_of a)) (pin_of a)
        (All-item_if (NamesDiffer port_name (pin_of a)) (is_port (pin_of b)) (pin_of b) (placed-apart a b away)))
        (λ place. apart-item_if (NamesDiffer port_name) (is_port (pin_of place)) (pin_of place)) (numbered (pin_places image.layout.device))
        (apart-numbered (NamesDiffer place_label) 0 (pin_places image.layout.device) (places-apart image.layout.device))

    pub pins-small : All PinSmall (pins_of all db image)
    unfolding pins_of
    pins-small =
        All-flat_map PinSmall (port_at all db image) (numbered (pin_places image.layout.device))
        (All-weaker (λ place. PlaceSmall place.1) (λ place. All PinSmall (port_at all db image place))
        (λ place small. All-item_if PinSmall (is_port (pin_of place)) (pin_of place) (placed-small place small)) (numbered (pin_places image.layout.device))
        (All-numbered PlaceSmall 0 (pin_places image.layout.device) (places-small image.layout.device)))

    -- so are the names of their ports
    pub ports-apart : Apart port_label (flat_map pin_ports (pins_of all db image))
    ports-apart =
        apart-flat_map (NamesDiffer port_label) (λ a b. PinSmall a × PinSmall b × NamesDiffer port_name a b) pin_ports
        (λ a b apart. pins-across a b apart.0 apart.1 apart.2) pin-inside (pins_of all db image) (apart-with PinSmall (NamesDiffer port_name) (pins_of all db image) pins-small pins-apart)

  -- ---- cells

  pub cell-at : (x y i : ℕ) (bits : List Bool) → x < grid_width image.layout.device → y < grid_height image.layout.device → i < 8
      → CellSmall (cell_with db image x y i bits) × ((cell_with db image x y i bits).x ≡ x) × ((cell_with db image x y i bits).y ≡ y)
  unfolding cell_with CellSmall
  cell-at x y i bits left low few =
      (record { first = few-small x (width-few image.layout.device x left); second = few-small y (height-few image.layout.device y low); third = few-small i (omega arith) }, refl, refl)

  cell-number : (x y i : ℕ) (bits : List Bool) → (cell_with db image x y i bits).i ≡ i
  unfolding cell_with
  cell-number x y i bits = refl

  -- cells are apart by the names of their registers
  cells-apart : (reads : LutInputs) → Apart (λ lc. register_name (register_of reads lc)) (cells_of db image)
  unfolding cells_of cells_at
  cells-apart reads =
      let name = λ (lc : LogicCell). register_name (register_of reads lc) in
      apart-over_tiles (NamesDiffer name) CellSmall (λ lc. lc.x) (λ lc. lc.y)
      (λ a b of_a of_b other. bytes_eq-apart (name a) (name b) (λ same. other (cell-places reads a b of_a of_b same).0))
      (λ a b of_a of_b other. bytes_eq-apart (name a) (name b) (λ same. other (cell-places reads a b of_a of_b same).1))
      image.layout.device Logic (cells_at db image)
      (λ x y left low. All-gathered_below (λ lc. CellSmall lc × (lc.x ≡ x) × (lc.y ≡ y)) 8 (used_cell db image x y)
      (λ i few. All-item_if (λ lc. CellSmall lc × (lc.x ≡ x) × (lc.y ≡ y)) _ (cell_with db image x y i (cell_bits db image x y i))
      (cell-at x y i (cell_bits db image x y i) left low few)))
      (λ x y left low. apart-gathered (NamesDiffer name) CellSmall (λ lc. lc.i)
      (λ a b of_a of_b other. bytes_eq-apart (name a) (name b) (λ same. other (cell-places reads a b of_a of_b same).2)) 8 (used_cell db image x y)
      (λ i few. All-item_if (λ lc. CellSmall lc × (lc.i ≡ i)) _ (cell_with db image x y i (cell_bits db image x y i))
      ((cell-at x y i (cell_bits db image x y i) left low few).0, cell-number x y i (cell_bits db image x y i)))
      (λ i few. apart-item_if (NamesDiffer name) _ (cell_with db image x y i (cell_bits db image x y i))))

  flips-apart : (reads : LutInputs) → Apart register_name (registers_of reads (cells_of db image))
  unfolding registers_of
  flips-apart reads =
      apart-map (NamesDiffer register_name) (register_of reads) (filter (λ lc. lc.flip) (cells_of db image))
      (apart-filter (NamesDiffer (λ lc. register_name (register_of reads lc))) (λ lc. lc.flip) (cells_of db image) (cells-apart reads))

  pub registers-apart : (options : FabricOptions) → Apart register_name (fabric_with options db image).registers
  unfolding fabric_with registers_of
  registers-apart options =
      let reads = options.lut_inputs in
      let count = flips_among (cells_of db image) in
      let pins = pins_of options.all_pins db image in
      let flips = filter (λ lc. lc.flip) (cells_of db image) in
      apart-append (NamesDiffer register_name) (map (register_of reads) flips) (pin_registers_of count pins) (flips-apart reads)
      (pin_registers-apart count pins (pins-apart options.all_pins))
      (All-map (λ register. All (NamesDiffer register_name register) (pin_registers_of count pins)) (register_of reads) flips
      (All-every (λ lc. All (NamesDiffer register_name (register_of reads lc)) (pin_registers_of count pins)) (flip-no_pin count pins reads) flips))

  -- ---- RAMs

  pub ram-placed : (x y : ℕ) → x < grid_width image.layout.device → y < grid_height image.layout.device
      → RamSmall (ram_at db image x y) × ((ram_at db image x y).x ≡ x) × ((ram_at db image x y).y ≡ y)
  unfolding ram_at RamSmall
  ram-placed x y left low =
      (record { first = few-small x (width-few image.layout.device x left); second = few-small y (height-few image.layout.device y low); third = few-small 0 (omega arith) }, refl, refl)

  pub rams-apart : (name : RamCell → List ℕ) → ((a b : RamCell) → RamSmall a → RamSmall b → name a ≡ name b → (a.x ≡ b.x) × (a.y ≡ b.y)) → Apart name (rams_of db image)
  unfolding rams_of
  rams-apart name places =
      apart-over_tiles (NamesDiffer name) RamSmall (λ ram. ram.x) (λ ram. ram.y)
      (λ a b of_a of_b other. bytes_eq-apart (name a) (name b) (λ same. other (places a b of_a of_b same).0))
      (λ a b of_a of_b other. bytes_eq-apart (name a) (name b) (λ same. other (places a b of_a of_b same).1))
      image.layout.device RamB (λ x y. if is_ram_used db image x y then ram_at db image x y ∷ [] else [])
      (λ x y left low. All-if (λ ram. RamSmall ram × (ram.x ≡ x) × (ram.y ≡ y)) (is_ram_used db image x y) (ram_at db image x y ∷ [])
      (All-single (λ ram. RamSmall ram × (ram.x ≡ x) × (ram.y ≡ y)) (ram_at db image x y) (ram-placed x y left low)))
      (λ x y left low. apart-item_if (NamesDiffer name) (is_ram_used db image x y) (ram_at db image x y))

  -- ---- start words and ports

  words-count : (x y : ℕ) → length (start_words image x y) ≡ 256
  unfolding start_words
  words-count x y = each_below-length 256 (start_word image x y)

  mode-few : (x y low high : ℕ) → mode_of db image x y low high ≤ 3
  mode-few x y low high =
      omega (arith, bit_value-le (is_function_on db image RamT x (y + 1) (ending_in (codes "RamConfig.CBIT_") low)), bit_value-le (is_function_on db image RamT x (y + 1) (ending_in (codes "RamConfig.CBIT_") high)))

  ports-count : (x y : ℕ) → IsPorted (ram_at db image x y)
  unfolding ram_at
  ports-count x y = record {
    read_mode = mode-few x y 2 3;
    write_mode = mode-few x y 0 1;
    read_address = each_below-length 11 _;
    write_address = each_below-length 11 _;
    mask = each_below-length 16 _;
    written = each_below-length 16 _;
    read = each_below-length 16 _;
  }

  same-if : {A B : Type 0} (passes : Bool) (first : List A) (second : List B) → length first ≡ length second → length (if passes then first else []) ≡ length (if passes then second else [])
  same-if true first second same = same
  same-if false first second same = refl

  starts-count : (options : FabricOptions) → length (fabric_with options db image).start ≡ length (rams_of db image)
  unfolding fabric_with rams_of over_grid
  starts-count options =
      count-gathered (grid_height image.layout.device) _ _ (λ y. count-gathered (grid_width image.layout.device) _ _ (λ x.
      same-if (is_kind_there RamB (kind_of image.layout.device x y)) (if is_ram_used db image x y then start_words image x y ∷ [] else []) (if is_ram_used db image x y then ram_at db image x y ∷ [] else [])
      (same-if (is_ram_used db image x y) (start_words image x y ∷ []) (ram_at db image x y ∷ []) refl)))

  words-all : (options : FabricOptions) → All (λ words. length words ≡ 256) (fabric_with options db image).start
  unfolding fabric_with
  words-all options =
      All-over_tiles (λ words. length words ≡ 256) image.layout.device RamB (λ x y. if is_ram_used db image x y then start_words image x y ∷ [] else [])
      (λ x y left low. All-if (λ words. length words ≡ 256) (is_ram_used db image x y) (start_words image x y ∷ [])
      (All-single (λ words. length words ≡ 256) (start_words image x y) (words-count x y)))

  ports-all : All IsPorted (rams_of db image)
  unfolding rams_of
  ports-all =
      All-over_tiles IsPorted image.layout.device RamB (λ x y. if is_ram_used db image x y then ram_at db image x y ∷ [] else [])
      (λ x y left low. All-if IsPorted (is_ram_used db image x y) (ram_at db image x y ∷ []) (All-single IsPorted (ram_at db image x y) (ports-count x y)))

  fabric-rams : (options : FabricOptions) → (fabric_with options db image).rams ≡ rams_of db image
  unfolding fabric_with
  fabric-rams options = refl

  -- the RAMs have their ports and start words
  pub fabric-started : (options : FabricOptions) → IsStarted (fabric_with options db image)
  fabric-started options = record {
    each_ram = starts-count options ∙ ap length (sym (fabric-rams options));
    each_word = words-all options;
    each_port = subst (All IsPorted) (sym (fabric-rams options)) ports-all;
  }

-- ---- drivers name what is there

-- a pad, or an output of a PLL, is one of the input ports
abbrev pub IsPadIn : List Pin → List PllSource → GlobalFrom → Type 0
IsPadIn pins plls (Pad x y n) = input_place pins (PadPort x y n) < length (inputs_among pins)
IsPadIn pins plls (Pll x y output) = pll_place pins plls x y output < length (inputs_with pins plls)
IsPadIn pins plls (Fabout net) = Unit {0}

module _ (fabric : Fabric) where
  IsNamedIn : Drive → Type 0
  IsNamedIn drive = IsPlaceIn fabric drive.rule

  drives_if-there : (by : Driver) (rule : Rule) (net : Option ℕ) → IsPlaceIn fabric rule → All IsNamedIn (drives_if by rule net)
  unfolding IsNamedIn
  drives_if-there by rule None there = All-nil (λ (drive : Drive). IsPlaceIn fabric drive.rule)
  drives_if-there by rule (Some net) there = All-single (λ (drive : Drive). IsPlaceIn fabric drive.rule) (record { driver = by; net = net; rule = rule }) there

  each-there : {X : Type 0} (Is : X → Type 0) (given : X → List Drive) → ((x : X) → Is x → All IsNamedIn (given x)) → (parts : List X) → All Is parts → All IsNamedIn (flat_map given parts)
  each-there Is given each parts all = All-flat_map IsNamedIn given parts (All-weaker Is (λ x. All IsNamedIn (given x)) each parts all)

  any-there : {X : Type 0} (given : X → List Drive) → ((x : X) → All IsNamedIn (given x)) → (parts : List X) → All IsNamedIn (flat_map given parts)
  any-there given each [] = All-nil IsNamedIn
  any-there given each (x ∷ parts) = All-append IsNamedIn (given x) (flat_map given parts) (each x) (any-there given each parts)

  by-there : (place : ℕ × Register) (by : Option Driver) → Contains (numbered fabric.registers) place → All IsNamedIn (drives_by place by)
  by-there place None there = All-nil IsNamedIn
  by-there place (Some by) there = drives_if-there by (register_bit place.0 place.1) place.1.out there

  if-there : (passes : Bool) (one other : Rule) → IsPlaceIn fabric one → IsPlaceIn fabric other → IsPlaceIn fabric (if passes then one else other)
  if-there true one other of_one of_other = of_one
  if-there false one other of_one of_other = of_other

  data-there : (ram mode bit : ℕ) → ram < length fabric.rams → bit < 16 → IsPlaceIn fabric (read_data_rule ram mode bit)
  data-there ram mode bit there few =
      if-there _ (read_bit ram (bit - first_data_bit mode)) (constant false) (there, omega (arith, few)) tt

  ram-there : (place : ℕ × RamCell) → (place.0 < length fabric.rams) × (length place.1.rdata ≡ 16) → All IsNamedIn (ram_drives place)
  ram-there place there =
      each-there (λ (port : ℕ × Option ℕ). port.0 < 16) (ram_drive place)
      (λ port few. drives_if-there _ (read_data_rule place.0 place.1.read port.0) port.1 (data-there place.0 place.1.read port.0 there.0 few)) (numbered place.1.rdata)
      (All-weaker (λ (port : ℕ × Option ℕ). port.0 < 0 + length place.1.rdata) (λ (port : ℕ × Option ℕ). port.0 < 16) (λ port found. omega (arith, found, there.1)) (numbered place.1.rdata) (places-below 0 place.1.rdata))

  from-there : (from : GlobalFrom) → IsPadIn fabric.pins fabric.plls from → IsPlaceIn fabric (global_rule fabric.pins fabric.plls from)
  from-there (Pad x y n) there = among-first fabric _ there
  from-there (Pll x y output) there = there
  from-there (Fabout net) there = tt

  global-there : (global : GlobalNet) → IsPadIn fabric.pins fabric.plls global.from → All IsNamedIn (global_drives fabric.pins fabric.plls global)
  global-there global there = drives_if-there _ (global_rule fabric.pins fabric.plls global.from) (Some global.net) (from-there global.from there)

  pll-there : (port : PllSource) → Contains fabric.plls port → All IsNamedIn (pll_drives fabric.pins fabric.plls port)
  pll-there port there =
      drives_if-there _ (pin_bit (pll_place fabric.pins fabric.plls port.x port.y port.output)) port.net
      (pll-port-there fabric.pins fabric.plls port.x port.y port.output port there (output-itself port))

  then-there : (first second : List Drive) → All IsNamedIn first → All IsNamedIn second → All IsNamedIn (first ++ second)
  then-there first second = All-append IsNamedIn first second

  module _ (closed : IsClosed fabric) (pads : All (λ (global : GlobalNet). IsPadIn fabric.pins fabric.plls global.from) fabric.globals) (ports : All (λ ram. length ram.rdata ≡ 16) fabric.rams) where
    each-pin : (given : Pin → List Drive) → ((pin : Pin) → Contains fabric.pins pin → All IsNamedIn (given pin)) → All IsNamedIn (flat_map given fabric.pins)
    each-pin given each = each-there (Contains fabric.pins) given each fabric.pins (All-contains_itself fabric.pins)

    each-register : (given : ℕ × Register → List Drive) → ((place : ℕ × Register) → Contains (numbered fabric.registers) place → All IsNamedIn (given place))
        → All IsNamedIn (flat_map given (numbered fabric.registers))
    each-register given each = each-there (Contains (numbered fabric.registers)) given each (numbered fabric.registers) (All-contains_itself (numbered fabric.registers))

    pin-port : (pin : Pin) → Contains fabric.pins pin → All IsNamedIn (pin_drives fabric.pins pin)
    pin-port pin there =
        if-when IsNamedIn (not (drives pin) && takes_pad pin.takes) _
        (λ is. let both = and_parts (not (drives pin)) (takes_pad pin.takes) is in
        drives_if-there _ (pin_bit (input_place fabric.pins (PadPort pin.x pin.y pin.n))) pin.din_0
        (among-first fabric _ (pad-port-there fabric.pins pin there (and_from (not (drives pin)) (takes_pad pin.takes || is_pad_read pin) both.0 (or_left (takes_pad pin.takes) (is_pad_read pin) both.1)))))

    pin-back : (pin : Pin) → Contains fabric.pins pin → All IsNamedIn (back_drives fabric pin)
    pin-back pin there =
        if-when IsNamedIn (is_read_back pin) _ (λ is. drives_if-there _ (input (pad_of fabric pin)) pin.din_0 (back-there fabric closed pin there is))

    pin-data : (pin : Pin) → Contains fabric.pins pin → All IsNamedIn (data_drives fabric pin)
    pin-data pin there =
        if-when IsNamedIn (drives pin && has_table pin.sends) _ (λ is. drives_if-there _ (table_entry (data_table fabric pin)) pin.data_net (data_table-there fabric closed pin there is))

    pin-pad : (pin : Pin) → Contains fabric.pins pin → All IsNamedIn (pad_drives fabric pin)
    pin-pad pin there =
        if-when IsNamedIn (has_outside pin) _ (λ is. drives_if-there _ (table_entry (pad_table fabric pin)) pin.pad_net (pad_table-there fabric closed pin there is))

    all-there : All IsNamedIn (drives_of fabric)
    unfolding drives_of
    all-there =
        then-there _ _ (each-pin (pin_drives fabric.pins) pin-port)
        (then-there _ _ (each-pin (back_drives fabric) pin-back)
        (then-there _ _ (any-there (lut_drives fabric.lut_inputs) (λ lc. drives_if-there _ (table_entry (table_of fabric.lut_inputs lc)) lc.out (cell-signals fabric fabric.lut_inputs lc)) (filter (λ lc. not lc.flip) fabric.lcs))
        (then-there _ _ (each-there (Contains (numbered fabric.registers)) flip_drives (λ place there. by-there place (flip_driver place.1 place.1.kind) there) (numbered fabric.registers) (All-contains_itself (numbered fabric.registers)))
        (then-there _ _ (any-there (lout_drives fabric.lut_inputs) (λ lc. drives_if-there _ (table_entry (table_of fabric.lut_inputs lc)) lc.lout (cell-signals fabric fabric.lut_inputs lc)) fabric.lcs)
        (then-there _ _ (any-there carry_drives (λ lc. drives_if-there _ (majority_of (get_or lc.ins 1 None) (get_or lc.ins 2 None) lc.cin) lc.cout tt) (filter (λ lc. lc.carry) fabric.lcs))
        (then-there _ _ (any-there set_drives (λ set. drives_if-there _ (constant true) (Some set.net) tt) fabric.sets)
        (then-there _ _ (each-there (λ (place : ℕ × RamCell). (place.0 < 0 + length fabric.rams) × (length place.1.rdata ≡ 16)) ram_drives (λ place found. ram-there place (omega (arith, found.0), found.1)) (numbered fabric.rams)
        (All-pair (λ (place : ℕ × RamCell). place.0 < 0 + length fabric.rams) (λ (place : ℕ × RamCell). length place.1.rdata ≡ 16) (numbered fabric.rams) (places-below 0 fabric.rams) (All-numbered (λ ram. length ram.rdata ≡ 16) 0 fabric.rams ports)))
        (then-there _ _ (each-there (λ (global : GlobalNet). IsPadIn fabric.pins fabric.plls global.from) (global_drives fabric.pins fabric.plls) global-there fabric.globals pads)
        (then-there _ _ (any-there buffer_drives (λ buffer. drives_if-there _ (copied buffer.src) (Some buffer.dst) tt) fabric.buffers)
        (then-there _ _ (each-register input_drives (λ place there. by-there place (input_driver place.1 place.1.kind) there))
        (then-there _ _ (each-register second_drives (λ place there. by-there place (second_driver place.1 place.1.kind) there))
        (then-there _ _ (each-pin (data_drives fabric) pin-data)
        (then-there _ _ (each-pin (pad_drives fabric) pin-pad)
        (each-there (Contains fabric.plls) (pll_drives fabric.pins fabric.plls) pll-there fabric.plls (All-contains_itself fabric.plls)))))))))))))))

    pub drives-there : (drive : Drive) → Contains (drives_of fabric) drive → IsPlaceIn fabric drive.rule
    unfolding IsNamedIn
    drives-there drive there = All-contains IsNamedIn (drives_of fabric) drive all-there there
