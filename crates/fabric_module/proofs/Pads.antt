-- If a database and an image aren't refused, each pad of a global network is an input port.
use Rattle.std.proofs.Common.{◌≡◌, ℕ, zero, suc, ◌/◌, ◌%◌, ◌<◌, ◌≤◌, Bool, true, false, List, [], ◌∷◌, length, refl, ap, ◌∙◌, subst, arith, inl, inr, eq-eqb}
use Rattle.std.specs.Prelude.{All, Contains, Option, Some, None, not, codes, ◌&&◌, ◌||◌, ◌==◌, filter, find, option_map, if◌then◌else◌}
use Rattle.std.specs.List.{list_any}
use Rattle.std.proofs.lemmas.Bool.{cases_Bool, eqb-true, and_from, and_parts, or_right}
use Rattle.std.proofs.lemmas.List.Elements.{All-nil, All-head, All-tail, All-map}
use Rattle.plane_map.proofs.Grids.{kind_of-inside}
use Rattle.index_search.proofs.Gathered.{All-gathered_below, Contains-gathered_below}
use Rattle.shared_lemmas.proofs.Tests.{first_true}
use Rattle.plane_map.specs.Devices.{is_same_device}
use Rattle.plane_map.proofs.Devices.{one-device}
use Rattle.plane_map.specs.declared.tile.TileKind.TheVariants.{Io}
use Rattle.plane_map.specs.Layout.{kind_of, grid_width, grid_height}
use Rattle.ice_image.specs.Configuration.{Configuration}
use Rattle.chipdb_lines.specs.declared.chip.Chip.{Chip}
use Rattle.chipdb_lines.specs.declared.globals.GlobalPin.{GlobalPin}
use Rattle.chipdb_lines.specs.Statements.{is_kind_there}
use Rattle.chipdb_reader.specs.declared.items.PinXy.{PinXy}
use Rattle.chipdb_reader.specs.Database.{Database}
use Rattle.chipdb_reader.specs.Lookups.{pin_of, pad_of}
use Rattle.chipdb_reader.specs.Fit.{IsFit, IsGlobalPin}
use Rattle.index_search.proofs.Places.{any_below-at}
use Rattle.fabric_model.specs.declared.pin.Pin.{Pin}
use Rattle.fabric_model.specs.declared.pin.GlobalNet.{GlobalNet}
use Rattle.fabric_model.specs.declared.pin.GlobalFrom.{GlobalFrom}
use Rattle.fabric_model.specs.declared.pin.GlobalFrom.TheVariants.{Fabout}
use Rattle.fabric_model.specs.declared.pll.PllSource.{PllSource}
use Rattle.fabric_model.specs.Plls.{pll_sources, is_pin_at, is_pll_place}
use Rattle.fabric_model.specs.PllPorts.{is_some_global, is_source_read, pll_ports}
use Rattle.fabric_model.specs.Tiles.{each_below, at_kind}
use Rattle.fabric_model.specs.On.{is_function_on}
use Rattle.fabric_model.specs.Nets.{is_some_read}
use Rattle.fabric_model.specs.PinTypes.{pintype_of, type_bit, drive_of, ever_drives, takes_pad, is_latched, is_of_pll}
use Rattle.fabric_model.specs.Pins.{PinPlace, pin_places, has_no_output, has_tri_state_output, has_plain_input, is_plain_input, is_registered_input, is_output_pin, is_input_read, is_second_read, drives, is_port, is_pad_read, has_input, pin_with, port_at, pins_of, global_pad, global_source, global_fabout, from_pll, from_pad, source_of_global, global_nets, nets_from, globals_of, is_global_pad, is_misread, is_refused_with}
use Rattle.fabric_model.specs.Numbered.{numbered_from, numbered}
use Rattle.fabric_model.specs.InputPorts.{inputs_among, input_place}
use Rattle.fabric_model.specs.declared.input_port.InputPort.TheVariants.{Pad as PadPort}
use Rattle.fabric_model.specs.declared.options.FabricOptions.{FabricOptions}
use Rattle.fabric_model.specs.Faults.{Fault, device_faults, is_refused_at, pin_fault_at, pin_faults}
use Rattle.fabric_model.specs.Faults.Fault.{pin_mode}
use Rattle.fabric_model.proofs.Contained.{contains-flat_map}
use Rattle.fabric_model.proofs.Taken.{IsTaken}
use Rattle.fabric_model.proofs.Runs.{contains-over_grid}
use Rattle.fabric_model.proofs.Signals.{pad-port-there, pll-port-there, output-itself}
use Rattle.fabric_module.proofs.Configured.{IsPadIn}

-- ---- tests and places

second-none : (a b c : Bool) → (a || (b || c)) ≡ false → b ≡ false
second-none true b c none = absurd cc
second-none false true c none = absurd cc
second-none false false c none = refl

fourth-none : (a b c d e : Bool) → (a || (b || (c || (d || e)))) ≡ false → d ≡ false
fourth-none true b c d e none = absurd cc
fourth-none false true c d e none = absurd cc
fourth-none false false true d e none = absurd cc
fourth-none false false false true e none = none
fourth-none false false false false e none = refl

no-fault : (passes : Bool) (fault : Fault) → (if passes then [] else fault ∷ []) ≡ [] → passes ≡ true
no-fault true fault none = refl
no-fault false fault none = absurd cc

-- an item has a place among the items
numbered-has : {X : Type 0} (from : ℕ) (xs : List X) (item : X) → Contains xs item → (place : ℕ) × Contains (numbered_from from xs) (place, item)
unfolding numbered_from
numbered-has from [] item (k, within, at) = absurd (omega (arith, within))
numbered-has {X} from (x ∷ xs) item (zero, within, at) = (from, subst (λ y. Contains ((from, x) ∷ numbered_from (suc from) xs) (from, y)) at (0, omega arith, refl))
numbered-has {X} from (x ∷ xs) item (suc k, within, at) =
    let later = numbered-has (suc from) xs item (k, omega (arith, within), at) in
    (later.0, (suc later.1.0, omega (arith, later.1.1), later.1.2))

-- a plain input pin doesn't drive its pad
input-only : (pintype : ℕ) → is_plain_input pintype ≡ true → ever_drives (drive_of pintype) ≡ false
input-only pintype is =
    let none : pintype / 4 ≡ 0 = eqb-true (pintype / 4) 0 (first_true (has_no_output pintype) (has_plain_input pintype) is) in
    let high : pintype / 32 ≡ 0 = omega (arith, none) in
    let low : pintype / 16 ≡ 0 = omega (arith, none) in
    let fifth : type_bit pintype 5 ≡ false = ap (λ n. n % 2 == 1) high in
    let fourth : type_bit pintype 4 ≡ false = ap (λ n. n % 2 == 1) low in
    rw (fifth, fourth) refl

-- ---- pads of the database

record IsPad (chip : Chip) (pad : PinXy) : Type 0 where
  tile : kind_of chip.device pad.x pad.y ≡ Some Io
  number : pad.n ≤ 1

pad-found : (chip : Chip) (test : GlobalPin → Bool) (pins : List GlobalPin) (pad : PinXy) → All (IsGlobalPin chip) pins → option_map pin_of (find test pins) ≡ Some pad → IsPad chip pad
pad-found chip test [] pad all found = absurd cc
pad-found chip test (pin ∷ pins) pad all found =
    elim (cases_Bool (test pin)) [
      | inl here ↦
          let is : Some (pin_of pin) ≡ Some pad = rw here at found in
          let same : pin_of pin ≡ pad = cc in
          let good = All-head (IsGlobalPin chip) pin pins all in
          subst (IsPad chip) same (record { tile = good.tile; number = good.pad_in })
      | inr away ↦ pad-found chip test pins pad (All-tail (IsGlobalPin chip) pin pins all) (rw away at found)
    ]

if-some : {A : Type 0} (passes : Bool) (value : Option A) (item : A) → (if passes then value else None) ≡ Some item → value ≡ Some item
if-some true value item is = is
if-some false value item is = absurd cc

-- ---- what is found in a list

none-any : {A : Type 0} (test : A → Bool) (items : List A) → find test items ≡ None → list_any test items ≡ false
none-any test [] none = refl
none-any test (item ∷ items) none =
    elim (cases_Bool (test item)) [
      | inl here ↦ let some : Some item ≡ None = rw here at none in absurd cc
      | inr away ↦ rw away (none-any test items (rw away at none))
    ]

found-has : {A : Type 0} (test : A → Bool) (items : List A) (item : A) → find test items ≡ Some item → Contains items item × (test item ≡ true)
found-has test [] item found = absurd cc
found-has {A} test (first ∷ items) item found =
    elim (cases_Bool (test first)) [
      | inl here ↦
          let is : Some first ≡ Some item = rw here at found in
          let same : first ≡ item = cc in
          subst (λ (one : A). Contains (first ∷ items) one × (test one ≡ true)) same ((0, omega arith, refl), here)
      | inr away ↦
          let later = found-has test items item (rw away at found) in
          ((suc later.0.0, omega (arith, later.0.1), later.0.2), later.1)
    ]

contains-filter : {A : Type 0} (test : A → Bool) (items : List A) (item : A) → Contains items item → test item ≡ true → Contains (filter test items) item
contains-filter test [] item (k, within, at) passes = absurd (omega (arith, within))
contains-filter test (first ∷ items) item (zero, within, at) passes = let here : test first ≡ true = ap test at ∙ passes in rw here (0, omega arith, at)
contains-filter test (first ∷ items) item (suc k, within, at) passes =
    let later = contains-filter test items item (k, omega (arith, within), at) passes in
    elim (cases_Bool (test first)) [
      | inl here ↦ rw here (suc later.0, omega (arith, later.1), later.2)
      | inr away ↦ rw away later
    ]

module _ (options : FabricOptions) (db : Database) (image : Configuration) (fit : IsFit db) (taken : IsTaken options db image) where
  abbrev pins : List Pin
  pins = pins_of options.all_pins db image

  devices : db.chip.device ≡ image.layout.device
  unfolding device_faults
  devices = one-device db.chip.device image.layout.device (no-fault (is_same_device db.chip.device image.layout.device) Fault.other_device taken.device)

  -- a pin of a global network that isn't refused, and that no output of a PLL has, never drives its pad
  never-drives : (all : Bool) (place : ℕ × PinPlace) → is_refused_at all db image place ≡ false → is_global_pad db image place.1.x place.1.y place.1.n ≡ true
      → is_pll_place (pll_sources all db image) place.1.x place.1.y place.1.n ≡ false
      → drives (pin_with all db image place.0 place.1.x place.1.y place.1.n) ≡ false
  unfolding pin_with is_refused_with
  never-drives true place fine global outside =
      let pin = pin_with true db image place.0 place.1.x place.1.y place.1.n in
      let second : (pin.is_global && drives pin) ≡ false =
      second-none (pin.reads_0 && is_latched pin.takes) (pin.is_global && drives pin)
      ((is_function_on db image Io pin.x pin.y (codes "IoCtrl.LVDS") && (is_port pin && not ((pin.n == 0) && not (drives pin))))
      || (is_of_pll pin.takes && is_misread db image pin.x pin.y pin.n)) fine in
      rw (outside, global) at second
  never-drives false place fine global outside =
      let x = place.1.x in let y = place.1.y in let n = place.1.n in
      let pintype = pintype_of db image x y n in
      let read = is_input_read db image x y n in
      let fourth : (is_global_pad db image x y n && not (is_plain_input pintype)) ≡ false =
      fourth-none (not (has_no_output pintype || is_output_pin pintype))
      (read && not (has_plain_input pintype || is_registered_input pintype))
      (is_second_read db image x y n)
      (is_global_pad db image x y n && not (is_plain_input pintype))
      (((is_plain_input pintype || ((is_registered_input pintype && read) || is_output_pin pintype)) && is_function_on db image Io x y (codes "IoCtrl.LVDS")) || (has_tri_state_output pintype && read)) fine in
      elim (cases_Bool (is_plain_input pintype)) [
        | inl here ↦ input-only pintype here
        | inr away ↦ let never : true ≡ false = rw (global, away) at fourth in absurd cc
      ]

  abbrev sources : List PllSource
  sources = pll_sources options.all_pins db image

  abbrev plls : List PllSource
  plls = pll_ports options.all_pins db image

  module _ (g : ℕ) (small : g < 8) (pad : PinXy) (is : global_pad db image g ≡ Some pad) where
    pad-is : IsPad db.chip pad
    unfolding pad_of
    pad-is = pad-found db.chip (λ pin. pin.global == g) db.global_pins pad fit.global_pins (if-some _ (pad_of g db.global_pins) pad is)

    pad-tile : kind_of image.layout.device pad.x pad.y ≡ Some Io
    pad-tile = subst (λ device. kind_of device pad.x pad.y ≡ Some Io) devices pad-is.tile

    pad-in : (pad.x < grid_width image.layout.device) × (pad.y < grid_height image.layout.device)
    pad-in = kind_of-inside image.layout.device pad.x pad.y Io pad-tile

    pad-io : is_kind_there Io (kind_of image.layout.device pad.x pad.y) ≡ true
    pad-io = rw pad-tile refl

    -- it is the pad of a global
    pad-global : is_global_pad db image pad.x pad.y pad.n ≡ true
    pad-global =
        any_below-at 8 g (λ k. is_pin_at pad.x pad.y pad.n (global_pad db image k)) small
        (rw is (and_from (pad.x == pad.x) ((pad.y == pad.y) && (pad.n == pad.n)) (eq-eqb pad.x pad.x refl)
        (and_from (pad.y == pad.y) (pad.n == pad.n) (eq-eqb pad.y pad.y refl) (eq-eqb pad.n pad.n refl))))

    the_place : PinPlace
    the_place = record { x = pad.x; y = pad.y; n = pad.n }

    place-there : Contains (pin_places image.layout.device) the_place
    unfolding pin_places the_place
    place-there =
        contains-over_grid image.layout.device (at_kind image.layout.device Io (λ x y. each_below 2 (λ n. record { x = x; y = y; n = n }))) pad.x pad.y the_place pad-in.0 pad-in.1
        (rw pad-io (Contains-gathered_below 2 pad.n (λ n. record { x = pad.x; y = pad.y; n = n } ∷ []) the_place (omega (arith, pad-is.number)) (0, omega arith, refl)))

    numbered-there : (place : ℕ) × Contains (numbered (pin_places image.layout.device)) (place, the_place)
    numbered-there = numbered-has 0 (pin_places image.layout.device) the_place place-there

    abbrev the_pin : Pin
    the_pin = pin_with options.all_pins db image numbered-there.0 pad.x pad.y pad.n

    -- so it isn't refused
    pad-fine : is_refused_at options.all_pins db image (numbered-there.0, the_place) ≡ false
    unfolding pin_faults
    pad-fine =
        elim (cases_Bool (is_refused_at options.all_pins db image (numbered-there.0, the_place))) [
          | inl here ↦
              let fault = pin_mode the_place.x the_place.y the_place.n (pintype_of db image the_place.x the_place.y the_place.n) in
              let found : Contains (pin_fault_at options.all_pins db image (numbered-there.0, the_place)) fault = rw here (0, omega arith, refl) in
              let among : Contains (pin_faults options.all_pins db image) fault =
              contains-flat_map (pin_fault_at options.all_pins db image) (numbered (pin_places image.layout.device)) (numbered-there.0, the_place) fault numbered-there.1 found in
              let never : Contains [] fault = subst (λ faults. Contains faults fault) taken.pins among in
              absurd (omega (arith, never.1))
          | inr away ↦ away
        ]

    -- and never drives its pad, if no output of a PLL has it
    module _ (outside : is_pll_place sources pad.x pad.y pad.n ≡ false) where
      pad-never : drives the_pin ≡ false
      unfolding the_place
      pad-never = never-drives options.all_pins (numbered-there.0, the_place) pad-fine pad-global outside

      pin-global : the_pin.is_global ≡ true
      unfolding pin_with
      pin-global = rw (outside, pad-global) refl

      -- so it is an input
      pin-input : has_input the_pin ≡ true
      pin-input =
          and_from (not (drives the_pin)) (takes_pad the_pin.takes || is_pad_read the_pin) (ap not pad-never)
          (or_right (takes_pad the_pin.takes) (is_pad_read the_pin) (or_right the_pin.reads_0 (the_pin.reads_1 || the_pin.is_global) (or_right the_pin.reads_1 the_pin.is_global pin-global)))

      pin-there : Contains pins the_pin
      unfolding pins_of the_place
      pin-there =
          contains-flat_map (port_at options.all_pins db image) (numbered (pin_places image.layout.device)) (numbered-there.0, the_place) the_pin numbered-there.1
          (rw (or_right (drives the_pin) (has_input the_pin) pin-input) (0, omega arith, refl))

      pad-there : input_place pins (PadPort pad.x pad.y pad.n) < length (inputs_among pins)
      unfolding pin_with
      pad-there = pad-port-there pins the_pin pin-there pin-input

    -- an output of a PLL that has its pin is a port
    found-there : (source : PllSource) → Contains sources source → is_pin_at pad.x pad.y pad.n source.pin ≡ true → Contains plls source
    unfolding pll_ports
    found-there source there at =
        contains-filter (is_source_read db image) sources source there
        (or_right (is_some_read db image source.net) (is_some_global db image source.pin) (pin-driven source.pin at))
      where
        pin-driven : (pin : Option PinXy) → is_pin_at pad.x pad.y pad.n pin ≡ true → is_some_global db image pin ≡ true
        pin-driven None at = absurd cc
        pin-driven (Some pin) at =
            let parts = and_parts (pin.x == pad.x) ((pin.y == pad.y) && (pin.n == pad.n)) at in
            let more = and_parts (pin.y == pad.y) (pin.n == pad.n) parts.1 in
            let x : pin.x ≡ pad.x = eqb-true pin.x pad.x parts.0 in
            let y : pin.y ≡ pad.y = eqb-true pin.y pad.y more.0 in
            let n : pin.n ≡ pad.n = eqb-true pin.n pad.n more.1 in
            rw (x, y, n) pad-global

    -- what the pad gives is an input port
    pad-by : (found : Option PllSource) → find (λ source. is_pin_at pad.x pad.y pad.n source.pin) sources ≡ found → IsPadIn pins plls (from_pll pad found)
    pad-by None away = pad-there (none-any (λ source. is_pin_at pad.x pad.y pad.n source.pin) sources away)
    pad-by (Some source) found =
        let has = found-has (λ source. is_pin_at pad.x pad.y pad.n source.pin) sources source found in
        pll-port-there pins plls source.x source.y source.output source (found-there source has.0 has.1) (output-itself source)

  -- what gives a global its value
  source-there : (g : ℕ) → g < 8 → (pad : Option PinXy) → global_pad db image g ≡ pad → (fabout : Option ℕ) (from : GlobalFrom)
      → source_of_global sources pad fabout ≡ Some from → IsPadIn pins plls from
  source-there g small (Some pad) is fabout from source =
      let same : from_pad sources pad ≡ from = cc in
      subst (IsPadIn pins plls) same (pad-by g small pad is (find (λ source. is_pin_at pad.x pad.y pad.n source.pin) sources) refl)
  source-there g small None is (Some net) from source = let same : Fabout net ≡ from = cc in subst (IsPadIn pins plls) same tt
  source-there g small None is None from source = absurd cc

  nets-there : (g : ℕ) (source : Option GlobalFrom) → ((from : GlobalFrom) → source ≡ Some from → IsPadIn pins plls from)
      → All (λ (global : GlobalNet). IsPadIn pins plls global.from) (nets_from db g source)
  nets-there g None good = All-nil (λ (global : GlobalNet). IsPadIn pins plls global.from)
  nets-there g (Some from) good =
      All-map (λ (global : GlobalNet). IsPadIn pins plls global.from) (λ net. record { g = g; net = net; from = from }) (global_nets db g)
      (λ k d below. good from refl)

  -- all pads are input ports
  pub pads-there : All (λ (global : GlobalNet). IsPadIn pins plls global.from) (globals_of options.all_pins db image)
  unfolding globals_of
  pads-there =
      All-gathered_below (λ (global : GlobalNet). IsPadIn pins plls global.from) 8 (λ g. nets_from db g (global_source sources db image g))
      (λ g small. nets-there g (global_source sources db image g) (λ from source. source-there g small (global_pad db image g) refl (global_fabout db g) from source))
