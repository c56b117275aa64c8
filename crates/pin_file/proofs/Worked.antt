-- The definitions at small texts, worked out by hand.
use Rattle.std.proofs.Common.{◌≡◌, ℕ, true, false, List, [], ◌∷◌, ◌++◌, refl}
use Rattle.std.specs.Prelude.{codes, bytes_eq, if◌then◌else◌, Option, Some, None}
use Rattle.text_lines.specs.Lines.{lines_of}
use Rattle.text_lines.specs.Words.{words_of, pieces_of, numbers_of, number_of}
use Rattle.index_search.specs.Places.{any_below, first_below, last_below}
use Rattle.vlog_module.specs.Names.{is_name, reserved_words}
use Rattle.pin_file.specs.declared.pin_name.PinName.{PinName}
use Rattle.pin_file.specs.declared.place.PinPlace.{PinPlace}
use Rattle.pin_file.specs.declared.place.PortPin.{PortPin}
use Rattle.pin_file.specs.declared.fault.PinFileCause.{PinFileCause}
use Rattle.pin_file.specs.declared.fault.PinFileCause.TheVariants.{Statement, Package as NoPackage, Pin}
use Rattle.pin_file.specs.declared.fault.PinFileFault.{PinFileFault}
use Rattle.pin_file.specs.declared.fault.PinFileFault.TheVariants.{At}
use Rattle.pin_file.specs.Lines.{Passed, Port, Unknown, plain_line, words_in, after_options, line_of}
use Rattle.pin_file.specs.PortNames.{plain_name, port_name, all_names, own_beginnings, has_own_form}
use Rattle.pin_file.specs.Packages.{Package, begins_package, place_in_line, stands_below, package_of}
use Rattle.pin_file.specs.Faults.{places_in, names_before, ports_of, pin_fault_of}

-- ---- lines

-- a vertical tab, a form feed, a tab and CR are blanks, and what `#` begins isn't read
blanks : words_in (codes " set_io" ++ 11 ∷ codes "led" ++ 12 ∷ 9 ∷ codes "A10#B1 x" ++ 13 ∷ []) ≡ codes "set_io" ∷ codes "led" ∷ codes "A10" ∷ []
unfolding plain_line words_of pieces_of
blanks = refl

-- options with and without a word
options : line_of (codes "set_io -nowarn -pullup yes --warn-no-port -pullup_resistor 3P3K led[3] A10") ≡ Port (codes "led[3]") (codes "A10")
unfolding line_of plain_line words_of pieces_of after_options
options = refl

-- the word after an option is missing
short : line_of (codes "set_io -pullup led A10") ≡ Unknown
unfolding line_of plain_line words_of pieces_of after_options
short = refl

-- an option after the pin
late : line_of (codes "set_io led A10 -nowarn") ≡ Port (codes "led") (codes "A10")
unfolding line_of plain_line words_of pieces_of after_options
late = refl

passed : line_of (codes "set_frequency clk 48 # MHz") ≡ Passed
unfolding line_of plain_line words_of pieces_of after_options
passed = refl

other : line_of (codes "set_location led 1 2 3") ≡ Unknown
unfolding line_of plain_line words_of pieces_of after_options
other = refl

-- ---- names

indexed : port_name (codes "led[3]") ≡ codes "led_3"
unfolding port_name plain_name has_own_form own_beginnings is_name reserved_words
indexed = refl

nested : port_name (codes "top.bus[1][20]") ≡ codes "top_bus_1__20"
unfolding port_name plain_name has_own_form own_beginnings is_name reserved_words
nested = refl

-- what comes out is no name
nothing : port_name (codes "[]") ≡ codes "p_"
unfolding port_name plain_name has_own_form own_beginnings is_name reserved_words
nothing = refl

digit : port_name (codes "1a") ≡ codes "p_1a"
unfolding port_name plain_name has_own_form own_beginnings is_name reserved_words
digit = refl

reserved : port_name (codes "end") ≡ codes "p_end"
unfolding port_name plain_name has_own_form own_beginnings is_name reserved_words
reserved = refl

-- or a name of the module itself
wire : port_name (codes "n[0]") ≡ codes "p_n_0"
unfolding port_name plain_name has_own_form own_beginnings is_name reserved_words
wire = refl

pll : port_name (codes "pll_0_A") ≡ codes "p_pll_0_A"
unfolding port_name plain_name has_own_form own_beginnings is_name reserved_words
pll = refl

other_input : port_name (codes "pj_0_2_1") ≡ codes "p_pj_0_2_1"
unfolding port_name plain_name has_own_form own_beginnings is_name reserved_words
other_input = refl

-- these are names already
word : port_name (codes "n") ≡ codes "n"
unfolding port_name plain_name has_own_form own_beginnings is_name reserved_words
word = refl

led : port_name (codes "io_led") ≡ codes "io_led"
unfolding port_name plain_name has_own_form own_beginnings is_name reserved_words
led = refl

own_pin : has_own_form (codes "io_0_2_0_en") ≡ true
unfolding has_own_form own_beginnings
own_pin = refl

own_wire : has_own_form (codes "n_12") ≡ true
unfolding has_own_form own_beginnings
own_wire = refl

no_own : has_own_form (codes "io_led") ≡ false
unfolding has_own_form own_beginnings
no_own = refl

-- ---- packages

-- two statements of the package, with a statement of another one between, and lines of other forms
database : List ℕ
database = codes ".pins cb121\nA10 12 17 1\nB1 0 2\n# 1 1 1\nB1 0 x 0\n.pins cb132\nA10 1 1 1\n.pins cb121 \n A10 3 3 0\nB1 5 0 1\n.other\nC1 1 1 1\n"

pins : Package
pins = package_of (codes "cb121") database

first_counts : pins.place_of (codes "A10") ≡ Some (record { x = 12; y = 17; pio = 1 })
unfolding pins database package_of lines_of first_below stands_below last_below begins_package place_in_line words_of pieces_of numbers_of number_of
first_counts = refl

later_counts : pins.place_of (codes "B1") ≡ Some (record { x = 5; y = 0; pio = 1 })
unfolding pins database package_of lines_of first_below stands_below last_below begins_package place_in_line words_of pieces_of numbers_of number_of
later_counts = refl

no_pin : pins.place_of (codes "C1") ≡ None
unfolding pins database package_of lines_of first_below stands_below last_below begins_package place_in_line words_of pieces_of numbers_of number_of
no_pin = refl

is_known : pins.known ≡ true
unfolding pins database package_of lines_of any_below begins_package words_of pieces_of
is_known = refl

is_unknown : (package_of (codes "cb12") database).known ≡ false
unfolding database package_of lines_of any_below begins_package words_of pieces_of
is_unknown = refl

-- ---- pin files

place_a : PinPlace
place_a = record { x = 0; y = 2; pio = 1 }

place_b : PinPlace
place_b = record { x = 5; y = 17; pio = 0 }

-- a package with the pins `A` and `B` alone
two_pins : Package
two_pins = record {
  known = true;
  place_of = λ pin. if bytes_eq pin (codes "A") then Some place_a else if bytes_eq pin (codes "B") then Some place_b else None;
}

-- a package that the database doesn't list
no_pins : Package
no_pins = record { known = false; place_of = λ pin. None }

fault : ℕ → PinFileCause → Option PinFileFault
fault line cause = Some (At line cause)

-- pins of a design that have a port: `A` has an output enable, and `B` has none
ports : List PortPin
ports = record { place = place_a; enable = true; outside = false } ∷ record { place = place_b; enable = false; outside = false } ∷ []

-- `B` alone has a port
port_b : List PortPin
port_b = record { place = place_b; enable = false; outside = false } ∷ []

-- `A` has an input beside its output
ports_outside : List PortPin
ports_outside = record { place = place_a; enable = false; outside = true } ∷ record { place = place_b; enable = false; outside = false } ∷ []

at_a : List ℕ → List PinName
at_a name = record { place = place_a; name = name } ∷ []

at_b : List ℕ → List PinName
at_b name = record { place = place_b; name = name } ∷ []

-- two ports, with an empty line and a remark between
both : ports_of two_pins ports (codes "set_io clk A\n\n# led\nset_io led[0] B\n") ≡ at_a (codes "clk") ++ at_b (codes "led_0")
unfolding two_pins place_a place_b ports port_b ports_outside at_a at_b ports_of names_before places_in all_names lines_of line_of plain_line words_of pieces_of after_options port_name plain_name has_own_form own_beginnings is_name reserved_words
both = refl

-- a second line for a pin gives nothing
second_line : ports_of two_pins ports (codes "set_io clk A\nset_io led A\n") ≡ at_a (codes "clk")
unfolding two_pins place_a place_b ports port_b ports_outside at_a at_b ports_of names_before places_in all_names lines_of line_of plain_line words_of pieces_of after_options port_name plain_name has_own_form own_beginnings is_name reserved_words
second_line = refl

-- a line for a pin without a port gives nothing, and its name is free for the other pin
no_port : ports_of two_pins port_b (codes "set_io led A\nset_io led B\n") ≡ at_b (codes "led")
unfolding two_pins place_a place_b ports port_b ports_outside at_a at_b ports_of names_before places_in all_names lines_of line_of plain_line words_of pieces_of after_options port_name plain_name has_own_form own_beginnings is_name reserved_words
no_port = refl

-- a name that an earlier line gave: the port keeps its own name
same_name : ports_of two_pins ports (codes "set_io led[1] A\nset_io led.1 B\n") ≡ at_a (codes "led_1")
unfolding two_pins place_a place_b ports port_b ports_outside at_a at_b ports_of names_before places_in all_names lines_of line_of plain_line words_of pieces_of after_options port_name plain_name has_own_form own_beginnings is_name reserved_words
same_name = refl

-- the second line for a pin gives nothing, even if the first line gave nothing
first_counts_still : ports_of two_pins ports (codes "set_io led A\nset_io led B\nset_io clk B\n") ≡ at_a (codes "led")
unfolding two_pins place_a place_b ports port_b ports_outside at_a at_b ports_of names_before places_in all_names lines_of line_of plain_line words_of pieces_of after_options port_name plain_name has_own_form own_beginnings is_name reserved_words
first_counts_still = refl

-- the name of an output enable that an earlier line gave
enable_given : ports_of two_pins ports (codes "set_io bus A\nset_io bus_en B\n") ≡ at_a (codes "bus")
unfolding two_pins place_a place_b ports port_b ports_outside at_a at_b ports_of names_before places_in all_names lines_of line_of plain_line words_of pieces_of after_options port_name plain_name has_own_form own_beginnings is_name reserved_words
enable_given = refl

-- an output enable whose name an earlier line gave
enable_taken : ports_of two_pins ports (codes "set_io bus_en B\nset_io bus A\n") ≡ at_b (codes "bus_en")
unfolding two_pins place_a place_b ports port_b ports_outside at_a at_b ports_of names_before places_in all_names lines_of line_of plain_line words_of pieces_of after_options port_name plain_name has_own_form own_beginnings is_name reserved_words
enable_taken = refl

-- without an output enable the name is free
no_enable : ports_of two_pins ports_outside (codes "set_io bus A\nset_io bus_en B\n") ≡ at_a (codes "bus") ++ at_b (codes "bus_en")
unfolding two_pins place_a place_b ports port_b ports_outside at_a at_b ports_of names_before places_in all_names lines_of line_of plain_line words_of pieces_of after_options port_name plain_name has_own_form own_beginnings is_name reserved_words
no_enable = refl

-- the same for an input beside an output
input_taken : ports_of two_pins ports_outside (codes "set_io bus A\nset_io bus_in B\n") ≡ at_a (codes "bus")
unfolding two_pins place_a place_b ports port_b ports_outside at_a at_b ports_of names_before places_in all_names lines_of line_of plain_line words_of pieces_of after_options port_name plain_name has_own_form own_beginnings is_name reserved_words
input_taken = refl

-- ---- faults

accepted : pin_fault_of two_pins (codes "set_io clk A\n\n# led\nset_io module A\n") ≡ None
unfolding two_pins no_pins place_a place_b fault pin_fault_of first_below lines_of line_of plain_line words_of pieces_of after_options
accepted = refl

statement_first : pin_fault_of no_pins (codes "set_io clk\nset_io clk A\n") ≡ fault 1 Statement
unfolding two_pins no_pins place_a place_b fault pin_fault_of first_below lines_of line_of plain_line words_of pieces_of after_options
statement_first = refl

no_package : pin_fault_of no_pins (codes "set_frequency clk 12\nset_io module A\n") ≡ fault 2 NoPackage
unfolding two_pins no_pins place_a place_b fault pin_fault_of first_below lines_of line_of plain_line words_of pieces_of after_options
no_package = refl

not_there : pin_fault_of two_pins (codes "set_io module A\nset_io module C\nset_io\n") ≡ fault 2 Pin
unfolding two_pins no_pins place_a place_b fault pin_fault_of first_below lines_of line_of plain_line words_of pieces_of after_options
not_there = refl
