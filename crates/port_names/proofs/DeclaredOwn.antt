-- All names that a written module declares have a form of its own.
use Rattle.std.proofs.Common.{ℕ, Bool, get_or, List, [], ◌∷◌, ◌++◌, map, inl, inr}
use Rattle.std.specs.Prelude.{All, Option, Some, None, flat_map, ◌==◌}
use Rattle.std.proofs.lemmas.Bool.{cases_Bool}
use Rattle.std.proofs.lemmas.List.Elements.{All-nil, All-cons, All-append, All-map, All-weaker}
use Rattle.vlog_module.specs.declared.sort.Sort.{Sort}
use Rattle.vlog_module.specs.declared.sort.Sort.TheVariants as sort
use Rattle.vlog_module.specs.declared.atoms.Atom.{Atom}
use Rattle.vlog_module.specs.declared.atoms.Atom.TheVariants.{Bit, Whole, Part}
use Rattle.vlog_module.specs.declared.item.Right.{Right}
use Rattle.vlog_module.specs.declared.item.Right.TheVariants.{Bit as RightBit, Whole as RightWhole, Part as RightPart, Lut as RightLut, Majority, Choose}
use Rattle.vlog_module.specs.declared.item.Item.{Item}
use Rattle.vlog_module.specs.declared.item.Item.TheVariants.{Register as RegisterItem, Word, Memory, Wire, Assign, FlipFlop, AsyncFlipFlop, AsyncReset, Read, ReadNarrow, Write, WriteNarrow, Start}
use Rattle.vlog_module.specs.declared.modules.Port.{Port}
use Rattle.vlog_module.specs.Uses.{Use, atom_uses, atoms_uses, right_uses, uses_of}
use Rattle.vlog_module.specs.Uses.Use.{Declares, Reads, ReadsBit, Clocks, Takes, Assigns, Chooses, AssignsAsync, Starts}
use Rattle.vlog_module.specs.WellFormed.{port_sort, declared_by}
use Rattle.fabric_model.specs.declared.register.Register.{Register}
use Rattle.fabric_model.specs.declared.ram.RamCell.{RamCell}
use Rattle.fabric_model.specs.declared.pin.Pin.{Pin}
use Rattle.fabric_model.specs.declared.pll.PllSource.{PllSource}
use Rattle.fabric_model.specs.Tiles.{each_below}
use Rattle.fabric_model.specs.InputPorts.{pll_input}
use Rattle.fabric_model.specs.Fabric.{Fabric, numbered}
use Rattle.fabric_model.specs.Outputs.{outputs_of}
use Rattle.index_search.proofs.Gathered.{All-gathered_below}
use Rattle.fabric_model.proofs.Apart.{All-every}
use Rattle.fabric_model.proofs.Within.{All-flat_map, All-single}
use Rattle.fabric_module.proofs.Configured.{each-name}
use Rattle.fabric_module.specs.Rights.{setting_wire}
use Rattle.fabric_module.specs.Written.{clock_name, clocked, input_port, pin_ports, ports_of, register_item, read_register, ram_memory, class_wire, output_assign, items_by, register_items, read_item, read_items, write_item, write_items, start_item, start_items, items_of, module_of}
use Rattle.port_names.specs.Fresh.{declared_names}
use Rattle.port_names.proofs.Own.{IsOwn, own-port, own-enable, own-outside, own-pll, own-register, own-read, own-memory, own-wire}

-- ---- what items declare

-- what a use declares has a form of a module's own
abbrev UseOwn : Use → Type 0
UseOwn used = All (λ (entry : List ℕ × Sort). IsOwn entry.0) (declared_by used)

-- most uses declare nothing
nothing : All (λ (entry : List ℕ × Sort). IsOwn entry.0) []
nothing = All-nil (λ (entry : List ℕ × Sort). IsOwn entry.0)

atom-own : (atom : Atom) → All UseOwn (atom_uses atom)
atom-own (Bit bit) = All-nil UseOwn
atom-own (Whole name) = All-single UseOwn (Reads name) nothing
atom-own (Part name k) = All-single UseOwn (ReadsBit name k) nothing

atoms-own : (atoms : List Atom) → All UseOwn (atoms_uses atoms)
atoms-own [] = All-nil UseOwn
atoms-own (atom ∷ atoms) = All-append UseOwn (atoms_uses atoms) (atom_uses atom) (atoms-own atoms) (atom-own atom)

-- two atoms
both-own : (a b : Atom) → All UseOwn (atom_uses a ++ atom_uses b)
both-own a b = All-append UseOwn (atom_uses a) (atom_uses b) (atom-own a) (atom-own b)

right-own : (right : Right) → All UseOwn (right_uses right)
right-own (RightBit bit) = All-nil UseOwn
right-own (RightWhole name) = All-single UseOwn (Reads name) nothing
right-own (RightPart name k) = All-single UseOwn (ReadsBit name k) nothing
right-own (RightLut lut) = atoms-own lut.ins
right-own (Majority a b c) =
    All-append UseOwn (atom_uses a ++ atom_uses b) (atom_uses c) (both-own a b) (atom-own c)
right-own (Choose reset set target) = All-cons UseOwn (Takes sort.Wire reset) (Chooses reset set target ∷ []) nothing (All-single UseOwn (Chooses reset set target) nothing)

-- the name that an item declares has such a form, if it declares one
abbrev IsOwnItem : Item → Type 0
IsOwnItem (RegisterItem name start) = IsOwn name
IsOwnItem (Word name start) = IsOwn name
IsOwnItem (Memory name) = IsOwn name
IsOwnItem (Wire name right) = IsOwn name
IsOwnItem _ = Unit {0}

one-own : (as_sort : Sort) (name : List ℕ) → IsOwn name → UseOwn (Declares as_sort name)
one-own as_sort name own = All-single (λ (entry : List ℕ × Sort). IsOwn entry.0) (name, as_sort) own

-- a word that is taken from a memory
taken-own : (clock_enable enable : Atom) (target memory : List ℕ) (address : List Atom)
    → All UseOwn (atom_uses clock_enable ++ atom_uses enable ++ Assigns sort.Word target ∷ Takes sort.Memory memory ∷ atoms_uses address)
taken-own clock_enable enable target memory address =
    All-append UseOwn (atom_uses clock_enable ++ atom_uses enable) (Assigns sort.Word target ∷ Takes sort.Memory memory ∷ atoms_uses address) (both-own clock_enable enable)
    (All-cons UseOwn (Assigns sort.Word target) (Takes sort.Memory memory ∷ atoms_uses address) nothing
    (All-cons UseOwn (Takes sort.Memory memory) (atoms_uses address) nothing (atoms-own address)))

-- and one that is put into it
put-own : (clock_enable enable : Atom) (memory : List ℕ) (address first second : List Atom)
    → All UseOwn (atom_uses clock_enable ++ atom_uses enable ++ Assigns sort.Memory memory ∷ atoms_uses address ++ atoms_uses first ++ atoms_uses second)
put-own clock_enable enable memory address first second =
    let front = atom_uses clock_enable ++ atom_uses enable ++ Assigns sort.Memory memory ∷ atoms_uses address in
    All-append UseOwn (front ++ atoms_uses first) (atoms_uses second)
    (All-append UseOwn front (atoms_uses first)
    (All-append UseOwn (atom_uses clock_enable ++ atom_uses enable) (Assigns sort.Memory memory ∷ atoms_uses address) (both-own clock_enable enable)
    (All-cons UseOwn (Assigns sort.Memory memory) (atoms_uses address) nothing (atoms-own address))) (atoms-own first)) (atoms-own second)

item-own : (item : Item) → IsOwnItem item → All UseOwn (uses_of item)
item-own (RegisterItem name start) own = All-single UseOwn (Declares sort.Register name) (one-own sort.Register name own)
item-own (Word name start) own = All-single UseOwn (Declares sort.Word name) (one-own sort.Word name own)
item-own (Memory name) own = All-single UseOwn (Declares sort.Memory name) (one-own sort.Memory name own)
item-own (Wire name right) own = All-cons UseOwn (Declares sort.Wire name) (right_uses right) (one-own sort.Wire name own) (right-own right)
item-own (Assign name value) own = All-cons UseOwn (Assigns sort.Output name) (atom_uses value) nothing (atom-own value)
item-own (FlipFlop falling clock enable reset set target lut) own =
    All-cons UseOwn (Clocks clock) (atom_uses enable ++ atom_uses reset ++ Assigns sort.Register target ∷ atoms_uses lut.ins) nothing
    (All-append UseOwn (atom_uses enable ++ atom_uses reset) (Assigns sort.Register target ∷ atoms_uses lut.ins) (both-own enable reset)
    (All-cons UseOwn (Assigns sort.Register target) (atoms_uses lut.ins) nothing (atoms-own lut.ins)))
item-own (AsyncFlipFlop falling clock reset set target enable lut) own =
    let table = atom_uses enable ++ atoms_uses lut.ins in
    All-cons UseOwn (Clocks clock) (Takes sort.Wire reset ∷ AssignsAsync reset set target ∷ table) nothing
    (All-cons UseOwn (Takes sort.Wire reset) (AssignsAsync reset set target ∷ table) nothing
    (All-cons UseOwn (AssignsAsync reset set target) table nothing (All-append UseOwn (atom_uses enable) (atoms_uses lut.ins) (atom-own enable) (atoms-own lut.ins))))
item-own (AsyncReset reset set target) own =
    All-cons UseOwn (Takes sort.Wire reset) (AssignsAsync reset set target ∷ []) nothing (All-single UseOwn (AssignsAsync reset set target) nothing)
item-own (Read falling clock clock_enable enable target memory address) own =
    All-cons UseOwn (Clocks clock) (atom_uses clock_enable ++ atom_uses enable ++ Assigns sort.Word target ∷ Takes sort.Memory memory ∷ atoms_uses address) nothing
    (taken-own clock_enable enable target memory address)
item-own (ReadNarrow falling clock clock_enable enable target memory address shift pattern) own =
    let taken = atom_uses clock_enable ++ atom_uses enable ++ Assigns sort.Word target ∷ Takes sort.Memory memory ∷ atoms_uses address in
    All-cons UseOwn (Clocks clock) (taken ++ atoms_uses shift) nothing
    (All-append UseOwn taken (atoms_uses shift) (taken-own clock_enable enable target memory address) (atoms-own shift))
item-own (Write falling clock clock_enable enable memory address mask bits) own =
    All-cons UseOwn (Clocks clock)
    (atom_uses clock_enable ++ atom_uses enable ++ Assigns sort.Memory memory ∷ atoms_uses address ++ atoms_uses mask ++ atoms_uses bits) nothing
    (put-own clock_enable enable memory address mask bits)
item-own (WriteNarrow falling clock clock_enable enable memory address pattern shift bits) own =
    All-cons UseOwn (Clocks clock)
    (atom_uses clock_enable ++ atom_uses enable ++ Assigns sort.Memory memory ∷ atoms_uses address ++ atoms_uses shift ++ atoms_uses bits) nothing
    (put-own clock_enable enable memory address shift bits)
item-own (Start memory k word) own = All-single UseOwn (Starts memory k) nothing

-- ---- the items of a fabric

ticks-own : (fabric : Fabric) (register : Register) (wire clock : Option (List ℕ)) → All IsOwnItem (items_by fabric register wire clock)
ticks-own fabric register (Some wire) (Some clock) = All-single IsOwnItem _ tt
ticks-own fabric register (Some wire) None = All-single IsOwnItem _ tt
ticks-own fabric register None (Some clock) = All-single IsOwnItem _ tt
ticks-own fabric register None None = All-nil IsOwnItem

clocked-own : (item : List ℕ → Item) → ((clock : List ℕ) → IsOwnItem (item clock)) → (clock : Option (List ℕ)) → All IsOwnItem (clocked clock item)
clocked-own item own None = All-nil IsOwnItem
clocked-own item own (Some clock) = All-single IsOwnItem (item clock) (own clock)

read-own : (fabric : Fabric) (ram : RamCell) (clock : List ℕ) → IsOwnItem (read_item fabric ram clock)
read-own fabric ram clock = elim (cases_Bool (ram.read == 0)) [ inl whole ↦ rw whole tt | inr narrow ↦ rw narrow tt ]

write-own : (fabric : Fabric) (ram : RamCell) (clock : List ℕ) → IsOwnItem (write_item fabric ram clock)
write-own fabric ram clock = elim (cases_Bool (ram.write == 0)) [ inl whole ↦ rw whole tt | inr narrow ↦ rw narrow tt ]

starts-own : (ram : RamCell) (words : List (List Bool)) (n : ℕ) → All IsOwnItem (each_below n (start_item ram words))
starts-own ram words n = All-gathered_below IsOwnItem n (λ k. start_item ram words k ∷ []) (λ k less. All-single IsOwnItem _ tt)

items-own : (fabric : Fabric) (order : List ℕ) → All IsOwnItem (items_of fabric order)
unfolding items_of
items-own fabric order =
    All-append IsOwnItem (map register_item fabric.registers) _ (All-map IsOwnItem register_item fabric.registers (All-every _ own-register fabric.registers))
    (All-append IsOwnItem (map read_register fabric.rams) _ (All-map IsOwnItem read_register fabric.rams (All-every _ own-read fabric.rams))
    (All-append IsOwnItem (map ram_memory fabric.rams) _ (All-map IsOwnItem ram_memory fabric.rams (All-every _ own-memory fabric.rams))
    (All-append IsOwnItem (map (class_wire fabric) order) _ (All-map IsOwnItem (class_wire fabric) order (All-every _ own-wire order))
    (All-append IsOwnItem (map (output_assign fabric) (outputs_of fabric)) _ (All-map IsOwnItem (output_assign fabric) (outputs_of fabric) (All-every _ (λ output. tt) (outputs_of fabric)))
    (All-append IsOwnItem (flat_map (register_items fabric) fabric.registers) _
    (All-flat_map IsOwnItem (register_items fabric) fabric.registers (All-every _ (λ register. ticks-own fabric register (setting_wire fabric register) (clock_name fabric register.clk)) fabric.registers))
    (All-append IsOwnItem (flat_map (read_items fabric) fabric.rams) _
    (All-flat_map IsOwnItem (read_items fabric) fabric.rams (All-every _ (λ ram. clocked-own (read_item fabric ram) (read-own fabric ram) (clock_name fabric ram.rclk)) fabric.rams))
    (All-append IsOwnItem (flat_map (write_items fabric) fabric.rams) _
    (All-flat_map IsOwnItem (write_items fabric) fabric.rams (All-every _ (λ ram. clocked-own (write_item fabric ram) (write-own fabric ram) (clock_name fabric ram.wclk)) fabric.rams))
    (All-flat_map IsOwnItem (start_items fabric) (numbered fabric.rams) (All-every _ (λ place. starts-own place.1 (get_or fabric.start place.0 []) 256) (numbered fabric.rams))))))))))

-- ---- the module

pub pins-own : (pins : List Pin) → All (λ (port : Port). IsOwn port.name) (flat_map pin_ports pins)
pins-own pins =
    All-flat_map (λ (port : Port). IsOwn port.name) pin_ports pins
    (All-every (λ pin. All (λ (port : Port). IsOwn port.name) (pin_ports pin))
    (λ pin. each-name IsOwn pin (own-port pin) (own-enable pin) (own-outside pin.x pin.y pin.n)) pins)

plls-own : (plls : List PllSource) → All (λ (port : Port). IsOwn port.name) (map input_port (map pll_input plls))
plls-own [] = All-nil (λ (port : Port). IsOwn port.name)
plls-own (pll ∷ plls) =
    All-cons (λ (port : Port). IsOwn port.name) (input_port (pll_input pll)) (map input_port (map pll_input plls)) (own-pll pll.x pll.y pll.output) (plls-own plls)

ports-own : (fabric : Fabric) → All (λ (port : Port). IsOwn port.name) (ports_of fabric)
ports-own fabric =
    All-append (λ (port : Port). IsOwn port.name) (flat_map pin_ports fabric.pins) (map input_port (map pll_input fabric.plls)) (pins-own fabric.pins) (plls-own fabric.plls)

pub declared-own : (fabric : Fabric) (order name : List ℕ) → All IsOwn (declared_names (module_of fabric order name))
unfolding module_of
declared-own fabric order name =
    All-map IsOwn (λ (entry : List ℕ × Sort). entry.0)
    (map (λ port. (port.name, port_sort port)) (ports_of fabric) ++ flat_map declared_by (flat_map uses_of (items_of fabric order)))
    (All-append (λ (entry : List ℕ × Sort). IsOwn entry.0) (map (λ port. (port.name, port_sort port)) (ports_of fabric)) _
    (All-map (λ (entry : List ℕ × Sort). IsOwn entry.0) (λ (port : Port). (port.name, port_sort port)) (ports_of fabric) (ports-own fabric))
    (All-flat_map (λ (entry : List ℕ × Sort). IsOwn entry.0) declared_by (flat_map uses_of (items_of fabric order))
    (All-flat_map UseOwn uses_of (items_of fabric order) (All-weaker IsOwnItem (λ item. All UseOwn (uses_of item)) item-own (items_of fabric order) (items-own fabric order)))))
