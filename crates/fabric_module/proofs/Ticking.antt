-- The clocked items of a written module are allowed once what they use is declared and as long as what they assign isn't assigned yet.
use Rattle.std.proofs.Common.{◌≡◌, ℕ, ◌+◌, ◌/◌, ◌<◌, ◌≤◌, Bool, true, false, List, [], ◌∷◌, ◌++◌, length, take, get_or, refl, ap, ◌∙◌, arith, inl, inr, append-nil}
use Rattle.std.specs.Prelude.{All, Option, Some, None, flat_map, bytes_eq, nat_lt, ◌==◌}
use Rattle.std.proofs.lemmas.List.{length-map, length-take-le}
use Rattle.std.proofs.lemmas.Grind.{flat_map-append}
use Rattle.std.proofs.lemmas.Bool.{cases_Bool, and_from}
use Rattle.std.proofs.lemmas.List.Elements.{All-nil, All-cons, All-append}
use Rattle.index_search.proofs.Gathered.{All-gathered_below}
use Rattle.narrow_words.specs.Narrow.{share}
use Rattle.fabric_model.specs.Rams.{data_bit}
use Rattle.fabric_model.proofs.OneValue.{each_below-length}
use Rattle.fabric_model.proofs.Within.{All-single}
use Rattle.fabric_model.proofs.Signals.{HasSignals}
use Rattle.vlog_module.specs.declared.sort.Sort.{Sort}
use Rattle.vlog_module.specs.declared.sort.Sort.TheVariants as sort
use Rattle.vlog_module.specs.declared.atoms.Atom.{Atom}
use Rattle.vlog_module.specs.declared.item.Item.{Item}
use Rattle.vlog_module.specs.declared.item.Item.TheVariants.{AsyncReset, Read, ReadNarrow, Write, WriteNarrow}
use Rattle.vlog_module.specs.Uses.{Use, atom_uses, atoms_uses, lut_uses, uses_of}
use Rattle.vlog_module.specs.Uses.Use.{Reads, ReadsBit, Clocks, Takes, Assigns, AssignsAsync}
use Rattle.vlog_module.specs.WellFormed.{section_of, declared_by, wire_readings, assigned_by, started_by, sort_in, is_sort, is_read_unless, Scope, IsAllowed}
use Rattle.fabric_model.specs.declared.register.Register.{Register}
use Rattle.fabric_model.specs.declared.ram.RamCell.{RamCell}
use Rattle.fabric_model.specs.Fabric.{Fabric}
use Rattle.fabric_model.specs.Drivers.{is_driven}
use Rattle.fabric_module.specs.Names.{register_name, read_name, memory_name}
use Rattle.fabric_module.specs.Rights.{input_atom, atom_or_0, atom_or_1, signal_atom, port_atoms, lut_of, pattern_of, shift_atom, shift_atoms, data_atoms}
use Rattle.fabric_module.specs.Written.{is_falling, flip_item, at_once_item, items_by, read_item, write_item}
use Rattle.fabric_module.proofs.Narrow.{pattern-small}
use Rattle.fabric_module.proofs.Sections.{read-section, write-section}
use Rattle.fabric_module.proofs.Beginning.{IsPorted}
use Rattle.fabric_module.proofs.Used.{IsFine, fine-allowed, IsThere, IsClockThere, Knows, knows-allows, atom-fine, signal-fine, atoms-fine, ports-fine, table-fine}
use Rattle.fabric_module.proofs.Assigned.{AssignsOne, unassigned}
use Rattle.fabric_module.proofs.Wired.{atom-none, atoms-none}

-- ---- the ways in which a register is written

-- by a clock alone, by a wire that sets it at once and a clock, or by such a wire alone
pub data Way : Type 0 where
  waits : (clock : List ℕ) → Way
  acts : (wire clock : List ℕ) → Way
  sets : (wire : List ℕ) → Way

abbrev pub way_of : Option (List ℕ) → Option (List ℕ) → Option Way
way_of (Some wire) (Some clock) = Some (acts wire clock)
way_of (Some wire) None = Some (sets wire)
way_of None (Some clock) = Some (waits clock)
way_of None None = None

abbrev pub item_in : Fabric → Register → Way → Item
item_in fabric register (waits clock) = flip_item fabric register clock
item_in fabric register (acts wire clock) = at_once_item fabric register wire clock
item_in fabric register (sets wire) = AsyncReset wire register.«set» (register_name register)

-- an item that may be missing
abbrev pub optional : {W : Type 0} → Option W → (W → Item) → List Item
optional None item = []
optional (Some given) item = item given ∷ []

pub items_by-way : (fabric : Fabric) (register : Register) (wire clock : Option (List ℕ)) → items_by fabric register wire clock ≡ optional (way_of wire clock) (item_in fabric register)
items_by-way fabric register (Some wire) (Some clock) = refl
items_by-way fabric register (Some wire) None = refl
items_by-way fabric register None (Some clock) = refl
items_by-way fabric register None None = refl

-- what a way needs: its clock is an input or a register, its wire is there, and wires read the register but for the time in which that is 1
abbrev pub IsWay : Scope → Register → Way → Type 0
IsWay scope register (waits clock) = IsClockThere scope clock
IsWay scope register (acts wire clock) =
    IsClockThere scope clock × IsThere scope wire sort.Wire × (is_read_unless scope.read wire register.«set» (register_name register) ≡ true)
IsWay scope register (sets wire) = IsThere scope wire sort.Wire × (is_read_unless scope.read wire register.«set» (register_name register) ≡ true)

-- ---- what may come

module _ (fabric : Fabric) (scope : Scope) (knows : Knows fabric scope (is_driven fabric)) where
  clock-fine : (name : List ℕ) → IsClockThere scope name → IsFine scope (Clocks name)
  clock-fine name there = record { named = there.named; in_range = tt; known = there.known; first = refl }

  takes-memory : (name : List ℕ) → IsThere scope name sort.Memory → IsFine scope (Takes sort.Memory name)
  takes-memory name there = record { named = there.named; in_range = tt; known = rw (there.declared) refl; first = refl }

  takes-wire : (name : List ℕ) → IsThere scope name sort.Wire → IsFine scope (Takes sort.Wire name)
  takes-wire name there = record { named = there.named; in_range = tt; known = rw (there.declared) refl; first = refl }

  input-fine : (stated : Bool) (net : Option ℕ) → All (IsFine scope) (atom_uses (input_atom fabric stated net))
  input-fine stated net = atom-fine fabric (is_driven fabric) (IsFine scope) (knows-allows fabric scope (is_driven fabric) knows) stated net (λ n found connected. connected)

  list-fine : (ports : List (Option ℕ)) → All (IsFine scope) (atoms_uses (port_atoms fabric ports))
  list-fine ports = ports-fine fabric (is_driven fabric) (IsFine scope) (knows-allows fabric scope (is_driven fabric) knows) ports (λ net n found connected. connected)

  module _ (register : Register) (few : register.table.word < 65536) (sources : HasSignals fabric register)
      (there : IsThere scope (register_name register) sort.Register) (low : scope.section ≤ 7) (away : All (λ n. bytes_eq n (register_name register) ≡ false) scope.assigned) where
    of_table : All (IsFine scope) (lut_uses (lut_of fabric register.table))
    of_table =
        table-fine fabric (is_driven fabric) (IsFine scope) (knows-allows fabric scope (is_driven fabric) knows) register.table sources.ins (λ n reads connected. connected)

    enable-fine : All (IsFine scope) (atom_uses (signal_atom fabric register.enable))
    enable-fine =
        signal-fine fabric (is_driven fabric) (IsFine scope) (knows-allows fabric scope (is_driven fabric) knows) register.enable sources.enable (λ n reads connected. connected)

    assigns-fine : IsFine scope (Assigns sort.Register (register_name register))
    assigns-fine = record { named = there.named; in_range = tt; known = rw (there.declared) refl; first = unassigned scope.assigned (register_name register) away }

    is_async-fine : (wire : List ℕ) → is_read_unless scope.read wire register.«set» (register_name register) ≡ true
        → IsFine scope (AssignsAsync wire register.«set» (register_name register))
    is_async-fine wire well = record {
      named = there.named;
      in_range = tt;
      known = and_from (is_sort sort.Register (sort_in scope.declared (register_name register))) (is_read_unless scope.read wire register.«set» (register_name register))
          (rw (there.declared) refl) well;
      first = unassigned scope.assigned (register_name register) away;
    }

    flip-allowed : (clock : List ℕ) → IsClockThere scope clock → IsAllowed scope (flip_item fabric register clock)
    flip-allowed clock of_clock =
        let enable = atom_uses (signal_atom fabric register.enable) in
        let reset = atom_uses (atom_or_0 fabric register.sr) in
        fine-allowed scope (flip_item fabric register clock) (few, refl) low
        (All-cons (IsFine scope) (Clocks clock) ((enable ++ reset) ++ (Assigns sort.Register (register_name register) ∷ lut_uses (lut_of fabric register.table))) (clock-fine clock of_clock)
        (All-append (IsFine scope) (enable ++ reset) (Assigns sort.Register (register_name register) ∷ lut_uses (lut_of fabric register.table))
        (All-append (IsFine scope) enable reset (enable-fine) (input-fine false register.sr))
        (All-cons (IsFine scope) (Assigns sort.Register (register_name register)) (lut_uses (lut_of fabric register.table)) assigns-fine of_table)))

    is_async-allowed : (wire clock : List ℕ) → IsWay scope register (acts wire clock) → IsAllowed scope (at_once_item fabric register wire clock)
    is_async-allowed wire clock is =
        let enable = atom_uses (signal_atom fabric register.enable) in
        let assigns = AssignsAsync wire register.«set» (register_name register) in
        let rest = enable ++ lut_uses (lut_of fabric register.table) in
        fine-allowed scope (at_once_item fabric register wire clock) (few, refl) low
        (All-cons (IsFine scope) (Clocks clock) (Takes sort.Wire wire ∷ assigns ∷ rest) (clock-fine clock is.0)
        (All-cons (IsFine scope) (Takes sort.Wire wire) (assigns ∷ rest) (takes-wire wire is.1)
        (All-cons (IsFine scope) assigns rest (is_async-fine wire is.2)
        (All-append (IsFine scope) enable (lut_uses (lut_of fabric register.table)) (enable-fine) of_table))))

    set-allowed : (wire : List ℕ) → IsWay scope register (sets wire) → IsAllowed scope (AsyncReset wire register.«set» (register_name register))
    set-allowed wire is =
        let assigns = AssignsAsync wire register.«set» (register_name register) in
        fine-allowed scope (AsyncReset wire register.«set» (register_name register)) tt low
        (All-cons (IsFine scope) (Takes sort.Wire wire) (assigns ∷ []) (takes-wire wire is.0) (All-single (IsFine scope) assigns (is_async-fine wire is.1)))

    -- a register, in each way
    pub register-allowed : (way : Way) → IsWay scope register way → IsAllowed scope (item_in fabric register way)
    register-allowed (waits clock) is = flip-allowed clock is
    register-allowed (acts wire clock) is = is_async-allowed wire clock is
    register-allowed (sets wire) is = set-allowed wire is

  -- ---- narrow words

  shift-fine : (mode : ℕ) (ports : List (Option ℕ)) (k : ℕ) → All (IsFine scope) (atom_uses (shift_atom fabric mode ports k))
  shift-fine mode ports k =
      elim (cases_Bool (nat_lt k mode)) [
        | inl here ↦ rw here (input-fine false (get_or ports (8 + k) None))
        | inr away ↦ rw away (All-nil (IsFine scope))
      ]

  listed-fine : (atoms : List Atom) → All (λ atom. All (IsFine scope) (atom_uses atom)) atoms → All (IsFine scope) (atoms_uses atoms)
  listed-fine = atoms-fine fabric (is_driven fabric) (IsFine scope) (knows-allows fabric scope (is_driven fabric) knows)

  shifts-fine : (mode : ℕ) (ports : List (Option ℕ)) → All (IsFine scope) (atoms_uses (shift_atoms fabric mode ports))
  shifts-fine mode ports =
      let Fine = λ (atom : Atom). All (IsFine scope) (atom_uses atom) in
      listed-fine (shift_atoms fabric mode ports)
      (All-cons Fine (shift_atom fabric mode ports 0) (shift_atom fabric mode ports 1 ∷ shift_atom fabric mode ports 2 ∷ []) (shift-fine mode ports 0)
      (All-cons Fine (shift_atom fabric mode ports 1) (shift_atom fabric mode ports 2 ∷ []) (shift-fine mode ports 1)
      (All-single Fine (shift_atom fabric mode ports 2) (shift-fine mode ports 2))))

  data-fine : (mode : ℕ) (ports : List (Option ℕ)) → All (IsFine scope) (atoms_uses (data_atoms fabric mode ports))
  data-fine mode ports =
      listed-fine (data_atoms fabric mode ports)
      (All-gathered_below (λ atom. All (IsFine scope) (atom_uses atom)) 16 (λ j. atom_or_0 fabric (get_or ports (data_bit mode (j / share mode)) None) ∷ [])
      (λ j within. All-single (λ atom. All (IsFine scope) (atom_uses atom)) (atom_or_0 fabric (get_or ports (data_bit mode (j / share mode)) None))
      (input-fine false (get_or ports (data_bit mode (j / share mode)) None))))

  eight-ports : (ports : List (Option ℕ)) → length ports ≡ 11 → length (port_atoms fabric (take 8 ports)) ≡ 8
  eight-ports ports eleven = length-map (take 8 ports) (atom_or_0 fabric) ∙ length-take-le 8 ports (omega (arith, eleven))

  -- ---- ports of RAMs

  -- a read port, in each mode
  pub read-allowed : (ram : RamCell) (clock : List ℕ) → IsPorted ram → IsClockThere scope clock → IsThere scope (read_name ram) sort.Word → IsThere scope (memory_name ram) sort.Memory
      → scope.section ≤ 8 → All (λ n. bytes_eq n (read_name ram) ≡ false) scope.assigned → IsAllowed scope (read_item fabric ram clock)
  read-allowed ram clock ported of_clock there of_memory low away =
      let first = atom_uses (atom_or_1 fabric ram.rclke) in
      let second = atom_uses (atom_or_0 fabric ram.re) in
      let address = port_atoms fabric (take 8 ram.raddr) in
      let shift = shift_atoms fabric ram.read ram.raddr in
      let rest = Assigns sort.Word (read_name ram) ∷ Takes sort.Memory (memory_name ram) ∷ atoms_uses address in
      let fine : All (IsFine scope) ((first ++ second) ++ rest) =
      All-append (IsFine scope) (first ++ second) rest (All-append (IsFine scope) first second (input-fine true ram.rclke) (input-fine false ram.re))
      (All-cons (IsFine scope) (Assigns sort.Word (read_name ram)) (Takes sort.Memory (memory_name ram) ∷ atoms_uses address)
      (record { named = there.named; in_range = tt; known = rw (there.declared) refl; first = unassigned scope.assigned (read_name ram) away })
      (All-cons (IsFine scope) (Takes sort.Memory (memory_name ram)) (atoms_uses address) (takes-memory (memory_name ram) of_memory) (list-fine (take 8 ram.raddr)))) in
      elim (cases_Bool (ram.read == 0)) [
        | inl here ↦
            rw here
            (fine-allowed scope
            (Read (is_falling fabric ram.rneg ram.rclk) clock (atom_or_1 fabric ram.rclke) (atom_or_0 fabric ram.re) (read_name ram) (memory_name ram) address) (eight-ports ram.raddr ported.read_address) low
            (All-cons (IsFine scope) (Clocks clock) ((first ++ second) ++ rest) (clock-fine clock of_clock) fine))
        | inr narrow ↦
            rw narrow
            (fine-allowed scope
            (ReadNarrow (is_falling fabric ram.rneg ram.rclk) clock (atom_or_1 fabric ram.rclke) (atom_or_0 fabric ram.re) (read_name ram) (memory_name ram) address shift (pattern_of ram.read))
            (eight-ports ram.raddr ported.read_address, refl, pattern-small ram.read) low
            (All-cons (IsFine scope) (Clocks clock) (((first ++ second) ++ rest) ++ atoms_uses shift) (clock-fine clock of_clock)
            (All-append (IsFine scope) ((first ++ second) ++ rest) (atoms_uses shift) fine (shifts-fine ram.read ram.raddr))))
      ]

  -- a write port, in each mode
  pub write-allowed : (ram : RamCell) (clock : List ℕ) → IsPorted ram → IsClockThere scope clock → IsThere scope (memory_name ram) sort.Memory
      → scope.section ≤ 9 → All (λ n. bytes_eq n (memory_name ram) ≡ false) scope.assigned → IsAllowed scope (write_item fabric ram clock)
  write-allowed ram clock ported of_clock there low away =
      let first = atom_uses (atom_or_1 fabric ram.wclke) in
      let second = atom_uses (atom_or_0 fabric ram.we) in
      let address = port_atoms fabric (take 8 ram.waddr) in
      let mask = port_atoms fabric ram.mask in
      let bits = port_atoms fabric ram.wdata in
      let shift = shift_atoms fabric ram.write ram.waddr in
      let data_bits = data_atoms fabric ram.write ram.wdata in
      let front = (first ++ second) ++ (Assigns sort.Memory (memory_name ram) ∷ atoms_uses address) in
      let fine : All (IsFine scope) front =
      All-append (IsFine scope) (first ++ second) (Assigns sort.Memory (memory_name ram) ∷ atoms_uses address)
      (All-append (IsFine scope) first second (input-fine true ram.wclke) (input-fine false ram.we))
      (All-cons (IsFine scope) (Assigns sort.Memory (memory_name ram)) (atoms_uses address)
      (record { named = there.named; in_range = tt; known = rw (there.declared) refl; first = unassigned scope.assigned (memory_name ram) away }) (list-fine (take 8 ram.waddr))) in
      elim (cases_Bool (ram.write == 0)) [
        | inl here ↦
            rw here
            (fine-allowed scope
            (Write (is_falling fabric ram.wneg ram.wclk) clock (atom_or_1 fabric ram.wclke) (atom_or_0 fabric ram.we) (memory_name ram) address mask bits)
            (eight-ports ram.waddr ported.write_address, length-map ram.mask (atom_or_0 fabric) ∙ ported.mask, length-map ram.wdata (atom_or_0 fabric) ∙ ported.written) low
            (All-cons (IsFine scope) (Clocks clock) ((front ++ atoms_uses mask) ++ atoms_uses bits) (clock-fine clock of_clock)
            (All-append (IsFine scope) (front ++ atoms_uses mask) (atoms_uses bits)
            (All-append (IsFine scope) front (atoms_uses mask) fine (list-fine ram.mask)) (list-fine ram.wdata))))
        | inr narrow ↦
            rw narrow
            (fine-allowed scope
            (WriteNarrow (is_falling fabric ram.wneg ram.wclk) clock (atom_or_1 fabric ram.wclke) (atom_or_0 fabric ram.we) (memory_name ram) address (pattern_of ram.write) shift data_bits)
            (eight-ports ram.waddr ported.write_address, pattern-small ram.write, refl, each_below-length 16 (λ j. atom_or_0 fabric (get_or ram.wdata (data_bit ram.write (j / share ram.write)) None))) low
            (All-cons (IsFine scope) (Clocks clock) ((front ++ atoms_uses shift) ++ atoms_uses data_bits) (clock-fine clock of_clock)
            (All-append (IsFine scope) (front ++ atoms_uses shift) (atoms_uses data_bits)
            (All-append (IsFine scope) front (atoms_uses shift) fine (shifts-fine ram.write ram.waddr)) (data-fine ram.write ram.wdata))))
      ]

-- ---- what they assign

module _ {A : Type 0} (each : Use → List A) where
  joined-then : (xs ys : List Use) → flat_map each xs ≡ [] → flat_map each (xs ++ ys) ≡ flat_map each ys
  joined-then xs ys none = flat_map-append each xs ys ∙ ap (λ list. list ++ flat_map each ys) none

  joined-front : (xs ys : List Use) → flat_map each ys ≡ [] → flat_map each (xs ++ ys) ≡ flat_map each xs
  joined-front xs ys none = flat_map-append each xs ys ∙ (ap (λ list. flat_map each xs ++ list) none ∙ append-nil (flat_map each xs))

  module _ (of_whole : (name : List ℕ) → each (Reads name) ≡ []) (of_bit : (name : List ℕ) (k : ℕ) → each (ReadsBit name k) ≡ []) where
    two-none : (a b : Atom) → flat_map each (atom_uses a ++ atom_uses b) ≡ []
    two-none a b = joined-then (atom_uses a) (atom_uses b) (atom-none each of_whole of_bit a) ∙ atom-none each of_whole of_bit b

    -- two atoms, a use, and a list of atoms
    assigned-then : (a b : Atom) (used : Use) (atoms : List Atom) → flat_map each ((atom_uses a ++ atom_uses b) ++ (used ∷ atoms_uses atoms)) ≡ each used
    assigned-then a b used atoms =
        joined-then (atom_uses a ++ atom_uses b) (used ∷ atoms_uses atoms) (two-none a b)
        ∙ (ap (λ list. each used ++ list) (atoms-none each of_whole of_bit atoms) ∙ append-nil (each used))

    read-then : (a b : Atom) (used memory : Use) (atoms : List Atom) → each memory ≡ [] → flat_map each ((atom_uses a ++ atom_uses b) ++ (used ∷ memory ∷ atoms_uses atoms)) ≡ each used
    read-then a b used memory atoms none =
        joined-then (atom_uses a ++ atom_uses b) (used ∷ memory ∷ atoms_uses atoms) (two-none a b)
        ∙ (ap (λ list. each used ++ list) (ap (λ list. list ++ flat_map each (atoms_uses atoms)) none ∙ atoms-none each of_whole of_bit atoms) ∙ append-nil (each used))

    write-then : (a b : Atom) (used : Use) (address mask bits : List Atom)
        → flat_map each ((((atom_uses a ++ atom_uses b) ++ (used ∷ atoms_uses address)) ++ atoms_uses mask) ++ atoms_uses bits) ≡ each used
    write-then a b used address mask bits =
        joined-front (((atom_uses a ++ atom_uses b) ++ (used ∷ atoms_uses address)) ++ atoms_uses mask) (atoms_uses bits) (atoms-none each of_whole of_bit bits)
        ∙ (joined-front ((atom_uses a ++ atom_uses b) ++ (used ∷ atoms_uses address)) (atoms_uses mask) (atoms-none each of_whole of_bit mask) ∙ assigned-then a b used address)

module _ (fabric : Fabric) where
  module _ {A : Type 0} (each : Use → List A) (of_whole : (name : List ℕ) → each (Reads name) ≡ []) (of_bit : (name : List ℕ) (k : ℕ) → each (ReadsBit name k) ≡ []) where
    -- an enable and a table
    after-none : (register : Register) → flat_map each (atom_uses (signal_atom fabric register.enable) ++ lut_uses (lut_of fabric register.table)) ≡ []
    after-none register =
        joined-then each (atom_uses (signal_atom fabric register.enable)) (lut_uses (lut_of fabric register.table)) (atom-none each of_whole of_bit (signal_atom fabric register.enable))
        ∙ atoms-none each of_whole of_bit (lut_of fabric register.table).ins

    waits-then : (register : Register)
        → flat_map each ((atom_uses (signal_atom fabric register.enable) ++ atom_uses (atom_or_0 fabric register.sr)) ++ (Assigns sort.Register (register_name register) ∷ lut_uses (lut_of fabric register.table)))
        ≡ each (Assigns sort.Register (register_name register))
    waits-then register =
        assigned-then each of_whole of_bit (signal_atom fabric register.enable) (atom_or_0 fabric register.sr) (Assigns sort.Register (register_name register)) (lut_of fabric register.table).ins

  register-section : (register : Register) (way : Way) → section_of (item_in fabric register way) ≡ 7
  register-section register (waits clock) = refl
  register-section register (acts wire clock) = refl
  register-section register (sets wire) = refl

  register-declares : (register : Register) (way : Way) → flat_map declared_by (uses_of (item_in fabric register way)) ≡ []
  register-declares register (waits clock) = waits-then declared_by (λ name. refl) (λ name k. refl) register
  register-declares register (acts wire clock) = after-none declared_by (λ name. refl) (λ name k. refl) register
  register-declares register (sets wire) = refl

  register-reads : (register : Register) (way : Way) → wire_readings (item_in fabric register way) ≡ []
  register-reads register (waits clock) = refl
  register-reads register (acts wire clock) = refl
  register-reads register (sets wire) = refl

  register-assigns : (register : Register) (way : Way) → flat_map assigned_by (uses_of (item_in fabric register way)) ≡ register_name register ∷ []
  register-assigns register (waits clock) = waits-then assigned_by (λ name. refl) (λ name k. refl) register
  register-assigns register (acts wire clock) = ap (λ list. register_name register ∷ list) (after-none assigned_by (λ name. refl) (λ name k. refl) register)
  register-assigns register (sets wire) = refl

  register-starts : (register : Register) (way : Way) → flat_map started_by (uses_of (item_in fabric register way)) ≡ []
  register-starts register (waits clock) = waits-then started_by (λ name. refl) (λ name k. refl) register
  register-starts register (acts wire clock) = after-none started_by (λ name. refl) (λ name k. refl) register
  register-starts register (sets wire) = refl

  -- each of these items assigns its register or memory, and nothing else
  pub register-one : AssignsOne {X = Register × Way} 7 (λ pair. register_name pair.0) (λ pair. item_in fabric pair.0 pair.1)
  register-one = record {
    section = λ pair. register-section pair.0 pair.1;
    declares = λ pair. register-declares pair.0 pair.1;
    reads = λ pair. register-reads pair.0 pair.1;
    assigns = λ pair. register-assigns pair.0 pair.1;
    starts = λ pair. register-starts pair.0 pair.1;
  }

  -- ports of RAMs use and read what is theirs, in each mode
  module _ {A : Type 0} (each : Use → List A) (of_whole : (name : List ℕ) → each (Reads name) ≡ []) (of_bit : (name : List ℕ) (k : ℕ) → each (ReadsBit name k) ≡ [])
      (of_clock : (name : List ℕ) → each (Clocks name) ≡ []) (of_takes : (as_sort : Sort) (name : List ℕ) → each (Takes as_sort name) ≡ []) where
    clock-then : (name : List ℕ) (uses : List Use) (rest : List A) → flat_map each uses ≡ rest → flat_map each (Clocks name ∷ uses) ≡ rest
    clock-then name uses rest is = ap (λ list. list ++ flat_map each uses) (of_clock name) ∙ is

    read-uses : (ram : RamCell) (clock : List ℕ) → flat_map each (uses_of (read_item fabric ram clock)) ≡ each (Assigns sort.Word (read_name ram))
    read-uses ram clock =
        let first = atom_or_1 fabric ram.rclke in
        let second = atom_or_0 fabric ram.re in
        let address = port_atoms fabric (take 8 ram.raddr) in
        let shift = shift_atoms fabric ram.read ram.raddr in
        let rest = (atom_uses first ++ atom_uses second) ++ (Assigns sort.Word (read_name ram) ∷ Takes sort.Memory (memory_name ram) ∷ atoms_uses address) in
        let plain = read-then each of_whole of_bit first second (Assigns sort.Word (read_name ram)) (Takes sort.Memory (memory_name ram)) address (of_takes sort.Memory (memory_name ram)) in
        elim (cases_Bool (ram.read == 0)) [
          | inl here ↦ rw here (clock-then clock rest (each (Assigns sort.Word (read_name ram))) plain)
          | inr narrow ↦
              rw narrow
              (clock-then clock (rest ++ atoms_uses shift) (each (Assigns sort.Word (read_name ram))) (joined-front each rest (atoms_uses shift) (atoms-none each of_whole of_bit shift) ∙ plain))
        ]

    write-uses : (ram : RamCell) (clock : List ℕ) → flat_map each (uses_of (write_item fabric ram clock)) ≡ each (Assigns sort.Memory (memory_name ram))
    write-uses ram clock =
        let first = atom_or_1 fabric ram.wclke in
        let second = atom_or_0 fabric ram.we in
        let used = Assigns sort.Memory (memory_name ram) in
        let address = port_atoms fabric (take 8 ram.waddr) in
        let mask = port_atoms fabric ram.mask in
        let bits = port_atoms fabric ram.wdata in
        let shift = shift_atoms fabric ram.write ram.waddr in
        let data_bits = data_atoms fabric ram.write ram.wdata in
        let front = (atom_uses first ++ atom_uses second) ++ (used ∷ atoms_uses address) in
        elim (cases_Bool (ram.write == 0)) [
          | inl here ↦ rw here (clock-then clock ((front ++ atoms_uses mask) ++ atoms_uses bits) (each used) (write-then each of_whole of_bit first second used address mask bits))
          | inr narrow ↦ rw narrow (clock-then clock ((front ++ atoms_uses shift) ++ atoms_uses data_bits) (each used) (write-then each of_whole of_bit first second used address shift data_bits))
        ]

  read-still : (ram : RamCell) (clock : List ℕ) → wire_readings (read_item fabric ram clock) ≡ []
  read-still ram clock = elim (cases_Bool (ram.read == 0)) [ inl here ↦ rw here refl | inr narrow ↦ rw narrow refl ]

  write-still : (ram : RamCell) (clock : List ℕ) → wire_readings (write_item fabric ram clock) ≡ []
  write-still ram clock = elim (cases_Bool (ram.write == 0)) [ inl here ↦ rw here refl | inr narrow ↦ rw narrow refl ]

  pub read-one : AssignsOne {X = RamCell × List ℕ} 8 (λ pair. read_name pair.0) (λ pair. read_item fabric pair.0 pair.1)
  read-one = record {
    section = λ pair. read-section fabric pair.0 pair.1;
    declares = λ pair. read-uses declared_by (λ name. refl) (λ name k. refl) (λ name. refl) (λ as_sort name. refl) pair.0 pair.1;
    reads = λ pair. read-still pair.0 pair.1;
    assigns = λ pair. read-uses assigned_by (λ name. refl) (λ name k. refl) (λ name. refl) (λ as_sort name. refl) pair.0 pair.1;
    starts = λ pair. read-uses started_by (λ name. refl) (λ name k. refl) (λ name. refl) (λ as_sort name. refl) pair.0 pair.1;
  }

  pub write-one : AssignsOne {X = RamCell × List ℕ} 9 (λ pair. memory_name pair.0) (λ pair. write_item fabric pair.0 pair.1)
  write-one = record {
    section = λ pair. write-section fabric pair.0 pair.1;
    declares = λ pair. write-uses declared_by (λ name. refl) (λ name k. refl) (λ name. refl) (λ as_sort name. refl) pair.0 pair.1;
    reads = λ pair. write-still pair.0 pair.1;
    assigns = λ pair. write-uses assigned_by (λ name. refl) (λ name k. refl) (λ name. refl) (λ as_sort name. refl) pair.0 pair.1;
    starts = λ pair. write-uses started_by (λ name. refl) (λ name k. refl) (λ name. refl) (λ as_sort name. refl) pair.0 pair.1;
  }
