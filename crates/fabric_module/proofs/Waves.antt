-- The items on a clock are one to one with the fabric's users of it: as many have an edge, and as many are on a register.
use Rattle.std.proofs.Common.{◌≡◌, ℕ, zero, suc, ◌+◌, Bool, true, false, List, [], ◌∷◌, ◌++◌, length, map, refl, sym, ap, ◌∙◌, arith, inl, inr}
use Rattle.std.specs.Prelude.{All, Option, Some, None, filter, flat_map, is_some, ◌==◌, if◌then◌else◌}
use Rattle.std.specs.List.{list_any}
use Rattle.std.proofs.lemmas.Bool.{cases_Bool}
use Rattle.std.proofs.lemmas.List.{length-append}
use Rattle.std.proofs.lemmas.List.Elements.{All-head, All-tail, All-weaker, filter-append}
use Rattle.bit_plane.specs.BitList.{bit_value}
use Rattle.plane_map.specs.declared.device.DeviceName.{DeviceName}
use Rattle.vlog_module.specs.declared.item.Item.{Item}
use Rattle.vlog_module.specs.declared.item.Item.TheVariants.{Register as RegisterItem, Word, Memory, Wire, Assign, FlipFlop, AsyncFlipFlop, AsyncReset, Read, ReadNarrow, Write, WriteNarrow, Start}
use Rattle.vlog_module.specs.Maps.{value_in}
use Rattle.vlog_semantics.specs.Named.{names_of}
use Rattle.vlog_semantics.specs.Run.{Edges as ItemEdges}
use Rattle.vlog_semantics.specs.Run.{wave_bound as module_bound}
use Rattle.vlog_semantics.specs.Run.{register_start, clock_of, is_at_edge, has_its_edge, is_register_of}
use Rattle.fabric_model.specs.declared.register.Register.{Register}
use Rattle.fabric_model.specs.declared.ram.RamCell.{RamCell}
use Rattle.fabric_model.specs.Fabric.{Fabric}
use Rattle.fabric_model.specs.Steps.{Edges, is_on_register, clocked_users, wave_bound}
use Rattle.fabric_model.specs.Clocks.ClockEnd.{at_pin, at_register, still}
use Rattle.graph_order.specs.Wiring.{IsWriteOrder}
use Rattle.fabric_model.specs.Wiring.{clocked_wiring}
use Rattle.fabric_model.specs.Faults.{fabric_fault}
use Rattle.fabric_model.proofs.OneValue.{IsWithin}
use Rattle.fabric_model.proofs.Runs.{IsClocked}
use Rattle.fabric_module.specs.Names.{register_name}
use Rattle.fabric_module.specs.Rights.{setting_wire}
use Rattle.fabric_module.specs.Written.{clocked, clock_name, is_falling, flip_item, at_once_item, items_by, register_items, read_item, read_items, write_item, write_items, items_of, module_of}
use Rattle.fabric_module.proofs.Sections.{is_in, flips-section, reads-section, writes-section}
use Rattle.fabric_module.proofs.Lists.{map-map, value_in-at}
use Rattle.fabric_module.proofs.Settled.{IsWritable}
use Rattle.fabric_module.proofs.Beginning.{IsStarted, start-registers}
use Rattle.fabric_module.proofs.Ticks.{clock_test, Agree, agree-all, on-none, on-end, input-no_value, pin-there, register-there}
use Rattle.fabric_module.proofs.Acted.{AreClocked}

-- ---- counts

-- how many pass a test
abbrev count : {A : Type 0} → (A → Bool) → List A → ℕ
count test xs = length (filter test xs)

count-first : {A : Type 0} (test : A → Bool) (x : A) (xs : List A) → count test (x ∷ xs) ≡ bit_value (test x) + count test xs
count-first test x xs =
    elim (cases_Bool (test x)) [
      | inl here ↦ rw here (omega arith)
      | inr away ↦ rw away (omega arith)
    ]

count-both : {A : Type 0} (test : A → Bool) (xs ys : List A) → count test (xs ++ ys) ≡ count test xs + count test ys
count-both test xs ys = ap length (filter-append test xs ys) ∙ length-append (filter test xs) (filter test ys)

abbrev is_some_number : ℕ → Bool
is_some_number zero = false
is_some_number (suc n) = true

-- whether any passes, by how many do
any-count : {A : Type 0} (test : A → Bool) (xs : List A) → list_any test xs ≡ is_some_number (count test xs)
any-count test [] = refl
any-count test (x ∷ xs) =
    elim (cases_Bool (test x)) [
      | inl here ↦ rw here refl
      | inr away ↦ rw away (any-count test xs)
    ]

-- ---- items by their sections

module _ (edges : ItemEdges) where
  -- whether an item has its edge, as a number
  abbrev one : Item → ℕ
  one item = bit_value (has_its_edge edges item)

  -- the same of items of a section
  abbrev one_in : ℕ → Item → ℕ
  one_in k item = if is_in k item then one item else 0

  section-first : (k : ℕ) (item : Item) (items : List Item)
      → count (has_its_edge edges) (filter (is_in k) (item ∷ items)) ≡ one_in k item + count (has_its_edge edges) (filter (is_in k) items)
  section-first k item items =
      elim (cases_Bool (is_in k item)) [
        | inl here ↦ rw here (count-first (has_its_edge edges) item (filter (is_in k) items))
        | inr away ↦ rw away (omega arith)
      ]

  -- an item with a clock is in one of the sections of registers, read ports and write ports
  one-section : (item : Item) → one item ≡ one_in 7 item + (one_in 8 item + one_in 9 item)
  one-section (RegisterItem name start) = refl
  one-section (Word name start) = refl
  one-section (Memory name) = refl
  one-section (Wire name right) = refl
  one-section (Assign name value) = refl
  one-section (FlipFlop falling clock enable reset set target lut) = omega arith
  one-section (AsyncFlipFlop falling clock reset set target enable lut) = omega arith
  one-section (AsyncReset reset set target) = refl
  one-section (Read falling clock clock_enable enable target memory address) = omega arith
  one-section (ReadNarrow falling clock clock_enable enable target memory address shift pattern) = omega arith
  one-section (Write falling clock clock_enable enable memory address mask bits) = omega arith
  one-section (WriteNarrow falling clock clock_enable enable memory address pattern shift bits) = omega arith
  one-section (Start memory k word) = refl

  -- the items of these sections
  abbrev in_section : ℕ → List Item → ℕ
  in_section k items = count (has_its_edge edges) (filter (is_in k) items)

  sections-count : (items : List Item) → count (has_its_edge edges) items ≡ in_section 7 items + (in_section 8 items + in_section 9 items)
  sections-count [] = refl
  sections-count (item ∷ items) =
      omega (
        arith,
        sections-count items,
        count-first (has_its_edge edges) item items,
        one-section item,
        section-first 7 item items,
        section-first 8 item items,
        section-first 9 item items,
      )

  -- ---- the items of a user

  single : (item : Item) → count (has_its_edge edges) (item ∷ []) ≡ one item
  single item = count-first (has_its_edge edges) item [] ∙ omega arith

  module _ (fabric : Fabric) where
    register-one : (register : Register) (wire clock : Option (List ℕ))
        → count (has_its_edge edges) (items_by fabric register wire clock) ≡ bit_value (clock_test edges (is_falling fabric register.neg register.clk) clock)
    register-one register (Some wire) (Some clock) = single (at_once_item fabric register wire clock)
    register-one register (Some wire) None = refl
    register-one register None (Some clock) = single (flip_item fabric register clock)
    register-one register None None = refl

    read-one : (ram : RamCell) (clock : Option (List ℕ))
        → count (has_its_edge edges) (clocked clock (read_item fabric ram)) ≡ bit_value (clock_test edges (is_falling fabric ram.rneg ram.rclk) clock)
    read-one ram None = refl
    read-one ram (Some clock) =
        single (read_item fabric ram clock)
        ∙ elim (cases_Bool (ram.read == 0)) [ inl here ↦ rw here refl | inr away ↦ rw away refl ]

    write-one : (ram : RamCell) (clock : Option (List ℕ))
        → count (has_its_edge edges) (clocked clock (write_item fabric ram)) ≡ bit_value (clock_test edges (is_falling fabric ram.wneg ram.wclk) clock)
    write-one ram None = refl
    write-one ram (Some clock) =
        single (write_item fabric ram clock)
        ∙ elim (cases_Bool (ram.write == 0)) [ inl here ↦ rw here refl | inr away ↦ rw away refl ]

-- the users and their items are one to one
given-count : {X : Type 0} (edges : ItemEdges) (user_edges : Bool × Option ℕ → Bool) (items : X → List Item) (user : X → Bool × Option ℕ) (xs : List X)
    → All (λ x. count (has_its_edge edges) (items x) ≡ bit_value (user_edges (user x))) xs
    → count (has_its_edge edges) (flat_map items xs) ≡ count user_edges (map user xs)
given-count edges user_edges items user [] all = refl
given-count edges user_edges items user (x ∷ xs) all =
    omega (
      arith,
      count-both (has_its_edge edges) (items x) (flat_map items xs),
      count-first user_edges (user x) (map user xs),
      All-head (λ y. count (has_its_edge edges) (items y) ≡ bit_value (user_edges (user y))) x xs all,
      given-count edges user_edges items user xs (All-tail (λ y. count (has_its_edge edges) (items y) ≡ bit_value (user_edges (user y))) x xs all),
    )

-- ---- the users of a fabric

abbrev register_user : Register → Bool × Option ℕ
register_user register = (register.neg, register.clk)

abbrev read_user : RamCell → Bool × Option ℕ
read_user ram = (ram.rneg, ram.rclk)

abbrev write_user : RamCell → Bool × Option ℕ
write_user ram = (ram.wneg, ram.wclk)

ports-count : (test : Bool × Option ℕ → Bool) (rams : List RamCell)
    → count test (flat_map (λ ram. read_user ram ∷ write_user ram ∷ []) rams) ≡ count test (map read_user rams) + count test (map write_user rams)
ports-count test [] = refl
ports-count test (ram ∷ rams) =
    let rest = flat_map (λ r. read_user r ∷ write_user r ∷ []) rams in
    omega (
      arith,
      ports-count test rams,
      count-first test (read_user ram) (write_user ram ∷ rest),
      count-first test (write_user ram) rest,
      count-first test (read_user ram) (map read_user rams),
      count-first test (write_user ram) (map write_user rams),
    )

users-count : (fabric : Fabric) (test : Bool × Option ℕ → Bool) → count test (clocked_users fabric)
    ≡ count test (map register_user fabric.registers) + (count test (map read_user fabric.rams) + count test (map write_user fabric.rams))
users-count fabric test =
    omega (arith, count-both test (map register_user fabric.registers) (flat_map (λ ram. read_user ram ∷ write_user ram ∷ []) fabric.rams), ports-count test fabric.rams)

module _ (fabric : Fabric) (clocks : AreClocked fabric) (order : List ℕ) (edges : ItemEdges) (user_edges : Edges) (agree : Agree fabric edges user_edges) where
  -- whether a user has an edge
  abbrev user_test : Bool × Option ℕ → Bool
  user_test user = user_edges user.0 user.1

  registers-count : count (has_its_edge edges) (filter (is_in 7) (items_of fabric order)) ≡ count user_test (map register_user fabric.registers)
  registers-count =
      ap (count (has_its_edge edges)) (flips-section fabric order)
      ∙ given-count edges user_test (register_items fabric) register_user fabric.registers
      (All-weaker (λ register. IsClocked fabric register.clk) (λ register. count (has_its_edge edges) (register_items fabric register) ≡ bit_value (user_test (register_user register)))
      (λ register good. register-one edges fabric register (setting_wire fabric register) (clock_name fabric register.clk) ∙ ap bit_value (agree register.neg register.clk good))
      fabric.registers clocks.registers)

  reads-count : count (has_its_edge edges) (filter (is_in 8) (items_of fabric order)) ≡ count user_test (map read_user fabric.rams)
  reads-count =
      ap (count (has_its_edge edges)) (reads-section fabric order)
      ∙ given-count edges user_test (read_items fabric) read_user fabric.rams
      (All-weaker (λ ram. IsClocked fabric ram.rclk) (λ ram. count (has_its_edge edges) (read_items fabric ram) ≡ bit_value (user_test (read_user ram)))
      (λ ram good. read-one edges fabric ram (clock_name fabric ram.rclk) ∙ ap bit_value (agree ram.rneg ram.rclk good)) fabric.rams clocks.reads)

  writes-count : count (has_its_edge edges) (filter (is_in 9) (items_of fabric order)) ≡ count user_test (map write_user fabric.rams)
  writes-count =
      ap (count (has_its_edge edges)) (writes-section fabric order)
      ∙ given-count edges user_test (write_items fabric) write_user fabric.rams
      (All-weaker (λ ram. IsClocked fabric ram.wclk) (λ ram. count (has_its_edge edges) (write_items fabric ram) ≡ bit_value (user_test (write_user ram)))
      (λ ram good. write-one edges fabric ram (clock_name fabric ram.wclk) ∙ ap bit_value (agree ram.wneg ram.wclk good)) fabric.rams clocks.writes)

  edges-count : count (has_its_edge edges) (items_of fabric order) ≡ count user_test (clocked_users fabric)
  edges-count = omega (arith, sections-count edges (items_of fabric order), users-count fabric user_test, registers-count, reads-count, writes-count)

  -- some item has its edge exactly if some user has one
  pub edges-any : list_any (has_its_edge edges) (items_of fabric order) ≡ list_any user_test (clocked_users fabric)
  edges-any = any-count (has_its_edge edges) (items_of fabric order) ∙ (ap is_some_number edges-count ∙ sym (any-count user_test (clocked_users fabric)))

-- ---- how many waves there are at most

module _ (device : DeviceName) (fabric : Fabric) (taken : fabric_fault device fabric ≡ None) (within : IsWithin fabric) (writable : IsWritable fabric)
    (sized : IsStarted fabric) (clocks : AreClocked fabric) (order : List ℕ) (ordered : IsWriteOrder (clocked_wiring fabric) order) (name : List ℕ) where
  -- the registers of the module, by what they start with
  abbrev starts : List (List ℕ × Bool)
  starts = flat_map register_start (items_of fabric order)

  starts-named : names_of starts ≡ map register_name fabric.registers
  starts-named =
      ap names_of (start-registers fabric within writable sized order ordered name)
      ∙ map-map (λ register. (register_name register, false)) (λ (entry : List ℕ × Bool). entry.0) fabric.registers

  -- whether a clock is a register, in the module and in the fabric
  abbrev on_item : ItemEdges
  on_item falling clock = is_some (value_in starts clock)

  abbrev on_user : Edges
  on_user inverted clock = is_on_register fabric clock

  on-agrees : Agree fabric on_item on_user
  on-agrees =
      agree-all fabric on_item on_user (record {
        none = λ inverted. on-none fabric;
        stays = λ inverted net bit is. on-end fabric net (still bit) is;
        pin = λ inverted net place turned is.
            ap is_some (input-no_value fabric starts starts-named place (pin-there device fabric taken within writable net place turned is))
            ∙ sym (on-end fabric net (at_pin place turned) is);
        register = λ inverted net class place turned is.
            ap is_some (value_in-at register_name false fabric.registers starts place writable.registers starts-named (register-there device fabric taken within net class place turned is))
            ∙ sym (on-end fabric net (at_register class place turned) is);
      })

  clock-same : (clock : Option (Bool × List ℕ)) → is_register_of (module_of fabric order name) clock ≡ is_at_edge on_item clock
  unfolding module_of
  clock-same None = refl
  clock-same (Some clock) = refl

  -- an event has as many waves at most in the module as in the fabric
  pub bounds-same : module_bound (module_of fabric order name) ≡ wave_bound fabric
  unfolding module_of
  bounds-same =
      let same : module_bound (module_of fabric order name) ≡ count (has_its_edge on_item) (items_of fabric order) =
      λ i. length (filter (λ item. clock-same (clock_of item) i) (items_of fabric order)) in
      same ∙ edges-count fabric clocks order on_item on_user on-agrees
