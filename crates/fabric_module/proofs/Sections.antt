-- The sections of a written module, each by itself.
use Rattle.std.proofs.Common.{◌≡◌, ℕ, Bool, false, List, [], ◌∷◌, ◌++◌, map, get_or, fold, refl, ap, ◌∙◌, inl, inr, append-nil}
use Rattle.std.specs.Prelude.{All, Option, Some, None, filter, flat_map, ◌==◌, if◌then◌else◌}
use Rattle.std.proofs.lemmas.Bool.{cases_Bool}
use Rattle.std.proofs.lemmas.List.Elements.{All-nil, All-cons, All-head, All-tail, All-append, filter-append}
use Rattle.index_search.proofs.Gathered.{All-gathered_below}
use Rattle.vlog_module.specs.declared.item.Item.{Item}
use Rattle.vlog_module.specs.WellFormed.{section_of}
use Rattle.fabric_model.specs.declared.register.Register.{Register}
use Rattle.fabric_model.specs.declared.ram.RamCell.{RamCell}
use Rattle.fabric_model.specs.Fabric.{Fabric, numbered}
use Rattle.fabric_model.specs.Outputs.{outputs_of}
use Rattle.fabric_model.proofs.Within.{All-single}
use Rattle.fabric_module.specs.Rights.{setting_wire}
use Rattle.fabric_module.specs.Written.{clocked, clock_name, register_item, read_register, ram_memory, class_wire, output_assign, items_by, register_items, read_item, read_items, write_item, write_items, start_item, start_items, items_of}

-- an item of a section
abbrev pub is_in : ℕ → Item → Bool
is_in k item = section_of item == k

-- ---- what looks at one section alone

-- a step that leaves things as they are at items of other sections
abbrev pub Skips : {B : Type 0} → ℕ → (B → Item → B) → Type 0
Skips {B} k step = (item : Item) → is_in k item ≡ false → (given : B) → step given item ≡ given

pub fold-section : {B : Type 0} (k : ℕ) (step : B → Item → B) → Skips k step → (given : B) (items : List Item) → fold step given items ≡ fold step given (filter (is_in k) items)
fold-section k step skips given [] = refl
fold-section k step skips given (item ∷ items) =
    elim (cases_Bool (is_in k item)) [
      | inl here ↦ rw here (fold-section k step skips (step given item) items)
      | inr away ↦ rw (away, skips item away given) (fold-section k step skips given items)
    ]

pub flat_map-section : {A : Type 0} (k : ℕ) (each : Item → List A) → ((item : Item) → is_in k item ≡ false → each item ≡ []) → (items : List Item)
    → flat_map each items ≡ flat_map each (filter (is_in k) items)
flat_map-section k each none [] = refl
flat_map-section k each none (item ∷ items) =
    elim (cases_Bool (is_in k item)) [
      | inl here ↦ rw here (ap (λ list. each item ++ list) (flat_map-section k each none items))
      | inr away ↦ rw (away, none item away) (flat_map-section k each none items)
    ]

-- ---- the sections

abbrev Section : ℕ → List Item → Type 0
Section j items = All (λ item. section_of item ≡ j) items

-- the items where the section is that one, and none elsewhere
abbrev picked : ℕ → ℕ → List Item → List Item
picked k j items = if j == k then items else []

picked-is : (k j : ℕ) (items : List Item) → Section j items → filter (is_in k) items ≡ picked k j items
picked-is k j [] all = elim (cases_Bool (j == k)) [ inl here ↦ rw here refl | inr away ↦ rw away refl ]
picked-is k j (item ∷ items) all =
    let first : section_of item ≡ j = All-head (λ i. section_of i ≡ j) item items all in
    let rest : filter (is_in k) items ≡ picked k j items = picked-is k j items (All-tail (λ i. section_of i ≡ j) item items all) in
    let test : is_in k item ≡ (j == k) = ap (λ n. n == k) first in
    elim (cases_Bool (j == k)) [
      | inl here ↦ rw (test ∙ here, here) (ap (λ list. item ∷ list) (rest ∙ (rw here refl)))
      | inr away ↦ rw (test ∙ away, away) (rest ∙ (rw away refl))
    ]

picked-then : (k j : ℕ) (items rest others : List Item) → Section j items → filter (is_in k) rest ≡ others → filter (is_in k) (items ++ rest) ≡ picked k j items ++ others
picked-then k j items rest others all is = filter-append (is_in k) items rest ∙ (ap (λ front. front ++ filter (is_in k) rest) (picked-is k j items all) ∙ ap (λ back. picked k j items ++ back) is)

All-mapped : {X : Type 0} (j : ℕ) (item : X → Item) (xs : List X) → ((x : X) → section_of (item x) ≡ j) → Section j (map item xs)
All-mapped j item [] each = All-nil (λ i. section_of i ≡ j)
All-mapped j item (x ∷ xs) each = All-cons (λ i. section_of i ≡ j) (item x) (map item xs) (each x) (All-mapped j item xs each)

All-given : {X : Type 0} (j : ℕ) (items : X → List Item) (xs : List X) → ((x : X) → Section j (items x)) → Section j (flat_map items xs)
All-given j items [] each = All-nil (λ i. section_of i ≡ j)
All-given j items (x ∷ xs) each = All-append (λ i. section_of i ≡ j) (items x) (flat_map items xs) (each x) (All-given j items xs each)

All-clocked : (j : ℕ) (clock : Option (List ℕ)) (item : List ℕ → Item) → ((name : List ℕ) → section_of (item name) ≡ j) → Section j (clocked clock item)
All-clocked j None item each = All-nil (λ i. section_of i ≡ j)
All-clocked j (Some name) item each = All-single (λ i. section_of i ≡ j) (item name) (each name)

All-items_by : (fabric : Fabric) (register : Register) (wire clock : Option (List ℕ)) → Section 7 (items_by fabric register wire clock)
All-items_by fabric register None None = All-nil (λ i. section_of i ≡ 7)
All-items_by fabric register None (Some clock) = All-single (λ i. section_of i ≡ 7) _ refl
All-items_by fabric register (Some wire) None = All-single (λ i. section_of i ≡ 7) _ refl
All-items_by fabric register (Some wire) (Some clock) = All-single (λ i. section_of i ≡ 7) _ refl

-- a port of a RAM has one section in each mode
pub read-section : (fabric : Fabric) (ram : RamCell) (clock : List ℕ) → section_of (read_item fabric ram clock) ≡ 8
read-section fabric ram clock = elim (cases_Bool (ram.read == 0)) [ inl here ↦ rw here refl | inr away ↦ rw away refl ]

pub write-section : (fabric : Fabric) (ram : RamCell) (clock : List ℕ) → section_of (write_item fabric ram clock) ≡ 9
write-section fabric ram clock = elim (cases_Bool (ram.write == 0)) [ inl here ↦ rw here refl | inr away ↦ rw away refl ]

module _ (fabric : Fabric) (order : List ℕ) where
  -- what is in one section of the module
  section-is : (k : ℕ) → filter (is_in k) (items_of fabric order)
      ≡ picked k 2 (map register_item fabric.registers)
      ++ (picked k 3 (map read_register fabric.rams)
      ++ (picked k 4 (map ram_memory fabric.rams)
      ++ (picked k 5 (map (class_wire fabric) order)
      ++ (picked k 6 (map (output_assign fabric) (outputs_of fabric))
      ++ (picked k 7 (flat_map (register_items fabric) fabric.registers)
      ++ (picked k 8 (flat_map (read_items fabric) fabric.rams)
      ++ (picked k 9 (flat_map (write_items fabric) fabric.rams)
      ++ picked k 10 (flat_map (start_items fabric) (numbered fabric.rams)))))))))
  unfolding items_of
  section-is k =
      picked-then k 2 _ _ _ (All-mapped 2 register_item fabric.registers (λ register. refl))
      (picked-then k 3 _ _ _ (All-mapped 3 read_register fabric.rams (λ ram. refl))
      (picked-then k 4 _ _ _ (All-mapped 4 ram_memory fabric.rams (λ ram. refl))
      (picked-then k 5 _ _ _ (All-mapped 5 (class_wire fabric) order (λ class. refl))
      (picked-then k 6 _ _ _ (All-mapped 6 (output_assign fabric) (outputs_of fabric) (λ output. refl))
      (picked-then k 7 _ _ _ (All-given 7 (register_items fabric) fabric.registers (λ register. All-items_by fabric register (setting_wire fabric register) (clock_name fabric register.clk)))
      (picked-then k 8 _ _ _ (All-given 8 (read_items fabric) fabric.rams (λ ram. All-clocked 8 (clock_name fabric ram.rclk) (read_item fabric ram) (read-section fabric ram)))
      (picked-then k 9 _ _ _ (All-given 9 (write_items fabric) fabric.rams (λ ram. All-clocked 9 (clock_name fabric ram.wclk) (write_item fabric ram) (write-section fabric ram)))
      (picked-is k 10 _ (All-given 10 (start_items fabric) (numbered fabric.rams) (λ place.
      All-gathered_below (λ i. section_of i ≡ 10) 256 (λ n. start_item place.1 (get_or fabric.start place.0 []) n ∷ [])
      (λ n within. All-single (λ i. section_of i ≡ 10) (start_item place.1 (get_or fabric.start place.0 []) n) refl)))))))))))

  pub registers-section : filter (is_in 2) (items_of fabric order) ≡ map register_item fabric.registers
  registers-section = section-is 2 ∙ append-nil (map register_item fabric.registers)

  pub words-section : filter (is_in 3) (items_of fabric order) ≡ map read_register fabric.rams
  words-section = section-is 3 ∙ append-nil (map read_register fabric.rams)

  pub memories-section : filter (is_in 4) (items_of fabric order) ≡ map ram_memory fabric.rams
  memories-section = section-is 4 ∙ append-nil (map ram_memory fabric.rams)

  pub wires-section : filter (is_in 5) (items_of fabric order) ≡ map (class_wire fabric) order
  wires-section = section-is 5 ∙ append-nil (map (class_wire fabric) order)

  pub assigns-section : filter (is_in 6) (items_of fabric order) ≡ map (output_assign fabric) (outputs_of fabric)
  assigns-section = section-is 6 ∙ append-nil (map (output_assign fabric) (outputs_of fabric))

  pub flips-section : filter (is_in 7) (items_of fabric order) ≡ flat_map (register_items fabric) fabric.registers
  flips-section = section-is 7 ∙ append-nil (flat_map (register_items fabric) fabric.registers)

  pub reads-section : filter (is_in 8) (items_of fabric order) ≡ flat_map (read_items fabric) fabric.rams
  reads-section = section-is 8 ∙ append-nil (flat_map (read_items fabric) fabric.rams)

  pub writes-section : filter (is_in 9) (items_of fabric order) ≡ flat_map (write_items fabric) fabric.rams
  writes-section = section-is 9 ∙ append-nil (flat_map (write_items fabric) fabric.rams)

  pub starts-section : filter (is_in 10) (items_of fabric order) ≡ flat_map (start_items fabric) (numbered fabric.rams)
  starts-section = section-is 10
