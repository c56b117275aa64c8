-- In a well-formed module, settling twice is settling once.
use Rattle.std.proofs.Common.{◌≡◌, ℕ, zero, suc, ◌+◌, ◌<◌, ◌≤◌, Bool, true, false, cond, List, [], ◌∷◌, ◌++◌, Option, Some, None, inl, inr, ap, ap₂, arith, fold, flat_map, get_or, length, refl, sym, take, take_all, drop, ◌∙◌}
use Rattle.std.specs.Prelude.{◌||◌, ◌&&◌, not, All, bytes_eq, is_some, map, slice_get, unwrap_or}
use Rattle.std.specs.Bool.{beq}
use Rattle.std.specs.List.{list_all}
use Rattle.std.proofs.lemmas.Bool.{cases_Bool}
use Rattle.std.proofs.lemmas.List.{take-append-drop}
use Rattle.std.proofs.lemmas.List.Concat.{flat_map-append}
use Rattle.std.proofs.lemmas.List.Folds.{list_all-append}
use Rattle.std.proofs.lemmas.List.Sums.{fold-append, fold_more}
use Rattle.std.proofs.lemmas.Option.{slice_get-get_or}
use Rattle.std.proofs.lemmas.Slice.Eq.{bytes_eq-Decides}
use Rattle.shared_lemmas.proofs.Bytes.{bytes_eq-turned}
use Rattle.index_search.specs.Places.{or_else}
use Rattle.vlog_module.specs.declared.atoms.Atom.{Atom}
use Rattle.vlog_module.specs.declared.atoms.Atom.TheVariants.{Bit, Whole, Part}
use Rattle.vlog_module.specs.declared.item.Item.{Item}
use Rattle.vlog_module.specs.declared.item.Item.TheVariants.{Wire, AsyncReset}
use Rattle.vlog_module.specs.declared.item.Right.{Right}
use Rattle.vlog_module.specs.declared.item.Right.TheVariants.{Bit as RightBit, Whole as RightWhole, Part as RightPart, Lut as RightLut, Majority, Choose}
use Rattle.vlog_module.specs.declared.sort.Sort.TheVariants.{Wire as WireSort}
use Rattle.vlog_module.specs.Maps.{value_in}
use Rattle.vlog_module.specs.Parts.{Parts}
use Rattle.vlog_module.specs.Uses.{Use, atom_uses, atoms_uses, right_uses}
use Rattle.vlog_module.specs.WellFormed.{IsModule, Reading, read_by, scope_of, sort_in}
use Rattle.vlog_module.specs.WellFormed.Reading.{plainly, unless}
use Rattle.vlog_semantics.specs.Entries.{Entry}
use Rattle.vlog_semantics.specs.Named.{has_name}
use Rattle.vlog_semantics.specs.Run.{is_at_once, output_start, output_step, settle_step, settled, wire_step}
use Rattle.vlog_semantics.specs.Values.{Readable, atom_value, bit_of, majority, number_of, right_value}
use Rattle.vlog_semantics.proofs.AtOnce.{AtOnce, ChoosesBy, and-left, and-right, at_once, chooses-by, declared-at, found-more, is_read_well, read-well, wire-apart}
use Rattle.vlog_semantics.proofs.Reading.{has-value}
use Rattle.vlog_semantics.proofs.Resting.{rest-kept, rests-alike, rests-plain, rests-twice}
use Rattle.vlog_semantics.proofs.Wires.{names-settled}

-- ---- values in two lists

value-append : {A : Type 0} (first rest : List (List ℕ × A)) (name : List ℕ) → value_in (first ++ rest) name ≡ or_else (value_in first name) (value_in rest name)
value-append [] rest name = refl
value-append {A = A} (entry ∷ first) rest name =
    elim (bytes_eq entry.0 name) as (λ b. cond b (Some entry.1) (value_in (first ++ rest) name) ≡ or_else (cond b (Some entry.1) (value_in first name)) (value_in rest name)) [
      | true ↦ refl
      | false ↦ value-append first rest name
    ]

plain-test : (b : Bool) → ((not b || false) && true) ≡ true → b ≡ false
plain-test true is = cc
plain-test false is = refl

chosen-test : (b c d : Bool) → ((not b || (c && d)) && true) ≡ true → b ≡ true → c ≡ true
chosen-test true true d is here = refl
chosen-test true false d is here = cc
chosen-test false c d is here = cc

no-both : (b c : Bool) → b ≡ true → b ≡ false → c ≡ false
no-both b c one zero_bit = absurd cc

choose-alike : (b after set_to value other : Bool) → after ≡ b → (b ≡ false → other ≡ value) → cond after set_to other ≡ cond b set_to value
choose-alike true after set_to value other same rest = ap (λ x. cond x set_to other) same
choose-alike false after set_to value other same rest = ap (λ x. cond x set_to other) same ∙ rest refl

-- a wire that has its value keeps it
later-kept : (known : List (List ℕ × Bool)) (words : List (List ℕ × ℕ)) (done : List (List ℕ × Bool)) (items : List Item) (name : List ℕ) (value : Bool)
    → value_in done name ≡ Some value → value_in (fold (wire_step known words) done items) name ≡ Some value
later-kept known words done [] name value is = is
later-kept known words done (Wire other right ∷ items) name value is =
    let wire : List ℕ × Bool = (other, right_value (record { bits = known ++ done; words = words }) right) in
    later-kept known words (done ++ wire ∷ []) items name value (found-more done (wire ∷ []) name value is)
later-kept known words done (item ∷ items) name value is = later-kept known words done items name value is

later-same : (known : List (List ℕ × Bool)) (words : List (List ℕ × ℕ)) (done : List (List ℕ × Bool)) (items : List Item) (name : List ℕ) (found : Option Bool)
    → value_in done name ≡ found → is_some found ≡ true → value_in (fold (wire_step known words) done items) name ≡ value_in done name
later-same known words done items name (Some value) is there = later-kept known words done items name value is ∙ sym is
later-same known words done items name None is there = cc

module _ (m : Parts) (inputs registers : List (List ℕ × Bool)) (words : List (List ℕ × ℕ)) (whole : IsModule m) where
  -- the wires of the first items
  abbrev wires_below : ℕ → List (List ℕ × Bool)
  wires_below k = fold (wire_step (inputs ++ registers) words) [] (take k m.items)

  abbrev all_wires : List (List ℕ × Bool)
  all_wires = fold (wire_step (inputs ++ registers) words) [] m.items

  -- what the settling step reads
  abbrev from_all : Readable
  from_all = record { bits = inputs ++ registers ++ all_wires; words = words }

  abbrev rested : List (List ℕ × Bool)
  rested = fold (settle_step from_all) registers m.items

  -- a register that the step leaves
  abbrev Stays : List ℕ → Type 0
  Stays name = value_in rested name ≡ value_in registers name

  -- readings by way of each register's asynchronous set or reset, if it has one
  abbrev AreWell : List (List ℕ × Reading) → Type 0
  AreWell readings = (i : ℕ) (item : Item) (one : AtOnce) → slice_get m.items i ≡ Some item → at_once item ≡ Some one → list_all (is_read_well one) readings ≡ true

  plain-stays : (name : List ℕ) → AreWell ((name, plainly) ∷ []) → Stays name
  plain-stays name well =
      rest-kept from_all registers m.items name (λ i item one at is acts.
      bytes_eq-turned one.target name ∙ plain-test (bytes_eq name one.target) (well i item one at is))

  chosen-stays : (name reset : List ℕ) (set_to : Bool) → AreWell ((name, unless reset set_to) ∷ []) → atom_value from_all (Whole reset) ≡ false → Stays name
  chosen-stays name reset set_to well off =
      rest-kept from_all registers m.items name (λ i item one at is acts.
      elim (cases_Bool (bytes_eq name one.target)) [
        | inl same ↦
            let by : reset ≡ one.reset = (bytes_eq-Decides reset one.reset).0 (chosen-test (bytes_eq name one.target) (bytes_eq reset one.reset) (beq set_to one.set_to) (well i item one at is) same) in
            no-both (atom_value from_all (Whole one.reset)) (bytes_eq one.target name) acts (ap (λ n. atom_value from_all (Whole n)) (sym by) ∙ off)
        | inr apart ↦ bytes_eq-turned one.target name ∙ apart
      ])

  wire-stays : (name : List ℕ) → sort_in (scope_of m.ports m.items).declared name ≡ Some WireSort → Stays name
  wire-stays name declared =
      rest-kept from_all registers m.items name (λ i item one at is acts. wire-apart m one name (declared-at m i item one whole at is) declared)

  -- what reads the name, reads the same from either
  value-stays : (wires : List (List ℕ × Bool)) (name : List ℕ) → Stays name → value_in (inputs ++ rested ++ wires) name ≡ value_in (inputs ++ registers ++ wires) name
  value-stays wires name stays =
      value-append (inputs ++ rested) wires name
      ∙ ap (λ found. or_else found (value_in wires name))
      (value-append inputs rested name ∙ ap (or_else (value_in inputs name)) stays ∙ sym (value-append inputs registers name))
      ∙ sym (value-append (inputs ++ registers) wires name)

  whole-alike : (wires : List (List ℕ × Bool)) (name : List ℕ) → Stays name
      → atom_value (record { bits = inputs ++ rested ++ wires; words = words }) (Whole name) ≡ atom_value (record { bits = inputs ++ registers ++ wires; words = words }) (Whole name)
  whole-alike wires name stays = ap (λ found. unwrap_or found false) (value-stays wires name stays)

  -- ---- right sides

  well-left : (xs ys : List Use) → AreWell (flat_map read_by (xs ++ ys)) → AreWell (flat_map read_by xs)
  well-left xs ys well i item one at is =
      and-left (list_all (is_read_well one) (flat_map read_by xs)) (list_all (is_read_well one) (flat_map read_by ys))
      (sym (ap (list_all (is_read_well one)) (flat_map-append read_by xs ys) ∙ list_all-append (is_read_well one) (flat_map read_by xs) (flat_map read_by ys)) ∙ well i item one at is)

  well-right : (xs ys : List Use) → AreWell (flat_map read_by (xs ++ ys)) → AreWell (flat_map read_by ys)
  well-right xs ys well i item one at is =
      and-right (list_all (is_read_well one) (flat_map read_by xs)) (list_all (is_read_well one) (flat_map read_by ys))
      (sym (ap (list_all (is_read_well one)) (flat_map-append read_by xs ys) ∙ list_all-append (is_read_well one) (flat_map read_by xs) (flat_map read_by ys)) ∙ well i item one at is)

  atom-alike : (wires : List (List ℕ × Bool)) (atom : Atom) → AreWell (flat_map read_by (atom_uses atom))
      → atom_value (record { bits = inputs ++ rested ++ wires; words = words }) atom ≡ atom_value (record { bits = inputs ++ registers ++ wires; words = words }) atom
  atom-alike wires (Bit bit) well = refl
  atom-alike wires (Whole name) well = whole-alike wires name (plain-stays name well)
  atom-alike wires (Part name k) well = refl

  atoms-alike : (wires : List (List ℕ × Bool)) (atoms : List Atom) → AreWell (flat_map read_by (atoms_uses atoms))
      → map (atom_value (record { bits = inputs ++ rested ++ wires; words = words })) atoms ≡ map (atom_value (record { bits = inputs ++ registers ++ wires; words = words })) atoms
  atoms-alike wires [] well = refl
  atoms-alike wires (atom ∷ atoms) well =
      ap₂ (λ bit bits. bit ∷ bits) (atom-alike wires atom (well-right (atoms_uses atoms) (atom_uses atom) well)) (atoms-alike wires atoms (well-left (atoms_uses atoms) (atom_uses atom) well))

  -- a wire that chooses has the value of the wire that it chooses by
  abbrev Chosen : List (List ℕ × Bool) → Right → Type 0
  Chosen wires right = (reset target : List ℕ) (set_to : Bool) → right ≡ Choose reset set_to target
      → Stays reset × (atom_value (record { bits = inputs ++ registers ++ wires; words = words }) (Whole reset) ≡ atom_value from_all (Whole reset))

  right-alike : (wires : List (List ℕ × Bool)) (right : Right) → AreWell (flat_map read_by (right_uses right)) → Chosen wires right
      → right_value (record { bits = inputs ++ rested ++ wires; words = words }) right ≡ right_value (record { bits = inputs ++ registers ++ wires; words = words }) right
  right-alike wires (RightBit bit) well chosen = refl
  right-alike wires (RightWhole name) well chosen = whole-alike wires name (plain-stays name well)
  right-alike wires (RightPart name k) well chosen = refl
  right-alike wires (RightLut lut) well chosen = ap (λ bits. bit_of lut.word (number_of bits)) (atoms-alike wires lut.ins well)
  right-alike wires (Majority a b c) well chosen =
      ap₂ (λ f z. f z)
      (ap₂ majority (atom-alike wires a (well-left (atom_uses a) (atom_uses b) (well-left (atom_uses a ++ atom_uses b) (atom_uses c) well)))
      (atom-alike wires b (well-right (atom_uses a) (atom_uses b) (well-left (atom_uses a ++ atom_uses b) (atom_uses c) well))))
      (atom-alike wires c (well-right (atom_uses a ++ atom_uses b) (atom_uses c) well))
  right-alike wires (Choose reset set_to target) well chosen =
      let by = chosen reset target set_to refl in
      choose-alike (atom_value (record { bits = inputs ++ registers ++ wires; words = words }) (Whole reset)) _ set_to _ _
      (whole-alike wires reset by.0)
      (λ off. whole-alike wires target (chosen-stays target reset set_to well (sym by.1 ∙ off)))

  -- ---- wires

  chosen-at : (k : ℕ) (name : List ℕ) (right : Right) → slice_get m.items k ≡ Some (Wire name right) → Chosen (wires_below k) right
  chosen-at k name right at reset target set_to is =
      let by : ChoosesBy m k reset = chooses-by m k name reset target set_to whole (at ∙ ap (λ (r : Right). Some (Wire name r)) is) in
      let known : List (List ℕ × Bool) = inputs ++ registers in
      let done : List (List ℕ × Bool) = wires_below k in
      let rest : all_wires ≡ fold (wire_step known words) done (drop k m.items) =
      ap (fold (wire_step known words) []) (sym (take-append-drop k m.items)) ∙ fold-append (wire_step known words) [] (take k m.items) (drop k m.items) in
      let there : is_some (value_in done reset) ≡ true =
      has-value done reset ∙ ap (λ names. has_name names reset) (names-settled known words [] (take k m.items)) ∙ by.before in
      let same : value_in all_wires reset ≡ value_in done reset =
      ap (λ wires. value_in wires reset) rest ∙ later-same known words done (drop k m.items) reset (value_in done reset) refl there in (
        wire-stays reset by.declared,
        ap (λ found. unwrap_or found false) (value-append known done reset ∙ ap (or_else (value_in known reset)) (sym same) ∙ sym (value-append known all_wires reset)),
      )

  wire-alike : (k : ℕ) (item : Item) → slice_get m.items k ≡ Some item → wire_step (inputs ++ rested) words (wires_below k) item ≡ wire_step (inputs ++ registers) words (wires_below k) item
  wire-alike k (Wire name right) at =
      ap (λ value. wires_below k ++ (name, value) ∷ [])
      (right-alike (wires_below k) right (λ i item one item_at is. read-well m i k item (Wire name right) one whole item_at is at refl) (chosen-at k name right at))
  wire-alike k other at = refl

  wires-alike : (k : ℕ) → k ≤ length m.items → fold (wire_step (inputs ++ rested) words) [] (take k m.items) ≡ wires_below k
  wires-alike zero within = refl
  wires-alike (suc k) within =
      let none : Item = AsyncReset [] false [] in
      let here : k < length m.items = omega arith in
      let next : suc k ≡ k + 1 = omega arith in
      ap (λ n. fold (wire_step (inputs ++ rested) words) [] (take n m.items)) next
      ∙ fold_more (wire_step (inputs ++ rested) words) [] m.items k none here
      ∙ ap (λ wires. wire_step (inputs ++ rested) words wires (get_or m.items k none)) (wires-alike k (omega arith))
      ∙ wire-alike k (get_or m.items k none) (slice_get-get_or m.items k none here)
      ∙ sym (fold_more (wire_step (inputs ++ registers) words) [] m.items k none here)
      ∙ ap wires_below (sym next)

  -- the wires don't see the step
  pub wires-rested : fold (wire_step (inputs ++ rested) words) [] m.items ≡ all_wires
  wires-rested =
      ap (fold (wire_step (inputs ++ rested) words) []) (sym (take_all (length m.items) m.items (omega arith)))
      ∙ wires-alike (length m.items) (omega arith)
      ∙ ap (fold (wire_step (inputs ++ registers) words) []) (take_all (length m.items) m.items (omega arith))

  -- and the registers that it gives stay
  pub registers-rested : fold (settle_step (record { bits = inputs ++ rested ++ all_wires; words = words })) rested m.items ≡ rested
  registers-rested =
      rests-alike from_all (record { bits = inputs ++ rested ++ all_wires; words = words }) rested m.items
      (λ i item one at is. whole-alike all_wires one.reset (wire-stays one.reset (declared-at m i item one whole at is).wire))
      ∙ rests-twice from_all registers m.items

-- ---- entries

-- an entry of wires that have their values and registers that have settled
made : Parts → List (List ℕ × Bool) → List (List ℕ × ℕ) → List (List ℕ × List ℕ) → List (List ℕ × Bool) → List (List ℕ × Bool) → Entry
made m inputs words memories wires rested = record {
  inputs = inputs;
  registers = rested;
  words = words;
  memories = memories;
  wires = wires;
  outputs = fold (output_step (record { bits = inputs ++ rested ++ wires; words = words })) (flat_map output_start m.ports) m.items;
}

-- in a well-formed module, doing the asynchronous sets and resets twice is doing them once
pub settled-twice : (m : Parts) (inputs registers : List (List ℕ × Bool)) (words : List (List ℕ × ℕ)) (memories : List (List ℕ × List ℕ)) → IsModule m
    → (let entry : Entry = settled m inputs registers words memories in settled m entry.inputs entry.registers entry.words entry.memories ≡ entry)
unfolding settled made
settled-twice m inputs registers words memories whole =
    let wires : List (List ℕ × Bool) = fold (wire_step (inputs ++ registers) words) [] m.items in
    let rest : List (List ℕ × Bool) = fold (settle_step (record { bits = inputs ++ registers ++ wires; words = words })) registers m.items in
    ap (λ all. made m inputs words memories all (fold (settle_step (record { bits = inputs ++ rest ++ all; words = words })) rest m.items)) (wires-rested m inputs registers words whole)
    ∙ ap (made m inputs words memories wires) (registers-rested m inputs registers words whole)

-- if there is no asynchronous set or reset, registers stay as they are
pub settled-plain : (m : Parts) (inputs registers : List (List ℕ × Bool)) (words : List (List ℕ × ℕ)) (memories : List (List ℕ × List ℕ)) → All (λ item. is_at_once item ≡ false) m.items
    → settled m inputs registers words memories ≡ (let wires : List (List ℕ × Bool) = fold (wire_step (inputs ++ registers) words) [] m.items in record {
      inputs = inputs;
      registers = registers;
      words = words;
      memories = memories;
      wires = wires;
      outputs = fold (output_step (record { bits = inputs ++ registers ++ wires; words = words })) (flat_map output_start m.ports) m.items;
    })
unfolding settled made
settled-plain m inputs registers words memories plain =
    let wires : List (List ℕ × Bool) = fold (wire_step (inputs ++ registers) words) [] m.items in
    ap (made m inputs words memories wires) (rests-plain (record { bits = inputs ++ registers ++ wires; words = words }) registers m.items plain)
