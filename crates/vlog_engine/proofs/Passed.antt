-- Cells show what bits and words become in a step.
use Rattle.std.proofs.Common.{◌≡◌, ℕ, zero, suc, ◌+◌, ◌-◌, ◌*◌, ◌<◌, ◌≤◌, Bool, true, false, cond, List, [], ◌∷◌, ◌++◌, ap, arith, drop, flat_map, fold, get_or, inl, inr, length, refl, replicate, set, subst, sym, take, ◌∙◌}
use Rattle.std.specs.Prelude.{map}
use Rattle.std.proofs.lemmas.Bool.{cases_eq, cases_lt}
use Rattle.std.proofs.lemmas.List.{ext_get_or, get_or-drop, get_or-set_other, get_or-set_same, get_or-take, get_or_append_left, length-append, length-drop, length-map, length-replicate, length-set, length-take-le, set-append_left, take-append-drop}
use Rattle.vlog_module.specs.Parts.{Parts}
use Rattle.vlog_semantics.specs.declared.gates.Gate.{Gate}
use Rattle.vlog_semantics.specs.declared.layout.SlotLayout.{SlotLayout}
use Rattle.vlog_semantics.specs.declared.plan.Operand.TheVariants.{Slot}
use Rattle.vlog_semantics.specs.declared.plan.Settle.{Settle}
use Rattle.vlog_semantics.specs.Cells.{cell_at, cells_of, gate_of, parts_below, tail_of, zero_cell}
use Rattle.vlog_semantics.specs.Laying.{IsLaidOut, bit_count, word_count}
use Rattle.vlog_semantics.specs.ModuleSlots.{module_wires}
use Rattle.vlog_semantics.specs.Steps.{flip_slot, settle_slot, settled_slots, wire_slot}
use Rattle.vlog_semantics.proofs.Cells.{AreWords, length-parts}
use Rattle.vlog_engine.specs.declared.circuit.Circuit.{Circuit}
use Rattle.vlog_engine.specs.declared.groups.Group.{Group}
use Rattle.vlog_engine.specs.Circuits.{AreSources, IsCircuit, kept_gate, shown_by, watched}
use Rattle.vlog_engine.specs.Flips.{flip_flops}
use Rattle.vlog_engine.specs.Groups.{IsGroup, flip_at}
use Rattle.vlog_engine.specs.StepKinds.{IsPinnedBelow, Step, pinned, slots_of}
use Rattle.vlog_engine.specs.Marks.{AreRising, IsEven, gate_at}
use Rattle.vlog_engine.specs.Passing.{IsClocked, IsSettled}
use Rattle.vlog_engine.specs.Resolved.{resolved_settle}
use Rattle.vlog_engine.specs.Roots.{first_roots, held_by, root, root_step}
use Rattle.vlog_engine.proofs.StepKinds.{length-pinned, pinned-past}
use Rattle.vlog_engine.proofs.Joining.{AreBelow, AreNumbered, AreRoots, held-targets, numbered-end, roots-known, roots-own}
use Rattle.vlog_engine.proofs.Modules.{module-numbered, module-settles}
use Rattle.vlog_engine.proofs.Operands.{Show, operand-shown, shown-at}
use Rattle.vlog_engine.proofs.Sources.{Agree, agree-pinned, rest-cells, flips-agree, flips-stay, length-flips, tail-end, tail-part}
use Rattle.vlog_engine.proofs.Wired.{kept-at, kept-rise, settled-is, shown-cell, wire-shown}

numbered-parts : (from count total : ℕ) (gates : List Gate) (place : ℕ) → AreNumbered from count total gates → place < length gates
    → AreBelow total (gate_at gates place).ins × ((gate_at gates place).slot < count)
numbered-parts from count total [] place numbered inside = absurd (omega arith)
numbered-parts from count total (gate ∷ gates) zero numbered inside = (numbered.1.0.1, omega (arith, numbered.0.0, numbered.0.1))
numbered-parts from count total (gate ∷ gates) (suc place) numbered inside = numbered-parts (from + 1) count total gates place numbered.1.1 (omega (arith, inside))

length-tail : (words : List ℕ) → length (tail_of words) ≡ 16 * length words + 2
length-tail words =
    length-append (parts_below words (16 * length words)) (false ∷ true ∷ []) ∙ ap (λ n. n + 2) (length-parts words (16 * length words))

-- a cell that is no other cell's root gets a bit
shown-set : (roots : List ℕ) (cells : List Bool) (cell : ℕ) (bit : Bool) → cell < length cells → root roots cell ≡ cell → ((other : ℕ) → other < length roots → root roots other ≡ cell → other ≡ cell)
    → shown_by roots (set cells cell bit) ≡ set (shown_by roots cells) cell bit
shown-set roots cells cell bit room own alone =
    ext_get_or false (shown_by roots (set cells cell bit)) (set (shown_by roots cells) cell bit)
    (length-map roots (cell_at (set cells cell bit)) ∙ sym (length-set (shown_by roots cells) cell bit ∙ length-map roots (cell_at cells)))
    (λ other inside.
    let within : other < length roots = omega (arith, inside, length-map roots (cell_at (set cells cell bit))) in
    shown-cell roots (set cells cell bit) other within
    ∙ (elim (cases_eq other cell) [
      | inl same ↦
          ap (λ k. cell_at (set cells cell bit) (root roots k)) same ∙ ap (cell_at (set cells cell bit)) own ∙ get_or-set_same cells cell bit false room
          ∙ sym (ap (cell_at (set (shown_by roots cells) cell bit)) same
          ∙ get_or-set_same (shown_by roots cells) cell bit false (omega (arith, within, same, length-map roots (cell_at cells))))
      | inr apart ↦
          get_or-set_other cells cell (root roots other) bit false (λ is. apart (alone other within is))
          ∙ sym (get_or-set_other (shown_by roots cells) cell other bit false apart ∙ shown-cell roots cells other within)
    ]))

module _ (m : Parts) (layout : SlotLayout) (circuit : Circuit) (laid : IsLaidOut m layout) (made : IsCircuit layout.first_wire (bit_count m) (word_count m) layout.plan circuit) where
  abbrev first : ℕ
  first = layout.first_wire

  abbrev count : ℕ
  count = bit_count m

  abbrev total : ℕ
  total = bit_count m + 16 * word_count m + 2

  abbrev raw : List Gate
  raw = map (gate_of (bit_count m) (word_count m)) (module_wires m)

  abbrev held : List Bool
  held = held_by (replicate total false) layout.plan.settles.items

  abbrev roots : List ℕ
  roots = circuit.roots.items

  pub numbered : AreNumbered first count total raw
  numbered = module-numbered m first laid.first_wire

  pub first-within : first ≤ count
  first-within = numbered-end first count total raw numbered

  roots-are : roots ≡ fold (root_step (zero_cell count (word_count m)) held) (first_roots total) raw
  roots-are = made.roots ∙ ap (λ gates. fold (root_step (zero_cell count (word_count m)) held) (first_roots total) gates) laid.gates

  known : AreRoots (zero_cell count (word_count m)) held first count total raw roots
  known =
      subst (AreRoots (zero_cell count (word_count m)) held first count total raw) (sym roots-are)
      (roots-known (zero_cell count (word_count m)) held first count total raw numbered (omega arith))

  pub own : (cell : ℕ) → (cell < count → cell < first) → cell < total → root roots cell ≡ cell
  own cell source inside =
      ap (λ list. root list cell) roots-are ∙ roots-own (zero_cell count (word_count m)) held first count total raw cell numbered source inside

  pub size : length roots ≡ total
  size = known.size

  pub gates-rise : AreRising first count circuit.gates.items
  gates-rise =
      subst (AreRising first count) (sym (made.gates ∙ ap (flat_map (kept_gate roots)) laid.gates))
      (kept-rise roots first count total raw known.low (λ cell past inside. own cell (λ name. absurd (omega (arith, name, past))) inside) numbered)

  -- ---- wires

  module _ (bits : List Bool) (words : List ℕ) (before after : List Bool) (marks : List ℕ) (bits_are : length bits ≡ count) (words_are : length words ≡ word_count m) (small : AreWords words)
      (room : count ≤ length before) (sources : AreSources first bits words before) (settled : IsSettled true first count circuit.gates.items (watched circuit) circuit.settles.items before after marks) where
    abbrev wired : List Bool
    wired = settled.wired

    abbrev all : List Bool
    all = shown_by roots wired

    -- the bits that the wired cells show
    abbrev values : List Bool
    values = take count all

    all-size : length all ≡ total
    all-size = length-map roots (cell_at wired) ∙ size

    rest-is : (place : ℕ) → place < 16 * length words + 2 → cell_at all (count + place) ≡ get_or (tail_of words) place false
    rest-is place inside =
        let source : count + place < count → count + place < first = λ less. absurd (omega (arith, less)) in
        let within : count + place < total = omega (arith, inside, words_are) in
        shown-cell roots wired (count + place) (omega (arith, within, size))
        ∙ ap (cell_at wired) (own (count + place) source within)
        ∙ settled.same (count + place) source
        ∙ ap (λ n. cell_at before (n + place)) (sym bits_are)
        ∙ sources.rest place inside

    tail-is : drop count all ≡ tail_of words
    tail-is =
        let long : length (drop count all) ≡ 16 * length words + 2 = omega (arith, length-drop count all, all-size, words_are) in
        ext_get_or false (drop count all) (tail_of words) (long ∙ sym (length-tail words))
        (λ place inside. get_or-drop count all place false ∙ rest-is place (omega (arith, inside, long)))

    whole : all ≡ cells_of values words
    whole = sym (take-append-drop count all) ∙ ap (λ list. values ++ list) tail-is

    values-size : length values ≡ count
    values-size = length-take-le count all (omega (arith, all-size))

    zero-is : cell_at all (zero_cell count (word_count m)) ≡ false
    zero-is =
        ap (λ n. cell_at all (count + 16 * n)) (sym words_are)
        ∙ rest-is (16 * length words) (omega arith)
        ∙ tail-end words (16 * length words) (omega arith)
        ∙ (let none : 16 * length words - 16 * length words ≡ 0 = omega arith in ap (λ n. get_or (false ∷ true ∷ []) n false) none)

    even-all : (place : ℕ) → place < length raw → IsEven all (gate_at raw place)
    even-all place inside =
        let parts = numbered-parts first count total raw place numbered inside in
        wire-shown (zero_cell count (word_count m)) roots wired (gate_at raw place) (flat_map (kept_gate roots) raw) (known.follows place inside)
        (subst (λ n. AreBelow n (gate_at raw place).ins) (sym size) parts.0) (omega (arith, parts.1, size)) zero-is
        (λ is. kept-at roots raw place inside is)
        (subst (λ gates. (p : ℕ) → p < length gates → IsEven wired (gate_at gates p)) (made.gates ∙ ap (flat_map (kept_gate roots)) laid.gates) (settled.even refl))

    raw-is : raw ≡ map (gate_of count (length words)) (module_wires m)
    raw-is = ap (λ w. map (gate_of count w) (module_wires m)) (sym words_are)

    wires-are : fold (wire_slot words) bits (module_wires m) ≡ values
    wires-are =
        settled-is first count total words bits values (module_wires m) (subst (AreNumbered first count total) raw-is numbered) bits_are values-size small
        (λ cell inside.
        sym (sources.below cell inside) ∙ sym (settled.same cell (λ name. inside))
        ∙ sym (get_or-take count all cell false (omega (arith, inside, first-within))
        ∙ shown-cell roots wired cell (omega (arith, inside, first-within, size))
        ∙ ap (cell_at wired) (own cell (λ name. inside) (omega (arith, inside, first-within)))))
        (λ place inside.
        subst (λ gates. IsEven (cells_of values words) (gate_at gates place)) raw-is
        (subst (λ list. IsEven list (gate_at raw place)) whole (even-all place (omega (arith, inside, length-map (module_wires m) (gate_of count (word_count m)))))))

    wired-shown : Show count (word_count m) roots values words wired
    wired-shown = record { bits_count = values-size; words_count = words_are; size = size; small = small; are = whole }

    -- ---- registers with an asynchronous set or reset

    set-shown : (next : List Bool) (cells : List Bool) (settle : Settle) → settle.target < first → get_or held settle.target false ≡ true → length cells ≡ length wired
        → Show count (word_count m) roots next words cells
        → Show count (word_count m) roots (settle_slot values next settle) words (settle_slot wired cells (resolved_settle count (word_count m) roots settle))
    set-shown next cells settle early is_held same_size show =
        let target : ℕ = settle.target in
        let wire : get_or wired (resolved_settle count (word_count m) roots settle).wire false ≡ get_or values settle.wire false =
        operand-shown count (word_count m) roots values words wired wired-shown (Slot settle.wire) in
        let itself : root roots target ≡ target = own target (λ name. early) (omega (arith, early, first-within)) in
        let alone : (other : ℕ) → other < length roots → root roots other ≡ target → other ≡ target =
        λ other inside is. sym (known.apart other (omega (arith, inside, size)) (ap (λ k. get_or held k false) is ∙ is_held)) ∙ is in
        let now : Show count (word_count m) roots (set next target settle.set) words (set cells target settle.set) = record {
          bits_count = length-set next target settle.set ∙ show.bits_count;
          words_count = show.words_count;
          size = show.size;
          small = show.small;
          are = shown-set roots cells target settle.set (omega (arith, early, first-within, same_size, settled.size, room)) itself alone
              ∙ ap (λ list. set list target settle.set) show.are
              ∙ set-append_left next (tail_of words) target settle.set (omega (arith, early, first-within, show.bits_count));
        } in
        subst (λ b. Show count (word_count m) roots (settle_slot values next settle) words (cond b (set cells target settle.set) cells)) (sym wire)
        (elim (get_or values settle.wire false) as (λ b. Show count (word_count m) roots (cond b (set next target settle.set) next) words (cond b (set cells target settle.set) cells)) [
          | true ↦ now
          | false ↦ show
        ])

    size-set : (cells : List Bool) (settle : Settle) → length (settle_slot wired cells settle) ≡ length cells
    size-set cells settle =
        elim (get_or wired settle.wire false) as (λ b. length (cond b (set cells settle.target settle.set) cells) ≡ length cells) [
          | true ↦ length-set cells settle.target settle.set
          | false ↦ refl
        ]

    sets-shown : (next cells : List Bool) (settles : List Settle) → ((place : ℕ) (none : Settle) → place < length settles → ((get_or settles place none).target < first) × (get_or held (get_or settles place none).target false ≡ true))
        → length cells ≡ length wired → Show count (word_count m) roots next words cells
        → Show count (word_count m) roots (fold (settle_slot values) next settles) words (fold (settle_slot wired) cells (map (resolved_settle count (word_count m) roots) settles))
    sets-shown next cells [] fine same_size show = show
    sets-shown next cells (settle ∷ settles) fine same_size show =
        let here = fine 0 settle (omega arith) in
        let made_one : Settle = resolved_settle count (word_count m) roots settle in
        sets-shown (settle_slot values next settle) (settle_slot wired cells made_one) settles
        (λ place none inside. fine (suc place) none (omega (arith, inside)))
        (size-set cells made_one ∙ same_size)
        (set-shown next cells settle here.0 here.1 same_size show)

    -- what the cells show once all is settled
    pub settled-shown : Show count (word_count m) roots (settled_slots layout.plan (module_wires m) words bits) words after
    settled-shown =
        let settles : List Settle = layout.plan.settles.items in
        let last : Show count (word_count m) roots (fold (settle_slot values) values settles) words (fold (settle_slot wired) wired (map (resolved_settle count (word_count m) roots) settles)) =
        sets-shown values wired settles
        (λ place none inside.
        let early : (get_or settles place none).target < first =
        subst (λ list. place < length list → (get_or list place none).target < first) (sym laid.plan.settles) (λ within. module-settles m first place none laid.first_wire within) inside in
        (early, held-targets settles (replicate total false) place none inside (omega (arith, early, first-within, length-replicate total false))))
        refl wired-shown in
        subst (λ list. Show count (word_count m) roots (fold (settle_slot list) list settles) words after) (sym wires-are)
        (subst (λ cells. Show count (word_count m) roots (fold (settle_slot values) values settles) words cells)
        (sym (settled.are ∙ ap (fold (settle_slot wired) wired) made.settles)) last)

  -- ---- clocked items

  pub clocked-sources : (step : Step) (group : Group) (bits : List Bool) (words next_words : List ℕ) (memories next_memories : List (List ℕ)) (before after : List Bool) → IsPinnedBelow first step
      → IsGroup step first count (word_count m) roots layout.plan group → Show count (word_count m) roots bits words before → count ≤ length before → length next_words ≡ word_count m
      → IsClocked true count step group words next_words memories next_memories before after
      → AreSources first (pinned step (fold (flip_slot (slots_of step) bits words) bits layout.plan.flips.items)) next_words after
  clocked-sources step group bits words next_words memories next_memories before after below grouped show room same_words clocked =
      let stored : List Bool = clocked.stored in
      let flips = layout.plan.flips.items in
      let flipped : List Bool = fold (flip_slot (slots_of step) bits words) bits flips in
      let at_root : (cell : ℕ) → (cell < count → cell < first) → cell < total → cell_at before cell ≡ cell_at (cells_of bits words) cell =
      λ cell source inside. sym (ap (cell_at before) (own cell source inside)) ∙ shown-at count (word_count m) roots bits words before cell show inside in
      let runs : fold (flip_slot (slots_of step) before []) stored (flip_flops group.flips.items) ≡ fold (flip_slot (slots_of step) before []) stored (flat_map (flip_at step first count (word_count m) roots) flips) =
      ap (fold (flip_slot (slots_of step) before []) stored) grouped.flips in
      let begun : Agree first stored bits = record {
        some_room = omega (arith, first-within, room, clocked.known.size);
        other_room = omega (arith, first-within, show.bits_count);
        same = λ cell inside.
            clocked.known.same cell (λ less. omega (arith, inside, first-within)) ∙ at_root cell (λ name. inside) (omega (arith, inside, first-within))
            ∙ get_or_append_left bits (tail_of words) false cell (omega (arith, inside, first-within, show.bits_count));
      } in
      let agreed = agree-pinned step first _ flipped (flips-agree step first count (word_count m) roots bits words before show stored bits flips begun) in
      let size_now : length (pinned step flipped) ≡ count =
      length-pinned step flipped ∙ length-flips step first count (word_count m) roots bits words before show bits flips ∙ show.bits_count in
      record {
        below = λ cell inside. ap (λ list. cell_at list cell) (clocked.are ∙ ap (pinned step) runs) ∙ agreed.same cell inside;
        rest = λ place inside.
            let cell : ℕ = count + place in
            let source : cell < count → cell < first = λ less. absurd (omega (arith, less)) in
            let here : cell_at after cell ≡ cell_at stored cell =
            ap (λ list. cell_at list cell) (clocked.are ∙ ap (pinned step) runs)
            ∙ pinned-past step _ first cell below (omega (arith, first-within))
            ∙ flips-stay step first count (word_count m) roots bits words before show stored flips cell (omega (arith, first-within)) in
            let was : (p : ℕ) → p < 16 * word_count m + 2 → cell_at before (count + p) ≡ get_or (tail_of words) p false =
            λ p within. at_root (count + p) (λ less. absurd (omega (arith, less))) (omega (arith, within))
            ∙ ap (λ n. cell_at (cells_of bits words) (n + p)) (sym show.bits_count) ∙ rest-cells bits words p in
            ap (λ n. get_or after (n + place) false) size_now ∙ here
            ∙ (elim (cases_lt place (16 * length next_words)) [
              | inl part ↦
                  clocked.known.parts (λ p within. was p (omega (arith, within, show.words_count)) ∙ tail-part words p within) place part ∙ sym (tail-part next_words place part)
              | inr past ↦
                  clocked.known.same cell (λ less. absurd (omega (arith, less, past, same_words, show.words_count)))
                  ∙ was place (omega (arith, inside, same_words))
                  ∙ tail-end words place (omega (arith, past, same_words, show.words_count))
                  ∙ ap (λ n. get_or (false ∷ true ∷ []) (place - 16 * n) false) (show.words_count ∙ sym same_words)
                  ∙ sym (tail-end next_words place past)
            ]);
      }
