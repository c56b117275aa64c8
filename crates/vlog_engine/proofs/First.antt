-- What a board has at the start.
use Rattle.std.proofs.Common.{◌≡◌, ℕ, ◌+◌, ◌*◌, ◌<◌, ◌≤◌, Bool, List, ap, ap₂, arith, get_or, length, length-append, refl, subst, sym, ◌∙◌}
use Rattle.vlog_module.specs.Parts.{Parts}
use Rattle.vlog_semantics.specs.declared.layout.Start.{Start}
use Rattle.vlog_semantics.specs.Cells.{cells_of, tail_of}
use Rattle.vlog_semantics.specs.Laying.{Begins, ShowsEntry, bit_count, word_count}
use Rattle.vlog_semantics.specs.Named.{values_of}
use Rattle.vlog_semantics.specs.Run.{readable, start}
use Rattle.vlog_semantics.proofs.Showing.{start-bits, start-words}
use Rattle.vlog_engine.specs.declared.start.Started.{Started}
use Rattle.vlog_engine.specs.Circuits.{IsCircuit, shown_by, watched}
use Rattle.vlog_engine.specs.Lanes.{lane_bits, list_of}
use Rattle.vlog_engine.specs.Marks.{IsTracked}
use Rattle.vlog_engine.specs.Starting.{AreStarted}
use Rattle.vlog_engine.proofs.Following.{started-shown}
use Rattle.vlog_engine.proofs.Passed.{gates-rise}

-- what a lane has at the start
pub record IsFirst {V : Type 0} (at : V → ℕ → Bool) (m : Parts) (made : Started V) (lane : ℕ) : Type 0 where
  pub bit_count : made.wires.circuit.bits ≡ bit_count m
  pub cells : shown_by made.wires.circuit.roots.items (lane_bits at lane made.wires.cells.items) ≡ cells_of (values_of (readable (start m)).bits) (list_of lane made.words.items)
  pub shown : ShowsEntry m (start m) (values_of (readable (start m)).bits) (list_of lane made.words.items) (list_of lane made.memories.items) (lane_bits at lane made.outputs.items)
  pub tracked : IsTracked (watched made.wires.circuit) (lane_bits at lane made.wires.cells.items) made.wires.marks.items

pub first-lane : {V : Type 0} (lanes : ℕ) (at : V → ℕ → Bool) (m : Parts) (first : Start) (begins : Begins m first) (bits : List Bool) (words : List ℕ) (memories : List (List ℕ)) (made : Started V)
    → AreStarted lanes at first.layout bits words memories made → bits ≡ first.bits.items → words ≡ first.words.items → memories ≡ first.memories.items → (lane : ℕ) → lane < lanes → IsFirst at m made lane
first-lane lanes at m first begins bits words memories made known bits_is words_is memories_is lane within =
    let circuit = made.wires.circuit in
    let cells : List Bool = lane_bits at lane made.wires.cells.items in
    let bits_are : length bits ≡ bit_count m = ap (λ (list : List Bool). length list) bits_is ∙ start-bits m first.bits.items begins.bits in
    let words_are : length words ≡ word_count m = ap (λ (list : List ℕ). length list) words_is ∙ start-words m first.words.items begins.words in
    let circuit_is : IsCircuit first.layout.first_wire (bit_count m) (word_count m) first.layout.plan circuit =
    subst (λ n. IsCircuit first.layout.first_wire n (word_count m) first.layout.plan circuit) bits_are
    (subst (λ n. IsCircuit first.layout.first_wire (length bits) n first.layout.plan circuit) words_are known.wires.circuit) in
    let settled = known.wires.settled lane (bit_count m) within (gates-rise m first.layout circuit begins.laid_out circuit_is) (omega (arith, bits_are)) in
    let small : (place : ℕ) → get_or first.words.items place 0 < 65536 =
    λ place. subst (λ n. n < 65536) (ap (λ (list : List ℕ). get_or list place 0) words_is) (known.sixteen_bits place) in
    let room : bit_count m ≤ length (cells_of bits words) = omega (arith, bits_are, length-append bits (tail_of words)) in
    let after = started-shown m first circuit begins circuit_is (lane_bits at lane made.outputs.items) (cells_of bits words) cells made.wires.marks.items small
    (ap₂ cells_of bits_is words_is) room settled (known.outputs lane within) in
    let words_at : list_of lane made.words.items ≡ first.words.items = known.words_are lane within ∙ words_is in
    let memories_at : list_of lane made.memories.items ≡ first.memories.items = known.memories_are lane within ∙ memories_is in
    record {
      bit_count = circuit_is.bits_are;
      cells = subst (λ list. shown_by circuit.roots.items cells ≡ cells_of (values_of (readable (start m)).bits) list) (sym words_at) after.cells_are;
      shown = record {
        named = after.shown.named;
        bits_are = refl;
        words_are = words_at ∙ after.shown.words_are;
        memories_are = memories_at ∙ after.shown.memories_are;
        outputs_are = after.shown.outputs_are;
      };
      tracked = settled.tracked;
    }

-- ---- room

pub cells-room : (bits words cells cells_len circuit_bits words_len words_size : ℕ) → cells ≡ bits + 16 * words + 2 → circuit_bits ≡ bits → cells_len ≡ cells → words_len ≡ words_size → words ≡ words_size
    → cells_len ≡ circuit_bits + 16 * words_len + 2
cells-room bits words cells cells_len circuit_bits words_len words_size a b c d e = omega arith

pub few-room : (items_len items changes changes_len : ℕ) → items_len ≡ items → items ≤ changes → changes_len ≡ changes → items_len ≤ changes_len
few-room items_len items changes changes_len a b c = omega arith
