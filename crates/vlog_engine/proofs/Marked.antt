-- Marks on wires, and what writes and sweeps leave.
use Rattle.std.proofs.Common.{◌≡◌, ◌≢◌, ℕ, zero, suc, ◌+◌, ◌*◌, ◌/◌, ◌%◌, ◌<◌, ◌≤◌, Bool, true, false, eqb, List, [], ◌∷◌, Vec, Global, ap, arith, get_or, inl, inr, length, refl, replicate, set, subst, sym, take, ◌∙◌}
use Rattle.std.specs.Prelude.{◌||◌}
use Rattle.std.proofs.lemmas.Bool.{cases_Bool, cases_eq, cases_lt, eq-eqb, ne_eqb}
use Rattle.std.proofs.lemmas.List.{get_or-replicate, get_or-set_same}
use Rattle.vlog_semantics.specs.declared.gates.Gate.{Gate}
use Rattle.vlog_semantics.specs.Cells.{gate_value}
use Rattle.vlog_semantics.specs.Values.{bit_of}
use Rattle.vlog_engine.specs.Marks.{AreFirst, AreRising, IsEven, IsRead, IsSwept, IsTracked, gate_at, has, is_marked, lists_of, touches}
use Rattle.vlog_engine.proofs.Bits.{no-both}
use Rattle.vlog_engine.proofs.Order.{later-apart, reads-none, same-value, slot-within, stays-even}

-- ---- marks

-- if each word is full, each wire is marked
pub marked-full : (count word : ℕ) → ((k : ℕ) → k < 64 → bit_of word k ≡ true) → (place : ℕ) → place < 64 * count → is_marked (replicate count word) place ≡ true
marked-full count word full place within = ap (λ w. bit_of w (place % 64)) (get_or-replicate count (place / 64) word 0 (omega (arith, within))) ∙ full (place % 64) (omega arith)

-- ---- lists of places

has-next : (places : List ℕ) (i p : ℕ) → i < length places → has (take (suc i) places) p ≡ (has (take i places) p || eqb (get_or places i 0) p)
has-next [] i p within = absurd (omega (arith, within))
has-next (place ∷ places) zero p within = elim (eqb place p) as (λ b. (b || false) ≡ b) [ true ↦ refl | false ↦ refl ]
has-next (place ∷ places) (suc i) p within =
    ap (λ b. eqb place p || b) (has-next places i p (omega (arith, within)))
    ∙ (elim (eqb place p) as (λ b. (b || (has (take i places) p || eqb (get_or places i 0) p)) ≡ ((b || has (take i places) p) || eqb (get_or places i 0) p)) [ true ↦ refl | false ↦ refl ])

-- one more place
pub has-more : (places : List ℕ) (i p : ℕ) → i < length places → has (take (i + 1) places) p ≡ (has (take i places) p || eqb (get_or places i 0) p)
has-more places i p within =
    let next : i + 1 ≡ suc i = omega arith in
    ap (λ n. has (take n places) p) next ∙ has-next places i p within

-- its mark is set
pub marks-more : (old : Bool) (places : List ℕ) (i p : ℕ) (marks marks_now : List ℕ) → i < length places → is_marked marks p ≡ (has (take i places) p || old)
    → (get_or places i 0 ≡ p → is_marked marks_now p ≡ true) → (p ≢ get_or places i 0 → is_marked marks_now p ≡ is_marked marks p)
    → is_marked marks_now p ≡ (has (take (i + 1) places) p || old)
marks-more old places i p marks marks_now within known own others =
    elim (cases_eq p (get_or places i 0)) [
      | inl same ↦
          own (sym same)
          ∙ sym (ap (λ b. b || old) (has-more places i p within ∙ ap (λ b. has (take i places) p || b) (eq-eqb (get_or places i 0) p (sym same)) ∙ or-on (has (take i places) p)))
      | inr apart ↦
          others apart ∙ known
          ∙ sym (ap (λ b. b || old) (has-more places i p within ∙ ap (λ b. has (take i places) p || b) (ne_eqb (get_or places i 0) p (λ same. apart (sym same))) ∙ or-off (has (take i places) p)))
    ]
  where
    or-on : (b : Bool) → (b || true) ≡ true
    or-on true = refl
    or-on false = refl

    or-off : (b : Bool) → (b || false) ≡ b
    or-off true = refl
    or-off false = refl

-- ---- a write

-- a cell that gets a bit, and its fan-out marked
pub write-tracked : (gates : List Gate) (readers : List (Vec ℕ Global)) (cell : ℕ) (bit : Bool) (cells : List Bool) (marks marks_now places : List ℕ)
    → places ≡ get_or (lists_of readers) cell [] → length marks_now ≡ length marks
    → ((place : ℕ) → place < 64 * length marks → is_marked marks_now place ≡ (has places place || is_marked marks place))
    → IsRead gates readers → IsTracked gates cells marks → IsTracked gates (set cells cell bit) marks_now
write-tracked gates readers cell bit cells marks marks_now places places_are size known read tracked = record {
  room = omega (arith, tracked.room, size);
  even = λ place within off.
      let now = known place (omega (arith, within, tracked.room)) in
      elim (cases_Bool (touches (gate_at gates place) cell)) [
        | inl near ↦
            absurd (no-both (now ∙ ap (λ b. b || is_marked marks place) (ap (λ list. has list place) places_are ∙ read place cell within near)) off)
        | inr far ↦ stays-even cells cell bit (gate_at gates place) far (tracked.even place within (off-both (has places place) (is_marked marks place) (sym now ∙ off)))
      ];
}
  where
    off-both : (a b : Bool) → (a || b) ≡ false → b ≡ false
    off-both false b off = off
    off-both true b off = absurd cc

-- ---- a sweep

-- wires that aren't marked
pub gates-passed : (active : Bool) (gates watched : List Gate) (from end : ℕ) (cells : List Bool) (marks : List ℕ) → AreFirst gates watched
    → ((place : ℕ) → from ≤ place → place < end → is_marked marks place ≡ false)
    → IsSwept active gates watched from cells marks → IsSwept active gates watched end cells marks
gates-passed active gates watched from end cells marks among off swept = record {
  tracked = swept.tracked;
  done = λ on p below within.
      elim (cases_lt p from) [
        | inl before ↦ swept.done on p before within
        | inr after ↦ subst (IsEven cells) (among.same p within) (swept.tracked.even p (omega (arith, within, among.fit)) (off p after below))
      ];
}

-- before the first wire
pub swept-none : (active : Bool) (gates watched : List Gate) (cells : List Bool) (marks : List ℕ) → IsTracked watched cells marks → IsSwept active gates watched 0 cells marks
swept-none active gates watched cells marks tracked = record { tracked = tracked; done = λ on place below inside. absurd (omega (arith, below)) }

-- a wire that has got its value
own-even : (first count : ℕ) (gates : List Gate) (place : ℕ) (cells : List Bool) → AreRising first count gates → count ≤ length cells → place < length gates
    → IsEven (set cells (gate_at gates place).slot (gate_value cells (gate_at gates place))) (gate_at gates place)
own-even first count gates place cells rising room within =
    let gate : Gate = gate_at gates place in
    let at = slot-within first count gates place rising within in
    get_or-set_same cells gate.slot (gate_value cells gate) false (omega (arith, at.1, room))
    ∙ sym (same-value cells gate.slot (gate_value cells gate) gate (reads-none first count gates place place rising (omega arith) within))

own-now : (first count : ℕ) (gates : List Gate) (place : ℕ) (bit : Bool) (cells : List Bool) → AreRising first count gates → count ≤ length cells → place < length gates
    → bit ≡ gate_value cells (gate_at gates place) → IsEven (set cells (gate_at gates place).slot bit) (gate_at gates place)
own-now first count gates place bit cells rising room within is =
    subst (λ b. IsEven (set cells (gate_at gates place).slot b) (gate_at gates place)) (sym is) (own-even first count gates place cells rising room within)

-- the first ones have their values, and this one gets its own
done-more : (first count : ℕ) (gates : List Gate) (place : ℕ) (bit : Bool) (cells : List Bool) → AreRising first count gates → count ≤ length cells → place < length gates
    → bit ≡ gate_value cells (gate_at gates place) → ((p : ℕ) → p < place → p < length gates → IsEven cells (gate_at gates p))
    → (p : ℕ) → p < place + 1 → p < length gates → IsEven (set cells (gate_at gates place).slot bit) (gate_at gates p)
done-more first count gates place bit cells rising room within is done p below inside =
    elim (cases_lt p place) [
      | inl before ↦ stays-even cells (gate_at gates place).slot bit (gate_at gates p) (later-apart first count gates p place rising before within) (done p before inside)
      | inr after ↦
          let same : p ≡ place = omega arith in
          subst (λ q. IsEven (set cells (gate_at gates place).slot bit) (gate_at gates q)) (sym same) (own-now first count gates place bit cells rising room within is)
    ]

-- it stays marked if it may be out of date
pub gate-swept : (active left bit : Bool) (first count : ℕ) (gates watched : List Gate) (place : ℕ) (cells : List Bool) (marks marks_now marks_last : List ℕ) → AreRising first count gates → AreFirst gates watched
    → count ≤ length cells → place < length gates
    → (active ≡ true → bit ≡ gate_value cells (gate_at gates place)) → (left ≡ false → bit ≡ gate_value cells (gate_at gates place))
    → length marks_last ≡ length marks_now → (place < 64 * length marks_now → is_marked marks_last place ≡ left) → ((other : ℕ) → other ≢ place → is_marked marks_last other ≡ is_marked marks_now other)
    → IsSwept active gates watched place cells marks
    → IsTracked watched (set cells (gate_at gates place).slot bit) marks_now
    → IsSwept active gates watched (place + 1) (set cells (gate_at gates place).slot bit) marks_last
gate-swept active left bit first count gates watched place cells marks marks_now marks_last rising among room within on off size own_mark other_marks swept tracked = record {
  tracked = record {
    room = omega (arith, tracked.room, size);
    even = λ p inside dark.
        elim (cases_eq p place) [
          | inl same ↦
              let cleared : left ≡ false = sym (own_mark (omega (arith, within, tracked.room, among.fit))) ∙ sym (ap (is_marked marks_last) same) ∙ dark in
              subst (IsEven (set cells (gate_at gates place).slot bit)) (sym (ap (gate_at watched) same ∙ among.same place within))
              (own-now first count gates place bit cells rising room within (off cleared))
          | inr apart ↦ tracked.even p inside (sym (other_marks p apart) ∙ dark)
        ];
  };
  done = λ act. done-more first count gates place bit cells rising room within (on act) (swept.done act);
}

-- if each wire is marked
pub tracked-first : (gates : List Gate) (cells : List Bool) (marks : List ℕ) → length gates ≤ 64 * length marks → ((place : ℕ) → place < 64 * length marks → is_marked marks place ≡ true) → IsTracked gates cells marks
tracked-first gates cells marks room all_marked = record {
  room = room;
  even = λ place within off. absurd (no-both (all_marked place (omega (arith, within, room))) off);
}
