-- Flip-flops that come to be watched.
use Rattle.std.proofs.Common.{◌≡◌, ℕ, zero, suc, ◌+◌, ◌-◌, ◌<◌, Bool, true, false, Some, eqb, List, [], ◌∷◌, ◌++◌, Vec, Global, append-nil, ap, ap₂, append_assoc, arith, drop, flat_map, get_or, inl, inr, length, length-append, map, refl, set, subst, sym, take, ◌∙◌}
use Rattle.std.specs.Prelude.{◌||◌, ◌↔◌, slice_get}
use Rattle.std.specs.List.{All}
use Rattle.std.proofs.lemmas.Bool.{cases_Bool, cases_eq, cases_lt, eq-eqb, eqb-true}
use Rattle.std.proofs.lemmas.List.{get_or-append-add, get_or-map, get_or-set_other, get_or-set_same, get_or_append_left, length-map, take_more}
use Rattle.std.proofs.lemmas.List.Elements.{All-head, All-tail}
use Rattle.std.proofs.lemmas.Grind.{flat_map-append}
use Rattle.vlog_semantics.specs.declared.gates.Gate.{Gate}
use Rattle.vlog_semantics.specs.declared.plan.Plan.{Plan}
use Rattle.vlog_engine.specs.declared.flips.Flip.{Flip}
use Rattle.vlog_engine.specs.declared.groups.Group.{Group}
use Rattle.vlog_engine.specs.Circuits.{IsWatched, flip_gates}
use Rattle.vlog_engine.specs.Flips.{AreApart, AreAt, IsOver, flip_cells, flip_flops, flip_gate, flip_in, no_flip}
use Rattle.vlog_engine.specs.Groups.{IsGroup}
use Rattle.vlog_engine.specs.Marks.{AreWithin, IsRead, gate_at, has, lists_of, no_gate, touches, with_reader}
use Rattle.vlog_engine.specs.StepKinds.{Step}
use Rattle.vlog_engine.specs.Watching.{AddsReader, AddsWires, HasSameItems}
use Rattle.vlog_engine.proofs.Bits.{no-both}
use Rattle.vlog_engine.proofs.Listed.{length-reader, reader-here, reader-kept}

-- ---- registers that rise

rising-at : (at : ℕ → ℕ) (count : ℕ) → ((k : ℕ) → k + 1 < count → at k < at (k + 1)) → (place other : ℕ) → place < other → other < count → at place < at other
rising-at at count steps place zero below inside = absurd (omega (arith, below))
rising-at at count steps place (suc other) below inside =
    let next : other + 1 ≡ suc other = omega arith in
    let step : at other < at (suc other) = subst (λ n. at other < at n) next (steps other (omega (arith, inside))) in
    elim (cases_lt place other) [
      | inl before ↦ omega (arith, rising-at at count steps place other before (omega (arith, inside)), step)
      | inr here ↦
          let same : place ≡ other = omega (arith, here, below) in
          subst (λ p. at p < at (suc other)) (sym same) step
    ]

pub all-apart : (flips : List Flip) → ((k : ℕ) → k + 1 < length flips → (flip_in flips k).target < (flip_in flips (k + 1)).target) → AreApart flips
all-apart flips steps = rising-at (λ k. (flip_in flips k).target) (length flips) steps

-- ---- the lists of cells get a wire

pub has-got : (numbers : List ℕ) (i number : ℕ) → slice_get numbers i ≡ Some number → has numbers number ≡ true
has-got [] i number is = absurd cc
has-got (first ∷ numbers) zero number is =
    let same : first ≡ number = cc in
    ap (λ b. b || has numbers number) (eq-eqb first number same)
has-got (first ∷ numbers) (suc i) number is = or-right (eqb first number) (has numbers number) (has-got numbers i number is)
  where
    or-right : (a b : Bool) → b ≡ true → (a || b) ≡ true
    or-right true b on = refl
    or-right false b on = on

-- what is in two lists joined is in one of them
has-split : (numbers more : List ℕ) (number : ℕ) → has numbers number ≡ false → has (numbers ++ more) number ≡ true → has more number ≡ true
has-split [] more number off on = on
has-split (first ∷ numbers) more number off on =
    elim (cases_Bool (eqb first number)) [
      | inl same ↦ absurd (no-both (ap (λ b. b || has numbers number) same) off)
      | inr apart ↦
          has-split numbers more number (ap (λ b. b || has numbers number) (sym apart) ∙ off) (ap (λ b. b || has (numbers ++ more) number) (sym apart) ∙ on)
    ]

same-size : (old new : List (Vec ℕ Global)) → length (lists_of new) ≡ length (lists_of old) → length new ≡ length old
same-size old new is = sym (length-map new (λ (list : Vec ℕ Global). list.items)) ∙ is ∙ length-map old (λ (list : Vec ℕ Global). list.items)

pub reader-adds : (place cell : ℕ) (old new : List (Vec ℕ Global)) → lists_of new ≡ with_reader place (lists_of old) cell → AddsReader place (cell ∷ []) old new
reader-adds place cell old new is = record {
  size = same-size old new (ap length is ∙ length-reader place (lists_of old) cell);
  kept = λ k number on. ap (λ lists. has (get_or lists k []) number) is ∙ reader-kept place (lists_of old) cell k number on;
  here = λ k inside on.
      let same : cell ≡ k = elim (cases_Bool (eqb cell k)) [
        | inl own ↦ eqb-true cell k own
        | inr other ↦ absurd (no-both on (ap (λ b. b || false) other))
      ] in
      subst (λ n. has (get_or (lists_of new) n []) place ≡ true) same
      (ap (λ lists. has (get_or lists cell []) place) is
      ∙ reader-here place (lists_of old) cell (omega (arith, inside, same, length-map old (λ (list : Vec ℕ Global). list.items))));
}

pub reader-more : (place : ℕ) (cells more : List ℕ) (old middle new : List (Vec ℕ Global)) → AddsReader place cells old middle → AddsReader place more middle new
    → AddsReader place (cells ++ more) old new
reader-more place cells more old middle new one two = record {
  size = two.size ∙ one.size;
  kept = λ k number on. two.kept k number (one.kept k number on);
  here = λ k inside on.
      elim (cases_Bool (has cells k)) [
        | inl in_first ↦ two.kept k place (one.here k inside in_first)
        | inr not_first ↦ two.here k (omega (arith, inside, one.size)) (has-split cells more k not_first on)
      ];
}

-- ---- the lists of cells get wires

within-left : (count : ℕ) (wires more : List Gate) → AreWithin count (wires ++ more) → AreWithin count wires
within-left count wires more within place cell inside near =
    within place cell (omega (arith, inside, length-append wires more))
    (ap (λ (gate : Gate). touches gate cell) (get_or_append_left wires more no_gate place inside) ∙ near)

within-right : (count : ℕ) (wires more : List Gate) → AreWithin count (wires ++ more) → AreWithin count more
within-right count wires more within place cell inside near =
    within (length wires + place) cell (omega (arith, inside, length-append wires more))
    (ap (λ (gate : Gate). touches gate cell) (get_or-append-add wires more place no_gate) ∙ near)

pub within-append : (count : ℕ) (wires more : List Gate) → AreWithin count wires → AreWithin count more → AreWithin count (wires ++ more)
within-append count wires more one two place cell inside near =
    elim (cases_lt place (length wires)) [
      | inl early ↦ one place cell early (ap (λ (gate : Gate). touches gate cell) (sym (get_or_append_left wires more no_gate place early)) ∙ near)
      | inr late ↦
          let rest = place - length wires in
          let same : length wires + rest ≡ place = omega (arith, late) in
          two rest cell (omega (arith, inside, same, length-append wires more))
          (ap (λ (gate : Gate). touches gate cell) (sym (get_or-append-add wires more rest no_gate)) ∙ ap (λ p. touches (gate_at (wires ++ more) p) cell) same ∙ near)
    ]

-- a flip-flop's register is among the cells that it reads
flip-touches : (flip : Flip) (cell : ℕ) → touches (flip_gate flip) cell ≡ true → has (flip_cells flip) cell ≡ true
flip-touches flip cell near =
    elim (cases_Bool (eqb flip.target cell)) [
      | inl same ↦
          ap (λ b. eqb flip.enable cell || (eqb flip.reset cell || (b || has (flip.a ∷ flip.b ∷ flip.c ∷ flip.d ∷ []) cell))) same ∙ both (eqb flip.enable cell) (eqb flip.reset cell)
      | inr apart ↦ ap (λ b. b || has (flip_cells flip) cell) (sym apart) ∙ near
    ]
  where
    both : (a b : Bool) → (a || (b || true)) ≡ true
    both true b = refl
    both false true = refl
    both false false = refl

pub wires-one : (place : ℕ) (flip : Flip) (old new : List (Vec ℕ Global)) → AddsReader place (flip_cells flip) old new → AddsWires place (flip_gate flip ∷ []) old new
wires-one place flip old new added = record {
  size = added.size;
  read = λ gates size within read p cell inside near.
      elim (cases_lt p (length gates)) [
        | inl early ↦ added.kept cell p (read p cell early (ap (λ (gate : Gate). touches gate cell) (sym (get_or_append_left gates (flip_gate flip ∷ []) no_gate p early)) ∙ near))
        | inr late ↦
            let same : length gates + 0 ≡ p = omega (arith, inside, late, length-append gates (flip_gate flip ∷ [])) in
            let own : touches (flip_gate flip) cell ≡ true =
            ap (λ (gate : Gate). touches gate cell) (sym (get_or-append-add gates (flip_gate flip ∷ []) 0 no_gate))
            ∙ ap (λ n. touches (gate_at (gates ++ flip_gate flip ∷ []) n) cell) same ∙ near in
            let here : place ≡ p = omega (arith, same, size) in
            subst (λ n. has (get_or (lists_of new) cell []) n ≡ true) here (added.here cell (within 0 cell (omega arith) own) (flip-touches flip cell own))
      ];
}

pub wires-more : (first middle_first : ℕ) (wires more : List Gate) (old middle new : List (Vec ℕ Global)) → middle_first ≡ first + length wires → AddsWires first wires old middle
    → AddsWires middle_first more middle new → AddsWires first (wires ++ more) old new
wires-more first middle_first wires more old middle new starts one two = record {
  size = two.size ∙ one.size;
  read = λ gates size within read.
      let left = one.read gates size (within-left (length old) wires more within) read in
      let right : AreWithin (length middle) more = subst (λ n. AreWithin n more) (sym one.size) (within-right (length old) wires more within) in
      subst (λ all. IsRead all new) (append_assoc gates wires more)
      (two.read (gates ++ wires) (omega (arith, length-append gates wires, size, starts)) right left);
}

-- ---- where the flip-flops of a group are watched

pub stand-at : (first : ℕ) (flips : List Flip) (watched before after : List Gate) → watched ≡ before ++ (map flip_gate flips ++ after) → first ≡ length before → AreAt first flips watched
stand-at first flips watched before after is starts = record {
  fit = omega (arith, ap length is, length-append before (map flip_gate flips ++ after), length-append (map flip_gate flips) after, length-map flips flip_gate, starts);
  are = λ place inside.
      ap (λ all. gate_at all (first + place)) is
      ∙ ap (λ n. gate_at (before ++ (map flip_gate flips ++ after)) (n + place)) starts
      ∙ get_or-append-add before (map flip_gate flips ++ after) place no_gate
      ∙ get_or_append_left (map flip_gate flips) after no_gate place (omega (arith, inside, length-map flips flip_gate))
      ∙ get_or-map flip_gate flips place no_flip no_gate inside;
}

-- the wires of groups are those of the groups before one, its own, and those of the groups after it
pub groups-split : (groups : List Group) (pin : ℕ) (none : Group) → pin < length groups
    → flat_map flip_gates groups ≡ flat_map flip_gates (take pin groups) ++ (flip_gates (get_or groups pin none) ++ flat_map flip_gates (drop (suc pin) groups))
groups-split [] pin none inside = absurd (omega (arith, inside))
groups-split (group ∷ groups) zero none inside = refl
groups-split (group ∷ groups) (suc pin) none inside =
    ap (λ rest. flip_gates group ++ rest) (groups-split groups pin none (omega (arith, inside)))
    ∙ sym (append_assoc (flip_gates group) (flat_map flip_gates (take pin groups)) (flip_gates (get_or groups pin none) ++ flat_map flip_gates (drop (suc pin) groups)))

-- groups with the same items have the same wires
pub same-gates : (old new : List Group) → length new ≡ length old → ((pin : ℕ) (none : Group) → pin < length old → HasSameItems (get_or old pin none) (get_or new pin none))
    → flat_map flip_gates new ≡ flat_map flip_gates old
same-gates [] [] size same = refl
same-gates [] (group ∷ new) size same = absurd (omega (arith, size))
same-gates (group ∷ old) [] size same = absurd (omega (arith, size))
same-gates (group ∷ old) (other ∷ new) size same =
    ap₂ (λ (one : List Gate) rest. one ++ rest) (ap (map flip_gate) (same 0 group (omega arith)).flips)
    (same-gates old new (omega (arith, size)) (λ pin none inside. same (suc pin) none (omega (arith, inside))))

pub same-group : (step : Step) (first bits words : ℕ) (roots : List ℕ) (plan : Plan) (old new : Group) → HasSameItems old new → IsGroup step first bits words roots plan old
    → IsGroup step first bits words roots plan new
same-group step first bits words roots plan old new same grouped = record {
  flips = ap flip_flops same.flips ∙ grouped.flips;
  reads = same.reads ∙ grouped.reads;
  writes = same.writes ∙ grouped.writes;
}

-- ---- all cells of watched flip-flops are cells

flip-within : (count : ℕ) (flip : Flip) → IsOver count flip → (cell : ℕ) → has (flip_cells flip) cell ≡ true → cell < count
flip-within count flip over cell =
    one flip.enable (flip.reset ∷ flip.target ∷ flip.a ∷ flip.b ∷ flip.c ∷ flip.d ∷ []) over.enable
    (one flip.reset (flip.target ∷ flip.a ∷ flip.b ∷ flip.c ∷ flip.d ∷ []) over.reset
    (one flip.target (flip.a ∷ flip.b ∷ flip.c ∷ flip.d ∷ []) over.target
    (one flip.a (flip.b ∷ flip.c ∷ flip.d ∷ []) over.a
    (one flip.b (flip.c ∷ flip.d ∷ []) over.b
    (one flip.c (flip.d ∷ []) over.c
    (one flip.d [] over.d (λ on. absurd cc)))))))
  where
    one : (other : ℕ) (rest : List ℕ) → other < count → (has rest cell ≡ true → cell < count) → has (other ∷ rest) cell ≡ true → cell < count
    one other rest below later on =
        elim (cases_Bool (eqb other cell)) [
          | inl same ↦ subst (λ n. n < count) (eqb-true other cell same) below
          | inr apart ↦ later (ap (λ b. b || has rest cell) (sym apart) ∙ on)
        ]

pub flips-within : (count : ℕ) (flips : List Flip) → All (IsOver count) flips → AreWithin count (map flip_gate flips)
flips-within count [] over place cell inside near = absurd (omega (arith, inside))
flips-within count (flip ∷ flips) over zero cell inside near = flip-within count flip (All-head (IsOver count) flip flips over) cell (flip-touches flip cell near)
flips-within count (flip ∷ flips) over (suc place) cell inside near = flips-within count flips (All-tail (IsOver count) flip flips over) place cell (omega (arith, inside)) near

pub groups-within : (count : ℕ) (groups : List Group) → ((pin : ℕ) (none : Group) → pin < length groups → AreWithin count (flip_gates (get_or groups pin none)))
    → AreWithin count (flat_map flip_gates groups)
groups-within count [] each place cell inside near = absurd (omega (arith, inside))
groups-within count (group ∷ groups) each place cell inside near =
    within-append count (flip_gates group) (flat_map flip_gates groups) (each 0 group (omega arith))
    (groups-within count groups (λ pin none inside. each (suc pin) none (omega (arith, inside)))) place cell inside near

-- ---- the flip-flops of all groups of a circuit, watched one group after the other

-- groups are watched from an index on, one after the other
pub record ArePlaced (first : ℕ) (old new : List Group) (readers readers_now : List (Vec ℕ Global)) : Type 0 where
  pub count : length new ≡ length old
  pub items : (pin : ℕ) (none : Group) → pin < length old → HasSameItems (get_or old pin none) (get_or new pin none)
  pub place : (pin : ℕ) (none : Group) → pin < length old → (get_or new pin none).first_place ≡ first + length (flat_map flip_gates (take pin old))
  pub apart : (pin : ℕ) (none : Group) → pin < length old → ((get_or new pin none).are_apart ≡ true ↔ AreApart (get_or old pin none).flips.items)
  pub wires : AddsWires first (flat_map flip_gates old) readers readers_now

-- a group is watched from an index on
pub record IsPlaced (first : ℕ) (old new : Group) (readers readers_now : List (Vec ℕ Global)) : Type 0 where
  pub items : HasSameItems old new
  pub place : new.first_place ≡ first
  pub apart : new.are_apart ≡ true ↔ AreApart old.flips.items
  pub wires : AddsWires first (flip_gates old) readers readers_now

regroup : (before early own late after : List Gate) → before ++ ((early ++ (own ++ late)) ++ after) ≡ (before ++ early) ++ (own ++ (late ++ after))
regroup before early own late after = simp append_assoc

same-apart : (old new : Group) → HasSameItems old new → (new.are_apart ≡ true ↔ AreApart old.flips.items) → (new.are_apart ≡ true ↔ AreApart new.flips.items)
same-apart old new same apart = subst (λ flips. new.are_apart ≡ true ↔ AreApart flips) (sym same.flips) apart

pub group-watched : (before after : List Gate) (first : ℕ) (old new : List Group) (readers readers_now : List (Vec ℕ Global)) → first ≡ length before → ArePlaced first old new readers readers_now
    → (pin : ℕ) (none : Group) → pin < length new → IsWatched (before ++ (flat_map flip_gates new ++ after)) (get_or new pin none)
group-watched before after first old new readers readers_now starts placed pin none inside =
    let within : pin < length old = omega (arith, inside, placed.count) in
    let same = placed.items pin none within in
    let early : List Gate = flat_map flip_gates (take pin old) in
    let late : List Gate = flat_map flip_gates (drop (suc pin) old) in
    let is : flat_map flip_gates new ≡ early ++ (flip_gates (get_or new pin none) ++ late) =
    same-gates old new placed.count placed.items ∙ groups-split old pin none within
    ∙ ap (λ flips. early ++ (map flip_gate flips ++ late)) (sym same.flips) in
    record {
      places = stand-at (get_or new pin none).first_place (get_or new pin none).flips.items (before ++ (flat_map flip_gates new ++ after)) (before ++ early) (late ++ after)
          (ap (λ all. before ++ (all ++ after)) is ∙ regroup before early (flip_gates (get_or new pin none)) late after)
          (omega (arith, placed.place pin none within, starts, length-append before early));
      apart = same-apart (get_or old pin none) (get_or new pin none) same (placed.apart pin none within);
    }

-- what is watched in a circuit
pub record AreWatched (gates : List Gate) (rising falling : List Group) (waves : Group) (readers : List (Vec ℕ Global)) (count : ℕ) (watched : List Gate) : Type 0 where
  pub read : IsRead watched readers
  pub count_is : count ≡ length watched
  pub rising_watched : (pin : ℕ) (none : Group) → pin < length rising → IsWatched watched (get_or rising pin none)
  pub falling_watched : (pin : ℕ) (none : Group) → pin < length falling → IsWatched watched (get_or falling pin none)
  pub waves_watched : IsWatched watched waves

pub all-watched : (total second third count : ℕ) (gates : List Gate) (old_rising rising old_falling falling : List Group) (old_waves waves : Group) (readers readers_1 readers_2 readers_3 : List (Vec ℕ Global))
    → length readers ≡ total → IsRead gates readers
    → AreWithin total (flat_map flip_gates old_rising) → AreWithin total (flat_map flip_gates old_falling) → AreWithin total (flip_gates old_waves)
    → second ≡ length gates + length (flat_map flip_gates old_rising) → third ≡ second + length (flat_map flip_gates old_falling) → count ≡ third + length old_waves.flips.items
    → ArePlaced (length gates) old_rising rising readers readers_1 → ArePlaced second old_falling falling readers_1 readers_2 → IsPlaced third old_waves waves readers_2 readers_3
    → AreWatched gates rising falling waves readers_3 count (gates ++ (flat_map flip_gates rising ++ (flat_map flip_gates falling ++ flip_gates waves)))
all-watched total second third count gates old_rising rising old_falling falling old_waves waves readers readers_1 readers_2 readers_3 size read rising_within falling_within waves_within second_is third_is count_is rising_placed falling_placed waves_placed =
    let r : List Gate = flat_map flip_gates rising in
    let f : List Gate = flat_map flip_gates falling in
    let w : List Gate = flip_gates waves in
    let old_r : List Gate = flat_map flip_gates old_rising in
    let old_f : List Gate = flat_map flip_gates old_falling in
    let old_w : List Gate = flip_gates old_waves in
    let r_is : r ≡ old_r = same-gates old_rising rising rising_placed.count rising_placed.items in
    let f_is : f ≡ old_f = same-gates old_falling falling falling_placed.count falling_placed.items in
    let w_is : w ≡ old_w = ap (map flip_gate) waves_placed.items.flips in
    let r_size : length r ≡ length old_r = ap length r_is in
    let f_size : length f ≡ length old_f = ap length f_is in
    let w_size : length w ≡ length old_waves.flips.items = ap length w_is ∙ length-map old_waves.flips.items flip_gate in
    let wires = wires-more (length gates) second old_r (old_f ++ old_w) readers readers_1 readers_3 second_is rising_placed.wires
    (wires-more second third old_f old_w readers_1 readers_2 readers_3 third_is falling_placed.wires waves_placed.wires) in
    let within : AreWithin (length readers) (old_r ++ (old_f ++ old_w)) =
    subst (λ n. AreWithin n (old_r ++ (old_f ++ old_w))) (sym size)
    (within-append total old_r (old_f ++ old_w) rising_within (within-append total old_f old_w falling_within waves_within)) in
    let old_read : IsRead (gates ++ (old_r ++ (old_f ++ old_w))) readers_3 = wires.read gates refl within read in
    record {
      read = subst (λ all. IsRead (gates ++ (all ++ (f ++ w))) readers_3) (sym r_is)
          (subst (λ all. IsRead (gates ++ (old_r ++ (all ++ w))) readers_3) (sym f_is)
          (subst (λ all. IsRead (gates ++ (old_r ++ (old_f ++ all))) readers_3) (sym w_is) old_read));
      count_is = omega (arith, count_is, second_is, third_is, r_size, f_size, w_size, length-append gates (r ++ (f ++ w)), length-append r (f ++ w), length-append f w);
      rising_watched = group-watched gates (f ++ w) (length gates) old_rising rising readers readers_1 refl rising_placed;
      falling_watched = λ pin none inside.
          subst (λ all. IsWatched all (get_or falling pin none)) (append_assoc gates r (f ++ w))
          (group-watched (gates ++ r) w second old_falling falling readers_1 readers_2 (omega (arith, second_is, r_size, length-append gates r)) falling_placed pin none inside);
      waves_watched = record {
        places = stand-at waves.first_place waves.flips.items (gates ++ (r ++ (f ++ w))) (gates ++ (r ++ f)) []
            (last-part gates r f w)
            (omega (arith, waves_placed.place, second_is, third_is, r_size, f_size, length-append gates (r ++ f), length-append r f));
        apart = same-apart old_waves waves waves_placed.items waves_placed.apart;
      };
    }
  where
    last-part : (a b c d : List Gate) → a ++ (b ++ (c ++ d)) ≡ (a ++ (b ++ c)) ++ (d ++ [])
    last-part a b c d = simp (append_assoc, append-nil)

-- ---- a list of groups of which one is watched

-- one more group has what the ones before it have
pub set-each : (P : ℕ → Group → Type 0) (now : List Group) (i : ℕ) (made none : Group) → i < length now → P i made → ((k : ℕ) → k < i → P k (get_or now k none))
    → (k : ℕ) → k < i + 1 → P k (get_or (set now i made) k none)
set-each P now i made none inside here before k below =
    elim (cases_eq k i) [
      | inl same ↦ subst (λ n. P n (get_or (set now i made) n none)) (sym same) (subst (P i) (sym (get_or-set_same now i made none inside)) here)
      | inr apart ↦ subst (P k) (sym (get_or-set_other now i k made none apart)) (before k (omega (arith, below, apart)))
    ]

pub gates-more : (groups : List Group) (i : ℕ) (none : Group) → i < length groups
    → flat_map flip_gates (take (i + 1) groups) ≡ flat_map flip_gates (take i groups) ++ flip_gates (get_or groups i none)
gates-more groups i none inside =
    ap (flat_map flip_gates) (take_more groups i none inside)
    ∙ flat_map-append flip_gates (take i groups) (get_or groups i none ∷ [])
    ∙ ap (λ last. flat_map flip_gates (take i groups) ++ last) (append-nil (flip_gates (get_or groups i none)))
