-- How many moves there are, as far as the count fits 64 bits.
use Rattle.std.proofs.Common.{◌≡◌, ◌≢◌, ◌∙◌, ℕ, zero, suc, ◌+◌, ◌-◌, ◌*◌, ◌^◌, ◌<◌, ◌≤◌, true, cond, Some, None, List, [], ◌∷◌, ◌++◌, drop, get_or, length, replicate, refl, sym, ap, subst, mul_comm, arith, inl, inr, length-append}
use Rattle.std.specs.Prelude.{◌&&◌, nat_lt, slice_set}
use Rattle.std.proofs.lemmas.Bool.{and_parts, cases_lt, eqb-true, le-ltb, lt-ltb, ltb-true}
use Rattle.std.proofs.lemmas.List.{drop_more, get_or-set_same, get_or-set_other, length-replicate, length-set}
use Rattle.std.proofs.lemmas.Nat.{mul-le}
use Rattle.std.proofs.Math.Nat.{suc-mul}
use Rattle.vlog_semantics.specs.declared.event.Event.{Event}
use Rattle.long_events.specs.declared.counting.Tally.{Tally}
use Rattle.long_events.specs.declared.fault.LongFault.TheVariants as fault
use Rattle.long_events.specs.declared.moves.Move.{Move}
use Rattle.long_events.specs.declared.moves.Move.TheVariants as move
use Rattle.long_events.specs.declared.step.Step.{Step}
use Rattle.long_events.specs.declared.step.Step.TheVariants.{Give, Toggle, Repeat, End}
use Rattle.long_events.specs.Lists.{count_fault}
use Rattle.long_events.specs.Moves.{led_by, moves_of, parts_of, repeated as repeated_parts, times}
use Rattle.long_events.specs.inside.Counting.{AreCounts, HasRoom, Tallies, added, begun, capped, repeated}
use Rattle.long_events.specs.inside.Nesting.{nests}

-- ---- numbers

capped-sum : (a n : ℕ) → capped (capped a + n) ≡ capped (n + a)
capped-sum a n = omega arith

-- a count that is repeated, and one more
capped-product : (a b count : ℕ) → 0 < count → capped (capped a + capped (capped b * count)) ≡ capped (count * b + a)
capped-product a b count some =
    elim (cases_lt b (2 ^ 64)) as (λ _. capped (capped a + capped (capped b * count)) ≡ capped (count * b + a)) [
      | inl fits ↦ (
          let same : capped b ≡ b = omega arith in
          ap (λ n. capped (capped a + capped (n * count))) same ∙ omega (arith, mul_comm b count))
      | inr past ↦ (
          let most : ℕ = 2 ^ 64 - 1 in
          let full : capped b ≡ most = omega arith in
          let left : most * 1 ≤ most * count = mul-le most 1 most count (omega arith) (omega arith) in
          let right : 1 * b ≤ count * b = mul-le 1 b count b (omega arith) (omega arith) in
          ap (λ n. capped (capped a + capped (n * count))) full ∙ omega (arith, left, right))
    ]

length-times : (count : ℕ) (list : List Move) → length (times count list) ≡ count * length list
unfolding times
length-times zero list = omega arith
length-times (suc count) list = length-append list (times count list) ∙ omega (arith, length-times count list, suc-mul count (length list))

-- ---- counts

counts-below : (counts : List ℕ) (place depth value : ℕ) (parts : List (List Move)) → depth < place → AreCounts counts depth parts → AreCounts (slice_set counts place value) depth parts
counts-below counts place zero value parts below are =
    let other : 0 ≢ place = omega arith in get_or-set_other counts place 0 value 0 other ∙ are
counts-below counts place (suc depth) value parts below are =
    let other : suc depth ≢ place = omega arith in
    (get_or-set_other counts place (suc depth) value 0 other ∙ are.0, counts-below counts place depth value (drop 1 parts) (omega arith) are.1)

counts-top : (counts : List ℕ) (depth : ℕ) (parts : List (List Move)) → AreCounts counts depth parts → get_or counts depth 0 ≡ capped (length (get_or parts 0 []))
counts-top counts zero parts are = are
counts-top counts (suc depth) parts are = are.0

-- another first part
counts-set : (counts : List ℕ) (depth value : ℕ) (part first : List Move) (parts : List (List Move)) → depth < length counts → AreCounts counts depth (part ∷ parts)
    → value ≡ capped (length first) → AreCounts (slice_set counts depth value) depth (first ∷ parts)
counts-set counts zero value part first parts within are is = get_or-set_same counts 0 value 0 within ∙ is
counts-set counts (suc depth) value part first parts within are is =
    (get_or-set_same counts (suc depth) value 0 within ∙ is, counts-below counts (suc depth) depth value parts (omega arith) are.1)

-- a count that is added for moves before the first part
IsAdded : ℕ → List Move → Type 0
IsAdded count moves = (a : ℕ) → capped (capped a + count) ≡ capped (length moves + a)

record LeadsCounts (tally : Tally) (count : ℕ) (moves : List Move) (parts : List (List Move)) : Type 0 where
  many : length (led_by moves parts) ≡ suc tally.depth
  are : AreCounts (added tally count).counts tally.depth (led_by moves parts)

led-counts : (tally : Tally) (count : ℕ) (moves : List Move) (parts : List (List Move)) → tally.depth < length tally.counts → length parts ≡ suc tally.depth
    → AreCounts tally.counts tally.depth parts → IsAdded count moves → LeadsCounts tally count moves parts
unfolding IsAdded
led-counts tally count moves [] within some are is = absurd (omega (arith, some))
led-counts tally count moves (part ∷ parts) within some are is = record {
  many = some;
  are = counts-set tally.counts tally.depth (capped (get_or tally.counts tally.depth 0 + count)) part (moves ++ part) parts within are
      (ap (λ n. capped (n + count)) (counts-top tally.counts tally.depth (part ∷ parts) are)
      ∙ is (length part)
      ∙ ap capped (sym (length-append moves part)));
}

-- ---- steps

tallies-led : (tally : Tally) (count : ℕ) (moves : List Move) (step : Step) (rest : List Step) → parts_of (step ∷ rest) ≡ led_by moves (parts_of rest) → IsAdded count moves
    → Tallies tally rest → Tallies (added tally count) (step ∷ rest)
tallies-led tally count moves step rest leads is tallies =
    let led = led-counts tally count moves (parts_of rest) (omega (arith, tallies.room, tallies.deep)) tallies.parts tallies.counts is in
    record {
      deep = tallies.deep;
      room = length-set tally.counts tally.depth (capped (get_or tally.counts tally.depth 0 + count)) ∙ tallies.room;
      parts = ap length leads ∙ led.many;
      counts = subst (AreCounts (added tally count).counts tally.depth) (sym leads) led.are;
    }

pub tallies-give : (tally : Tally) (event : Event) (rest : List Step) → Tallies tally rest → Tallies (added tally 1) (Give event ∷ rest)
unfolding parts_of IsAdded
tallies-give tally event rest tallies = tallies-led tally 1 (move.Given event ∷ []) (Give event) rest refl (λ a. capped-sum a 1) tallies

pub tallies-toggle : (tally : Tally) (pin count : ℕ) (rest : List Step) → Tallies tally rest → Tallies (added tally count) (Toggle pin count ∷ rest)
unfolding parts_of IsAdded
tallies-toggle tally pin count rest tallies =
    let moves : List Move = replicate count (move.Toggled pin) in
    let many : length moves ≡ count = length-replicate count (move.Toggled pin) in
    tallies-led tally count moves (Toggle pin count) rest refl (λ a. capped-sum a count ∙ ap (λ n. capped (n + a)) (sym many)) tallies

pub tallies-end : (tally : Tally) (rest : List Step) → tally.depth < 8 → Tallies tally rest → Tallies (begun tally) (End ∷ rest)
unfolding parts_of
tallies-end tally rest deep tallies =
    let one : tally.depth + 1 ≡ suc tally.depth = omega arith in
    let within : suc tally.depth < length tally.counts = omega (arith, tallies.room) in
    record {
      deep = omega (arith, deep);
      room = length-set tally.counts (tally.depth + 1) 0 ∙ tallies.room;
      parts = omega (arith, tallies.parts);
      counts = subst (λ depth. AreCounts (slice_set tally.counts depth 0) depth ([] ∷ parts_of rest)) (sym one)
          (get_or-set_same tally.counts (suc tally.depth) 0 0 within, counts-below tally.counts (suc tally.depth) tally.depth 0 (parts_of rest) (omega arith) tallies.counts);
    }

repeat-counts : (tally : Tally) (count outer : ℕ) (parts : List (List Move)) → tally.depth ≡ suc outer → tally.depth ≤ 8 → length tally.counts ≡ 9 → 0 < count → length parts ≡ suc tally.depth
    → AreCounts tally.counts tally.depth parts
    → (length (repeated_parts count parts) ≡ suc outer) × AreCounts (repeated tally count).counts outer (repeated_parts count parts)
unfolding IsAdded
repeat-counts tally count outer [] deeper deep room some full are = absurd (omega (arith, full))
repeat-counts tally count outer (body ∷ parts) deeper deep room some full are =
    let less : tally.depth - 1 ≡ outer = omega (arith, deeper) in
    let inner : AreCounts tally.counts (suc outer) (body ∷ parts) = subst (λ depth. AreCounts tally.counts depth (body ∷ parts)) deeper are in
    let product : ℕ = capped (get_or tally.counts tally.depth 0 * count) in
    let is : IsAdded product (times count body) = λ a.
    ap (λ n. capped (capped a + capped (n * count))) (counts-top tally.counts tally.depth (body ∷ parts) are)
    ∙ capped-product a (length body) count some
    ∙ ap (λ n. capped (n + a)) (sym (length-times count body)) in
    let within : outer < length tally.counts = omega (arith, deeper, deep, room) in
    let many : length parts ≡ suc outer = omega (arith, full, deeper) in
    let led = led-counts (record { counts = tally.counts; depth = outer }) product (times count body) parts within many inner.1 is in
    (led.many, subst (λ depth. AreCounts (added (record { counts = tally.counts; depth = depth }) product).counts outer (led_by (times count body) parts)) (sym less) led.are)

pub tallies-repeat : (tally : Tally) (count : ℕ) (rest : List Step) → 0 < tally.depth → 0 < count → Tallies tally rest → Tallies (repeated tally count) (Repeat count ∷ rest)
unfolding parts_of
tallies-repeat tally count rest inside some tallies =
    let outer = tally.depth - 1 in
    let deeper : tally.depth ≡ suc outer = omega arith in
    let both = repeat-counts tally count outer (parts_of rest) deeper tallies.deep tallies.room some tallies.parts tallies.counts in
    record {
      deep = omega (arith, tallies.deep);
      room = length-set tally.counts outer (capped (get_or tally.counts outer 0 + capped (get_or tally.counts tally.depth 0 * count))) ∙ tallies.room;
      parts = both.0;
      counts = both.1;
    }

pub tallies-none : Tallies (record { counts = 0 ∷ 0 ∷ 0 ∷ 0 ∷ 0 ∷ 0 ∷ 0 ∷ 0 ∷ 0 ∷ []; depth = 0 }) []
unfolding parts_of
tallies-none = record { deep = omega arith; room = refl; parts = refl; counts = refl }

-- ---- all steps

led-length : (moves : List Move) (parts : List (List Move)) (level : ℕ) → length parts ≡ suc level → length (led_by moves parts) ≡ suc level
led-length moves [] level many = absurd (omega (arith, many))
led-length moves (part ∷ parts) level many = many

repeated-length : (count : ℕ) (parts : List (List Move)) (level : ℕ) → length parts ≡ suc (suc level) → length (repeated_parts count parts) ≡ suc level
repeated-length count [] level many = absurd (omega (arith, many))
repeated-length count (body ∷ parts) level many = led-length (times count body) parts level (omega (arith, many))

-- how many parts so many open `repeat`s need
pub nests-parts : (level : ℕ) (steps : List Step) → nests level steps ≡ true → length (parts_of steps) ≡ suc level
unfolding nests parts_of
nests-parts level [] nested = let same : level ≡ 0 = eqb-true level 0 nested in omega arith
nests-parts level (Give event ∷ steps) nested = led-length (move.Given event ∷ []) (parts_of steps) level (nests-parts level steps nested)
nests-parts level (Toggle pin count ∷ steps) nested = led-length (replicate count (move.Toggled pin)) (parts_of steps) level (nests-parts level steps nested)
nests-parts level (Repeat count ∷ steps) nested =
    let parts = and_parts (nat_lt 0 count) (nat_lt level 8 && nests (suc level) steps) nested in
    let more = and_parts (nat_lt level 8) (nests (suc level) steps) parts.1 in
    repeated-length count (parts_of steps) level (nests-parts (suc level) steps more.1)
nests-parts zero (End ∷ steps) nested = absurd cc
nests-parts (suc level) (End ∷ steps) nested = ap suc (nests-parts level steps nested)

-- the steps from a place on, among steps in which each `repeat` has its `end`
pub record IsNestedFrom (steps : List Step) (level : ℕ) : Type 0 where
  pub deep : level ≤ 8
  pub nested : nests level steps ≡ true

pub record IsNestedAt (steps : List Step) (place : ℕ) : Type 0 where
  pub level : ℕ
  pub from : IsNestedFrom (drop place steps) level

next-level : (level : ℕ) (step : Step) (steps : List Step) → IsNestedFrom (step ∷ steps) level → (next : ℕ) × IsNestedFrom steps next
unfolding nests
next-level level (Give event) steps from = (level, record { deep = from.deep; nested = from.nested })
next-level level (Toggle pin count) steps from = (level, record { deep = from.deep; nested = from.nested })
next-level level (Repeat count) steps from =
    let parts = and_parts (nat_lt 0 count) (nat_lt level 8 && nests (suc level) steps) from.nested in
    let more = and_parts (nat_lt level 8) (nests (suc level) steps) parts.1 in
    let few : level < 8 = ltb-true level 8 more.0 in
    (suc level, record { deep = omega arith; nested = more.1 })
next-level zero End steps from = absurd (let none : nests zero (End ∷ steps) ≡ true = from.nested in cc)
next-level (suc level) End steps from = let deep : suc level ≤ 8 = from.deep in (level, record { deep = omega arith; nested = from.nested })

pub nested-at : (steps : List Step) (place : ℕ) (level : ℕ) → IsNestedFrom steps level → IsNestedAt steps place
nested-at steps zero level from = record { level = level; from = from }
nested-at [] (suc place) level from = record { level = level; from = from }
nested-at (step ∷ steps) (suc place) level from =
    let next = next-level level step steps from in
    let later = nested-at steps place next.0 next.1 in
    record { level = later.level; from = later.from }

-- there is room for the step before those that are taken
pub step-room : (tally : Tally) (step : Step) (rest : List Step) (level : ℕ) → IsNestedFrom (step ∷ rest) level → Tallies tally rest → HasRoom tally.depth step
unfolding nests
step-room tally (Give event) rest level from tallies = tt
step-room tally (Toggle pin count) rest level from tallies = tt
step-room tally (Repeat count) rest level from tallies =
    let parts = and_parts (nat_lt 0 count) (nat_lt level 8 && nests (suc level) rest) from.nested in
    let more = and_parts (nat_lt level 8) (nests (suc level) rest) parts.1 in
    (omega (arith, nests-parts (suc level) rest more.1, tallies.parts), ltb-true 0 count parts.0)
step-room tally End rest zero from tallies = absurd (let none : nests zero (End ∷ rest) ≡ true = from.nested in cc)
step-room tally End rest (suc level) from tallies =
    let deep : suc level ≤ 8 = from.deep in
    let nested : nests level rest ≡ true = from.nested in
    omega (arith, nests-parts level rest nested, tallies.parts)

-- all steps are taken
pub tallies-all : (tally : Tally) (steps : List Step) → nests 0 steps ≡ true → Tallies tally steps → get_or tally.counts 0 0 ≡ capped (length (moves_of steps))
tallies-all tally steps nested tallies =
    let outermost : tally.depth ≡ 0 = omega (arith, nests-parts 0 steps nested, tallies.parts) in
    subst (λ depth. AreCounts tally.counts depth (parts_of steps)) outermost tallies.counts

-- steps that are taken down to a place
pub taken-room : (tally : Tally) (steps : List Step) (place : ℕ) (d : Step) → nests 0 steps ≡ true → place < length steps → Tallies tally (drop (place + 1) steps)
    → HasRoom tally.depth (get_or steps place d)
taken-room tally steps place d nested within tallies =
    let zero_deep : 0 ≤ 8 = omega arith in
    let at = nested-at steps place 0 (record { deep = zero_deep; nested = nested }) in
    let here : drop place steps ≡ get_or steps place d ∷ drop (place + 1) steps = drop_more steps place d within in
    step-room tally (get_or steps place d) (drop (place + 1) steps) at.level (subst (λ (rest : List Step). IsNestedFrom rest at.level) here at.from) tallies

pub taken-more : (tally : Tally) (steps : List Step) (place : ℕ) (d : Step) → place < length steps → Tallies tally (get_or steps place d ∷ drop (place + 1) steps) → Tallies tally (drop place steps)
taken-more tally steps place d within tallies = subst (Tallies tally) (sym (drop_more steps place d within)) tallies

-- ---- too many moves

-- a count that doesn't stay at the greatest number is that of all moves
pub few-moves : (moves : List Move) → capped (length moves) < 2 ^ 64 - 1 → length moves ≡ capped (length moves)
few-moves moves few = omega (arith, few)

pub count-few : (moves : List Move) → capped (length moves) < 2 ^ 64 - 1 → count_fault moves ≡ None
unfolding count_fault
count-few moves few = ap (λ below. cond below None (Some fault.Long)) (lt-ltb (length moves) (2 ^ 64 - 1) (omega (arith, few)))

pub count-many : (moves : List Move) → 2 ^ 64 - 1 ≤ capped (length moves) → count_fault moves ≡ Some fault.Long
unfolding count_fault
count-many moves many = ap (λ below. cond below None (Some fault.Long)) (le-ltb (length moves) (2 ^ 64 - 1) (omega (arith, many)))
