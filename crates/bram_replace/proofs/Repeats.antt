-- The columns of a file, one after the other: the first index of each, and which are repeated.
use Rattle.std.proofs.Common.{◌≡◌, ℕ, zero, suc, ◌+◌, ◌<◌, Bool, true, false, cond, List, refl, sym, ap, ◌∙◌, inl, inr, arith}
use Rattle.std.specs.Prelude.{Option, Some, None, nat_lt}
use Rattle.std.specs.Option.{option_map}
use Rattle.std.specs.Ordering.{nat_cmp}
use Rattle.std.specs.Cmp.Lexicographic.{slice_cmp}
use Rattle.std.specs.BTreeMap.{is_at}
use Rattle.std.proofs.lemmas.Map.Text.{is_eq-slice_cmp}
use Rattle.std.proofs.lemmas.Bool.{cases_lt, cases_Bool, lt-ltb, le-ltb, le-leb, lt-leb}
use Rattle.std.proofs.Math.Bool.{and-false}
use Rattle.index_search.specs.Places.{least_below, first_below, or_else, or_here}
use Rattle.index_search.proofs.Places.{least_below-more, least_below-none, first_below-more, first_below-same, first_below-first, or_else-none}
use Rattle.bram_replace.specs.declared.columns.Repeat.{Repeat}
use Rattle.bram_replace.specs.declared.fault.BramFault.{BramFault}
use Rattle.bram_replace.specs.declared.fault.BramFault.TheVariants.{SameColumns}
use Rattle.bram_replace.specs.HexText.{Contents}
use Rattle.bram_replace.specs.Columns.{column_at, column_bit, column_count, column_from, is_same, is_repeat, same_fault, match_of}
use Rattle.bram_replace.specs.Packed.{packed, Finds, earlier, repeat_told, repeat_among, first_repeat}
use Rattle.index_search.proofs.Found.{IsLeast, first_below-clear, least_below-clear, least_below-place}
use Rattle.bram_replace.proofs.Same.{is_same-equal, map-none}
use Rattle.bram_replace.proofs.Packing.{packed-decides}

-- ---- look-ups

-- whether a column is equal to these bits
abbrev tests : Contents → (ℕ → Bool) → ℕ → Bool
tests file bit column = is_same (column_at file column) (column_from bit)

pub Finds-none : (file : Contents) (found : List ℕ → Option ℕ) → ((key : List ℕ) → found key ≡ None) → Finds file 0 found
Finds-none file found empty bit = empty (packed bit) ∙ sym (least_below-none 0 (tests file bit) (λ k below. absurd (omega arith)))

at_same : (f g : ℕ → Bool) → is_at (slice_cmp nat_cmp (packed f)) (packed g) ≡ is_same (column_from f) (column_from g)
at_same f g = is_eq-slice_cmp (packed f) (packed g) ∙ packed-decides f g

or_here-true : (first : Option ℕ) (place : ℕ) → first ≡ None → or_here first true place ≡ Some place
or_here-true first place none = rw none refl

or_here-false : (first : Option ℕ) (place : ℕ) → or_here first false place ≡ first
or_here-false (Some earlier) place = refl
or_here-false None place = refl

-- a new column gets its place
pub Finds-inserted : (file : Contents) (place : ℕ) (old new : List ℕ → Option ℕ) → Finds file place old → old (packed (column_bit file place)) ≡ None
    → ((key : List ℕ) → new key ≡ cond (is_at (slice_cmp nat_cmp (packed (column_bit file place))) key) (Some place) (old key)) → Finds file (place + 1) new
Finds-inserted file place old new finds none updates bit =
    let test = tests file bit in
    let at = updates (packed bit) in
    elim (cases_Bool (test place)) [
      | inl equal ↦
          let same = is_same-equal (column_at file place) (column_from bit) equal in
          let free : least_below place test ≡ None = ap (λ bits. least_below place (λ column. is_same (column_at file column) bits)) (sym same) ∙ sym (finds (column_bit file place)) ∙ none in
          at ∙ rw (at_same (column_bit file place) bit, equal) (sym (least_below-more place test ∙ rw equal (or_here-true (least_below place test) place free)))
      | inr other ↦
          at ∙ rw (at_same (column_bit file place) bit, other) (finds bit ∙ sym (least_below-more place test ∙ rw other (or_here-false (least_below place test) place)))
    ]

or_here-some : (first : Option ℕ) (passes : Bool) (place : ℕ) → (passes ≡ true → first ≡ None → ⊥) → or_here first passes place ≡ first
or_here-some (Some earlier) passes place some = refl
or_here-some None true place some = absurd (some refl refl)
or_here-some None false place some = refl

-- a column that was there before keeps its first place
pub Finds-known : (file : Contents) (place first : ℕ) (found : List ℕ → Option ℕ) → Finds file place found → found (packed (column_bit file place)) ≡ Some first → Finds file (place + 1) found
Finds-known file place first found finds some bit =
    let test = tests file bit in
    finds bit ∙ sym (least_below-more place test ∙ or_here-some (least_below place test) (test place) place (λ equal none.
    let same = is_same-equal (column_at file place) (column_from bit) equal in
    let here : least_below place test ≡ Some first = ap (λ bits. least_below place (λ column. is_same (column_at file column) bits)) (sym same) ∙ sym (finds (column_bit file place)) ∙ some in
    let clash : None ≡ Some first = sym none ∙ here in
    absurd cc))

-- ---- repeats

kept : (file : Contents) (place column : ℕ) → is_same (column_at file column) (column_at file place) ≡ false → repeat_among file (place + 1) column ≡ repeat_among file place column
kept file place column apart =
    let fails : is_repeat file column place ≡ false = rw apart (and-false (nat_lt column place)) in
    ap (option_map (SameColumns column)) (least_below-more place (is_repeat file column) ∙ rw fails (or_here-false (least_below place (is_repeat file column)) place))

stays-inner : (column place : ℕ) (first : Option ℕ) (passes : Bool) (fault : BramFault) → option_map (SameColumns column) first ≡ Some fault → option_map (SameColumns column) (or_here first passes place) ≡ Some fault
stays-inner column place (Some second) passes fault is = is
stays-inner column place None passes fault is = absurd cc

stays : (file : Contents) (place column : ℕ) (fault : BramFault) → repeat_among file place column ≡ Some fault → repeat_among file (place + 1) column ≡ Some fault
stays file place column fault is =
    ap (option_map (SameColumns column)) (least_below-more place (is_repeat file column)) ∙ stays-inner column place (least_below place (is_repeat file column)) (is_repeat file column place) fault is

begins : (file : Contents) (place column : ℕ) → column < place → is_same (column_at file column) (column_at file place) ≡ true → repeat_among file place column ≡ None
    → repeat_among file (place + 1) column ≡ Some (SameColumns column place)
begins file place column below equal none =
    let passes : is_repeat file column place ≡ true = rw (lt-ltb column place below, equal) refl in
    let more : least_below (place + 1) (is_repeat file column) ≡ or_here (least_below place (is_repeat file column)) (is_repeat file column place) place = least_below-more place (is_repeat file column) in
    let first : or_here (least_below place (is_repeat file column)) (is_repeat file column place) place ≡ Some place =
    ap (λ passes. or_here (least_below place (is_repeat file column)) passes place) passes ∙ or_here-true (least_below place (is_repeat file column)) place (map-none column (least_below place (is_repeat file column)) none) in
    ap (option_map (SameColumns column)) (more ∙ first)

-- the last column isn't repeated
last-none : (file : Contents) (place : ℕ) → repeat_among file (place + 1) place ≡ None
last-none file place =
    ap (option_map (SameColumns place)) (least_below-none (place + 1) (is_repeat file place) (λ k below. rw (le-ltb place k (omega arith)) refl))

without_last : (file : Contents) (place : ℕ) → first_repeat file (place + 1) ≡ first_below place (repeat_among file (place + 1))
without_last file place =
    first_below-more place (repeat_among file (place + 1)) ∙ ap (or_else (first_below place (repeat_among file (place + 1)))) (last-none file place) ∙ or_else-none (first_below place (repeat_among file (place + 1)))

pub repeats-none : (file : Contents) → repeat_told None ≡ first_repeat file 0
unfolding first_below
repeats-none file = refl

-- a new column repeats nothing
pub repeats-new : (file : Contents) (place : ℕ) (found : List ℕ → Option ℕ) → Finds file place found → found (packed (column_bit file place)) ≡ None
    → first_repeat file (place + 1) ≡ first_repeat file place
repeats-new file place found finds none =
    let clear : least_below place (tests file (column_bit file place)) ≡ None = sym (finds (column_bit file place)) ∙ none in
    without_last file place ∙ first_below-same place (repeat_among file (place + 1)) (repeat_among file place)
    (λ k below. kept file place k (least_below-clear place k (tests file (column_bit file place)) clear below))

-- the place at which the first repeat is found
record IsFirst (n : ℕ) (given : ℕ → Option BramFault) (fault : BramFault) : Type 0 where
  place : ℕ
  within : place < n
  is : given place ≡ Some fault
  before : (k : ℕ) → k < place → given k ≡ None

or_else-cases : (n : ℕ) (given : ℕ → Option BramFault) (fault : BramFault) (first last : Option BramFault) → first_below n given ≡ first → given n ≡ last
    → (first ≡ Some fault → IsFirst n given fault) → or_else first last ≡ Some fault → IsFirst (suc n) given fault
or_else-cases n given fault (Some other) last is here known found =
    let first = known found in
    record { place = first.place; within = omega (arith, first.within); is = first.is; before = first.before }
or_else-cases n given fault None last is here known found =
    record { place = n; within = omega arith; is = here ∙ found; before = λ k below. first_below-clear n k given is below }

first_below-place : (n : ℕ) (given : ℕ → Option BramFault) (fault : BramFault) → first_below n given ≡ Some fault → IsFirst n given fault
unfolding first_below
first_below-place zero given fault found = absurd cc
first_below-place (suc n) given fault found =
    or_else-cases n given fault (first_below n given) (given n) refl refl (λ is. first_below-place n given fault is) found

-- the fault of a repeat names its first column
names-first : (column first second : ℕ) (later : Option ℕ) → option_map (SameColumns column) later ≡ Some (SameColumns first second) → column ≡ first
names-first column first second (Some other) is = cc
names-first column first second None is = absurd cc

-- a column that was there before: the earlier of the two repeats
repeats-known-inner : (file : Contents) (place first : ℕ) (repeat : Option Repeat) → IsLeast place (λ column. is_same (column_at file column) (column_at file place)) first
    → repeat_told repeat ≡ first_repeat file place → repeat_told (Some (earlier (record { first = first; second = place }) repeat)) ≡ first_repeat file (place + 1)
repeats-known-inner file place first None least told =
    let clear : (k : ℕ) → k < place → repeat_among file place k ≡ None = λ k below. first_below-clear place k (repeat_among file place) (sym told) below in
    sym (without_last file place ∙ first_below-first place first (repeat_among file (place + 1)) (SameColumns first place) least.within
    (λ k below. kept file place k (least.before k below) ∙ clear k (omega (arith, least.within)))
    (begins file place first least.within least.passes (clear first least.within)))
repeats-known-inner file place first (Some other) least told =
    let found = first_below-place place (repeat_among file place) (SameColumns other.first other.second) (sym told) in
    let at : found.place ≡ other.first = names-first found.place other.first other.second (least_below place (is_repeat file found.place)) found.is in
    elim (cases_lt first other.first) [
      | inl less ↦ rw (lt-leb other.first first less) (sym (without_last file place ∙ first_below-first place first (repeat_among file (place + 1)) (SameColumns first place) least.within
          (λ k below. kept file place k (least.before k below) ∙ found.before k (omega arith))
          (begins file place first least.within least.passes (found.before first (omega arith)))))
      | inr more ↦ rw (le-leb other.first first more) (sym (without_last file place ∙ first_below-first place found.place (repeat_among file (place + 1)) (SameColumns other.first other.second) found.within
          (λ k below. kept file place k (least.before k (omega arith)) ∙ found.before k below)
          (stays file place found.place (SameColumns other.first other.second) found.is)))
    ]

pub repeats-known : (file : Contents) (place first : ℕ) (repeat : Option Repeat) (found : List ℕ → Option ℕ) → Finds file place found → found (packed (column_bit file place)) ≡ Some first
    → repeat_told repeat ≡ first_repeat file place → repeat_told (Some (earlier (record { first = first; second = place }) repeat)) ≡ first_repeat file (place + 1)
repeats-known file place first repeat found finds some told =
    repeats-known-inner file place first repeat (least_below-place place (tests file (column_bit file place)) first (sym (finds (column_bit file place)) ∙ some)) told

-- the whole file
pub repeats-all : (file : Contents) → first_repeat file (column_count file) ≡ same_fault file
unfolding same_fault
repeats-all file = refl

-- a look-up among all columns is a match
pub Finds-all : (file : Contents) (found : List ℕ → Option ℕ) (bit : ℕ → Bool) → Finds file (column_count file) found → found (packed bit) ≡ match_of file (column_from bit)
unfolding match_of
Finds-all file found bit finds = finds bit
