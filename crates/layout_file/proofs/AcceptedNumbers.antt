-- What is known of numbers that aren't refused.
use Rattle.std.proofs.Common.{◌≡◌, ℕ, ◌<◌, ◌≤◌, Bool, true, false, List, [], ◌∷◌, ◌++◌, length, take, replicate, refl, arith}
use Rattle.std.specs.Prelude.{None, All, not, nat_le, nat_lt, ◌==◌, ◌&&◌}
use Rattle.std.proofs.lemmas.Bool.{and_parts, eqb-true, leb-true, ltb-true, not-false}
use Rattle.std.proofs.lemmas.List.Elements.{All-nil, All-cons, All-from_get_or}
use Rattle.std.proofs.Math.Seq.{take-append_seam}
use Rattle.plane_map.proofs.Layouts.{cram_width-below}
use Rattle.index_search.specs.Places.{or_else}
use Rattle.index_search.proofs.Found.{or_else-first, or_else-other}
use Rattle.plane_map.specs.declared.device.DeviceName.{DeviceName}
use Rattle.plane_map.specs.Layout.{are_below, are_distinct, are_places, are_wide, are_widths, cram_width, half_width, start_in}
use Rattle.layout_file.specs.declared.field.Numbers.{Numbers}
use Rattle.layout_file.specs.declared.fault.LayoutCause.{LayoutCause}
use Rattle.layout_file.specs.declared.fault.LayoutCause.TheVariants.{Statement, Repeated}
use Rattle.layout_file.specs.declared.section.Section.{Section as Part}
use Rattle.layout_file.specs.Faults.{cause_if, count_of, numbers_cause}
use Rattle.layout_file.specs.inside.Reading.{has_numbers, numbers_refusal}
use Rattle.layout_file.proofs.ReadWidths.{width-within}

-- if there is no cause its test fails
pub no-cause : (test : Bool) (cause : LayoutCause) → cause_if test cause ≡ None → test ≡ false
no-cause true cause none = absurd cc
no-cause false cause none = refl

pub no-cause-not : (test : Bool) (cause : LayoutCause) → cause_if (not test) cause ≡ None → test ≡ true
no-cause-not test cause none = not-false test (no-cause (not test) cause none)

pub record IsAccepted (section : Part) (field : Numbers) (numbers : List ℕ) : Type 0 where
  pub count : length numbers ≡ count_of section.layout.device field
  pub fit : numbers_cause section.layout.device field numbers ≡ None

-- numbers that a section doesn't refuse
pub accepted : (section : Part) (field : Numbers) (numbers : List ℕ) → numbers_refusal section field numbers ≡ None → IsAccepted section field numbers
accepted section field numbers none =
    let first = cause_if (not (length numbers == count_of section.layout.device field)) Statement in
    let second = cause_if (has_numbers section.given field) Repeated in
    let third = numbers_cause section.layout.device field numbers in
    record {
      count = eqb-true (length numbers) (count_of section.layout.device field)
          (no-cause-not (length numbers == count_of section.layout.device field) Statement (or_else-first first (or_else second third) none));
      fit = or_else-other second third (or_else-other first (or_else second third) none);
    }

-- numbers below a bound
below-bytes : (bound : ℕ) (numbers : List ℕ) → are_below bound numbers ≡ true → bound ≤ 256 → All (λ number. number < 256) numbers
below-bytes bound [] all small = All-nil (λ number. number < 256)
below-bytes bound (number ∷ numbers) all small =
    let parts = and_parts (nat_lt number bound) (are_below bound numbers) all in
    let first : number < bound = ltb-true number bound parts.0 in
    let here : number < 256 = omega arith in
    All-cons (λ number. number < 256) number numbers here (below-bytes bound numbers parts.1 small)

pub places-bytes : (count bound : ℕ) (numbers : List ℕ) → are_places count bound numbers ≡ true → bound ≤ 256 → All (λ number. number < 256) numbers
places-bytes count bound numbers places small =
    below-bytes bound numbers (and_parts ((length numbers == count) && are_distinct numbers) (are_below bound numbers) places).1 small

-- widths for which a plane has room
pub widths-small : (device : DeviceName) (widths : List ℕ) → are_widths device widths ≡ true → All (λ width. width < 65536) widths
widths-small device widths good =
    let half = half_width device in
    let parts = and_parts ((length widths == half) && are_wide device widths half) (nat_le (start_in widths half) (cram_width device)) good in
    let count : length widths ≡ half = eqb-true (length widths) half (and_parts (length widths == half) (are_wide device widths half) parts.0).0 in
    let room : start_in widths half ≤ cram_width device = leb-true (start_in widths half) (cram_width device) parts.1 in
    All-from_get_or (λ width. width < 65536) widths 0 (λ k within.
    let below : k < half = omega (arith, count) in
    omega (arith, width-within widths half k below, room, cram_width-below device))

-- widths that were padded, cut to their number
pub widths-cut : (device : DeviceName) (widths padded : List ℕ) (zeros : ℕ) → are_widths device widths ≡ true → padded ≡ widths ++ replicate zeros 0
    → are_widths device (take (length widths) padded) ≡ true
widths-cut device widths padded zeros good is = rw (is, take-append_seam widths (replicate zeros 0)) good
