-- Runs of bits, read and written as words.
use Rattle.std.proofs.Common.{◌≡◌, ◌≢◌, ℕ, ◌+◌, ◌-◌, ◌^◌, ◌<◌, ◌≤◌, Bool, true, false, ◌||◌, bit_or, if◌then◌else◌, List, [], length, get_or, take, drop, refl, sym, ap, ◌∙◌, subst, inl, inr, arith, length-drop, length-take-le, get_or-take, get_or-drop, get_or-set_same, get_or-set_other}
use Rattle.std.proofs.lemmas.Bool.{cases_eq, cases_lt}
use Rattle.bit_plane.proofs.Made.{length-row_from, get_or-row_from}
use Rattle.bit_plane.proofs.Places.{get_or-placed, get_or-placed_before, get_or-placed_after}
use Rattle.bit_plane.proofs.Words.{get_or-word_bits, length-word_bits}
use Rattle.bit_plane.specs.BitList.{word_bits, word_of, placed}
use Rattle.bit_plane.specs.Rows.{Rows, row_at, bit_at, with_row, row_from}
use Rattle.plane_map.specs.declared.tile.Place.{Place}
use Rattle.plane_map.specs.declared.tile.Run.{Run}
use Rattle.plane_map.specs.Runs.{IsRunIn, run_place}
use Rattle.ice_image.specs.Bits.{number_bit}
use Rattle.ice_image.specs.Configuration.{bank_rows, place_bit, with_bank, AreBanks}
use Rattle.ice_image.specs.Written.{IsWritten, bit_of_word, gained_bit}
use Rattle.ice_image.proofs.BankBits.{same_place}
use Rattle.ice_image.proofs.Gained.{number_bit-or, number_bit-row}
use Rattle.ice_image.proofs.Made.{row_from-is, row_word-is, row_word-below}

-- ---- where bits of a run lie

-- bit k of a run as it stands in the row
abbrev pub in_run : Bool → ℕ → ℕ → ℕ
in_run backwards count k = if backwards then count - 1 - k else k

in_run-twice : (backwards : Bool) (count k : ℕ) → k < count → in_run backwards count (in_run backwards count k) ≡ k
in_run-twice true count k within = omega arith
in_run-twice false count k within = refl

in_run-below : (backwards : Bool) (count k : ℕ) → k < count → in_run backwards count k < count
in_run-below true count k within = omega arith
in_run-below false count k within = within

px-is : (backwards : Bool) (px count k : ℕ) → k < count → (if backwards then px + count - 1 - k else px + k) ≡ px + in_run backwards count k
px-is true px count k within = omega arith
px-is false px count k within = refl

-- its place
run_place-is : (run : Run) (count k : ℕ) → k < count → run_place run count k ≡ record { bank = run.bank; px = run.px + in_run run.backwards count k; py = run.py }
run_place-is run count k within = λ i. record { bank = run.bank; px = px-is run.backwards run.px count k within i; py = run.py }

-- ---- bits of a row

module _ (width height : ℕ) (planes : List Rows) (banks : AreBanks width height planes) (bank x y count : ℕ) (bank_in : bank < 4) (columns_in : x + count ≤ width) (row_in : y < height) where
  abbrev row : List Bool
  row = row_at (bank_rows planes bank) y

  wide : length row ≡ width
  wide = (banks.grids bank bank_in).width_is y row_in

  -- bits of a row by their places
  pub row_bits-is : take count (drop x row) ≡ row_from count (λ k. place_bit planes (record { bank = bank; px = x + k; py = y }))
  row_bits-is =
      sym (row_from-is count (λ k. place_bit planes (record { bank = bank; px = x + k; py = y })) (take count (drop x row)) (length-take-le count (drop x row) (omega (arith, length-drop x row, wide))) (λ k within.
      sym (get_or-take count (drop x row) k false within ∙ get_or-drop x row k false)))

  -- a bit of their word
  pub row_bit-is : (word k : ℕ) → k < count → word ≡ word_of (take count (drop x row)) → number_bit word k ≡ place_bit planes (record { bank = bank; px = x + k; py = y })
  row_bit-is word k within word_is =
      ap (λ n. number_bit n k) (word_is ∙ ap word_of row_bits-is) ∙ number_bit-row count (λ k. place_bit planes (record { bank = bank; px = x + k; py = y })) k within

  -- other bits in their place
  module _ (word : ℕ) where
    abbrev part : List Bool
    part = word_bits count word

    abbrev changed : List Rows
    changed = with_bank planes bank (with_row (bank_rows planes bank) y (placed x part row))

    changed_row : row_at (bank_rows changed bank) y ≡ placed x part row
    changed_row =
        ap (λ rows. row_at rows y) (get_or-set_same planes bank (with_row (bank_rows planes bank) y (placed x part row)) [] (omega (arith, banks.four)))
        ∙ get_or-set_same (bank_rows planes bank) y (placed x part row) [] (omega (arith, (banks.grids bank bank_in).height_is))

    -- a bit that was written
    pub changed-at : (k : ℕ) → k < count → place_bit changed (record { bank = bank; px = x + k; py = y }) ≡ number_bit word k
    changed-at k within =
        ap (λ row. get_or row (x + k) false) changed_row ∙ get_or-placed x k part row false (omega (arith, length-word_bits count word)) (omega (arith, wide)) ∙ get_or-word_bits count word k within

    -- each other bit
    pub changed-other : (at : Place) → ((k : ℕ) → k < count → record { bank = bank; px = x + k; py = y } ≢ at) → place_bit changed at ≡ place_bit planes at
    changed-other at apart =
        let rows = with_row (bank_rows planes bank) y (placed x part row) in
        elim (cases_eq at.bank bank) [
          | inr ne ↦ ap (λ rows. bit_at rows at.px at.py) (get_or-set_other planes bank at.bank rows [] ne)
          | inl same_bank ↦ elim (cases_eq at.py y) [
            | inr ne ↦
                ap (λ bank. bit_at (bank_rows changed bank) at.px at.py) same_bank
                ∙ ap (λ rows. bit_at rows at.px at.py) (get_or-set_same planes bank rows [] (omega (arith, banks.four)))
                ∙ ap (λ row. get_or row at.px false) (get_or-set_other (bank_rows planes bank) y at.py (placed x part row) [] ne)
                ∙ ap (λ bank. bit_at (bank_rows planes bank) at.px at.py) (sym same_bank)
            | inl same_row ↦
                let here : (planes : List Rows) → place_bit planes at ≡ get_or (row_at (bank_rows planes bank) y) at.px false = λ planes. (λ i. bit_at (bank_rows planes (same_bank i)) at.px (same_row i)) in
                here changed ∙ ap (λ row. get_or row at.px false) changed_row ∙ stays same_bank same_row ∙ sym (here planes)
          ]
        ]
      where
        stays : at.bank ≡ bank → at.py ≡ y → get_or (placed x part row) at.px false ≡ get_or row at.px false
        stays same_bank same_row = elim (cases_lt at.px x) [
          | inl before ↦ get_or-placed_before x at.px part row false before (omega (arith, wide))
          | inr from ↦ elim (cases_lt at.px (x + count)) [
            | inl within ↦ absurd (apart (at.px - x) (omega (arith, from)) (same_place (record { bank = bank; px = x + (at.px - x); py = y }) at (sym same_bank) (omega (arith, from)) (sym same_row)))
            | inr after ↦ get_or-placed_after x at.px part row false (omega (arith, after, length-word_bits count word)) (omega (arith, wide))
          ]
        ]

-- ---- runs

module _ (width height : ℕ) (planes : List Rows) (banks : AreBanks width height planes) (run : Run) (count : ℕ) (is : IsRunIn width height count run) where
  -- the word of a run, from that of its bits as they stand in the row
  pub run_word-is : (word turned : ℕ) → word ≡ word_of (take count (drop run.px (row_at (bank_rows planes run.bank) run.py)))
      → ((k : ℕ) → k < count → number_bit turned k ≡ number_bit word (in_run run.backwards count k)) → (word < 2 ^ count → turned < 2 ^ count)
      → turned ≡ word_of (row_from count (λ k. place_bit planes (run_place run count k)))
  run_word-is word turned word_is bits small =
      let bit : ℕ → Bool = λ k. place_bit planes (record { bank = run.bank; px = run.px + k; py = run.py }) in
      let read : word ≡ word_of (row_from count bit) = word_is ∙ ap word_of (row_bits-is width height planes banks run.bank run.px run.py count is.bank_in is.columns_in is.row_in) in
      sym (row_word-is count (λ k. place_bit planes (run_place run count k)) turned (small (row_word-below count bit word read)) (λ k within.
      let there : ℕ = in_run run.backwards count k in
      ap (place_bit planes) (run_place-is run count k within) ∙ sym (number_bit-row count bit there (in_run-below run.backwards count k within)) ∙ ap (λ n. number_bit n there) (sym read) ∙ sym (bits k within) ∙ sym (get_or-word_bits count turned k within)))

  -- a run with other bits, from the word of them as they stand in the row
  run-changed : (word : ℕ) (bit : ℕ → Bool) (after : List Rows) → ((k : ℕ) → k < count → number_bit word (in_run run.backwards count k) ≡ bit k)
      → after ≡ with_bank planes run.bank (with_row (bank_rows planes run.bank) run.py (placed run.px (word_bits count word) (row_at (bank_rows planes run.bank) run.py)))
      → IsWritten (run_place run count) bit count planes after
  run-changed word bit after bits after_is = subst (IsWritten (run_place run count) bit count planes) (sym after_is) (record {
    written = λ k within.
        let there : ℕ = in_run run.backwards count k in
        ap (place_bit (changed width height planes banks run.bank run.px run.py count is.bank_in is.columns_in is.row_in word)) (run_place-is run count k within)
        ∙ changed-at width height planes banks run.bank run.px run.py count is.bank_in is.columns_in is.row_in word there (in_run-below run.backwards count k within)
        ∙ bits k within;
    others = λ at apart. changed-other width height planes banks run.bank run.px run.py count is.bank_in is.columns_in is.row_in word at (λ k within e.
        let there : ℕ = in_run run.backwards count k in
        let inside = in_run-below run.backwards count k within in
        apart (there, inside, run_place-is run count there inside ∙ ap (λ k. record { bank = run.bank; px = run.px + k; py = run.py }) (in_run-twice run.backwards count k within) ∙ e));
  })

  -- the bits of a turned word
  turned-at : (word turned : ℕ) → ((k : ℕ) → k < count → number_bit turned k ≡ number_bit word (in_run run.backwards count k))
      → (k : ℕ) → k < count → number_bit turned (in_run run.backwards count k) ≡ number_bit word k
  turned-at word turned bits k within =
      bits (in_run run.backwards count k) (in_run-below run.backwards count k within) ∙ ap (number_bit word) (in_run-twice run.backwards count k within)

  -- a run with the bits of a word
  pub run-written : (word turned : ℕ) (after : List Rows) → ((k : ℕ) → k < count → number_bit turned k ≡ number_bit word (in_run run.backwards count k))
      → after ≡ with_bank planes run.bank (with_row (bank_rows planes run.bank) run.py (placed run.px (word_bits count turned) (row_at (bank_rows planes run.bank) run.py)))
      → IsWritten (run_place run count) (bit_of_word count word) count planes after
  run-written word turned after bits after_is =
      run-changed turned (bit_of_word count word) after (λ k within. turned-at word turned bits k within ∙ sym (get_or-word_bits count word k within)) after_is

  -- a run that gains the bits of a word
  pub run-gained : (word ones turned : ℕ) (after : List Rows) → word ≡ word_of (take count (drop run.px (row_at (bank_rows planes run.bank) run.py)))
      → ((k : ℕ) → k < count → number_bit turned k ≡ number_bit ones (in_run run.backwards count k))
      → after ≡ with_bank planes run.bank (with_row (bank_rows planes run.bank) run.py (placed run.px (word_bits count (bit_or word turned)) (row_at (bank_rows planes run.bank) run.py)))
      → IsWritten (run_place run count) (gained_bit (run_place run count) planes ones) count planes after
  run-gained word ones turned after word_is bits after_is =
      run-changed (bit_or word turned) (gained_bit (run_place run count) planes ones) after (λ k within.
      let there : ℕ = in_run run.backwards count k in
      let inside = in_run-below run.backwards count k within in
      let read : number_bit word there ≡ place_bit planes (run_place run count k) =
      row_bit-is width height planes banks run.bank run.px run.py count is.bank_in is.columns_in is.row_in word there inside word_is ∙ sym (ap (place_bit planes) (run_place-is run count k within)) in
      number_bit-or word turned there ∙ ap (λ b. b || number_bit turned there) read ∙ ap (λ b. place_bit planes (run_place run count k) || b) (turned-at ones turned bits k within)) after_is

-- the same bits at places that are given otherwise
pub written-at : (places others : ℕ → Place) (bits : ℕ → Bool) (count : ℕ) (before after : List Rows) → ((k : ℕ) → k < count → others k ≡ places k) → IsWritten places bits count before after → IsWritten others bits count before after
written-at places others bits count before after same all = record {
  written = λ k within. ap (place_bit after) (same k within) ∙ all.written k within;
  others = λ at apart. all.others at (λ h. apart (h.0, h.1, same h.0 h.1 ∙ h.2));
}

pub gained-at : (places others : ℕ → Place) (ones count : ℕ) (before after : List Rows) → ((k : ℕ) → k < count → others k ≡ places k)
    → IsWritten places (gained_bit places before ones) count before after → IsWritten others (gained_bit others before ones) count before after
gained-at places others ones count before after same all = record {
  written = λ k within. ap (place_bit after) (same k within) ∙ all.written k within ∙ ap (λ at. place_bit before at || number_bit ones k) (sym (same k within));
  others = λ at apart. all.others at (λ h. apart (h.0, h.1, same h.0 h.1 ∙ h.2));
}

-- and their word
pub word-at : (places others : ℕ → Place) (count : ℕ) (planes : List Rows) → ((k : ℕ) → k < count → others k ≡ places k)
    → word_of (row_from count (λ k. place_bit planes (places k))) ≡ word_of (row_from count (λ k. place_bit planes (others k)))
word-at places others count planes same =
    let bits : ℕ → Bool = λ k. place_bit planes (others k) in
    ap word_of (row_from-is count (λ k. place_bit planes (places k)) (row_from count bits) (length-row_from count bits) (λ k within. ap (place_bit planes) (sym (same k within)) ∙ sym (get_or-row_from count bits k within)))
