-- Planes of banks, and the bits at their places.
use Rattle.std.proofs.Common.{◌≡◌, ◌≢◌, ℕ, ◌<◌, Bool, List, [], length, set, sym, ap, ◌∙◌, subst, inl, inr, arith, length-set, get_or-set_same, get_or-set_other, ◌⊎◌, refl, replicate, ext_get_or, false}
use Rattle.std.proofs.lemmas.Bool.{cases_eq, cases_lt}
use Rattle.std.proofs.lemmas.List.{set_past, get_or_past, get_or-replicate}
use Rattle.bit_plane.proofs.Grids.{IsGrid-blank, bit_at-blank, same_grids, IsGrid-with_bit, bit_at-with_bit_same, bit_at-with_bit_other}
use Rattle.bit_plane.specs.Rows.{Rows, IsGrid, bit_at, with_bit, blank}
use Rattle.plane_map.specs.declared.tile.Place.{Place}
use Rattle.ice_image.specs.Configuration.{bank_rows, place_bit, with_bank, with_place_bit, AreBanks}

-- the bit that a place was given
pub place_bit-same : (width height : ℕ) (planes : List Rows) (at : Place) (bit : Bool) → AreBanks width height planes → at.bank < 4 → at.px < width → at.py < height → place_bit (with_place_bit planes at bit) at ≡ bit
place_bit-same width height planes at bit banks bank column row =
    let written : Rows = with_bit (bank_rows planes at.bank) at.px at.py bit in
    ap (λ rows. bit_at rows at.px at.py) (get_or-set_same planes at.bank written [] (omega (arith, banks.four))) ∙ bit_at-with_bit_same width height (bank_rows planes at.bank) at.px at.py bit (banks.grids at.bank bank) column row

-- a place is its bank, its column and its row
pub same_place : (a b : Place) → a.bank ≡ b.bank → a.px ≡ b.px → a.py ≡ b.py → a ≡ b
same_place a b bank column row =
    let at : ℕ → ℕ → ℕ → Place = λ bank px py. record { bank = bank; px = px; py = py } in
    ap (λ bank. at bank a.px a.py) bank ∙ ap (λ px. at b.bank px a.py) column ∙ ap (λ py. at b.bank b.px py) row

-- places in one bank differ in column or row
column_or_row : (a b : Place) → a ≢ b → a.bank ≡ b.bank → (a.px ≢ b.px) ⊎ (a.py ≢ b.py)
column_or_row a b apart bank =
    elim (cases_eq a.px b.px) [
      | inr ne ↦ inl ne
      | inl column ↦ inr (λ row. apart (same_place a b bank column row))
    ]

-- the bits at other places stay
pub place_bit-other : (planes : List Rows) (at other : Place) (bit : Bool) → other ≢ at → place_bit (with_place_bit planes at bit) other ≡ place_bit planes other
place_bit-other planes at other bit apart =
    let before : Rows = bank_rows planes at.bank in
    let written : Rows = with_bit before at.px at.py bit in
    elim (cases_eq other.bank at.bank) [
      | inr banks ↦ ap (λ rows. bit_at rows other.px other.py) (get_or-set_other planes at.bank other.bank written [] banks)
      | inl bank ↦ elim (cases_lt at.bank (length planes)) [
        | inl within ↦
            ap (λ bank. bit_at (bank_rows (set planes at.bank written) bank) other.px other.py) bank ∙ ap (λ rows. bit_at rows other.px other.py) (get_or-set_same planes at.bank written [] within) ∙ bit_at-with_bit_other before at.px at.py other.px other.py bit (column_or_row other at apart bank) ∙ ap (λ bank. bit_at (bank_rows planes bank) other.px other.py) (sym bank)
        | inr past ↦ ap (λ planes. place_bit planes other) (set_past planes at.bank written past)
      ]
    ]

-- planes with another plane of a bank are planes of the same size
pub AreBanks-with_bank : (width height : ℕ) (planes : List Rows) (bank : ℕ) (rows : Rows) → AreBanks width height planes → IsGrid width height rows → AreBanks width height (with_bank planes bank rows)
AreBanks-with_bank width height planes bank rows banks grid = record {
  four = length-set planes bank rows ∙ banks.four;
  grids = λ k within. elim (cases_eq k bank) [
    | inl e ↦ subst (λ (k : ℕ). IsGrid width height (bank_rows (set planes bank rows) k)) (sym e) (subst (IsGrid width height) (sym (get_or-set_same planes bank rows [] (omega (arith, banks.four)))) grid)
    | inr ne ↦ subst (IsGrid width height) (sym (get_or-set_other planes bank k rows [] ne)) (banks.grids k within)
  ];
}

-- planes with another bit at a place are planes of the same size
pub AreBanks-with_place_bit : (width height : ℕ) (planes : List Rows) (at : Place) (bit : Bool) → AreBanks width height planes → at.bank < 4 → at.py < height → AreBanks width height (with_place_bit planes at bit)
AreBanks-with_place_bit width height planes at bit banks bank row =
    AreBanks-with_bank width height planes at.bank (with_bit (bank_rows planes at.bank) at.px at.py bit) banks (IsGrid-with_bit width height (bank_rows planes at.bank) at.px at.py bit (banks.grids at.bank bank) row)

-- the planes of an image before anything is set
pub AreBanks-blank : (width height : ℕ) → AreBanks width height (replicate 4 (blank width height))
AreBanks-blank width height = record {
  four = refl;
  grids = λ bank within. subst (IsGrid width height) (sym (get_or-replicate 4 bank (blank width height) [] within)) (IsGrid-blank width height);
}

-- have no bit set
pub place_bit-blank : (width height : ℕ) (at : Place) → at.bank < 4 → place_bit (replicate 4 (blank width height)) at ≡ false
place_bit-blank width height at bank =
    ap (λ rows. bit_at rows at.px at.py) (get_or-replicate 4 at.bank (blank width height) [] bank) ∙ bit_at-blank width height at.px at.py

-- nor does a bank past them
pub place_bit-none : (width height : ℕ) (at : Place) → place_bit (replicate 4 (blank width height)) at ≡ false
place_bit-none width height at =
    elim (cases_lt at.bank 4) [
      | inl within ↦ place_bit-blank width height at within
      | inr past ↦ ap (λ rows. bit_at rows at.px at.py) (get_or_past (replicate 4 (blank width height)) at.bank [] past)
    ]

-- planes of one size with the same bits are the same
pub same_banks : (width height : ℕ) (a b : List Rows) → AreBanks width height a → AreBanks width height b → ((at : Place) → at.bank < 4 → at.px < width → at.py < height → place_bit a at ≡ place_bit b at) → a ≡ b
same_banks width height a b banks_a banks_b same =
    ext_get_or [] a b (banks_a.four ∙ sym banks_b.four) (λ bank inside.
    let within : bank < 4 = omega (arith, banks_a.four) in
    same_grids width height (bank_rows a bank) (bank_rows b bank) (banks_a.grids bank within) (banks_b.grids bank within) (λ x y column row.
    same (record { bank = bank; px = x; py = y }) within column row))
