-- Places on a sheet lie as those on the chip.
use Rattle.std.proofs.Common.{◌≡◌, ℕ, zero, suc, ◌+◌, ◌<◌, ◌≤◌, ◌==◌, refl, arith, inl, inr}
use Rattle.std.proofs.lemmas.Bool.{cases_Bool}
use Rattle.plan_svg.specs.declared.sheet.Sheet.{Sheet}
use Rattle.plan_svg.specs.declared.sheet.Side.{Side}
use Rattle.plan_svg.specs.declared.sheet.Side.TheVariants as side
use Rattle.plan_svg.specs.Laws.{CellsLie, IsAt, LiesAsOnChip, PinsLie}
use Rattle.plan_svg.specs.Sheet.{cell_offset, pin_offset}

pub lies : (sheet : Sheet) → LiesAsOnChip sheet
lies sheet = record { columns = λ x. omega arith; rows = λ y low. omega arith }

beside : (i : ℕ) → i < 4 → (cell_offset (i + i)).x + 16 < (cell_offset (i + i + 1)).x × ((cell_offset (i + i)).y ≡ (cell_offset (i + i + 1)).y)
beside zero lt = (omega arith, refl)
beside (suc zero) lt = (omega arith, refl)
beside (suc (suc zero)) lt = (omega arith, refl)
beside (suc (suc (suc zero))) lt = (omega arith, refl)
beside (suc (suc (suc (suc i)))) lt = absurd (omega arith)

upwards : (i : ℕ) → i < 6 → (cell_offset (i + 2)).y + 7 < (cell_offset i).y × ((cell_offset i).x ≡ (cell_offset (i + 2)).x)
upwards i lt = (omega arith, omega arith)

inside : (i : ℕ) → i < 8 → ((cell_offset i).x + 16 ≤ 40) × ((cell_offset i).y + 7 ≤ 40)
inside i lt = (omega arith, omega arith)

pub cells-lie : CellsLie
cells-lie = record { beside = beside; upwards = upwards; inside = inside }

pins-inside : (to : Side) (n : ℕ) → ((pin_offset to n).x < 40) × ((pin_offset to n).y < 40)
pins-inside side.Left n =
    elim (cases_Bool (n == 0)) [
      | inl first ↦ rw first (omega arith, omega arith)
      | inr second ↦ rw second (omega arith, omega arith)
    ]
pins-inside side.Top n =
    elim (cases_Bool (n == 0)) [
      | inl first ↦ rw first (omega arith, omega arith)
      | inr second ↦ rw second (omega arith, omega arith)
    ]
pins-inside side.Right n =
    elim (cases_Bool (n == 0)) [
      | inl first ↦ rw first (omega arith, omega arith)
      | inr second ↦ rw second (omega arith, omega arith)
    ]
pins-inside side.Bottom n =
    elim (cases_Bool (n == 0)) [
      | inl first ↦ rw first (omega arith, omega arith)
      | inr second ↦ rw second (omega arith, omega arith)
    ]

pins-outward : (to : Side) (n : ℕ) → IsAt to (pin_offset to n)
pins-outward side.Left n =
    elim (cases_Bool (n == 0)) [
      | inl first ↦ rw first (omega arith)
      | inr second ↦ rw second (omega arith)
    ]
pins-outward side.Top n =
    elim (cases_Bool (n == 0)) [
      | inl first ↦ rw first (omega arith)
      | inr second ↦ rw second (omega arith)
    ]
pins-outward side.Right n =
    elim (cases_Bool (n == 0)) [
      | inl first ↦ rw first (omega arith)
      | inr second ↦ rw second (omega arith)
    ]
pins-outward side.Bottom n =
    elim (cases_Bool (n == 0)) [
      | inl first ↦ rw first (omega arith)
      | inr second ↦ rw second (omega arith)
    ]

pub pins-lie : PinsLie
pins-lie = record { inside = pins-inside; outward = pins-outward; at_left = omega arith; at_right = omega arith; at_top = omega arith; at_bottom = omega arith }
