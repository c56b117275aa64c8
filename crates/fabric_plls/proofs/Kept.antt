-- Lines and PLLs, as they are kept and as the database says them.
use Rattle.std.proofs.Common.{◌≡◌, ℕ, ◌≤◌, Bool, true, false, ◌||◌, List, [], ◌∷◌, map, refl, ap, ◌∙◌, inl, inr, arith}
use Rattle.std.specs.Prelude.{◌==◌, ◌&&◌, All, None, bytes_eq, find}
use Rattle.std.specs.Option.{option_map}
use Rattle.std.specs.List.{list_any}
use Rattle.std.proofs.lemmas.Bool.{cases_Bool, and_parts, eqb-true}
use Rattle.std.proofs.lemmas.List.Elements.{All-head, All-tail}
use Rattle.plane_map.proofs.Grids.{grid_width-le, grid_height-le}
use Rattle.chipdb_lines.specs.declared.chip.Chip.{Chip}
use Rattle.chipdb_lines.specs.Items.{NameLine}
use Rattle.chipdb_reader.specs.declared.items.PllCell.{PllCell}
use Rattle.chipdb_reader.specs.Fit.{IsNameLine}
use Rattle.chipdb_reader.specs.Kept.{pll_line, pll_of}
use Rattle.chipdb_reader.specs.Lookups.{is_name_at, net_at}
use Rattle.fabric_model.specs.Plls.{is_line_of}
use Rattle.fabric_plls.specs.Plls.{has_line_of}

-- the first item that passes is made into the first that passes of those that are made
pub found-made : {A B : Type 0} (made : A → B) (test : B → Bool) (items : List A) → option_map made (find (λ item. test (made item)) items) ≡ find test (map made items)
found-made made test [] = refl
found-made made test (item ∷ items) =
    elim (cases_Bool (test (made item))) [
      | inl here ↦ rw here refl
      | inr away ↦ rw away (found-made made test items)
    ]

pub any-made : {A B : Type 0} (made : A → B) (test : B → Bool) (items : List A) → list_any (λ item. test (made item)) items ≡ list_any test (map made items)
any-made made test [] = refl
any-made made test (item ∷ items) = ap (λ b. test (made item) || b) (any-made made test items)

pub any-named : (x y : ℕ) (name : List ℕ) (plls : List PllCell) → list_any (has_line_of x y name) plls ≡ list_any (λ pll. list_any (is_line_of x y name) pll.lines) (map pll_of plls)
any-named x y name [] = refl
any-named x y name (pll ∷ plls) =
    ap (λ b. b || list_any (has_line_of x y name) plls) (any-made pll_line (is_line_of x y name) pll.lines.items)
    ∙ ap (λ b. list_any (is_line_of x y name) (pll_of pll).lines || b) (any-named x y name plls)

-- no name stands outside of the grid
none-beyond : (chip : Chip) (x y : ℕ) (name : List ℕ) (lines : List NameLine) → All (IsNameLine chip) lines → ((line : NameLine) → IsNameLine chip line → is_name_at x y name line ≡ false)
    → find (is_name_at x y name) lines ≡ None
none-beyond chip x y name [] all away = refl
none-beyond chip x y name (line ∷ lines) all away =
    rw (away line (All-head (IsNameLine chip) line lines all)) (none-beyond chip x y name lines (All-tail (IsNameLine chip) line lines all) away)

false-unless : (b : Bool) → (b ≡ true → true ≡ false) → b ≡ false
false-unless true other = other refl
false-unless false other = refl

pub none-right : (chip : Chip) (x y : ℕ) (name : List ℕ) (lines : List NameLine) → All (IsNameLine chip) lines → 256 ≤ x → net_at x y name lines ≡ None
unfolding net_at
none-right chip x y name lines all far =
    ap (option_map (λ line. line.net)) (none-beyond chip x y name lines all
    (λ line is. false-unless (is_name_at x y name line)
    (λ here. let at : line.x ≡ x = eqb-true line.x x (and_parts (line.x == x) ((line.y == y) && bytes_eq name line.name) here).0 in
    let low = grid_width-le chip.device in
    let in_grid = is.x_in in
    absurd (omega (arith, at, low, in_grid, far)))))

pub none-below : (chip : Chip) (x y : ℕ) (name : List ℕ) (lines : List NameLine) → All (IsNameLine chip) lines → 256 ≤ y → net_at x y name lines ≡ None
unfolding net_at
none-below chip x y name lines all far =
    ap (option_map (λ line. line.net)) (none-beyond chip x y name lines all
    (λ line is. false-unless (is_name_at x y name line)
    (λ here. let rest = (and_parts (line.x == x) ((line.y == y) && bytes_eq name line.name) here).1 in
    let at : line.y ≡ y = eqb-true line.y y (and_parts (line.y == y) (bytes_eq name line.name) rest).0 in
    let low = grid_height-le chip.device in
    let in_grid = is.y_in in
    absurd (omega (arith, at, low, in_grid, far)))))
