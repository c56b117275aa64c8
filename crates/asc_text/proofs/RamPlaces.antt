-- A text that can be read has few RAMs: each stands at another place of the grid.
use Rattle.std.proofs.Common.{◌≡◌, ◌≢◌, ℕ, zero, suc, ◌+◌, ◌*◌, ◌<◌, ◌≤◌, Bool, true, false, ◌&&◌, ◌==◌, eqb, List, [], ◌∷◌, ◌++◌, length, refl, sym, ◌∙◌, subst, inl, inr, arith, append-nil}
use Rattle.std.specs.Prelude.{Option, Some, None, nat_lt}
use Rattle.std.specs.List.{list_any, IsDistinct}
use Rattle.std.specs.Cmp.{nat_eq_equiv}
use Rattle.std.proofs.lemmas.Bool.{cases_eq, cases_Bool, false≢true, lt-leb, eq-eqb, ne_eqb, eqb-true}
use Rattle.std.proofs.Math.Bool.{or-false}
use Rattle.std.proofs.lemmas.List.Folds.{list_any-append}
use Rattle.std.proofs.lemmas.Map.Keys.{IsDistinct-push}
use Rattle.std.proofs.lemmas.Map.Steps.{length-le_from_distinct_below}
use Rattle.index_search.specs.Places.{gathered_below, or_else}
use Rattle.text_lines.specs.Lines.{lines_of, line_at}
use Rattle.layout_file.specs.declared.layouts.Layouts.{Layouts}
use Rattle.plane_map.specs.Layout.{kind_of}
use Rattle.plane_map.specs.declared.device.DeviceName.{DeviceName}
use Rattle.plane_map.specs.declared.tile.TileKind.{TileKind}
use Rattle.plane_map.specs.declared.tile.TileKind.TheVariants.{RamB}
use Rattle.asc_text.specs.declared.statement.Statement.{Statement}
use Rattle.asc_text.specs.declared.statement.Statement.TheVariants.{Comment, Device, WarmBoot, FrequencyRange, NoSleep, Tile, RamData, ExtraBit, Symbol}
use Rattle.asc_text.specs.declared.fault.AscCause.{AscCause}
use Rattle.asc_text.specs.declared.fault.AscCause.TheVariants.{Repeated}
use Rattle.asc_text.specs.Statements.{begins_with_dot, statement_in}
use Rattle.asc_text.specs.Blocks.{depth_at, statement_at, device_before}
use Rattle.asc_text.specs.Faults.{asc_fault_of, cause_at, cause_if, kind_cause, is_repeated, names_ram, missing_device, unknown_device, tile_cause, extra_cause, setting_cause, statement_cause}
use Rattle.asc_text.proofs.Refusals.{in_grid}
use Rattle.asc_text.specs.Rams.{is_ram_data}
use Rattle.index_search.proofs.Found.{or_else-first, or_else-other, any_below-clear}
use Rattle.asc_text.proofs.RamLines.{fine}

-- ---- what stands at the statement of a RAM

-- the place in the largest grid of the RAM that a statement names
abbrev pub ram_place : Option Statement → List ℕ
ram_place (Some (RamData x y)) = (34 * y + x) ∷ []
ram_place statement = []

pub ram_place-one : (statement : Option Statement) → is_ram_data statement ≡ true → length (ram_place statement) ≡ 1
ram_place-one None is = absurd (false≢true is)
ram_place-one (Some Comment) is = absurd (false≢true is)
ram_place-one (Some (Device device)) is = absurd (false≢true is)
ram_place-one (Some (WarmBoot setting)) is = absurd (false≢true is)
ram_place-one (Some (FrequencyRange setting)) is = absurd (false≢true is)
ram_place-one (Some (NoSleep setting)) is = absurd (false≢true is)
ram_place-one (Some (Tile kind x y)) is = absurd (false≢true is)
ram_place-one (Some (RamData x y)) is = refl
ram_place-one (Some (ExtraBit bank x y)) is = absurd (false≢true is)
ram_place-one (Some (Symbol net)) is = absurd (false≢true is)

-- the places of all RAMs that the lines before a line name
abbrev pub ram_places : List (List ℕ) → ℕ → List ℕ
ram_places lines n = gathered_below n (λ k. ram_place (statement_at lines k))

-- the statement of a RAM in a text without a fault: within the grid, and the first of that RAM
record IsNew (lines : List (List ℕ)) (n x y : ℕ) : Type 0 where
  column : x < 34
  row : y < 34
  first : (k : ℕ) → k < n → names_ram x y (statement_at lines k) ≡ false

if-not : (test : Bool) (cause : AscCause) → cause_if test cause ≡ None → test ≡ false
if-not true cause none = absurd cc
if-not false cause none = refl

there : (device : DeviceName) (x y : ℕ) (kind : Option TileKind) → kind_of device x y ≡ kind → kind_cause kind RamB ≡ None → (x < 34) × (y < 34)
there device x y None is none = absurd cc
there device x y (Some kind) is none = in_grid device x y kind is

placed : (device : Option DeviceName) (x y : ℕ) → missing_device device (RamData x y) ≡ None → tile_cause device (RamData x y) ≡ None → (x < 34) × (y < 34)
placed None x y missing none = absurd cc
placed (Some device) x y missing none = there device x y (kind_of device x y) refl none

statement-new : (layouts : Layouts) (lines : List (List ℕ)) (n x y : ℕ) → statement_cause layouts lines n (Some (RamData x y)) ≡ None → IsNew lines n x y
statement-new layouts lines n x y none =
    let device = device_before lines n in
    let s = RamData x y in
    let last = or_else (extra_cause layouts device s) (setting_cause s) in
    let repeats = or_else (cause_if (is_repeated lines n s) Repeated) last in
    let tiles = or_else (tile_cause device s) repeats in
    let unknowns = or_else (unknown_device s) tiles in
    let missing = or_else-first (missing_device device s) unknowns none in
    let after_tiles = or_else-other (unknown_device s) tiles (or_else-other (missing_device device s) unknowns none) in
    let grid = placed device x y missing (or_else-first (tile_cause device s) repeats after_tiles) in
    let repeated = if-not (is_repeated lines n s) Repeated (or_else-first (cause_if (is_repeated lines n s) Repeated) last (or_else-other (tile_cause device s) repeats after_tiles)) in
    record { column = grid.0; row = grid.1; first = λ k below. any_below-clear n k (λ k. names_ram x y (statement_at lines k)) repeated below }

flat-from : (lines : List (List ℕ)) (n x y : ℕ) → statement_at lines n ≡ Some (RamData x y) → (depth_at lines n ≡ 0) × (statement_in (line_at lines n) ≡ Some (RamData x y))
unfolding statement_at
flat-from lines n x y is =
    elim (cases_Bool (depth_at lines n == 0)) [
      | inl flat ↦ (eqb-true (depth_at lines n) 0 flat, rw flat at is)
      | inr deep ↦ let none : None ≡ Some (RamData x y) = rw deep at is in absurd cc
    ]

dot-from : (line : List ℕ) (statement : Statement) → statement_in line ≡ Some statement → begins_with_dot line ≡ true
unfolding statement_in
dot-from line statement is =
    elim (cases_Bool (begins_with_dot line)) [
      | inl dot ↦ dot
      | inr other ↦ let none : None ≡ Some statement = rw other at is in absurd cc
    ]

fine-cause : (layouts : Layouts) (lines : List (List ℕ)) (n : ℕ) → cause_at layouts lines n ≡ None → depth_at lines n ≡ 0 → n < length lines → begins_with_dot (line_at lines n) ≡ true
    → statement_cause layouts lines n (statement_in (line_at lines n)) ≡ None
unfolding cause_at
fine-cause layouts lines n none flat within dot =
    let outside : nat_lt 0 (depth_at lines n) ≡ false = rw flat refl in
    rw (outside, lt-leb (length lines) n within, dot) at none

new-at : (layouts : Layouts) (text : List ℕ) (n x y : ℕ) → asc_fault_of layouts text ≡ None → n < length (lines_of text) → statement_at (lines_of text) n ≡ Some (RamData x y) → IsNew (lines_of text) n x y
new-at layouts text n x y none within is =
    let lines = lines_of text in
    let found = flat-from lines n x y is in
    let dot = dot-from (line_at lines n) (RamData x y) found.1 in
    let cause = fine-cause layouts lines n (fine layouts text n none (omega arith)) found.0 within dot in
    statement-new layouts lines n x y (rw found.1 at cause)

-- ---- all places

apart : (x y : ℕ) (statement : Option Statement) → x < 34 → y < 34 → ((v w : ℕ) → statement ≡ Some (RamData v w) → (v < 34) × (w < 34)) → names_ram x y statement ≡ false
    → list_any (eqb (34 * y + x)) (ram_place statement) ≡ false
apart x y None in_x in_y grid other = refl
apart x y (Some Comment) in_x in_y grid other = refl
apart x y (Some (Device device)) in_x in_y grid other = refl
apart x y (Some (WarmBoot setting)) in_x in_y grid other = refl
apart x y (Some (FrequencyRange setting)) in_x in_y grid other = refl
apart x y (Some (NoSleep setting)) in_x in_y grid other = refl
apart x y (Some (Tile kind v w)) in_x in_y grid other = refl
apart x y (Some (RamData v w)) in_x in_y grid other =
    let in_grid_too = grid v w refl in
    let differs : 34 * y + x ≢ 34 * w + v = λ e.
    let row : w ≡ y = omega (arith, in_grid_too.0) in
    let column : v ≡ x = omega arith in
    let yes : ((v == x) && (w == y)) ≡ true = rw (eq-eqb v x column, eq-eqb w y row) refl in
    false≢true (sym other ∙ yes) in
    rw (ne_eqb (34 * y + x) (34 * w + v) differs) refl
apart x y (Some (ExtraBit bank v w)) in_x in_y grid other = refl
apart x y (Some (Symbol net)) in_x in_y grid other = refl

any-none : (place n : ℕ) (given : ℕ → List ℕ) → ((k : ℕ) → k < n → list_any (eqb place) (given k) ≡ false) → list_any (eqb place) (gathered_below n given) ≡ false
unfolding gathered_below
any-none place zero given none = refl
any-none place (suc n) given none =
    list_any-append (eqb place) (gathered_below n given) (given n) ∙ rw (any-none place n given (λ k below. none k (omega arith)), none n (omega arith)) refl

-- distinct places within the grid
record AreApart (places : List ℕ) : Type 0 where
  distinct : IsDistinct eqb places
  few : (q : ℕ) → list_any (eqb q) places ≡ true → q < 1156

apart-nothing : AreApart []
unfolding IsDistinct
apart-nothing = record { distinct = tt; few = λ q is. absurd (false≢true is) }

few-push : (places : List ℕ) (place q : ℕ) → ((q : ℕ) → list_any (eqb q) places ≡ true → q < 1156) → place < 1156 → list_any (eqb q) (places ++ place ∷ []) ≡ true → q < 1156
few-push places place q few within is =
    elim (cases_eq q place) [
      | inl same ↦ omega arith
      | inr other ↦
          let split = sym (list_any-append (eqb q) places (place ∷ [])) ∙ is in
          let left : list_any (eqb q) places ≡ true = rw (ne_eqb q place other, or-false (list_any (eqb q) places)) at split in
          few q left
    ]

apart-other : (text : List ℕ) (n : ℕ) → AreApart (ram_places (lines_of text) n) → AreApart (ram_places (lines_of text) n ++ [])
apart-other text n before = subst AreApart (sym (append-nil (ram_places (lines_of text) n))) before

apart-more : (layouts : Layouts) (text : List ℕ) (n : ℕ) (statement : Option Statement) → asc_fault_of layouts text ≡ None → n < length (lines_of text) → statement_at (lines_of text) n ≡ statement
    → AreApart (ram_places (lines_of text) n) → AreApart (ram_places (lines_of text) n ++ ram_place statement)
apart-more layouts text n None none within is before = apart-other text n before
apart-more layouts text n (Some Comment) none within is before = apart-other text n before
apart-more layouts text n (Some (Device device)) none within is before = apart-other text n before
apart-more layouts text n (Some (WarmBoot setting)) none within is before = apart-other text n before
apart-more layouts text n (Some (FrequencyRange setting)) none within is before = apart-other text n before
apart-more layouts text n (Some (NoSleep setting)) none within is before = apart-other text n before
apart-more layouts text n (Some (Tile kind x y)) none within is before = apart-other text n before
apart-more layouts text n (Some (RamData x y)) none within is before =
    let lines = lines_of text in
    let new = new-at layouts text n x y none within is in
    let never : list_any (eqb (34 * y + x)) (ram_places lines n) ≡ false = any-none (34 * y + x) n (λ k. ram_place (statement_at lines k)) (λ k below.
    apart x y (statement_at lines k) new.column new.row
    (λ v w there. let other = new-at layouts text k v w none (omega arith) there in (other.column, other.row)) (new.first k below)) in
    record {
      distinct = IsDistinct-push nat_eq_equiv (ram_places lines n) (34 * y + x) before.distinct never;
      few = λ q any. few-push (ram_places lines n) (34 * y + x) q before.few (omega (arith, new.column, new.row)) any;
    }
apart-more layouts text n (Some (ExtraBit bank x y)) none within is before = apart-other text n before
apart-more layouts text n (Some (Symbol net)) none within is before = apart-other text n before

all-apart : (layouts : Layouts) (text : List ℕ) (n : ℕ) → asc_fault_of layouts text ≡ None → n ≤ length (lines_of text) → AreApart (ram_places (lines_of text) n)
unfolding gathered_below
all-apart layouts text zero none within = apart-nothing
all-apart layouts text (suc n) none within = apart-more layouts text n (statement_at (lines_of text) n) none (omega arith) refl (all-apart layouts text n none (omega arith))

pub few-rams : (layouts : Layouts) (text : List ℕ) (n : ℕ) → asc_fault_of layouts text ≡ None → n ≤ length (lines_of text) → length (ram_places (lines_of text) n) ≤ 1156
few-rams layouts text n none within =
    let places = all-apart layouts text n none within in
    length-le_from_distinct_below (ram_places (lines_of text) n) 1156 places.distinct places.few
