-- A text that means an image has each of its bits as a character, a digit or a statement.
use Rattle.std.proofs.Common.{◌≡◌, ℕ, zero, suc, ◌+◌, ◌-◌, ◌/◌, ◌%◌, ◌<◌, ◌≤◌, Bool, true, false, not, ◌&&◌, ◌==◌, cond, List, [], length, refl, sym, ap, subst, ◌∙◌, inl, inr, ◌⊎◌, arith, Option, Some, None}
use Rattle.std.specs.Prelude.{nat_lt, Result, Ok, Err, IfOk}
use Rattle.std.proofs.lemmas.Bool.{cases_eq, eq-eqb, cases_lt, cases_Bool, and_parts, and_from, both_ways, ltb-true, lt-ltb, lt-leb, eqb-true}
use Rattle.std.proofs.lemmas.Bool.Decides.{nat_tests}
use Rattle.std.proofs.lemmas.List.{get_or_past}
use Rattle.text_lines.specs.Lines.{lines_of, line_at, trimmed}
use Rattle.index_search.specs.Places.{any_below, first_below, or_else}
use Rattle.index_search.proofs.Places.{any_below-at, any_below-place, least_below-first, first_below-sum}
use Rattle.index_search.proofs.Found.{or_else-first, or_else-other, any_below-clear, least_below-place, first_below-clear}
use Rattle.layout_file.specs.declared.layouts.Layouts.{Layouts}
use Rattle.layout_file.specs.Layouts.{layout_for, AreLayouts}
use Rattle.asc_text.proofs.Depths.{depth_after, depth-first, depth-step, depth_after-next}
use Rattle.plane_map.specs.Layout.{Layout, IsLayout, kind_of, IsTileBit, IsWordBit}
use Rattle.plane_map.specs.declared.device.DeviceName.{DeviceName}
use Rattle.plane_map.specs.declared.tile.TileKind.{TileKind}
use Rattle.plane_map.specs.declared.tile.TileKind.TheVariants.{Io, Logic, RamB, RamT}
use Rattle.plane_map.specs.declared.tile.Place.{Place}
use Rattle.plane_map.specs.declared.tile.TileBit.{TileBit}
use Rattle.plane_map.specs.declared.tile.WordBit.{WordBit}
use Rattle.ice_image.specs.Configuration.{Configuration, IsWhole}
use Rattle.ice_image.specs.Either.{configuration_of}
use Rattle.asc_text.specs.declared.statement.Statement.{Statement}
use Rattle.asc_text.specs.declared.statement.Statement.TheVariants.{Tile, RamData, ExtraBit}
use Rattle.asc_text.specs.declared.fault.AscCause.{AscCause}
use Rattle.asc_text.specs.declared.fault.AscCause.TheVariants.{Kind, Repeated, Hex}
use Rattle.asc_text.specs.declared.fault.TileXy.{TileXy}
use Rattle.asc_text.specs.declared.fault.AscFault.{AscFault}
use Rattle.ice_image.specs.declared.any.AnyImage.{AnyImage}
use Rattle.asc_text.specs.declared.file.Symbol.{Symbol as NetName}
use Rattle.asc_text.specs.Statements.{statement_in, begins_with_dot}
use Rattle.asc_text.specs.Rows.{row_bit, memory_bit, is_memory_line}
use Rattle.asc_text.specs.Blocks.{has_rows, depth_at, statement_over, statement_at, device_in, device_before}
use Rattle.asc_text.specs.Faults.{cause_if, is_same_kind, kind_cause, tile_cause, missing_device, unknown_device, stands_before, names_tile, names_ram, statement_cause, cause_at, fault_at, fault_with, asc_fault_of}
use Rattle.asc_text.specs.Meaning.{row_sets, line_sets, sets_bit, is_set_before, comment_before, settings_before, image_before, image_for, asc_image_of, AscMeans}
use Rattle.asc_text.specs.Characters.{tile_statement, ram_statement, character_below, character_of, names_extra, is_named_extra, digit_bit_below, digit_bit_of, is_said, HasBits}
use Rattle.ice_image.specs.Bits.{Bit, OfTile, OfWord, Extra, IsBit, image_from}
use Rattle.ice_image.proofs.Bits.{image_from-bit}

-- ---- tests and values

-- tests that pass together are one
same_test : (a b : Bool) → (a ≡ true → b ≡ true) → (b ≡ true → a ≡ true) → a ≡ b
same_test true b there back = sym (there refl)
same_test false true there back = back refl
same_test false false there back = refl

-- a first value stays the first
first_below-later : {A : Type 0} (n m : ℕ) (given : ℕ → Option A) (value : A) → first_below n given ≡ Some value → n ≤ m → first_below m given ≡ Some value
first_below-later n m given value is within =
    let more : n + (m - n) ≡ m = omega arith in
    ap (λ k. first_below k given) (sym more) ∙ first_below-sum n (m - n) given ∙ ap (λ v. or_else v (first_below (m - n) (λ k. given (n + k)))) is

-- ---- where a line stands

-- a line that is among some: the first of them, or one deeper
depth_after-some : (depth new : ℕ) (opens : Bool) → depth_after depth opens ≡ new → 0 < new
    → ((depth ≡ 0) × (opens ≡ true) × (new ≡ 1)) ⊎ ((0 < depth) × (depth ≡ 16 → ⊥) × (new ≡ depth + 1))
depth_after-some depth new opens is some =
    elim (cases_eq depth 0) [
      | inl outside ↦
          let first : cond opens 1 0 ≡ new = rw outside at is in
          elim (cases_Bool opens) [
            | inl open_is ↦ inl (outside, open_is, sym (rw open_is at first))
            | inr closed ↦ absurd (omega (arith, rw closed at first))
          ]
      | inr inside ↦ inr (omega arith, λ last. grind (arith, nat_tests), grind (arith, nat_tests))
    ]

-- a line among the sixteen of a statement, at that depth
record Under (lines : List (List ℕ)) (k depth : ℕ) : Type 0 where
  within : depth ≤ k
  few : depth ≤ 16
  top : depth_at lines (k - depth) ≡ 0
  opens : has_rows (statement_in (line_at lines (k - depth))) ≡ true

-- a line at some depth is one
under : (lines : List (List ℕ)) (k depth : ℕ) → depth_at lines k ≡ depth → 0 < depth → Under lines k depth
under lines zero depth is some = absurd (omega (arith, depth-first lines))
under lines (suc k) depth is some =
    elim (depth_after-some (depth_at lines k) depth (has_rows (statement_in (line_at lines k))) (sym (depth-step lines k) ∙ is) some) [
      | inl first ↦
          let back : suc k - depth ≡ k = omega (arith, first.2) in
          record { within = omega (arith, first.2); few = omega (arith, first.2); top = ap (depth_at lines) back ∙ first.0; opens = ap (λ h. has_rows (statement_in (line_at lines h))) back ∙ first.1 }
      | inr deeper ↦
          let above = under lines k (depth_at lines k) refl deeper.0 in
          let back : suc k - depth ≡ k - depth_at lines k = omega (arith, deeper.2) in
          record {
            within = omega (arith, above.within, deeper.2);
            few = absurd_or_few (depth_at lines k) depth above.few deeper.1 deeper.2;
            top = ap (depth_at lines) back ∙ above.top;
            opens = ap (λ h. has_rows (statement_in (line_at lines h))) back ∙ above.opens;
          }
    ]
  where
    absurd_or_few : (d depth : ℕ) → d ≤ 16 → (d ≡ 16 → ⊥) → depth ≡ d + 1 → depth ≤ 16
    absurd_or_few d depth few other next = elim (cases_eq d 16) [
      | inl last ↦ absurd (other last)
      | inr before ↦ omega arith
    ]

-- the sixteen lines below a statement
below : (lines : List (List ℕ)) (h r : ℕ) → depth_at lines h ≡ 0 → has_rows (statement_in (line_at lines h)) ≡ true → r < 16 → depth_at lines (h + suc r) ≡ suc r
below lines h zero top opens within =
    let next : h + 1 ≡ suc h = omega arith in
    rw next (depth-step lines h ∙ (λ i. depth_after (top i) (opens i)))
below lines h (suc r) top opens within =
    let next : h + suc (suc r) ≡ suc (h + suc r) = omega arith in
    let before : depth_at lines (h + suc r) ≡ suc r = below lines h r top opens (omega arith) in
    rw next (depth-step lines (h + suc r) ∙ ap (λ depth. depth_after depth (has_rows (statement_in (line_at lines (h + suc r))))) before ∙ depth_after-next (suc r) _ (omega arith) within ∙ omega arith)

-- belong to it
over : (lines : List (List ℕ)) (h r : ℕ) → depth_at lines h ≡ 0 → has_rows (statement_in (line_at lines h)) ≡ true → r < 16 → statement_over lines (h + suc r) ≡ statement_in (line_at lines h)
unfolding statement_over
over lines h r top opens within =
    let back : h + suc r - suc r ≡ h = omega arith in
    ap (λ depth. statement_in (line_at lines (h + suc r - depth))) (below lines h r top opens within) ∙ ap (λ k. statement_in (line_at lines k)) back

-- a line that is a statement is among none of another
at_top : (lines : List (List ℕ)) (h : ℕ) (statement : Statement) → statement_at lines h ≡ Some statement → (depth_at lines h ≡ 0) × (statement_in (line_at lines h) ≡ Some statement)
unfolding statement_at
at_top lines h statement is =
    elim (cases_Bool (depth_at lines h == 0)) [
      | inl top ↦ (eqb-true _ _ top, rw top at is)
      | inr inside ↦
          let none : None ≡ Some statement = rw inside at is in
          absurd cc
    ]

-- and the other way round
top_at : (lines : List (List ℕ)) (h : ℕ) → depth_at lines h ≡ 0 → statement_at lines h ≡ statement_in (line_at lines h)
unfolding statement_at
top_at lines h top = rw top refl

-- a line at depth 0 belongs to itself
top_over : (lines : List (List ℕ)) (h : ℕ) → depth_at lines h ≡ 0 → statement_over lines h ≡ statement_in (line_at lines h)
unfolding statement_over
top_over lines h top =
    let back : h - 0 ≡ h = omega arith in
    ap (λ depth. statement_in (line_at lines (h - depth))) top ∙ ap (λ k. statement_in (line_at lines k)) back

-- ---- statements without a fault

-- no line is faulty, and the text names the device
record Accepted (layouts : Layouts) (lines : List (List ℕ)) (device : DeviceName) : Type 0 where
  fit : (k : ℕ) → k ≤ length lines → cause_at layouts lines k ≡ None
  names : device_before lines (length lines) ≡ Some device

-- a statement begins with a dot
dotted : (line : List ℕ) (statement : Statement) → statement_in line ≡ Some statement → begins_with_dot line ≡ true
unfolding statement_in
dotted line statement is =
    elim (cases_Bool (begins_with_dot line)) [
      | inl dot ↦ dot
      | inr other ↦
          let none : None ≡ Some statement = rw other at is in
          absurd cc
    ]

-- nothing is wrong with it
unfaulty : (layouts : Layouts) (lines : List (List ℕ)) (device : DeviceName) (h : ℕ) (statement : Statement) → Accepted layouts lines device → h < length lines → depth_at lines h ≡ 0 → statement_in (line_at lines h) ≡ Some statement
    → statement_cause layouts lines h (Some statement) ≡ None
unfolding cause_at
unfaulty layouts lines device h statement accepted within top said =
    let none = accepted.fit h (omega arith) in
    let dot = dotted (line_at lines h) statement said in
    let inside = lt-leb (length lines) h within in
    let none' : statement_cause layouts lines h (statement_in (line_at lines h)) ≡ None = rw (top, inside, dot) at none in
    ap (statement_cause layouts lines h) (sym said) ∙ none'

-- kinds that pass the test are one
same_kind : (there kind : TileKind) → is_same_kind there kind ≡ true → there ≡ kind
same_kind Io Io is = refl
same_kind Logic Logic is = refl
same_kind RamB RamB is = refl
same_kind RamT RamT is = refl
same_kind Io Logic is = absurd cc
same_kind Io RamB is = absurd cc
same_kind Io RamT is = absurd cc
same_kind Logic Io is = absurd cc
same_kind Logic RamB is = absurd cc
same_kind Logic RamT is = absurd cc
same_kind RamB Io is = absurd cc
same_kind RamB Logic is = absurd cc
same_kind RamB RamT is = absurd cc
same_kind RamT Io is = absurd cc
same_kind RamT Logic is = absurd cc
same_kind RamT RamB is = absurd cc

-- a test that gives no cause fails
no_cause : (test : Bool) (cause : AscCause) → cause_if test cause ≡ None → test ≡ false
no_cause true cause none = absurd cc
no_cause false cause none = refl

-- the tile that stands there is of the kind
no_kind_cause : (there : Option TileKind) (kind : TileKind) → kind_cause there kind ≡ None → there ≡ Some kind
no_kind_cause None kind none = absurd cc
no_kind_cause (Some there) kind none =
    let differs : not (is_same_kind there kind) ≡ false = no_cause (not (is_same_kind there kind)) (Kind there) none in
    elim (cases_Bool (is_same_kind there kind)) [
      | inl same ↦ ap (λ k. Some k) (same_kind there kind same)
      | inr other ↦
          let both : true ≡ false = rw other at differs in
          absurd cc
    ]

-- a device that is known before a line is the text's
one_device : (layouts : Layouts) (lines : List (List ℕ)) (device found : DeviceName) (h : ℕ) → Accepted layouts lines device → h < length lines → device_before lines h ≡ Some found → found ≡ device
unfolding device_before
one_device layouts lines device found h accepted within is =
    let later : first_below (length lines) (λ k. device_in (statement_at lines k)) ≡ Some found = first_below-later h (length lines) (λ k. device_in (statement_at lines k)) found is (omega arith) in
    let both : Some found ≡ Some device = sym later ∙ accepted.names in
    cc

-- what a tile's statement needs
tile_needs : (device : Option DeviceName) (repeated : Bool) (kind : TileKind) (x y : ℕ) (rest : Option AscCause)
    → or_else (missing_device device (Tile kind x y)) (or_else (unknown_device (Tile kind x y)) (or_else (tile_cause device (Tile kind x y)) (or_else (cause_if repeated Repeated) rest))) ≡ None
    → (found : DeviceName) × (device ≡ Some found) × (kind_of found x y ≡ Some kind) × (repeated ≡ false)
tile_needs None repeated kind x y rest none = absurd cc
tile_needs (Some device) repeated kind x y rest none = (
  device,
  refl,
  no_kind_cause (kind_of device x y) kind (or_else-first (kind_cause (kind_of device x y) kind) _ none),
  no_cause repeated Repeated (or_else-first (cause_if repeated Repeated) rest (or_else-other (kind_cause (kind_of device x y) kind) (or_else (cause_if repeated Repeated) rest) none)),
)

-- and one of a RAM's contents
ram_needs : (device : Option DeviceName) (repeated : Bool) (x y : ℕ) (rest : Option AscCause)
    → or_else (missing_device device (RamData x y)) (or_else (unknown_device (RamData x y)) (or_else (tile_cause device (RamData x y)) (or_else (cause_if repeated Repeated) rest))) ≡ None
    → (found : DeviceName) × (device ≡ Some found) × (kind_of found x y ≡ Some RamB) × (repeated ≡ false)
ram_needs None repeated x y rest none = absurd cc
ram_needs (Some device) repeated x y rest none = (
  device,
  refl,
  no_kind_cause (kind_of device x y) RamB (or_else-first (kind_cause (kind_of device x y) RamB) _ none),
  no_cause repeated Repeated (or_else-first (cause_if repeated Repeated) rest (or_else-other (kind_cause (kind_of device x y) RamB) (or_else (cause_if repeated Repeated) rest) none)),
)

-- a tile's statement stands first, and names a tile of its kind
tile_head : (layouts : Layouts) (lines : List (List ℕ)) (device : DeviceName) (h : ℕ) (kind : TileKind) (x y : ℕ) → Accepted layouts lines device → h < length lines → depth_at lines h ≡ 0 → statement_in (line_at lines h) ≡ Some (Tile kind x y)
    → (kind_of device x y ≡ Some kind) × (tile_statement lines x y ≡ Some h)
unfolding tile_statement
tile_head layouts lines device h kind x y accepted within top said =
    let test : ℕ → Bool = λ k. names_tile x y (statement_at lines k) in
    let needs = tile_needs (device_before lines h) (stands_before lines h (names_tile x y)) kind x y _ (unfaulty layouts lines device h (Tile kind x y) accepted within top said) in
    let same : needs.0 ≡ device = one_device layouts lines device needs.0 h accepted within needs.1 in
    let here : test h ≡ true = ap (names_tile x y) (top_at lines h top ∙ said) ∙ grind (arith, nat_tests) in
    (ap (λ d. kind_of d x y) (sym same) ∙ needs.2, least_below-first (length lines) h test within (λ j before. any_below-clear h j test needs.3 before) here)

-- and so does one of a RAM's contents
ram_head : (layouts : Layouts) (lines : List (List ℕ)) (device : DeviceName) (h x y : ℕ) → Accepted layouts lines device → h < length lines → depth_at lines h ≡ 0 → statement_in (line_at lines h) ≡ Some (RamData x y)
    → (kind_of device x y ≡ Some RamB) × (ram_statement lines x y ≡ Some h)
unfolding ram_statement
ram_head layouts lines device h x y accepted within top said =
    let test : ℕ → Bool = λ k. names_ram x y (statement_at lines k) in
    let needs = ram_needs (device_before lines h) (stands_before lines h (names_ram x y)) x y _ (unfaulty layouts lines device h (RamData x y) accepted within top said) in
    let same : needs.0 ≡ device = one_device layouts lines device needs.0 h accepted within needs.1 in
    let here : test h ≡ true = ap (names_ram x y) (top_at lines h top ∙ said) ∙ grind (arith, nat_tests) in
    (ap (λ d. kind_of d x y) (sym same) ∙ needs.2, least_below-first (length lines) h test within (λ j before. any_below-clear h j test needs.3 before) here)

-- a statement to which no lines belong is at depth 0
alone_top : (lines : List (List ℕ)) (k : ℕ) (statement : Option Statement) → statement_over lines k ≡ statement → has_rows statement ≡ false → depth_at lines k ≡ 0
unfolding statement_over
alone_top lines k statement is alone =
    elim (cases_eq (depth_at lines k) 0) [
      | inl top ↦ top
      | inr inside ↦
          let above = under lines k (depth_at lines k) refl (omega arith) in
          absurd (both_ways (has_rows statement) alone (ap has_rows (sym is) ∙ above.opens))
    ]

-- ---- bits of tiles

-- the line of a row below a statement belongs to it
row_index : (k depth : ℕ) → 0 < depth → depth ≤ k → k - depth + 1 + (depth - 1) ≡ k
row_index k depth some within = omega arith

-- a line that sets a bit of a tile has the bit's character
set_character : (layouts : Layouts) (lines : List (List ℕ)) (device : DeviceName) (bit : TileBit) (k : ℕ) (statement : Option Statement) → Accepted layouts lines device → k < length lines → statement_over lines k ≡ statement
    → sets_bit statement (depth_at lines k) (trimmed (line_at lines k)) (OfTile bit) ≡ true → character_of lines bit ≡ true
unfolding statement_over
set_character layouts lines device bit k (Some (Tile kind x y)) accepted within is sets =
    let depth = depth_at lines k in
    let line = trimmed (line_at lines k) in
    let parts = and_parts (row_sets x y (depth - 1) line (OfTile bit)) (nat_lt 0 depth) sets in
    let some : 0 < depth = ltb-true 0 depth parts.1 in
    let inner = and_parts ((x == bit.x) && (y == bit.y) && (depth - 1 == bit.row)) (row_bit line bit.col) parts.0 in
    let place = and_parts ((x == bit.x) && (y == bit.y)) (depth - 1 == bit.row) inner.0 in
    let grid = and_parts (x == bit.x) (y == bit.y) place.0 in
    let ex : bit.x ≡ x = sym (eqb-true _ _ grid.0) in
    let ey : bit.y ≡ y = sym (eqb-true _ _ grid.1) in
    let er : bit.row ≡ depth - 1 = sym (eqb-true _ _ place.1) in
    let above = under lines k depth refl some in
    let head = tile_head layouts lines device (k - depth) kind x y accepted (omega arith) above.top is in
    let index : k - depth + 1 + (depth - 1) ≡ k = row_index k depth some above.within in
    (λ i. character_below lines (tile_statement lines (ex i) (ey i)) (er i) bit.col)
    ∙ ap (λ place. character_below lines place (depth - 1) bit.col) head.1
    ∙ ap (λ n. row_bit (trimmed (line_at lines n)) bit.col) index
    ∙ inner.1
set_character layouts lines device bit k statement accepted within is sets = absurd cc

-- a statement that names a tile is one of a kind
named_tile : (x y : ℕ) (statement : Option Statement) → names_tile x y statement ≡ true → (kind : TileKind) × (statement ≡ Some (Tile kind x y))
named_tile x y (Some (Tile kind other_x other_y)) is =
    let parts = and_parts (other_x == x) (other_y == y) is in
    let same_x : other_x ≡ x = eqb-true _ _ parts.0 in
    let same_y : other_y ≡ y = eqb-true _ _ parts.1 in
    (kind, λ i. Some (Tile kind (same_x i) (same_y i)))
named_tile x y statement is = absurd cc

-- a line past the last has no character
no_character : (lines : List (List ℕ)) (k col : ℕ) → length lines ≤ k → row_bit (trimmed (line_at lines k)) col ≡ true → ⊥
unfolding trimmed
no_character lines k col past is =
    let none : line_at lines k ≡ [] = get_or_past lines k [] past in
    let zero_is : row_bit (trimmed []) col ≡ true = ap (λ line. row_bit (trimmed line) col) (sym none) ∙ is in
    both_ways (row_bit [] col) (no_bit col) zero_is
  where
    no_bit : (col : ℕ) → row_bit [] col ≡ false
    no_bit zero = refl
    no_bit (suc col) = refl

-- a character 1 sets its bit
character_sets : (layouts : Layouts) (lines : List (List ℕ)) (device : DeviceName) (bit : TileBit) (found : Option ℕ) → Accepted layouts lines device → IsTileBit device bit → tile_statement lines bit.x bit.y ≡ found
    → character_below lines found bit.row bit.col ≡ true → is_set_before lines (length lines) (OfTile bit) ≡ true
unfolding tile_statement is_set_before
character_sets layouts lines device bit None accepted is_bit is reads = absurd cc
character_sets layouts lines device bit (Some h) accepted is_bit is reads =
    let n = length lines in
    let facts = least_below-place n (λ k. names_tile bit.x bit.y (statement_at lines k)) h is in
    let named = named_tile bit.x bit.y (statement_at lines h) facts.passes in
    let kind : TileKind = named.0 in
    let top = at_top lines h (Tile kind bit.x bit.y) named.1 in
    let opens : has_rows (statement_in (line_at lines h)) ≡ true = ap has_rows top.1 in
    let k : ℕ = h + suc bit.row in
    let index : h + 1 + bit.row ≡ k = omega arith in
    let here : row_bit (trimmed (line_at lines k)) bit.col ≡ true = ap (λ p. row_bit (trimmed (line_at lines p)) bit.col) (sym index) ∙ reads in
    let deep : depth_at lines k ≡ suc bit.row = below lines h bit.row top.0 opens is_bit.row_in in
    let said : statement_over lines k ≡ Some (Tile kind bit.x bit.y) = over lines h bit.row top.0 opens is_bit.row_in ∙ top.1 in
    let line = trimmed (line_at lines k) in
    let back : suc bit.row - 1 ≡ bit.row = omega arith in
    let row : row_sets bit.x bit.y (suc bit.row - 1) line (OfTile bit) ≡ true =
    and_from ((bit.x == bit.x) && (bit.y == bit.y) && (suc bit.row - 1 == bit.row)) (row_bit line bit.col)
    (and_from ((bit.x == bit.x) && (bit.y == bit.y)) (suc bit.row - 1 == bit.row) (and_from (bit.x == bit.x) (bit.y == bit.y) (eq-eqb bit.x bit.x refl) (eq-eqb bit.y bit.y refl)) (eq-eqb (suc bit.row - 1) bit.row back)) here
    in
    let sets : sets_bit (Some (Tile kind bit.x bit.y)) (suc bit.row) line (OfTile bit) ≡ true = and_from (row_sets bit.x bit.y (suc bit.row - 1) line (OfTile bit)) (nat_lt 0 (suc bit.row)) row (lt-ltb 0 (suc bit.row) (omega arith)) in
    elim (cases_lt k n) [
      | inl within ↦ any_below-at n k (λ k. sets_bit (statement_over lines k) (depth_at lines k) (trimmed (line_at lines k)) (OfTile bit)) within ((λ i. sets_bit (said i) (deep i) line (OfTile bit)) ∙ sets)
      | inr past ↦ absurd (no_character lines k bit.col past here)
    ]

-- a bit of a tile is set exactly if its character is 1
tile_bits : (layouts : Layouts) (lines : List (List ℕ)) (device : DeviceName) (bit : TileBit) → Accepted layouts lines device → IsTileBit device bit → is_set_before lines (length lines) (OfTile bit) ≡ character_of lines bit
unfolding is_set_before
tile_bits layouts lines device bit accepted is_bit =
    same_test (is_set_before lines (length lines) (OfTile bit)) (character_of lines bit)
    (λ set.
    let found = any_below-place (length lines) (λ k. sets_bit (statement_over lines k) (depth_at lines k) (trimmed (line_at lines k)) (OfTile bit)) set in
    set_character layouts lines device bit found.0 (statement_over lines found.0) accepted found.1 refl found.2)
    (λ reads. character_sets layouts lines device bit (tile_statement lines bit.x bit.y) accepted is_bit refl reads)

-- ---- extra bits

-- a line that sets an extra bit is its statement
set_extra : (lines : List (List ℕ)) (at : Place) (k : ℕ) (statement : Option Statement) → statement_over lines k ≡ statement
    → sets_bit statement (depth_at lines k) (trimmed (line_at lines k)) (Extra at) ≡ true → names_extra at (statement_at lines k) ≡ true
set_extra lines at k (Some (ExtraBit bank x y)) is sets =
    let top : depth_at lines k ≡ 0 = alone_top lines k (Some (ExtraBit bank x y)) is refl in
    ap (names_extra at) (top_at lines k top ∙ sym (top_over lines k top) ∙ is) ∙ sets
set_extra lines at k statement is sets = absurd cc

-- a statement of an extra bit sets it
extra_set : (lines : List (List ℕ)) (at : Place) (k : ℕ) (statement : Option Statement) → statement_at lines k ≡ statement → names_extra at statement ≡ true
    → sets_bit (statement_over lines k) (depth_at lines k) (trimmed (line_at lines k)) (Extra at) ≡ true
extra_set lines at k (Some (ExtraBit bank x y)) is names =
    let top = at_top lines k (ExtraBit bank x y) is in
    ap (λ statement. sets_bit statement (depth_at lines k) (trimmed (line_at lines k)) (Extra at)) (top_over lines k top.0 ∙ top.1) ∙ names
extra_set lines at k statement is names = absurd cc

-- an extra bit is set exactly if a statement names it
extra_bits : (lines : List (List ℕ)) (at : Place) → is_set_before lines (length lines) (Extra at) ≡ is_named_extra lines at
unfolding is_set_before is_named_extra
extra_bits lines at =
    let n = length lines in
    let sets : ℕ → Bool = λ k. sets_bit (statement_over lines k) (depth_at lines k) (trimmed (line_at lines k)) (Extra at) in
    let names : ℕ → Bool = λ k. names_extra at (statement_at lines k) in
    same_test (any_below n sets) (any_below n names)
    (λ set.
    let found = any_below-place n sets set in
    any_below-at n found.0 names found.1 (set_extra lines at found.0 (statement_over lines found.0) refl found.2))
    (λ named.
    let found = any_below-place n names named in
    any_below-at n found.0 sets found.1 (extra_set lines at found.0 (statement_at lines found.0) refl found.2))

-- ---- bits of words

-- a line that sets a bit of a word has the bit among its digits
set_digit : (layouts : Layouts) (lines : List (List ℕ)) (device : DeviceName) (at : WordBit) (k : ℕ) (statement : Option Statement) → Accepted layouts lines device → k < length lines → statement_over lines k ≡ statement
    → sets_bit statement (depth_at lines k) (trimmed (line_at lines k)) (OfWord at) ≡ true → digit_bit_of lines at ≡ true
unfolding statement_over
set_digit layouts lines device at k (Some (RamData x y)) accepted within is sets =
    let depth = depth_at lines k in
    let line = trimmed (line_at lines k) in
    let parts = and_parts (line_sets x y (depth - 1) line (OfWord at)) (nat_lt 0 depth) sets in
    let some : 0 < depth = ltb-true 0 depth parts.1 in
    let inner = and_parts ((x == at.x) && (y == at.y) && (depth - 1 == at.word / 16)) (memory_bit line (at.word % 16) at.bit) parts.0 in
    let place = and_parts ((x == at.x) && (y == at.y)) (depth - 1 == at.word / 16) inner.0 in
    let grid = and_parts (x == at.x) (y == at.y) place.0 in
    let ex : at.x ≡ x = sym (eqb-true _ _ grid.0) in
    let ey : at.y ≡ y = sym (eqb-true _ _ grid.1) in
    let row : at.word / 16 ≡ depth - 1 = sym (eqb-true _ _ place.1) in
    let above = under lines k depth refl some in
    let head = ram_head layouts lines device (k - depth) x y accepted (omega arith) above.top is in
    let line_is : k - depth + 1 + at.word / 16 ≡ k = omega (arith, row, some, above.within) in
    (λ i. digit_bit_below lines (ram_statement lines (ex i) (ey i)) at.word at.bit)
    ∙ ap (λ p. digit_bit_below lines p at.word at.bit) head.1
    ∙ ap (λ n. memory_bit (trimmed (line_at lines n)) (at.word % 16) at.bit) line_is
    ∙ inner.1
set_digit layouts lines device at k statement accepted within is sets = absurd cc

-- a statement that names a RAM
named_ram : (x y : ℕ) (statement : Option Statement) → names_ram x y statement ≡ true → statement ≡ Some (RamData x y)
named_ram x y (Some (RamData other_x other_y)) is =
    let parts = and_parts (other_x == x) (other_y == y) is in
    let same_x : other_x ≡ x = eqb-true _ _ parts.0 in
    let same_y : other_y ≡ y = eqb-true _ _ parts.1 in
    λ i. Some (RamData (same_x i) (same_y i))
named_ram x y statement is = absurd cc

-- a missing line has no digits
short_memory : is_memory_line (trimmed []) ≡ false
unfolding is_memory_line trimmed
short_memory = refl

-- the lines of the contents of a RAM are there
ram_within : (layouts : Layouts) (lines : List (List ℕ)) (device : DeviceName) (h x y row : ℕ) → Accepted layouts lines device → h < length lines → depth_at lines h ≡ 0 → statement_in (line_at lines h) ≡ Some (RamData x y) → row < 16
    → h + suc row < length lines
unfolding cause_at
ram_within layouts lines device h x y row accepted here top said row_in =
    elim (cases_lt (h + suc row) (length lines)) [
      | inl within ↦ within
      | inr past ↦
          let n = length lines in
          let r : ℕ = n - suc h in
          let last : h + suc r ≡ n = omega arith in
          let r_in : r < 16 = omega arith in
          let opens : has_rows (statement_in (line_at lines h)) ≡ true = ap has_rows said in
          let deep : depth_at lines n ≡ suc r = ap (depth_at lines) (sym last) ∙ below lines h r top opens r_in in
          let says : statement_over lines n ≡ Some (RamData x y) = ap (statement_over lines) (sym last) ∙ over lines h r top opens r_in ∙ said in
          let empty : line_at lines n ≡ [] = get_or_past lines n [] (omega arith) in
          let some : nat_lt 0 (suc r) ≡ true = lt-ltb 0 (suc r) (omega arith) in
          let none : Some Hex ≡ None = rw (deep, some, says, empty, short_memory) at (accepted.fit n (omega arith)) in
          absurd cc
    ]

-- a bit among the digits of a word is set
digit_sets : (layouts : Layouts) (lines : List (List ℕ)) (device : DeviceName) (at : WordBit) (found : Option ℕ) → Accepted layouts lines device → IsWordBit device at → ram_statement lines at.x at.y ≡ found
    → digit_bit_below lines found at.word at.bit ≡ true → is_set_before lines (length lines) (OfWord at) ≡ true
unfolding ram_statement is_set_before
digit_sets layouts lines device at None accepted is_bit is reads = absurd cc
digit_sets layouts lines device at (Some h) accepted is_bit is reads =
    let n = length lines in
    let facts = least_below-place n (λ k. names_ram at.x at.y (statement_at lines k)) h is in
    let named = named_ram at.x at.y (statement_at lines h) facts.passes in
    let top = at_top lines h (RamData at.x at.y) named in
    let opens : has_rows (statement_in (line_at lines h)) ≡ true = ap has_rows top.1 in
    let row : ℕ = at.word / 16 in
    let index : ℕ = at.word % 16 in
    let row_in : row < 16 = omega (arith, is_bit.word_in) in
    let k : ℕ = h + suc row in
    let line_is : h + 1 + row ≡ k = omega arith in
    let line = trimmed (line_at lines k) in
    let here : memory_bit line index at.bit ≡ true = ap (λ p. memory_bit (trimmed (line_at lines p)) index at.bit) (sym line_is) ∙ reads in
    let deep : depth_at lines k ≡ suc row = below lines h row top.0 opens row_in in
    let said : statement_over lines k ≡ Some (RamData at.x at.y) = over lines h row top.0 opens row_in ∙ top.1 in
    let back : suc row - 1 ≡ row = omega arith in
    let line_here : line_sets at.x at.y (suc row - 1) line (OfWord at) ≡ true =
    and_from ((at.x == at.x) && (at.y == at.y) && (suc row - 1 == row)) (memory_bit line index at.bit)
    (and_from ((at.x == at.x) && (at.y == at.y)) (suc row - 1 == row) (and_from (at.x == at.x) (at.y == at.y) (eq-eqb at.x at.x refl) (eq-eqb at.y at.y refl)) (eq-eqb (suc row - 1) row back)) here
    in
    let sets : sets_bit (Some (RamData at.x at.y)) (suc row) line (OfWord at) ≡ true = and_from (line_sets at.x at.y (suc row - 1) line (OfWord at)) (nat_lt 0 (suc row)) line_here (lt-ltb 0 (suc row) (omega arith)) in
    any_below-at n k (λ k. sets_bit (statement_over lines k) (depth_at lines k) (trimmed (line_at lines k)) (OfWord at)) (ram_within layouts lines device h at.x at.y row accepted facts.within top.0 top.1 row_in)
    ((λ i. sets_bit (said i) (deep i) line (OfWord at)) ∙ sets)

-- a bit of a word is set exactly if it is among the word's digits
word_bits : (layouts : Layouts) (lines : List (List ℕ)) (device : DeviceName) (at : WordBit) → Accepted layouts lines device → IsWordBit device at → is_set_before lines (length lines) (OfWord at) ≡ digit_bit_of lines at
unfolding is_set_before
word_bits layouts lines device at accepted is_bit =
    same_test (is_set_before lines (length lines) (OfWord at)) (digit_bit_of lines at)
    (λ set.
    let found = any_below-place (length lines) (λ k. sets_bit (statement_over lines k) (depth_at lines k) (trimmed (line_at lines k)) (OfWord at)) set in
    set_digit layouts lines device at found.0 (statement_over lines found.0) accepted found.1 refl found.2)
    (λ reads. digit_sets layouts lines device at (ram_statement lines at.x at.y) accepted is_bit refl reads)

-- ---- the whole

-- a bit is set exactly if the text says so
said_bits : (layouts : Layouts) (lines : List (List ℕ)) (layout : Layout) (bit : Bit) → Accepted layouts lines layout.device → IsBit layout bit → is_set_before lines (length lines) bit ≡ is_said lines bit
said_bits layouts lines layout (OfTile bit) accepted is = tile_bits layouts lines layout.device bit accepted is
said_bits layouts lines layout (OfWord bit) accepted is = word_bits layouts lines layout.device bit accepted is
said_bits layouts lines layout (Extra at) accepted is = extra_bits lines at

-- what the lines of an accepted text configure has their bits
accepted_bits : (layouts : Layouts) (text : List ℕ) (layout : Layout) → IsLayout layout → Accepted layouts (lines_of text) layout.device → HasBits text (image_before layout (lines_of text) (length (lines_of text)))
unfolding image_from
accepted_bits layouts text layout sound accepted =
    let lines = lines_of text in
    let n = length lines in
    record {
      bits = λ bit is. image_from-bit layout sound (comment_before lines n) (settings_before lines n) (is_set_before lines n) bit is ∙ said_bits layouts lines layout bit accepted is;
    }

-- a line that has no fault has no cause
no_fault : (cause : Option AscCause) (line : ℕ) (tile : Option TileXy) → fault_with cause line tile ≡ None → cause ≡ None
no_fault None line tile none = refl
no_fault (Some cause) line tile none = absurd cc

-- the same for the device that the lines name
configured_bits : (layouts : Layouts) (text : List ℕ) (image : Configuration) (found : Option DeviceName) → AreLayouts layouts → IsWhole image → device_before (lines_of text) (length (lines_of text)) ≡ found
    → ((k : ℕ) → k ≤ length (lines_of text) → cause_at layouts (lines_of text) k ≡ None) → image_for layouts found (lines_of text) ≡ Some image → HasBits text image
unfolding image_from
configured_bits layouts text image None are whole names fit is = absurd cc
configured_bits layouts text image (Some device) are whole names fit is =
    let layout = layout_for layouts device in
    let same : image_before layout (lines_of text) (length (lines_of text)) ≡ image = cc in
    let sound : IsLayout layout = subst IsLayout (ap (λ (c : Configuration). c.layout) (sym same)) whole.layout in
    subst (HasBits text) same (accepted_bits layouts text layout sound (record { fit = fit; names = names ∙ ap (λ d. Some d) (sym (are device)) }))

-- What a text means has each bit that the text says.
pub bits_of_text : (layouts : Layouts) (text : List ℕ) (image : Configuration) (symbols : List NetName) → AreLayouts layouts → IsWhole image → AscMeans layouts text image symbols → HasBits text image
unfolding asc_fault_of asc_image_of
bits_of_text layouts text image symbols are whole means =
    let lines = lines_of text in
    configured_bits layouts text image (device_before lines (length lines)) are whole refl
    (λ k within. no_fault (cause_at layouts lines k) (k + 1) _ (first_below-clear (length lines + 1) k (fault_at layouts lines) means.accepted (omega arith)))
    means.configures

-- the same of what is answered
pub answered_bits : (layouts : Layouts) (text : List ℕ) (symbols : List NetName) (r : Result AnyImage AscFault) → AreLayouts layouts → IfOk r (λ image. IsWhole (configuration_of image))
    → IfOk r (λ image. AscMeans layouts text (configuration_of image) symbols) → IfOk r (λ image. HasBits text (configuration_of image))
answered_bits layouts text symbols (Ok image) are whole means = bits_of_text layouts text (configuration_of image) symbols are whole means
answered_bits layouts text symbols (Err fault) are whole means = tt
