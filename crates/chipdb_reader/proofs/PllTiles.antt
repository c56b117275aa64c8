-- Tiles of PLLs in their order, and PLLs by their tiles.
use Rattle.std.proofs.Common.{◌≡◌, ℕ, zero, suc, Bool, true, false, ◌||◌, ◌&&◌, cond, eqb, ltb, List, [], ◌∷◌, refl, sym, ap, ◌∙◌, inl, inr, subst}
use Rattle.std.specs.Prelude.{Some, None, All, map, fold, is_some}
use Rattle.std.specs.declared.cmp.Ordering.TheVariants.{Less, Equal, Greater}
use Rattle.std.specs.Ordering.{is_eq, match_ordering, nat_cmp, ordering_then}
use Rattle.std.specs.Cmp.{tied_then, unsigned_ties}
use Rattle.std.specs.List.{list_any}
use Rattle.std.specs.Map.{keys_of, lookup}
use Rattle.std.specs.BTreeMap.{insert_entry, is_at}
use Rattle.std.proofs.lemmas.Bool.{and_parts, cases_Bool, eqb-true}
use Rattle.std.proofs.lemmas.List.Elements.{All-nil, All-cons, All-head, All-tail}
use Rattle.std.proofs.lemmas.List.Folds.{list_any-append}
use Rattle.std.proofs.Math.Bool.{or-false, or_assoc, or_comm}
use Rattle.shared_lemmas.proofs.Numbers.{eqb-turned}
use Rattle.index_search.specs.Places.{any_below, gathered_below}
use Rattle.chipdb_lines.specs.Statements.{Block, passed, of_device, global_inputs, global_pins, functions, extra_bits, names, buffers, routings, pll}
use Rattle.chipdb_reader.specs.declared.items.PllCell.{PllCell}
use Rattle.chipdb_reader.specs.declared.plls.PllTile.{PllTile}
use Rattle.chipdb_reader.specs.Database.{begun_at, by_tile, is_pll, is_pll_before, is_tile_before, pll_tile_at, put_tile, tile_in}
use Rattle.chipdb_reader.specs.Plls.{tile_cmp, tile_xy}

-- whether two tiles are the same
abbrev pub is_same : ℕ × ℕ → ℕ × ℕ → Bool
is_same tile other = eqb other.0 tile.0 && eqb other.1 tile.1

abbrev pub has_tile : List (ℕ × ℕ) → ℕ × ℕ → Bool
has_tile tiles tile = list_any (is_same tile) tiles

-- ---- the order of tiles

order-by : {A : Type 0} (before same before_x same_x : Bool) (less equal greater : A) → is_eq (ordering_then (cond before Less (cond same Equal Greater)) (cond before_x Less (cond same_x Equal Greater))) ≡ false
    → match_ordering (ordering_then (cond before Less (cond same Equal Greater)) (cond before_x Less (cond same_x Equal Greater))) less equal greater ≡ cond (before || (same && before_x)) less greater
order-by true same before_x same_x less equal greater apart = refl
order-by false false before_x same_x less equal greater apart = refl
order-by false true true same_x less equal greater apart = refl
order-by false true false true less equal greater apart = absurd cc
order-by false true false false less equal greater apart = refl

-- what the order of two other tiles chooses
tile-order : {A : Type 0} (tile other : PllTile) (less equal greater : A) → is_eq (tile_cmp tile other) ≡ false
    → match_ordering (tile_cmp tile other) less equal greater ≡ cond (is_tile_before (tile_xy tile) (tile_xy other)) less greater
tile-order tile other less equal greater apart = order-by (ltb tile.y other.y) (eqb tile.y other.y) (ltb tile.x other.x) (eqb tile.x other.x) less equal greater apart

-- the order takes two tiles for equal if both their parts are equal
tile-ties : (tile other : PllTile) → is_eq (tile_cmp tile other) ≡ (eqb other.y tile.y && eqb other.x tile.x)
tile-ties tile other =
    sym (tied_then (nat_cmp tile.y other.y) (nat_cmp tile.x other.x))
    ∙ (λ i. sym (unsigned_ties tile.y other.y) i && sym (unsigned_ties tile.x other.x) i)
    ∙ (λ i. eqb-turned tile.y other.y i && eqb-turned tile.x other.x i)

and_comm-by : (a b : Bool) → (a && b) ≡ (b && a)
and_comm-by true true = refl
and_comm-by true false = refl
and_comm-by false true = refl
and_comm-by false false = refl

pub tile-same : (tile other : PllTile) → is_eq (tile_cmp tile other) ≡ is_same (tile_xy tile) (tile_xy other)
tile-same tile other = tile-ties tile other ∙ and_comm-by (eqb other.y tile.y) (eqb other.x tile.x)

-- ---- PLLs by their tiles, with one more

-- no tile is the same
pub apart-all : (tile : PllTile) (entries : List (PllTile × PllCell)) → lookup (is_at (tile_cmp tile)) entries ≡ None → All (λ e. is_eq (tile_cmp tile e.0) ≡ false) entries
apart-all tile [] none = All-nil _
apart-all tile (entry ∷ entries) none =
    elim (cases_Bool (is_eq (tile_cmp tile entry.0))) [
      | inl same ↦ let some : Some entry.1 ≡ None = rw same at none in absurd cc
      | inr other ↦
          let rest : lookup (is_at (tile_cmp tile)) entries ≡ None = rw other at none in
          All-cons (λ (e : PllTile × PllCell). is_eq (tile_cmp tile e.0) ≡ false) entry entries other (apart-all tile entries rest)
    ]

tiles_of : List (PllTile × PllCell) → List (ℕ × ℕ)
tiles_of entries = map tile_xy (keys_of entries)

-- the tiles are those before, with one put into its place
pub tiles-put : (tile : PllTile) (cell : PllCell) (entries : List (PllTile × PllCell)) → All (λ e. is_eq (tile_cmp tile e.0) ≡ false) entries
    → map tile_xy (keys_of (insert_entry tile_cmp entries tile cell)) ≡ put_tile (map tile_xy (keys_of entries)) (tile_xy tile)
tiles-put tile cell [] apart = refl
tiles-put tile cell (entry ∷ entries) apart =
    let other = All-head (λ (e : PllTile × PllCell). is_eq (tile_cmp tile e.0) ≡ false) entry entries apart in
    let rest = tiles-put tile cell entries (All-tail (λ (e : PllTile × PllCell). is_eq (tile_cmp tile e.0) ≡ false) entry entries apart) in
    ap (λ es. map tile_xy (keys_of es)) (tile-order tile entry.0 ((tile, cell) ∷ entry ∷ entries) ((entry.0, cell) ∷ entries) (entry ∷ insert_entry tile_cmp entries tile cell) other)
    ∙ by (is_tile_before (tile_xy tile) (tile_xy entry.0)) rest
  where
    by : (before : Bool) → map tile_xy (keys_of (insert_entry tile_cmp entries tile cell)) ≡ put_tile (map tile_xy (keys_of entries)) (tile_xy tile)
        → map tile_xy (keys_of (cond before ((tile, cell) ∷ entry ∷ entries) (entry ∷ insert_entry tile_cmp entries tile cell)))
        ≡ cond before (tile_xy tile ∷ tile_xy entry.0 ∷ map tile_xy (keys_of entries)) (tile_xy entry.0 ∷ put_tile (map tile_xy (keys_of entries)) (tile_xy tile))
    by true rest = refl
    by false rest = ap (λ tiles. tile_xy entry.0 ∷ tiles) rest

-- what holds of each entry and of the one more
pub all-put : (P : PllTile × PllCell → Type 0) (tile : PllTile) (cell : PllCell) (entries : List (PllTile × PllCell)) → All (λ e. is_eq (tile_cmp tile e.0) ≡ false) entries
    → All P entries → P (tile, cell) → All P (insert_entry tile_cmp entries tile cell)
all-put P tile cell [] apart all one = All-cons P (tile, cell) [] one (All-nil P)
all-put P tile cell (entry ∷ entries) apart all one =
    let other = All-head (λ (e : PllTile × PllCell). is_eq (tile_cmp tile e.0) ≡ false) entry entries apart in
    let rest = all-put P tile cell entries (All-tail (λ (e : PllTile × PllCell). is_eq (tile_cmp tile e.0) ≡ false) entry entries apart) (All-tail P entry entries all) one in
    subst (All P) (sym (tile-order tile entry.0 ((tile, cell) ∷ entry ∷ entries) ((entry.0, cell) ∷ entries) (entry ∷ insert_entry tile_cmp entries tile cell) other))
    (by (is_tile_before (tile_xy tile) (tile_xy entry.0)) all one rest)
  where
    by : (before : Bool) → All P (entry ∷ entries) → P (tile, cell) → All P (insert_entry tile_cmp entries tile cell)
        → All P (cond before ((tile, cell) ∷ entry ∷ entries) (entry ∷ insert_entry tile_cmp entries tile cell))
    by true all one rest = All-cons P (tile, cell) (entry ∷ entries) one all
    by false all one rest = All-cons P entry (insert_entry tile_cmp entries tile cell) (All-head P entry entries all) rest

-- ---- which tiles have a PLL

-- by the entries, or by their tiles
pub found-tile : (tile : PllTile) (entries : List (PllTile × PllCell)) → is_some (lookup (is_at (tile_cmp tile)) entries) ≡ has_tile (map tile_xy (keys_of entries)) (tile_xy tile)
found-tile tile [] = refl
found-tile tile (entry ∷ entries) =
    ap (λ b. is_some (cond b (Some entry.1) (lookup (is_at (tile_cmp tile)) entries))) (tile-same tile entry.0)
    ∙ by (is_same (tile_xy tile) (tile_xy entry.0)) (found-tile tile entries)
  where
    by : (same : Bool) → is_some (lookup (is_at (tile_cmp tile)) entries) ≡ has_tile (map tile_xy (keys_of entries)) (tile_xy tile)
        → is_some (cond same (Some entry.1) (lookup (is_at (tile_cmp tile)) entries)) ≡ (same || has_tile (map tile_xy (keys_of entries)) (tile_xy tile))
    by true rest = refl
    by false rest = rest

-- in their order
pub put-has : (tiles : List (ℕ × ℕ)) (tile other : ℕ × ℕ) → has_tile (put_tile tiles tile) other ≡ (has_tile tiles other || is_same other tile)
put-has [] tile other = or-false (is_same other tile)
put-has (first ∷ tiles) tile other = by (is_tile_before tile first) (put-has tiles tile other)
  where
    by : (before : Bool) → has_tile (put_tile tiles tile) other ≡ (has_tile tiles other || is_same other tile)
        → has_tile (cond before (tile ∷ first ∷ tiles) (first ∷ put_tile tiles tile)) other ≡ ((is_same other first || has_tile tiles other) || is_same other tile)
    by true rest = or_comm (is_same other tile) (is_same other first || has_tile tiles other)
    by false rest = ap (λ b. is_same other first || b) rest ∙ sym (or_assoc (is_same other first) (has_tile tiles other) (is_same other tile))

fold-has : (tiles sorted : List (ℕ × ℕ)) (other : ℕ × ℕ) → has_tile (fold put_tile sorted tiles) other ≡ (has_tile sorted other || has_tile tiles other)
fold-has [] sorted other = sym (or-false (has_tile sorted other))
fold-has (tile ∷ tiles) sorted other =
    fold-has tiles (put_tile sorted tile) other ∙ ap (λ b. b || has_tile tiles other) (put-has sorted tile other)
    ∙ or_assoc (has_tile sorted other) (is_same other tile) (has_tile tiles other)

pub sorted-has : (tiles : List (ℕ × ℕ)) (other : ℕ × ℕ) → has_tile (by_tile tiles) other ≡ has_tile tiles other
unfolding by_tile
sorted-has tiles other = fold-has tiles [] other

-- in the order of the text
tile-given : (lines : List (List ℕ)) (n x y : ℕ) (block : Block) → (is_pll_before lines n x y || has_tile (tile_in lines n block) (x, y)) ≡ (is_pll_before lines n x y || is_pll x y block)
tile-given lines n x y passed = refl
tile-given lines n x y (of_device chip) = refl
tile-given lines n x y global_inputs = refl
tile-given lines n x y global_pins = refl
tile-given lines n x y (functions kind) = refl
tile-given lines n x y extra_bits = refl
tile-given lines n x y (names net) = refl
tile-given lines n x y (buffers head) = refl
tile-given lines n x y (routings head) = refl
tile-given lines n x y (pll a b) =
    elim (cases_Bool (eqb a x && eqb b y)) [
      | inl same ↦
          let parts = and_parts (eqb a x) (eqb b y) same in
          let at_x : a ≡ x = eqb-true a x parts.0 in
          let at_y : b ≡ y = eqb-true b y parts.1 in
          let before : is_pll_before lines n a b ≡ is_pll_before lines n x y = λ i. is_pll_before lines n (at_x i) (at_y i) in
          ap (λ p. is_pll_before lines n x y || has_tile (cond p [] ((a, b) ∷ [])) (x, y)) before
          ∙ here (is_pll_before lines n x y)
      | inr other ↦ ap (λ b. is_pll_before lines n x y || b) (there (is_pll_before lines n a b) other ∙ sym other)
    ]
  where
    here : (before : Bool) → (before || has_tile (cond before [] ((a, b) ∷ [])) (x, y)) ≡ (before || (eqb a x && eqb b y))
    here true = refl
    here false = or-false (eqb a x && eqb b y)

    there : (before : Bool) → (eqb a x && eqb b y) ≡ false → has_tile (cond before [] ((a, b) ∷ [])) (x, y) ≡ false
    there true is = refl
    there false is = or-false (eqb a x && eqb b y) ∙ is

pub text-has : (lines : List (List ℕ)) (n x y : ℕ) → has_tile (gathered_below n (pll_tile_at lines)) (x, y) ≡ is_pll_before lines n x y
unfolding gathered_below is_pll_before any_below pll_tile_at
text-has lines zero x y = refl
text-has lines (suc n) x y =
    list_any-append (is_same (x, y)) (gathered_below n (pll_tile_at lines)) (pll_tile_at lines n)
    ∙ ap (λ b. b || has_tile (pll_tile_at lines n) (x, y)) (text-has lines n x y)
    ∙ tile-given lines n x y (begun_at lines n)
