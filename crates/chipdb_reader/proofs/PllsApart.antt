-- No two PLLs of a database are at one tile: a tile is put to the others only if none of them is the same.
use Rattle.std.proofs.Common.{◌≡◌, ℕ, zero, suc, ◌<◌, Bool, true, false, ◌&&◌, ◌||◌, cond, eqb, List, [], ◌∷◌, ◌++◌, map, refl, sym, subst, ap, ◌∙◌, inl, inr}
use Rattle.std.specs.Prelude.{All, fold}
use Rattle.std.specs.List.{AllByRecursion, IsDistinct}
use Rattle.std.proofs.lemmas.Bool.{cases_Bool, or_parts}
use Rattle.std.proofs.lemmas.List.{append-nil}
use Rattle.std.proofs.lemmas.List.Elements.{All-nil, All-cons, All-head, All-tail, All-map, All-weaker}
use Rattle.std.proofs.lemmas.Map.Keys.{IsDistinct-cons, IsDistinct-head, IsDistinct-tail}
use Rattle.index_search.specs.Places.{gathered_below}
use Rattle.index_search.proofs.Gathered.{All-gathered_below}
use Rattle.shared_lemmas.proofs.Numbers.{eqb-turned}
use Rattle.chipdb_lines.specs.Statements.{Block, passed, of_device, global_inputs, global_pins, functions, extra_bits, names, buffers, routings, pll}
use Rattle.chipdb_reader.specs.Database.{Pll, begun_at, by_tile, is_pll_before, is_tile_before, pll_below, pll_tile_at, put_tile, tile_in}
use Rattle.chipdb_reader.specs.Fit.{IsPlacedPll, is_same_tile}
use Rattle.chipdb_reader.proofs.PllTiles.{is_same, has_tile, put-has, text-has}

same-turned : (tile other : ℕ × ℕ) → is_same tile other ≡ is_same other tile
same-turned tile other = ap (λ b. b && eqb other.1 tile.1) (eqb-turned other.0 tile.0) ∙ ap (λ b. eqb tile.0 other.0 && b) (eqb-turned other.1 tile.1)

-- a tile that tiles don't have is the same as none of them
none-same : (tile : ℕ × ℕ) (tiles : List (ℕ × ℕ)) → has_tile tiles tile ≡ false → AllByRecursion (λ other. is_same tile other ≡ false) tiles
none-same tile [] none = tt
none-same tile (first ∷ tiles) none =
    let parts = or_parts (is_same tile first) (has_tile tiles tile) none in
    (parts.0, none-same tile tiles parts.1)

nothing-apart : {A : Type 0} (same : A → A → Bool) → IsDistinct same []
unfolding IsDistinct
nothing-apart same = tt

-- ---- in the order of the text

then-none : (first tile : ℕ × ℕ) (tiles : List (ℕ × ℕ)) → AllByRecursion (λ other. is_same first other ≡ false) tiles → is_same first tile ≡ false
    → AllByRecursion (λ other. is_same first other ≡ false) (tiles ++ tile ∷ [])
then-none first tile [] all apart = (apart, tt)
then-none first tile (next ∷ tiles) all apart = (all.0, then-none first tile tiles all.1 apart)

then-apart : (tiles : List (ℕ × ℕ)) (tile : ℕ × ℕ) → IsDistinct is_same tiles → has_tile tiles tile ≡ false → IsDistinct is_same (tiles ++ tile ∷ [])
then-apart [] tile apart none = IsDistinct-cons is_same tile [] tt (nothing-apart is_same)
then-apart (first ∷ tiles) tile apart none =
    let parts = or_parts (is_same tile first) (has_tile tiles tile) none in
    IsDistinct-cons is_same first (tiles ++ tile ∷ []) (then-none first tile tiles (IsDistinct-head is_same first tiles apart) (same-turned first tile ∙ parts.0))
    (then-apart tiles tile (IsDistinct-tail is_same first tiles apart) parts.1)

then-nothing : (tiles : List (ℕ × ℕ)) → IsDistinct is_same tiles → IsDistinct is_same (tiles ++ [])
then-nothing tiles apart = subst (IsDistinct is_same) (sym (append-nil tiles)) apart

-- a tile that is told comes after others that differ from it
told-apart : (lines : List (List ℕ)) (n : ℕ) (tiles : List (ℕ × ℕ)) (block : Block) → ((x y : ℕ) → has_tile tiles (x, y) ≡ is_pll_before lines n x y)
    → IsDistinct is_same tiles → IsDistinct is_same (tiles ++ tile_in lines n block)
told-apart lines n tiles passed has apart = then-nothing tiles apart
told-apart lines n tiles (of_device chip) has apart = then-nothing tiles apart
told-apart lines n tiles global_inputs has apart = then-nothing tiles apart
told-apart lines n tiles global_pins has apart = then-nothing tiles apart
told-apart lines n tiles (functions kind) has apart = then-nothing tiles apart
told-apart lines n tiles extra_bits has apart = then-nothing tiles apart
told-apart lines n tiles (names net) has apart = then-nothing tiles apart
told-apart lines n tiles (buffers head) has apart = then-nothing tiles apart
told-apart lines n tiles (routings head) has apart = then-nothing tiles apart
told-apart lines n tiles (pll x y) has apart =
    elim (cases_Bool (is_pll_before lines n x y)) [
      | inl before ↦ rw before (then-nothing tiles apart)
      | inr new ↦ rw new (then-apart tiles (x, y) apart (has x y ∙ new))
    ]

text-apart : (lines : List (List ℕ)) (n : ℕ) → IsDistinct is_same (gathered_below n (pll_tile_at lines))
unfolding gathered_below pll_tile_at
text-apart lines zero = nothing-apart is_same
text-apart lines (suc n) = told-apart lines n (gathered_below n (pll_tile_at lines)) (begun_at lines n) (text-has lines n) (text-apart lines n)

-- ---- in the order of tiles

put-none : (first tile : ℕ × ℕ) (tiles : List (ℕ × ℕ)) → AllByRecursion (λ other. is_same first other ≡ false) tiles → is_same first tile ≡ false
    → AllByRecursion (λ other. is_same first other ≡ false) (put_tile tiles tile)
put-none first tile [] all apart = (apart, tt)
put-none first tile (next ∷ tiles) all apart = by (is_tile_before tile next) (put-none first tile tiles all.1 apart)
  where
    by : (before : Bool) → AllByRecursion (λ other. is_same first other ≡ false) (put_tile tiles tile)
        → AllByRecursion (λ other. is_same first other ≡ false) (cond before (tile ∷ next ∷ tiles) (next ∷ put_tile tiles tile))
    by true rest = (apart, all)
    by false rest = (all.0, rest)

put-apart : (tiles : List (ℕ × ℕ)) (tile : ℕ × ℕ) → IsDistinct is_same tiles → has_tile tiles tile ≡ false → IsDistinct is_same (put_tile tiles tile)
put-apart [] tile apart none = IsDistinct-cons is_same tile [] tt (nothing-apart is_same)
put-apart (first ∷ tiles) tile apart none =
    let parts = or_parts (is_same tile first) (has_tile tiles tile) none in
    by (is_tile_before tile first) parts.0 (put-apart tiles tile (IsDistinct-tail is_same first tiles apart) parts.1)
  where
    by : (before : Bool) → is_same tile first ≡ false → IsDistinct is_same (put_tile tiles tile) → IsDistinct is_same (cond before (tile ∷ first ∷ tiles) (first ∷ put_tile tiles tile))
    by true other rest = IsDistinct-cons is_same tile (first ∷ tiles) (none-same tile (first ∷ tiles) none) apart
    by false other rest =
        IsDistinct-cons is_same first (put_tile tiles tile) (put-none first tile tiles (IsDistinct-head is_same first tiles apart) (same-turned first tile ∙ other)) rest

-- tiles that sorted ones don't have
put-past : (tile : ℕ × ℕ) (sorted tiles : List (ℕ × ℕ)) → AllByRecursion (λ other. is_same tile other ≡ false) tiles → AllByRecursion (λ other. has_tile sorted other ≡ false) tiles
    → AllByRecursion (λ other. has_tile (put_tile sorted tile) other ≡ false) tiles
put-past tile sorted [] apart all = tt
put-past tile sorted (first ∷ tiles) apart all = (
  put-has sorted tile first ∙ ap (λ b. b || is_same first tile) all.0 ∙ (same-turned first tile ∙ apart.0),
  put-past tile sorted tiles apart.1 all.1,
)

fold-apart : (tiles sorted : List (ℕ × ℕ)) → IsDistinct is_same sorted → IsDistinct is_same tiles → AllByRecursion (λ other. has_tile sorted other ≡ false) tiles
    → IsDistinct is_same (fold put_tile sorted tiles)
fold-apart [] sorted apart rest past = apart
fold-apart (tile ∷ tiles) sorted apart rest past =
    fold-apart tiles (put_tile sorted tile) (put-apart sorted tile apart past.0) (IsDistinct-tail is_same tile tiles rest)
    (put-past tile sorted tiles (IsDistinct-head is_same tile tiles rest) past.1)

none-at_first : (tiles : List (ℕ × ℕ)) → AllByRecursion (λ other. has_tile [] other ≡ false) tiles
none-at_first [] = tt
none-at_first (tile ∷ tiles) = (refl, none-at_first tiles)

sorted-apart : (tiles : List (ℕ × ℕ)) → IsDistinct is_same tiles → IsDistinct is_same (by_tile tiles)
unfolding by_tile
sorted-apart tiles apart = fold-apart tiles [] (nothing-apart is_same) apart (none-at_first tiles)

-- ---- PLLs

told-none : (tell : ℕ × ℕ → Pll) → ((one two : ℕ × ℕ) → is_same_tile (tell one) (tell two) ≡ is_same one two) → (tile : ℕ × ℕ) (tiles : List (ℕ × ℕ))
    → AllByRecursion (λ other. is_same tile other ≡ false) tiles → AllByRecursion (λ other. is_same_tile (tell tile) other ≡ false) (map tell tiles)
told-none tell same tile [] all = tt
told-none tell same tile (next ∷ tiles) all = (same tile next ∙ all.0, told-none tell same tile tiles all.1)

tiles-told : (tell : ℕ × ℕ → Pll) → ((one two : ℕ × ℕ) → is_same_tile (tell one) (tell two) ≡ is_same one two) → (tiles : List (ℕ × ℕ)) → IsDistinct is_same tiles
    → IsDistinct is_same_tile (map tell tiles)
tiles-told tell same [] apart = nothing-apart is_same_tile
tiles-told tell same (tile ∷ tiles) apart =
    IsDistinct-cons is_same_tile (tell tile) (map tell tiles) (told-none tell same tile tiles (IsDistinct-head is_same tile tiles apart))
    (tiles-told tell same tiles (IsDistinct-tail is_same tile tiles apart))

pub plls-apart : (lines : List (List ℕ)) (n : ℕ) → IsDistinct is_same_tile (map (pll_below lines n) (by_tile (gathered_below n (pll_tile_at lines))))
plls-apart lines n =
    tiles-told (pll_below lines n) (λ one two. refl) (by_tile (gathered_below n (pll_tile_at lines)))
    (sorted-apart (gathered_below n (pll_tile_at lines)) (text-apart lines n))

-- ---- what holds of their places

put-all : (P : ℕ × ℕ → Type 0) (tiles : List (ℕ × ℕ)) (tile : ℕ × ℕ) → All P tiles → P tile → All P (put_tile tiles tile)
put-all P [] tile all here = All-cons P tile [] here all
put-all P (first ∷ tiles) tile all here =
    by (is_tile_before tile first) (put-all P tiles tile (All-tail P first tiles all) here)
  where
    by : (before : Bool) → All P (put_tile tiles tile) → All P (cond before (tile ∷ first ∷ tiles) (first ∷ put_tile tiles tile))
    by true rest = All-cons P tile (first ∷ tiles) here all
    by false rest = All-cons P first (put_tile tiles tile) (All-head P first tiles all) rest

fold-all : (P : ℕ × ℕ → Type 0) (tiles sorted : List (ℕ × ℕ)) → All P sorted → All P tiles → All P (fold put_tile sorted tiles)
fold-all P [] sorted all rest = all
fold-all P (tile ∷ tiles) sorted all rest = fold-all P tiles (put_tile sorted tile) (put-all P sorted tile all (All-head P tile tiles rest)) (All-tail P tile tiles rest)

sorted-all : (P : ℕ × ℕ → Type 0) (tiles : List (ℕ × ℕ)) → All P tiles → All P (by_tile tiles)
unfolding by_tile
sorted-all P tiles all = fold-all P tiles [] (All-nil P) all

-- the PLLs of tiles that are told, if what is told has few digits
pub plls-all : (lines : List (List ℕ)) (n : ℕ) → ((k : ℕ) → k < n → All (λ (tile : ℕ × ℕ). (tile.0 < 1000000000) × (tile.1 < 1000000000)) (pll_tile_at lines k))
    → All IsPlacedPll (map (pll_below lines n) (by_tile (gathered_below n (pll_tile_at lines))))
plls-all lines n each =
    let IsFew = λ (tile : ℕ × ℕ). (tile.0 < 1000000000) × (tile.1 < 1000000000) in
    All-map IsPlacedPll (pll_below lines n) (by_tile (gathered_below n (pll_tile_at lines)))
    (All-weaker IsFew (λ (tile : ℕ × ℕ). IsPlacedPll (pll_below lines n tile)) (λ tile few. record { x_few = few.0; y_few = few.1 }) (by_tile (gathered_below n (pll_tile_at lines)))
    (sorted-all IsFew (gathered_below n (pll_tile_at lines)) (All-gathered_below IsFew n (pll_tile_at lines) each)))
