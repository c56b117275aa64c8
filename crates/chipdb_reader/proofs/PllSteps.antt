-- PLLs, one line further.
use Rattle.std.proofs.Common.{◌≡◌, ℕ, ◌+◌, ◌<◌, Bool, true, false, not, ◌||◌, ◌&&◌, cond, eqb, List, [], ◌∷◌, ◌++◌, append-nil, refl, sym, ap, ◌∙◌, inl, inr, arith, true≢false}
use Rattle.std.specs.Prelude.{Option, Some, None, Ok, All, map, fold, bytes_eq, is_some, nat_lt, slice_index_or}
use Rattle.std.specs.List.{list_any}
use Rattle.std.specs.Ordering.{is_eq}
use Rattle.std.specs.Map.{keys_of, lookup, values_of}
use Rattle.std.specs.BTreeMap.{insert_entry, is_at}
use Rattle.std.specs.declared.vec.Vec.{Vec}
use Rattle.std.specs.declared.alloc.Global.{Global}
use Rattle.std.proofs.lemmas.Bool.{and_parts, cases_Bool, eqb-true, eq-eqb, lt-ltb, le-ltb}
use Rattle.std.proofs.lemmas.List.Elements.{All-nil, All-head, All-tail, All-weaker}
use Rattle.std.proofs.lemmas.List.Sums.{fold-append}
use Rattle.std.proofs.Math.Bool.{or-false}
use Rattle.shared_lemmas.proofs.Bytes.{same_bytes}
use Rattle.shared_lemmas.proofs.Numbers.{eqb-turned}
use Rattle.shared_lemmas.proofs.Options.{none_from_is_some}
use Rattle.text_lines.specs.Lines.{line_at}
use Rattle.index_search.specs.Places.{gathered_below}
use Rattle.index_search.proofs.Places.{any_below-at, any_below-more, any_below-none, gathered_below-more, gathered_below-none, last_below-place}
use Rattle.chipdb_lines.specs.declared.statements.Below.{Below}
use Rattle.chipdb_lines.specs.declared.statements.Below.TheVariants.{Passed, Device, GlobalInputs, GlobalPins, Functions, ExtraBits, Names, Buffers, Routings, Pll}
use Rattle.chipdb_lines.specs.Words.{is_statement}
use Rattle.chipdb_lines.specs.Statements.{Block, passed, pll}
use Rattle.chipdb_lines.specs.Items.{PllLine}
use Rattle.chipdb_reader.specs.declared.items.PllCell.{PllCell}
use Rattle.chipdb_reader.specs.declared.plls.PllTile.{PllTile}
use Rattle.chipdb_reader.specs.declared.plls.Plls.{Plls}
use Rattle.chipdb_reader.specs.Blocks.{block_over, statement_at, statement_over}
use Rattle.chipdb_reader.specs.Database.{begun_at, by_tile, is_first_of, is_pll, is_pll_before, is_pll_named_before, is_pll_named_since, new_pll_lines, pll_below, pll_line_at, pll_tile_at, put_tile, said_at, tile_in}
use Rattle.chipdb_reader.specs.Kept.{pll_line, pll_of}
use Rattle.chipdb_reader.specs.Plls.{AddsPllLine, BeginsPll, IsOpen, IsTold, OpenHolds, PllsHold, all_plls, cell_at, is_named, is_new_line, last_lines, tile_cmp, tile_xy, with_last}
use Rattle.chipdb_reader.proofs.BlockSteps.{over-own, over-statement}
use Rattle.chipdb_reader.proofs.PllTiles.{all-put, apart-all, found-tile, is_same, sorted-has, text-has, tile-same, tiles-put}

-- ---- what a line gives to PLLs

-- a line that is no statement begins nothing
begun-own : (lines : List (List ℕ)) (n : ℕ) → is_statement (line_at lines n) ≡ false → begun_at lines n ≡ passed
unfolding begun_at
begun-own lines n own = rw own refl

-- a statement begins what it says
pub begun-statement : (lines : List (List ℕ)) (n : ℕ) (block : Block) → is_statement (line_at lines n) ≡ true → statement_at lines n ≡ Ok block → begun_at lines n ≡ block
unfolding begun_at
begun-statement lines n block dot says = rw (dot, says) refl

-- the block over a line is what its statement begins
over-begun : (lines : List (List ℕ)) (n place : ℕ) → statement_over lines n ≡ Some place → begun_at lines place ≡ block_over lines n
unfolding begun_at block_over statement_over
over-begun lines n place over =
    let dot : is_statement (line_at lines place) ≡ true = (last_below-place n place (λ k. is_statement (line_at lines k)) over).1 in
    rw (over, dot) refl

-- a line that says nothing for a PLL
no-line : (lines : List (List ℕ)) (n x y : ℕ) → (said_at lines n).pll_lines ≡ [] → pll_line_at lines x y n ≡ []
unfolding pll_line_at
no-line lines n x y none = ap (λ ls. cond (is_first_of lines x y (statement_over lines n)) (new_pll_lines lines n ls) []) none ∙ by (is_first_of lines x y (statement_over lines n))
  where
    by : (b : Bool) → cond {A = List PllLine} b [] [] ≡ []
    by true = refl
    by false = refl

-- a line below no first statement of the PLL
no-first : (lines : List (List ℕ)) (n x y : ℕ) → is_first_of lines x y (statement_over lines n) ≡ false → pll_line_at lines x y n ≡ []
unfolding pll_line_at
no-first lines n x y none = rw none refl

-- the PLL at a tile, one line further
grown-none : (lines : List (List ℕ)) (n : ℕ) (tile : ℕ × ℕ) → pll_line_at lines tile.0 tile.1 n ≡ [] → pll_below lines (n + 1) tile ≡ pll_below lines n tile
grown-none lines n tile none =
    let same : gathered_below (n + 1) (pll_line_at lines tile.0 tile.1) ≡ gathered_below n (pll_line_at lines tile.0 tile.1) =
    gathered_below-more n (pll_line_at lines tile.0 tile.1) ∙ ap (λ ls. gathered_below n (pll_line_at lines tile.0 tile.1) ++ ls) none ∙ append-nil _ in
    λ i. record { x = tile.0; y = tile.1; lines = same i }

told-grown : (lines : List (List ℕ)) (n : ℕ) (entries : List (PllTile × PllCell)) → ((tile : PllTile) → pll_line_at lines tile.x tile.y n ≡ []) → All (IsTold lines n) entries → All (IsTold lines (n + 1)) entries
told-grown lines n entries none told =
    All-weaker (IsTold lines n) (IsTold lines (n + 1)) (λ e is. is ∙ sym (grown-none lines n (tile_xy e.0) (none e.0))) entries told

-- ---- a line after which the same PLLs are kept

-- if it begins no PLL, and says nothing for one
plls-same : (plls : Plls) (lines : List (List ℕ)) (n : ℕ) → pll_tile_at lines n ≡ [] → ((tile : PllTile) → pll_line_at lines tile.x tile.y n ≡ []) → PllsHold plls lines n → PllsHold plls lines (n + 1)
plls-same plls lines n no_tile none holds = record {
  tiles = holds.tiles ∙ ap by_tile (sym (gathered_below-more n (pll_tile_at lines) ∙ ap (λ ts. gathered_below n (pll_tile_at lines) ++ ts) no_tile ∙ append-nil _));
  told = told-grown lines n plls.earlier.entries none holds.told;
  last = λ tile here.
      holds.last tile here
      ∙ sym (gathered_below-more n (pll_line_at lines tile.x tile.y) ∙ ap (λ ls. gathered_below n (pll_line_at lines tile.x tile.y) ++ ls) (none tile) ∙ append-nil _);
  apart = holds.apart;
}

-- ---- a line that is no statement

no-tile-own : (lines : List (List ℕ)) (n : ℕ) → is_statement (line_at lines n) ≡ false → pll_tile_at lines n ≡ []
unfolding pll_tile_at
no-tile-own lines n own = ap (tile_in lines n) (begun-own lines n own)

-- if it says nothing for a PLL
pub plls-own : (plls : Plls) (lines : List (List ℕ)) (n : ℕ) → is_statement (line_at lines n) ≡ false → (said_at lines n).pll_lines ≡ [] → PllsHold plls lines n → PllsHold plls lines (n + 1)
plls-own plls lines n own none holds = plls-same plls lines n (no-tile-own lines n own) (λ tile. no-line lines n tile.x tile.y none) holds

-- names, one line further
named_by : (lines : List (List ℕ)) (n : ℕ) (name : List ℕ) (over : Option ℕ) → ((place : ℕ) → over ≡ Some place → place < n) → is_some over ≡ true
    → is_pll_named_since lines over (n + 1) name ≡ (is_pll_named_since lines over n name || list_any (λ line. bytes_eq name line.name) (said_at lines n).pll_lines)
named_by lines n name None before some = absurd (true≢false (sym some))
named_by lines n name (Some place) before some =
    any_below-more n (λ k. nat_lt place k && list_any (λ line. bytes_eq name line.name) (said_at lines k).pll_lines) ∙ rw (lt-ltb place n (before place refl)) refl

named-own : (lines : List (List ℕ)) (n : ℕ) (name : List ℕ) → is_statement (line_at lines n) ≡ false → is_some (statement_over lines n) ≡ true
    → is_pll_named_before lines (n + 1) name ≡ (is_pll_named_before lines n name || list_any (λ line. bytes_eq name line.name) (said_at lines n).pll_lines)
unfolding is_pll_named_before statement_over
named-own lines n name own some =
    let before : (place : ℕ) → statement_over lines n ≡ Some place → place < n = λ place is. (last_below-place n place (λ k. is_statement (line_at lines k)) is).0 in
    ap (λ over. is_pll_named_since lines over (n + 1) name) (over-own lines n own) ∙ named_by lines n name (statement_over lines n) before some

first-some : (lines : List (List ℕ)) (x y : ℕ) (over : Option ℕ) → is_first_of lines x y over ≡ true → is_some over ≡ true
first-some lines x y (Some place) first = refl
first-some lines x y None first = absurd (true≢false (sym first))

-- the last PLL stays open
open-own : (plls : Plls) (lines : List (List ℕ)) (n x y : ℕ) → is_statement (line_at lines n) ≡ false → (said_at lines n).pll_lines ≡ [] → IsOpen plls lines n x y → IsOpen plls lines (n + 1) x y
open-own plls lines n x y own none is = record {
  first = is.first ∙ ap (is_first_of lines x y) (sym (over-own lines n own));
  tile = is.tile;
  named = λ tile here name.
      let first : is_first_of lines x y (statement_over lines n) ≡ true = sym is.first ∙ ap (λ (o : Option PllTile). is_some o) here in
      is.named tile here name
      ∙ sym (named-own lines n name own (first-some lines x y (statement_over lines n) first) ∙ ap (λ ls. is_pll_named_before lines n name || list_any (λ line. bytes_eq name line.name) ls) none ∙ or-false (is_pll_named_before lines n name));
}

pub pll_open-own : (plls : Plls) (lines : List (List ℕ)) (n : ℕ) (below : Below) → is_statement (line_at lines n) ≡ false → (said_at lines n).pll_lines ≡ [] → OpenHolds plls lines n below → OpenHolds plls lines (n + 1) below
pll_open-own plls lines n (Pll x y) own none is = open-own plls lines n x y own none is
pll_open-own plls lines n Passed own none is = tt
pll_open-own plls lines n (Device chip) own none is = tt
pll_open-own plls lines n GlobalInputs own none is = tt
pll_open-own plls lines n GlobalPins own none is = tt
pll_open-own plls lines n (Functions kind) own none is = tt
pll_open-own plls lines n ExtraBits own none is = tt
pll_open-own plls lines n (Names net) own none is = tt
pll_open-own plls lines n (Buffers head) own none is = tt
pll_open-own plls lines n (Routings head) own none is = tt

-- ---- a statement

-- a statement of no PLL
pub plls-statement : (plls : Plls) (lines : List (List ℕ)) (n : ℕ) (block : Block) → begun_at lines n ≡ block → tile_in lines n block ≡ [] → (said_at lines n).pll_lines ≡ [] → PllsHold plls lines n → PllsHold plls lines (n + 1)
unfolding pll_tile_at
plls-statement plls lines n block begun no_tile none holds =
    plls-same plls lines n (ap (tile_in lines n) begun ∙ no_tile) (λ tile. no-line lines n tile.x tile.y none) holds

-- the last PLL among all
told-all : (plls : Plls) (last : Option PllTile) (lines : List (List ℕ)) (n : ℕ) → plls.last ≡ last → PllsHold plls lines n → All (IsTold lines n) (with_last last plls.lines plls.earlier.entries)
told-all plls None lines n is holds = holds.told
told-all plls (Some tile) lines n is holds =
    let apart = apart-all tile plls.earlier.entries (holds.apart tile is) in
    let told : pll_of (cell_at tile plls.lines) ≡ pll_below lines n (tile_xy tile) = λ i. record { x = tile.x; y = tile.y; lines = holds.last tile is i } in
    all-put (IsTold lines n) tile (cell_at tile plls.lines) plls.earlier.entries apart holds.told told

-- which tiles have a PLL
has-before : (plls : Plls) (lines : List (List ℕ)) (n x y : ℕ) → PllsHold plls lines n → is_some (lookup (is_at (tile_cmp (record { y = y; x = x }))) (all_plls plls)) ≡ is_pll_before lines n x y
has-before plls lines n x y holds =
    found-tile (record { y = y; x = x }) (all_plls plls) ∙ ap (list_any (is_same (x, y))) holds.tiles
    ∙ sorted-has (gathered_below n (pll_tile_at lines)) (x, y) ∙ text-has lines n x y

-- no statement of the PLL, no line of it
no-statement : (lines : List (List ℕ)) (n x y k : ℕ) → is_pll_before lines n x y ≡ false → k < n + 1 → pll_line_at lines x y k ≡ []
unfolding is_pll_before statement_over
no-statement lines n x y k none lt = no-first lines k x y (by (statement_over lines k) (λ place is. (last_below-place k place (λ j. is_statement (line_at lines j)) is).0))
  where
    by : (over : Option ℕ) → ((place : ℕ) → over ≡ Some place → place < k) → is_first_of lines x y over ≡ false
    by None before = refl
    by (Some place) before =
        elim (cases_Bool (is_pll x y (begun_at lines place))) [
          | inl here ↦
              let less : place < k = before place refl in
              absurd (true≢false (sym (any_below-at n place (λ j. is_pll x y (begun_at lines j)) (omega arith) here) ∙ none))
          | inr other ↦ ap (λ b. b && not (is_pll_before lines place x y)) other
        ]

-- the tiles, one more of them
tiles-more : (lines : List (List ℕ)) (n : ℕ) (more : List (ℕ × ℕ)) → pll_tile_at lines n ≡ more → by_tile (gathered_below (n + 1) (pll_tile_at lines)) ≡ fold put_tile (by_tile (gathered_below n (pll_tile_at lines))) more
unfolding by_tile
tiles-more lines n more is =
    ap (fold put_tile []) (gathered_below-more n (pll_tile_at lines)) ∙ fold-append put_tile [] (gathered_below n (pll_tile_at lines)) (pll_tile_at lines n)
    ∙ ap (fold put_tile (fold put_tile [] (gathered_below n (pll_tile_at lines)))) is

-- a statement of a PLL
pub plls-begun : (old new : Plls) (lines : List (List ℕ)) (n x y : ℕ) → begun_at lines n ≡ pll x y → (said_at lines n).pll_lines ≡ [] → PllsHold old lines n → BeginsPll old new x y → PllsHold new lines (n + 1)
unfolding pll_tile_at
plls-begun old new lines n x y begun none holds begins = by (is_pll_before lines n x y) refl
  where
    place : PllTile
    place = record { y = y; x = x }

    by : (before : Bool) → is_pll_before lines n x y ≡ before → PllsHold new lines (n + 1)
    by true before =
        let has = has-before old lines n x y holds ∙ before in
        let last : new.last ≡ None = begins.last ∙ ap (λ b. cond b None (Some place)) has in
        let no_tile : pll_tile_at lines n ≡ [] = ap (tile_in lines n) begun ∙ ap (λ b. cond {A = List (ℕ × ℕ)} b [] ((x, y) ∷ [])) before in
        let all : all_plls new ≡ all_plls old = ap (λ l. with_last l new.lines new.earlier.entries) last ∙ begins.entries in
        record {
          tiles = ap (λ es. map tile_xy (keys_of es)) all ∙ holds.tiles ∙ sym (tiles-more lines n [] no_tile);
          told = rw begins.entries (told-grown lines n (all_plls old) (λ tile. no-line lines n tile.x tile.y none) (told-all old old.last lines n refl holds));
          last = λ tile here. let both : Some tile ≡ None = sym here ∙ last in absurd cc;
          apart = λ tile here. let both : Some tile ≡ None = sym here ∙ last in absurd cc;
        }
    by false before =
        let has = has-before old lines n x y holds ∙ before in
        let last : new.last ≡ Some place = begins.last ∙ ap (λ b. cond b None (Some place)) has in
        let one_tile : pll_tile_at lines n ≡ (x, y) ∷ [] = ap (tile_in lines n) begun ∙ ap (λ b. cond {A = List (ℕ × ℕ)} b [] ((x, y) ∷ [])) before in
        let absent : lookup (is_at (tile_cmp place)) (all_plls old) ≡ None = none_from_is_some (lookup (is_at (tile_cmp place)) (all_plls old)) has in
        let apart = apart-all place (all_plls old) absent in
        let all : all_plls new ≡ insert_entry tile_cmp (all_plls old) place (cell_at place new.lines) = λ i. with_last (last i) new.lines (begins.entries i) in
        record {
          tiles = ap (λ es. map tile_xy (keys_of es)) all ∙ tiles-put place (cell_at place new.lines) (all_plls old) apart
              ∙ ap (λ ts. put_tile ts (x, y)) holds.tiles ∙ sym (tiles-more lines n ((x, y) ∷ []) one_tile);
          told = rw begins.entries (told-grown lines n (all_plls old) (λ tile. no-line lines n tile.x tile.y none) (told-all old old.last lines n refl holds));
          last = λ tile here.
              let both : Some tile ≡ Some place = sym here ∙ last in
              let same : tile ≡ place = cc in
              let empty : gathered_below (n + 1) (pll_line_at lines x y) ≡ [] = gathered_below-none (n + 1) (pll_line_at lines x y) (λ k lt. no-statement lines n x y k before lt) in
              ap (map pll_line) begins.lines ∙ sym empty ∙ (λ i. gathered_below (n + 1) (pll_line_at lines (sym same i).x (sym same i).y));
          apart = λ tile here.
              let both : Some tile ≡ Some place = sym here ∙ last in
              let same : tile ≡ place = cc in
              (λ i. lookup (is_at (tile_cmp (same i))) (begins.entries i)) ∙ absent;
        }

-- the PLL whose lines follow
pub pll_open-begun : (old new : Plls) (lines : List (List ℕ)) (n x y : ℕ) → is_statement (line_at lines n) ≡ true → begun_at lines n ≡ pll x y → PllsHold old lines n → BeginsPll old new x y → IsOpen new lines (n + 1) x y
unfolding is_pll_named_before
pll_open-begun old new lines n x y dot begun holds begins =
    let has = has-before old lines n x y holds in
    let place : PllTile = record { y = y; x = x } in
    let last : new.last ≡ cond (is_pll_before lines n x y) None (Some place) = begins.last ∙ ap (λ b. cond b None (Some place)) has in
    let same : is_pll x y (begun_at lines n) ≡ true = ap (is_pll x y) begun ∙ rw (eq-eqb x x refl, eq-eqb y y refl) refl in
    record {
      first = ap (λ (o : Option PllTile). is_some o) last ∙ begun_first (is_pll_before lines n x y) place
          ∙ ap (λ b. b && not (is_pll_before lines n x y)) (sym same) ∙ ap (is_first_of lines x y) (sym (over-statement lines n dot));
      tile = λ tile here. begun_tile (is_pll_before lines n x y) place tile (sym last ∙ here);
      named = λ tile here name.
          ap (list_any (λ (key : Vec ℕ Global). bytes_eq name key.items)) begins.names
          ∙ sym (ap (λ over. is_pll_named_since lines over (n + 1) name) (over-statement lines n dot)
          ∙ any_below-none (n + 1) (λ k. nat_lt n k && list_any (λ line. bytes_eq name line.name) (said_at lines k).pll_lines) (λ k lt. let before : nat_lt n k ≡ false = le-ltb n k (omega arith) in rw before refl));
    }
  where
    begun_first : (before : Bool) (place : PllTile) → is_some (cond before None (Some place)) ≡ (true && not before)
    begun_first true place = refl
    begun_first false place = refl

    begun_tile : (before : Bool) (place tile : PllTile) → cond before None (Some place) ≡ Some tile → tile ≡ place
    begun_tile true place tile is = absurd cc
    begun_tile false place tile is = cc

-- ---- a line of a PLL

-- it belongs to that PLL alone
first-other : (lines : List (List ℕ)) (n x y a b : ℕ) → block_over lines n ≡ pll x y → (eqb x a && eqb y b) ≡ false → is_first_of lines a b (statement_over lines n) ≡ false
first-other lines n x y a b over other = by (statement_over lines n) refl
  where
    by : (at : Option ℕ) → statement_over lines n ≡ at → is_first_of lines a b at ≡ false
    by None is = refl
    by (Some place) is = ap (λ block. is_pll a b block && not (is_pll_before lines place a b)) (over-begun lines n place is ∙ over) ∙ ap (λ t. t && not (is_pll_before lines place a b)) other

-- what a line of a PLL gives to it
pll_line-given : (lines : List (List ℕ)) (n x y : ℕ) (line : PllLine) → (said_at lines n).pll_lines ≡ line ∷ []
    → pll_line_at lines x y n ≡ cond (is_first_of lines x y (statement_over lines n) && not (is_pll_named_before lines n line.name)) (line ∷ []) []
unfolding pll_line_at
pll_line-given lines n x y line says =
    ap (λ ls. cond (is_first_of lines x y (statement_over lines n)) (new_pll_lines lines n ls) []) says
    ∙ by (is_first_of lines x y (statement_over lines n)) (is_pll_named_before lines n line.name)
  where
    by : (first named : Bool) → cond first (cond named [] (line ∷ [])) [] ≡ cond (first && not named) (line ∷ []) []
    by true true = refl
    by true false = refl
    by false named = refl

named-once : (named : List ℕ → Bool) (name other : List ℕ) → (named other || (not (named name) && bytes_eq other name)) ≡ (named other || bytes_eq other name)
named-once named name other =
    elim (cases_Bool (bytes_eq other name)) [
      | inl same ↦
          let at : other ≡ name = same_bytes other name same in
          ap (λ b. named other || (not (named name) && b)) same ∙ ap (λ n. named other || (not (named n) && true)) (sym at) ∙ by (named other) ∙ ap (λ b. named other || b) (sym same)
      | inr apart ↦ ap (λ b. named other || (not (named name) && b)) apart ∙ ap (λ b. named other || b) (none (named name)) ∙ ap (λ b. named other || b) (sym apart)
    ]
  where
    by : (b : Bool) → (b || (not b && true)) ≡ (b || true)
    by true = refl
    by false = refl

    none : (b : Bool) → (not b && false) ≡ false
    none true = refl
    none false = refl

-- another tile
other-tile : (x y : ℕ) (tile : PllTile) → is_eq (tile_cmp (record { y = y; x = x }) tile) ≡ false → (eqb x tile.x && eqb y tile.y) ≡ false
other-tile x y tile apart = (λ i. eqb-turned x tile.x i && eqb-turned y tile.y i) ∙ sym (tile-same (record { y = y; x = x }) tile) ∙ apart

-- the PLLs after a line of one
pub plls-line : (old new : Plls) (lines : List (List ℕ)) (n x y : ℕ) (line : PllLine) → is_statement (line_at lines n) ≡ false → block_over lines n ≡ pll x y → (said_at lines n).pll_lines ≡ line ∷ []
    → PllsHold old lines n → IsOpen old lines n x y → AddsPllLine old new line → PllsHold new lines (n + 1)
plls-line old new lines n x y line own over says holds is added = by old.last refl
  where
    by : (last : Option PllTile) → old.last ≡ last → PllsHold new lines (n + 1)
    by None none =
        let first : is_first_of lines x y (statement_over lines n) ≡ false = sym is.first ∙ ap (λ (o : Option PllTile). is_some o) none in
        let nothing_more : (tile : PllTile) → pll_line_at lines tile.x tile.y n ≡ [] =
        λ tile. no-first lines n tile.x tile.y (elim (cases_Bool (eqb x tile.x && eqb y tile.y)) [
          | inl same ↦
              let parts = and_parts (eqb x tile.x) (eqb y tile.y) same in
              (λ i. is_first_of lines (sym (eqb-true x tile.x parts.0) i) (sym (eqb-true y tile.y parts.1) i) (statement_over lines n)) ∙ first
          | inr other ↦ first-other lines n x y tile.x tile.y over other
        ]) in
        let kept = plls-same old lines n (no-tile-own lines n own) nothing_more holds in
        let gone : (tile : PllTile) → new.last ≡ Some tile → ⊥ = λ tile here. let both : Some tile ≡ None = sym here ∙ added.last ∙ none in absurd cc in
        record {
          tiles = ap (λ es. map tile_xy (keys_of es)) ((λ i. with_last ((added.last ∙ none) i) new.lines (added.earlier i).entries) ∙ (λ i. with_last (sym none i) old.lines old.earlier.entries)) ∙ kept.tiles;
          told = rw added.earlier kept.told;
          last = λ tile here. absurd (gone tile here);
          apart = λ tile here. absurd (gone tile here);
        }
    by (Some place) some =
        let at : place ≡ record { y = y; x = x } = is.tile place some in
        let first : is_first_of lines x y (statement_over lines n) ≡ true = sym is.first ∙ ap (λ (o : Option PllTile). is_some o) some in
        let apart = apart-all place old.earlier.entries (holds.apart place some) in
        let last : new.last ≡ Some place = added.last ∙ some in
        let same_tiles : map tile_xy (keys_of (all_plls new)) ≡ map tile_xy (keys_of (all_plls old)) =
        ap (λ es. map tile_xy (keys_of es)) (λ i. with_last (last i) new.lines (added.earlier i).entries)
        ∙ tiles-put place (cell_at place new.lines) old.earlier.entries apart ∙ sym (tiles-put place (cell_at place old.lines) old.earlier.entries apart)
        ∙ ap (λ es. map tile_xy (keys_of es)) (λ i. with_last (sym some i) old.lines old.earlier.entries) in
        let more : gathered_below (n + 1) (pll_tile_at lines) ≡ gathered_below n (pll_tile_at lines) =
        gathered_below-more n (pll_tile_at lines) ∙ ap (λ ts. gathered_below n (pll_tile_at lines) ++ ts) (no-tile-own lines n own) ∙ append-nil _ in
        let new_one : is_new_line old line.name ≡ not (is_pll_named_before lines n line.name) =
        (λ i. is_some (some i) && not (is_named old line.name)) ∙ ap not (is.named place some line.name) in
        let given : pll_line_at lines x y n ≡ cond (is_new_line old line.name) (line ∷ []) [] =
        pll_line-given lines n x y line says ∙ (λ i. cond (first i && not (is_pll_named_before lines n line.name)) (line ∷ []) []) ∙ ap (λ b. cond b (line ∷ []) []) (sym new_one) in
        let grown : last_lines new ≡ gathered_below (n + 1) (pll_line_at lines x y) =
        added.lines ∙ ap (λ ls. ls ++ cond (is_new_line old line.name) (line ∷ []) []) (holds.last place some ∙ (λ i. gathered_below n (pll_line_at lines (at i).x (at i).y)))
        ∙ ap (λ ls. gathered_below n (pll_line_at lines x y) ++ ls) (sym given) ∙ sym (gathered_below-more n (pll_line_at lines x y)) in
        record {
          tiles = same_tiles ∙ holds.tiles ∙ ap by_tile (sym more);
          told = rw added.earlier (λ k d lt.
              let entry = slice_index_or old.earlier.entries k d in
              let other : (eqb x entry.0.x && eqb y entry.0.y) ≡ false = other-tile x y entry.0 ((λ i. is_eq (tile_cmp (sym at i) entry.0)) ∙ apart k d lt) in
              holds.told k d lt ∙ sym (grown-none lines n (tile_xy entry.0) (no-first lines n entry.0.x entry.0.y (first-other lines n x y entry.0.x entry.0.y over other))));
          last = λ tile here.
              let both : Some tile ≡ Some place = sym here ∙ last in
              let same : tile ≡ place = cc in
              grown ∙ (λ i. gathered_below (n + 1) (pll_line_at lines (sym (same ∙ at) i).x (sym (same ∙ at) i).y));
          apart = λ tile here. (λ i. lookup (is_at (tile_cmp tile)) (added.earlier i).entries) ∙ holds.apart tile (sym added.last ∙ here);
        }

-- the PLL is still the one whose lines follow
pub open-line : (old new : Plls) (lines : List (List ℕ)) (n x y : ℕ) (line : PllLine) → is_statement (line_at lines n) ≡ false → (said_at lines n).pll_lines ≡ line ∷ []
    → IsOpen old lines n x y → AddsPllLine old new line → IsOpen new lines (n + 1) x y
open-line old new lines n x y line own says is added = record {
  first = ap (λ (o : Option PllTile). is_some o) added.last ∙ is.first ∙ ap (is_first_of lines x y) (sym (over-own lines n own));
  tile = λ tile here. is.tile tile (sym added.last ∙ here);
  named = λ tile here name.
      let some : old.last ≡ Some tile = sym added.last ∙ here in
      let first : is_first_of lines x y (statement_over lines n) ≡ true = sym is.first ∙ ap (λ (o : Option PllTile). is_some o) some in
      added.named name
      ∙ (λ i. is_named old name || ((is_some (some i) && not (is_named old line.name)) && bytes_eq name line.name))
      ∙ named-once (is_named old) line.name name
      ∙ (λ i. is.named tile some name i || sym (or-false (bytes_eq name line.name)) i)
      ∙ ap (λ ls. is_pll_named_before lines n name || list_any (λ l. bytes_eq name l.name) ls) (sym says)
      ∙ sym (named-own lines n name own (first-some lines x y (statement_over lines n) first));
}

-- ---- no line, and all lines

-- no PLL was begun
pub unread-plls : (plls : Plls) (lines : List (List ℕ)) → all_plls plls ≡ [] → plls.last ≡ None → PllsHold plls lines 0
unfolding gathered_below by_tile
unread-plls plls lines empty none =
    let entries : plls.earlier.entries ≡ [] = (λ i. with_last (sym none i) plls.lines plls.earlier.entries) ∙ empty in
    record {
      tiles = ap (λ es. map tile_xy (keys_of es)) empty;
      told = rw entries (All-nil _);
      last = λ tile here. let both : Some tile ≡ None = sym here ∙ none in absurd cc;
      apart = λ tile here. let both : Some tile ≡ None = sym here ∙ none in absurd cc;
    }

told-map : (lines : List (List ℕ)) (n : ℕ) (entries : List (PllTile × PllCell)) → All (IsTold lines n) entries → map pll_of (values_of entries) ≡ map (pll_below lines n) (map tile_xy (keys_of entries))
told-map lines n [] told = refl
told-map lines n (entry ∷ entries) told =
    λ i. All-head (IsTold lines n) entry entries told i ∷ told-map lines n entries (All-tail (IsTold lines n) entry entries told) i

-- what is kept is what the lines give
pub plls-told : (plls : Plls) (lines : List (List ℕ)) (n : ℕ) → PllsHold plls lines n → map pll_of (values_of (all_plls plls)) ≡ map (pll_below lines n) (by_tile (gathered_below n (pll_tile_at lines)))
plls-told plls lines n holds =
    told-map lines n (all_plls plls) (told-all plls plls.last lines n refl holds) ∙ ap (map (pll_below lines n)) holds.tiles
