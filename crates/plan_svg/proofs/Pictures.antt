-- A picture is a document, and the classes of its marks are those of the plan.
use Rattle.std.proofs.Common.{◌≡◌, ℕ, zero, suc, ◌+◌, ◌<◌, Bool, true, false, not, cond, ◌&&◌, ◌||◌, ◌==◌, List, [], ◌∷◌, ◌++◌, count_by, drop, length, refl, sym, ap, ◌∙◌, arith, inl, inr}
use Rattle.std.specs.Prelude.{Option, None, Some, bytes_eq, codes, decimal, flat_map, if◌then◌else◌, is_some}
use Rattle.std.specs.Fmt.{digits}
use Rattle.std.specs.List.{concat, list_all, list_any}
use Rattle.std.proofs.lemmas.Bool.{and_parts, both_ways, cases_Bool, eqb-true}
use Rattle.std.proofs.lemmas.List.Sums.{sum_by-append, sum_by-cons}
use Rattle.plane_map.specs.declared.device.DeviceName.{DeviceName}
use Rattle.plane_map.specs.declared.device.DeviceName.TheVariants.{Lp384, Hx1k, Hx8k}
use Rattle.plane_map.specs.declared.tile.TileKind.{TileKind}
use Rattle.plane_map.specs.declared.tile.TileKind.TheVariants.{Io, Logic, RamB, RamT}
use Rattle.plan_svg.specs.declared.literals.TheConstants.{BEGINNING, STYLE, SHAPES}
use Rattle.plan_marks.specs.declared.plan.Mark.{Mark}
use Rattle.plan_marks.specs.declared.plan.Part.{Part}
use Rattle.plan_marks.specs.declared.plan.Part.TheVariants.{Cell, Lower, Upper, Pin}
use Rattle.plan_marks.specs.declared.plan.GlobalMark.{GlobalMark}
use Rattle.plan_marks.specs.declared.plan.PllMark.{PllMark}
use Rattle.plan_svg.specs.declared.sheet.Sheet.{Sheet}
use Rattle.plan_svg.specs.declared.sheet.Side.{Side}
use Rattle.plan_svg.specs.declared.sheet.Side.TheVariants as side
use Rattle.plan_svg.specs.Laws.{DrawsPlan, drawn_with, has_name, is_framed, is_mark, names_onto}
use Rattle.plan_svg.specs.Legend.{legend}
use Rattle.plan_svg.specs.Margins.{column_numbers, pin_names, row_numbers}
use Rattle.plan_svg.specs.Names.{Names, name_of}
use Rattle.plan_marks.specs.Plans.{Plan, TilePlan, all_cells, all_pins, all_rams, cell_class, class_of, count_of, has_class, pin_class, used_cells, used_pins, used_rams}
use Rattle.plan_svg.specs.Reader.{Reading, after, answered, before, classes_read, content, declaration, read, reading}
use Rattle.plan_svg.specs.Sheet.{height, shade, sheet_of, side_of, width}
use Rattle.plan_svg.specs.Sources.{global_mark, pll_mark}
use Rattle.plan_svg.specs.Svg.{beginning, device_text, document_title, drawn, inside, paper, plan_svg, seen_title, sizes, title}
use Rattle.plan_svg.specs.Tiles.{tile_text}
use Rattle.plan_marks.proofs.Classes.{cell-classes, pin-classes}
use Rattle.plan_svg.proofs.Drawn.{axis_words, badge_words, calm-concat, columns-read, global-reads, heading, name_classes, names-read, names_words, part_words, pll-reads, pll_words, read_letter, rows-read, shade_word, tile-reads, tile_name_words, tile_words, words}
use Rattle.plan_svg.proofs.Legends.{legend-reads, legend_words, pll_row_words, row_words, rows_words}
use Rattle.plan_svg.proofs.Shapes.{shapes-read, shapes_words}
use Rattle.plan_svg.proofs.Reading.{Bit, IsCalm, Reads, calm-number, evaluates, onto, read-append, read-then, reads-append, reads-each, words_below, words_of, lit, num}

-- ---- before the legend

abbrev pub root : List ℕ
root = codes "gvs"

-- the start tag of the picture, after the declaration
sizes_bits : Sheet → List Bit
sizes_bits sheet =
    lit (drop (length declaration) BEGINNING.now) ∷ num (width sheet) ∷ lit (codes "\" height=\"") ∷ num (height sheet) ∷ lit (codes "\" viewBox=\"0 0 ") ∷ num (width sheet)
    ∷ lit (codes " ") ∷ num (height sheet) ∷ lit (codes "\">\n") ∷ []

abbrev pub root_tag : Sheet → List ℕ
root_tag sheet = concat (
    drop (length declaration) BEGINNING.now ∷ decimal (width sheet) ∷ codes "\" height=\"" ∷ decimal (height sheet) ∷ codes "\" viewBox=\"0 0 " ∷ decimal (width sheet)
    ∷ codes " " ∷ decimal (height sheet) ∷ codes "\">\n" ∷ [])

root-read : (sheet : Sheet) → read (reading before [] []) (root_tag sheet) ≡ reading content (root ∷ []) []
unfolding sizes_bits read
root-read sheet = evaluates (reading before [] []) (sizes_bits sheet)

calm-device : (device : DeviceName) → IsCalm (device_text device)
unfolding read
calm-device Lp384 elements classes = refl
calm-device Hx1k elements classes = refl
calm-device Hx8k elements classes = refl

calm-title : (plan : Plan) → IsCalm (title plan)
unfolding title read
calm-title plan =
    calm-concat (
    device_text plan.device ∷ codes ": " ∷ decimal (used_cells plan) ∷ codes " of " ∷ decimal (all_cells plan) ∷ codes " logic cells, "
    ∷ decimal (used_rams plan) ∷ codes " of " ∷ decimal (all_rams plan) ∷ codes " block RAMs, "
    ∷ decimal (used_pins plan) ∷ codes " of " ∷ decimal (all_pins plan) ∷ codes " pins" ∷ []) (calm-device plan.device, (λ elements classes. refl, (calm-number (used_cells plan), (λ elements classes. refl, (calm-number (all_cells plan), (λ elements classes. refl, (calm-number (used_rams plan), (λ elements classes. refl, (calm-number (all_rams plan), (λ elements classes. refl, (calm-number (used_pins plan), (λ elements classes. refl, (calm-number (all_pins plan), (λ elements classes. refl, tt))))))))))))))

title-reads : (plan : Plan) → Reads (document_title plan) []
unfolding document_title read
title-reads plan element elements classes =
    read-append (reading content (heading ∷ element ∷ elements) classes) (title plan) (codes "</title>\n")
    ∙ ap (λ now. read now (codes "</title>\n")) (calm-title plan (heading ∷ element ∷ elements) classes)

seen-reads : (plan : Plan) → Reads (seen_title plan) (codes "h" ∷ [])
unfolding seen_title read
seen-reads plan element elements classes =
    read-append (reading content (words ∷ element ∷ elements) (codes "h" ∷ classes)) (title plan) (codes "</text>\n")
    ∙ ap (λ now. read now (codes "</text>\n")) (calm-title plan (words ∷ element ∷ elements) (codes "h" ∷ classes))

-- the classes of the style sheet and of the shapes
unfoldable pub style_words : List (List ℕ)
style_words = (read (reading content (root ∷ []) []) STYLE.now).classes

style-reads : Reads STYLE.now style_words
unfolding style_words read
style-reads element elements classes = refl

paper-reads : (sheet : Sheet) → Reads (paper sheet) (codes "hw" ∷ [])
unfolding paper read
paper-reads sheet element elements classes = evaluates (reading content (element ∷ elements) classes)
    (lit (codes "<rect class=\"wh\" width=\"") ∷ num (width sheet) ∷ lit (codes "\" height=\"") ∷ num (height sheet) ∷ lit (codes "\"/>\n") ∷ [])

-- ---- the whole

-- what comes before the legend, after the declaration
abbrev pub begun : Sheet → Plan → List ℕ
begun sheet plan = root_tag sheet ++ document_title plan ++ STYLE.now ++ SHAPES.now ++ paper sheet ++ seen_title plan

-- its classes
abbrev pub begun_words : List (List ℕ)
begun_words = codes "h" ∷ codes "hw" ∷ (shapes_words ++ (style_words ++ []))

pub begun-read : (sheet : Sheet) (plan : Plan) → read (reading before [] []) (begun sheet plan) ≡ reading content (root ∷ []) begun_words
begun-read sheet plan =
    let now = reading before [] [] in
    let styled = style_words ++ [] in
    let to_title = read-then now (root_tag sheet) (document_title plan) (root-read sheet) (title-reads plan root [] []) in
    let to_style = read-then now (root_tag sheet ++ document_title plan) STYLE.now to_title (style-reads root [] []) in
    let to_shapes = read-then now (root_tag sheet ++ document_title plan ++ STYLE.now) SHAPES.now to_style (shapes-read root [] styled) in
    let to_paper = read-then now (root_tag sheet ++ document_title plan ++ STYLE.now ++ SHAPES.now) (paper sheet) to_shapes (paper-reads sheet root [] (shapes_words ++ styled)) in
    read-then now (root_tag sheet ++ document_title plan ++ STYLE.now ++ SHAPES.now ++ paper sheet) (seen_title plan) to_paper (seen-reads plan root [] (codes "hw" ∷ (shapes_words ++ styled)))

-- the picture ends
root-ends : (classes : List (List ℕ)) → read (reading content (root ∷ []) classes) (codes "</svg>\n") ≡ reading after [] classes
unfolding read
root-ends classes = refl

module _ (sheet : Sheet) (names : Names) (plan : Plan) where
  abbrev tiles : List ℕ
  tiles = flat_map (tile_text sheet names) plan.tiles

  abbrev frames : List ℕ
  frames = flat_map (pll_mark sheet) plan.plls

  abbrev badges : List ℕ
  badges = flat_map (global_mark sheet) plan.globals

  -- the classes of what comes after it
  abbrev found : List (List ℕ)
  found =
      words_of badge_words plan.globals ++ (words_of (pll_words sheet) plan.plls ++ (names_words sheet names plan ++ (axis_words sheet.rows ++ (axis_words sheet.columns
      ++ (words_of (tile_words sheet names) plan.tiles ++ legend_words plan)))))

  inside-reads : Reads (inside sheet names plan) found
  unfolding inside
  inside-reads =
      let b = words_of badge_words plan.globals in
      let f = words_of (pll_words sheet) plan.plls in
      let n = names_words sheet names plan in
      let r = axis_words sheet.rows in
      let c = axis_words sheet.columns in
      let t = words_of (tile_words sheet names) plan.tiles in
      let l = legend_words plan in
      let key = legend sheet plan in
      let columns = column_numbers sheet in
      let rows = row_numbers sheet in
      let named = pin_names sheet names plan in
      reads-append (key ++ tiles ++ columns ++ rows ++ named ++ frames) badges (f ++ (n ++ (r ++ (c ++ (t ++ l))))) b
      (reads-append (key ++ tiles ++ columns ++ rows ++ named) frames (n ++ (r ++ (c ++ (t ++ l)))) f
      (reads-append (key ++ tiles ++ columns ++ rows) named (r ++ (c ++ (t ++ l))) n
      (reads-append (key ++ tiles ++ columns) rows (c ++ (t ++ l)) r
      (reads-append (key ++ tiles) columns (t ++ l) c
      (reads-append key tiles l t (legend-reads sheet plan) (reads-each (tile_text sheet names) (tile_words sheet names) (λ tile. tile-reads sheet names tile) plan.tiles))
      (columns-read sheet)) (rows-read sheet)) (names-read sheet names plan))
      (reads-each (pll_mark sheet) (pll_words sheet) (λ pll. pll-reads sheet pll) plan.plls))
      (reads-each (global_mark sheet) badge_words (λ global. global-reads sheet global) plan.globals)

  -- all classes, the last one first
  abbrev all_words : List (List ℕ)
  all_words = found ++ begun_words

  after-declaration : read (reading before [] []) (begun sheet plan ++ inside sheet names plan ++ codes "</svg>\n") ≡ reading after [] all_words
  after-declaration =
      let now = reading before [] [] in
      read-then now (begun sheet plan ++ inside sheet names plan) (codes "</svg>\n")
      (read-then now (begun sheet plan) (inside sheet names plan) (begun-read sheet plan) (inside-reads root [] begun_words)) (root-ends all_words)

  document : classes_read (drawn sheet names plan) ≡ Some all_words
  unfolding classes_read drawn beginning sizes
  document = ap (λ (now : Reading). answered now.mode now.classes) after-declaration

-- ---- counts of classes

-- a name that is a class of marks
abbrev is_mark_name : List ℕ → Bool
is_mark_name [] = false
is_mark_name (letter ∷ []) = is_mark letter
is_mark_name (letter ∷ next ∷ more) = false

-- a value that has such a name
abbrev is_mark_word : List ℕ → Bool
is_mark_word word = list_any is_mark_name (names_onto [] word)

last-false : (b : Bool) → (b && false) ≡ false
last-false true = refl
last-false false = refl

neither : (a b : Bool) → (a || b) ≡ false → (a ≡ false) × (b ≡ false)
neither true b none = absurd cc
neither false true none = absurd cc
neither false false none = (refl, refl)

-- shades are below 7
shade-low : (links : ℕ) → shade links < 7
shade-low links =
    elim (cases_Bool (links == 0)) [
      | inl none ↦ rw none (omega arith)
      | inr some ↦ rw some (omega arith)
    ]

module _ (letter : ℕ) (is : is_mark letter ≡ true) where
  abbrev has : List ℕ → Bool
  has = has_name letter

  other-name : (name : List ℕ) → is_mark_name name ≡ false → bytes_eq (letter ∷ []) name ≡ false
  other-name [] none = refl
  other-name (other ∷ []) none =
      elim (cases_Bool (letter == other)) [
        | inl same ↦ absurd (both_ways (is_mark letter) (ap is_mark (eqb-true letter other same) ∙ none) is)
        | inr differ ↦ rw differ refl
      ]
  other-name (other ∷ next ∷ more) none = last-false (letter == other)

  other-names : (names : List (List ℕ)) → list_any is_mark_name names ≡ false → list_any (bytes_eq (letter ∷ [])) names ≡ false
  other-names [] none = refl
  other-names (name ∷ names) none =
      let both = neither (is_mark_name name) (list_any is_mark_name names) none in
      rw (other-name name both.0, other-names names both.1) refl

  other-word : (word : List ℕ) → is_mark_word word ≡ false → has word ≡ false
  other-word word none = other-names (names_onto [] word) none

  no-words : (words : List (List ℕ)) → list_all (λ word. not (is_mark_word word)) words ≡ true → count_by has words ≡ 0
  no-words [] all = refl
  no-words (word ∷ words) all =
      let both = and_parts (not (is_mark_word word)) (list_all (λ word. not (is_mark_word word)) words) all in
      sum_by-cons (λ word. cond (has word) 1 0) word words ∙ rw (other-word word (off (is_mark_word word) both.0), no-words words both.1) refl
    where
      off : (b : Bool) → not b ≡ true → b ≡ false
      off true none = absurd cc
      off false none = refl

  -- no word of these has a class of marks, if none of each has
  no-each : {A : Type 0} (words : A → List (List ℕ)) → ((item : A) → count_by has (words item) ≡ 0) → (items : List A) → count_by has (words_of words items) ≡ 0
  no-each words none [] = refl
  no-each words none (item ∷ items) =
      sum_by-append (λ word. cond (has word) 1 0) (words_of words items) (words item) ∙ omega (arith, none item, no-each words none items)

  no-below : (n : ℕ) (words : ℕ → List (List ℕ)) → ((k : ℕ) → count_by has (words k) ≡ 0) → count_by has (words_below n words) ≡ 0
  no-below zero words none = refl
  no-below (suc n) words none = sum_by-append (λ word. cond (has word) 1 0) (words n) (words_below n words) ∙ omega (arith, none n, no-below n words none)

  -- one word for each item that passes
  pub one-each : {A : Type 0} (words : A → List (List ℕ)) (test : A → Bool) → ((item : A) → count_by has (words item) ≡ cond (test item) 1 0) → (items : List A) → count_by has (words_of words items) ≡ count_by test items
  one-each words test one [] = refl
  one-each words test one (item ∷ items) =
      let split = sum_by-append (λ word. cond (has word) 1 0) (words_of words items) (words item) in
      let first = sum_by-cons (λ item. cond (test item) 1 0) item items in
      omega (arith, split, first, one item, one-each words test one items)

  -- a word of one letter that is no space
  has-letter : (other : ℕ) → (other == 32) ≡ false → has (other ∷ []) ≡ (letter == other)
  has-letter other no_space =
      elim (cases_Bool (letter == other)) [
        | inl same ↦ rw (no_space, same) refl
        | inr differ ↦ rw (no_space, differ) refl
      ]

  single : (other : ℕ) → (other == 32) ≡ false → count_by has ((other ∷ []) ∷ []) ≡ cond (letter == other) 1 0
  single other no_space =
      sum_by-cons (λ word. cond {A = ℕ} (has word) 1 0) (other ∷ []) [] ∙ omega (arith, ap (λ b. cond {A = ℕ} b 1 0) (has-letter other no_space))

  -- ---- marks

  first-true : (b : Bool) → cond {A = ℕ} (b || false) 1 0 ≡ cond b 1 0
  first-true true = refl
  first-true false = refl

  two-words : (word : List ℕ) (other : ℕ) → is_mark_word word ≡ false → (other == 32) ≡ false → count_by has (word ∷ (other ∷ []) ∷ []) ≡ cond (letter == other) 1 0
  two-words word other none no_space =
      let split = sum_by-cons (λ word. cond (has word) 1 0) word ((other ∷ []) ∷ []) in
      let first : cond {A = ℕ} (has word) 1 0 ≡ 0 = ap (λ b. cond {A = ℕ} b 1 0) (other-word word none) in
      omega (arith, split, first, single other no_space)

  abbrev One : ℕ → Type 0
  One class = count_by has ((class ∷ []) ∷ []) ≡ cond (letter == class) 1 0

  pub mark-words : (mark : Mark) → count_by has (part_words mark.part) ≡ cond (has_class (letter ∷ []) mark) 1 0
  mark-words mark = by mark.part
    where
      by : (part : Part) → count_by has (part_words part) ≡ cond (list_any (λ class. class == class_of part) (letter ∷ [])) 1 0
      by (Cell cell) = cell-classes One (single 100 refl) (single 99 refl) (single 102 refl) (single 108 refl) cell ∙ sym (first-true (letter == cell_class cell))
      by (Lower ram) = two-words (codes "m") 114 refl refl ∙ sym (first-true (letter == 114))
      by (Upper ram) = two-words (codes "m") 117 refl refl ∙ sym (first-true (letter == 117))
      by (Pin pin) = pin-classes One (single 113 refl) (single 98 refl) (single 112 refl) (single 111 refl) (single 106 refl) (single 105 refl) pin ∙ sym (first-true (letter == pin_class pin))

  pub shade-none : (links : ℕ) → count_by has (shade_word links ∷ []) ≡ 0
  unfolding digits
  shade-none links = by (shade links) (shade-low links)
    where
      by : (step : ℕ) → step < 7 → count_by has (onto (decimal step) (codes "s") ∷ []) ≡ 0
      by zero low = no-words (codes "0s" ∷ []) refl
      by (suc zero) low = no-words (codes "1s" ∷ []) refl
      by (suc (suc zero)) low = no-words (codes "2s" ∷ []) refl
      by (suc (suc (suc zero))) low = no-words (codes "3s" ∷ []) refl
      by (suc (suc (suc (suc zero)))) low = no-words (codes "4s" ∷ []) refl
      by (suc (suc (suc (suc (suc zero))))) low = no-words (codes "5s" ∷ []) refl
      by (suc (suc (suc (suc (suc (suc zero)))))) low = no-words (codes "6s" ∷ []) refl
      by (suc (suc (suc (suc (suc (suc (suc step))))))) low = absurd (omega arith)

  module _ (sheet : Sheet) (names : Names) where
    tile-words : (tile : TilePlan) → count_by has (tile_words sheet names tile) ≡ count_by (has_class (letter ∷ [])) tile.marks
    tile-words tile =
        let marks = words_of (λ (mark : Mark). part_words mark.part) tile.marks in
        sum_by-append (λ word. cond (has word) 1 0) marks (shade_word tile.links ∷ [])
        ∙ omega (arith, shade-none tile.links, one-each (λ (mark : Mark). part_words mark.part) (has_class (letter ∷ [])) mark-words tile.marks)

    pub tiles-words : (tiles : List TilePlan) → count_by has (words_of (tile_words sheet names) tiles) ≡ count_by (has_class (letter ∷ [])) (flat_map (λ tile. tile.marks) tiles)
    tiles-words [] = refl
    tiles-words (tile ∷ tiles) =
        let split = sum_by-append (λ word. cond (has word) 1 0) (words_of (tile_words sheet names) tiles) (tile_words sheet names tile) in
        let marks = sum_by-append (λ mark. cond (has_class (letter ∷ []) mark) 1 0) tile.marks (flat_map (λ tile. tile.marks) tiles) in
        omega (arith, split, marks, tile-words tile, tiles-words tiles)

    -- ---- PLLs, global networks and names

    frame-words : (pll : PllMark) → count_by has (pll_words sheet pll) ≡ cond ((letter == 121) && is_framed sheet pll) 1 0
    frame-words pll = by (is_framed sheet pll)
      where
        alone : (b : Bool) → cond {A = ℕ} b 1 0 ≡ cond (b && true) 1 0
        alone true = refl
        alone false = refl

        none : (b : Bool) → 0 ≡ cond {A = ℕ} (b && false) 1 0
        none true = refl
        none false = refl

        by : (framed : Bool) → count_by has (if framed then codes "y" ∷ [] else []) ≡ cond ((letter == 121) && framed) 1 0
        by true = single 121 refl ∙ alone (letter == 121)
        by false = none (letter == 121)

    badge-word : (global : GlobalMark) → count_by has (badge_words global) ≡ cond (letter == read_letter global.is_read) 1 0
    badge-word global = by global.is_read
      where
        by : (is_read : Bool) → count_by has (codes "tg" ∷ (read_letter is_read ∷ []) ∷ []) ≡ cond (letter == read_letter is_read) 1 0
        by true = two-words (codes "tg") 103 refl refl
        by false = two-words (codes "tg") 122 refl refl

    name-words : (to : Side) (name : Option (List ℕ)) → count_by has (name_classes to name) ≡ 0
    name-words to None = refl
    name-words side.Left (Some name) = no-words (codes "e" ∷ []) refl
    name-words side.Right (Some name) = no-words (codes "n" ∷ []) refl
    name-words side.Top (Some name) = no-words (codes "n" ∷ []) refl
    name-words side.Bottom (Some name) = no-words (codes "e" ∷ []) refl

    tile-names : (x y : ℕ) (kind : TileKind) → count_by has (tile_name_words sheet names x y kind) ≡ 0
    tile-names x y Io =
        let to = side_of sheet x y in
        sum_by-append (λ word. cond (has word) 1 0) (name_classes to (name_of names x y 1)) (name_classes to (name_of names x y 0))
        ∙ omega (arith, name-words to (name_of names x y 1), name-words to (name_of names x y 0))
    tile-names x y Logic = refl
    tile-names x y RamB = refl
    tile-names x y RamT = refl

    axis-none : (n : ℕ) → count_by has (axis_words n) ≡ 0
    axis-none n = no-below n (λ k. codes "a" ∷ codes "a" ∷ []) (λ k. no-words (codes "a" ∷ codes "a" ∷ []) refl)

    -- ---- the legend and what comes before it

    row-none : (global : GlobalMark) → count_by has (row_words global) ≡ 0
    row-none global = by global.is_read
      where
        by : (is_read : Bool) → count_by has (row_words (record { g = global.g; x = global.x; y = global.y; source = global.source; is_read = is_read })) ≡ 0
        by true = no-words (codes "k" ∷ codes "tg" ∷ codes "gk" ∷ []) refl
        by false = no-words (codes "v" ∷ codes "k" ∷ codes "tg" ∷ codes "zk" ∷ []) refl

    rows-none : count_by has rows_words ≡ 0
    rows-none = no-words rows_words refl

    pub legend-none : (plan : Plan) → count_by has (legend_words plan) ≡ 0
    legend-none plan =
        let plls = words_of pll_row_words plan.plls in
        let globals = words_of row_words plan.globals in
        let one = sum_by-append (λ word. cond (has word) 1 0) plls (codes "v" ∷ codes "t" ∷ (globals ++ rows_words)) in
        let two = sum_by-append (λ word. cond (has word) 1 0) (codes "v" ∷ codes "t" ∷ []) (globals ++ rows_words) in
        let three = sum_by-append (λ word. cond (has word) 1 0) globals rows_words in
        omega (
          arith,
          one,
          two,
          three,
          no-each pll_row_words (λ pll. no-words (codes "k" ∷ codes "yk" ∷ []) refl) plan.plls,
          no-words (codes "v" ∷ codes "t" ∷ []) refl,
          no-each row_words row-none plan.globals,
          rows-none,
        )

    pub begin-none : count_by has begun_words ≡ 0
    unfolding style_words read
    begin-none = no-words begun_words refl

    -- ---- the law

    counted : (plan : Plan) → count_by has (all_words sheet names plan) ≡ drawn_with sheet plan letter
    unfolding count_of
    counted plan =
        let total : List (List ℕ) → ℕ = count_by has in
        let b = words_of badge_words plan.globals in
        let f = words_of (pll_words sheet) plan.plls in
        let n = names_words sheet names plan in
        let r = axis_words sheet.rows in
        let c = axis_words sheet.columns in
        let t = words_of (tile_words sheet names) plan.tiles in
        let l = legend_words plan in
        let each : (one two : List (List ℕ)) → total (one ++ two) ≡ total one + total two = λ one two. sum_by-append (λ word. cond (has word) 1 0) one two in
        omega (
          arith,
          each (b ++ (f ++ (n ++ (r ++ (c ++ (t ++ l)))))) begun_words,
          each b (f ++ (n ++ (r ++ (c ++ (t ++ l))))),
          each f (n ++ (r ++ (c ++ (t ++ l)))),
          each n (r ++ (c ++ (t ++ l))),
          each r (c ++ (t ++ l)),
          each c (t ++ l),
          each t l,
          one-each badge_words (λ (global : GlobalMark). letter == read_letter global.is_read) badge-word plan.globals,
          one-each (pll_words sheet) (λ pll. (letter == 121) && is_framed sheet pll) frame-words plan.plls,
          no-each (λ (tile : TilePlan). tile_name_words sheet names tile.x tile.y tile.kind) (λ tile. tile-names tile.x tile.y tile.kind) plan.tiles,
          axis-none sheet.rows,
          axis-none sheet.columns,
          tiles-words plan.tiles,
          legend-none plan,
          begin-none,
        )

-- a picture draws its plan
pub draws : (names : Names) (plan : Plan) → DrawsPlan names plan
unfolding plan_svg
draws names plan =
    let sheet = sheet_of plan.device (is_some names) in
    record {
      classes = all_words sheet names plan;
      document = document sheet names plan;
      marks = λ letter is. counted letter is sheet names plan;
    }
