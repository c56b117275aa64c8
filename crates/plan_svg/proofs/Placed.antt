-- The elements of marks stand in their tiles.
use Rattle.std.proofs.Common.{◌≡◌, ℕ, ◌+◌, Bool, true, List, [], ◌∷◌, ◌++◌, append_assoc, count_by, cond, refl, sym, ap, ◌∙◌, arith}
use Rattle.std.specs.Prelude.{codes, flat_map, if◌then◌else◌, is_some}
use Rattle.std.proofs.lemmas.Grind.{flat_map-append}
use Rattle.std.proofs.lemmas.List.Sums.{sum_by-append}
use Rattle.plan_marks.specs.declared.plan.Mark.{Mark}
use Rattle.plan_marks.specs.declared.plan.GlobalMark.{GlobalMark}
use Rattle.plan_marks.specs.declared.plan.PllMark.{PllMark}
use Rattle.plan_marks.specs.Plans.{Plan, TilePlan, has_class}
use Rattle.plan_svg.specs.declared.sheet.Sheet.{Sheet}
use Rattle.plan_svg.specs.declared.sheet.Side.{Side}
use Rattle.plan_svg.specs.Hover.{hover}
use Rattle.plan_svg.specs.Laws.{EndsTitle, HasGroup, IsInPicture, Places, PlacesMarks, StandsAlone, StandsInGroup, has_name, is_framed, is_mark}
use Rattle.plan_svg.specs.Legend.{legend}
use Rattle.plan_svg.specs.Margins.{column_numbers, pin_names, row_numbers}
use Rattle.plan_svg.specs.Names.{Names}
use Rattle.plan_svg.specs.Reader.{before, content, reading}
use Rattle.plan_svg.specs.Sheet.{sheet_of, side_of}
use Rattle.plan_svg.specs.Sources.{global_mark, pll_frame, pll_mark}
use Rattle.plan_svg.specs.Svg.{beginning, drawn, inside, plan_svg, sizes}
use Rattle.plan_svg.specs.Tiles.{ground, part_mark, place_text, tile_text}
use Rattle.plan_svg.proofs.Drawn.{axis_words, badge_words, calm-hover, columns-read, global-reads, heading, names-read, names_words, on-ground, part-reads, part_words, pll-reads, pll_words, rows-read, shade_word, tile-reads, tile_words}
use Rattle.plan_svg.proofs.Legends.{legend-reads, legend_words}
use Rattle.plan_svg.proofs.Pictures.{begin-none, begun, begun-read, begun_words, legend-none, mark-words, one-each, root, shade-none, tiles-words}
use Rattle.plan_svg.proofs.Reading.{Reads, read-then, reads-append, reads-each, words_of}

-- ---- parts of a text

-- a part of a part, with what is around it
deeper : {A : Type 0} (bytes first part last one two three : List A) → bytes ≡ first ++ part ++ last → part ≡ one ++ two ++ three → bytes ≡ (first ++ one) ++ two ++ (three ++ last)
deeper bytes first part last one two three whole is = whole ∙ ap (λ part. first ++ part ++ last) is ∙ simp append_assoc

-- an item of a list
split-each : {A B : Type 0} (made : A → List B) (items front : List A) (item : A) (back : List A) → items ≡ front ++ item ∷ back
    → flat_map made items ≡ flat_map made front ++ made item ++ flat_map made back
split-each made items front item back is =
    ap (flat_map made) is ∙ flat_map-append made front (item ∷ back) ∙ sym (append_assoc (flat_map made front) (made item) (flat_map made back))

module _ (sheet : Sheet) (names : Names) (plan : Plan) where
  abbrev bytes : List ℕ
  bytes = drawn sheet names plan

  abbrev tiles : List ℕ
  tiles = flat_map (tile_text sheet names) plan.tiles

  abbrev frames : List ℕ
  frames = flat_map (pll_mark sheet) plan.plls

  abbrev badges : List ℕ
  badges = flat_map (global_mark sheet) plan.globals

  abbrev around : List ℕ
  around = column_numbers sheet ++ row_numbers sheet ++ pin_names sheet names plan

  -- what comes before the tiles, before the frames, and before the badges
  abbrev to_tiles : List ℕ
  to_tiles = beginning sheet plan ++ legend sheet plan

  abbrev to_frames : List ℕ
  to_frames = to_tiles ++ (tiles ++ around)

  abbrev to_badges : List ℕ
  to_badges = to_frames ++ frames

  abbrev ending : List ℕ
  ending = codes "</svg>\n"

  to-tiles : bytes ≡ to_tiles ++ tiles ++ (around ++ frames ++ badges ++ ending)
  unfolding drawn inside
  to-tiles = simp append_assoc

  to-frames : bytes ≡ to_frames ++ frames ++ (badges ++ ending)
  unfolding drawn inside
  to-frames = simp append_assoc

  to-badges : bytes ≡ to_badges ++ badges ++ ending
  unfolding drawn inside
  to-badges = simp append_assoc

  -- ---- a reader there

  tiles-read : (tiles : List TilePlan) → Reads (flat_map (tile_text sheet names) tiles) (words_of (tile_words sheet names) tiles)
  tiles-read tiles = reads-each (tile_text sheet names) (tile_words sheet names) (λ tile. tile-reads sheet names tile) tiles

  around-reads : Reads around (names_words sheet names plan ++ (axis_words sheet.rows ++ axis_words sheet.columns))
  around-reads =
      reads-append (column_numbers sheet ++ row_numbers sheet) (pin_names sheet names plan) (axis_words sheet.rows ++ axis_words sheet.columns) (names_words sheet names plan)
      (reads-append (column_numbers sheet) (row_numbers sheet) (axis_words sheet.columns) (axis_words sheet.rows) (columns-read sheet) (rows-read sheet)) (names-read sheet names plan)

  -- whole elements after the beginning
  in-picture : (more : List ℕ) (words : List (List ℕ)) → Reads more words → IsInPicture (beginning sheet plan ++ more) (words ++ begun_words)
  unfolding beginning sizes
  in-picture more words reads = read-then (reading before [] []) (begun sheet plan) more (begun-read sheet plan) (reads root [] begun_words)

  -- ---- tiles

  module _ (front : List TilePlan) (tile : TilePlan) (back : List TilePlan) (tiles_are : plan.tiles ≡ front ++ tile ∷ back) where
    abbrev at : Side
    at = side_of sheet tile.x tile.y

    abbrev made : Mark → List ℕ
    made mark = part_mark at mark.part

    abbrev said : List ℕ
    said = hover names tile ++ ground at tile

    abbrev front_text : List ℕ
    front_text = flat_map (tile_text sheet names) front

    abbrev behind : List ℕ
    behind = codes "</g>\n" ++ (flat_map (tile_text sheet names) back ++ (around ++ frames ++ badges ++ ending))

    abbrev rest : List ℕ
    rest = said ++ (flat_map made tile.marks ++ behind)

    text : bytes ≡ (beginning sheet plan ++ (legend sheet plan ++ front_text)) ++ place_text sheet tile ++ rest
    unfolding tile_text
    text =
        deeper bytes to_tiles tiles (around ++ frames ++ badges ++ ending) front_text (tile_text sheet names tile) (flat_map (tile_text sheet names) back) to-tiles
        (split-each (tile_text sheet names) plan.tiles front tile back tiles_are)
        ∙ simp append_assoc

    abbrev classes : List (List ℕ)
    classes = (words_of (tile_words sheet names) front ++ legend_words plan) ++ begun_words

    comes : IsInPicture (beginning sheet plan ++ (legend sheet plan ++ front_text)) classes
    comes =
        in-picture (legend sheet plan ++ front_text) (words_of (tile_words sheet names) front ++ legend_words plan)
        (reads-append (legend sheet plan) front_text (legend_words plan) (words_of (tile_words sheet names) front) (legend-reads sheet plan) (tiles-read front))

    order : (letter : ℕ) → is_mark letter ≡ true → count_by (has_name letter) classes ≡ count_by (has_class (letter ∷ [])) (flat_map (λ tile. tile.marks) front)
    order letter is =
        let each : (one two : List (List ℕ)) → count_by (has_name letter) (one ++ two) ≡ count_by (has_name letter) one + count_by (has_name letter) two =
        λ one two. sum_by-append (λ word. cond (has_name letter word) 1 0) one two in
        let fronts = words_of (tile_words sheet names) front in
        omega (
          arith,
          each (fronts ++ legend_words plan) begun_words,
          each fronts (legend_words plan),
          tiles-words letter is sheet names front,
          legend-none letter is sheet names plan,
          begin-none letter is sheet names,
        )

    -- ---- marks

    module _ (earlier : List Mark) (mark : Mark) (later : List Mark) (marks_are : tile.marks ≡ earlier ++ mark ∷ later) where
      abbrev found : List (List ℕ)
      found = words_of (λ (mark : Mark). part_words mark.part) earlier ++ shade_word tile.links ∷ []

      inner : rest ≡ (said ++ flat_map made earlier) ++ made mark ++ (flat_map made later ++ behind)
      inner = ap (λ marks. said ++ (marks ++ behind)) (split-each made tile.marks earlier mark later marks_are) ∙ simp append_assoc

      ends : EndsTitle (said ++ flat_map made earlier) found
      ends element elements more =
          let now = reading content (heading ∷ element ∷ elements) more in
          read-then now said (flat_map made earlier)
          (read-then now (hover names tile) (ground at tile) (calm-hover names tile (heading ∷ element ∷ elements) more) (on-ground sheet names tile element elements more))
          (reads-each made (λ (mark : Mark). part_words mark.part) (λ mark. part-reads at mark.part) earlier element elements (shade_word tile.links ∷ more)
          ∙ ap (reading content (element ∷ elements)) (sym (append_assoc (words_of (λ (mark : Mark). part_words mark.part) earlier) (shade_word tile.links ∷ []) more)))

      inner-order : (letter : ℕ) → is_mark letter ≡ true → count_by (has_name letter) found ≡ count_by (has_class (letter ∷ [])) earlier
      inner-order letter is =
          let marks = words_of (λ (mark : Mark). part_words mark.part) earlier in
          sum_by-append (λ word. cond (has_name letter word) 1 0) marks (shade_word tile.links ∷ [])
          ∙ omega (
            arith,
            one-each letter is (λ (mark : Mark). part_words mark.part) (has_class (letter ∷ [])) (λ mark. mark-words letter is mark) earlier,
            shade-none letter is tile.links,
          )

      in-group : StandsInGroup at earlier mark rest
      in-group =
          record { first = said ++ flat_map made earlier; last = flat_map made later ++ behind; classes = found; text = inner; in_group = ends; order = inner-order }

    has-group : HasGroup sheet front tile bytes
    has-group = record {
      first = beginning sheet plan ++ (legend sheet plan ++ front_text);
      rest = rest;
      classes = classes;
      text = text;
      in_picture = comes;
      order = order;
      marks = in-group;
    }

  -- ---- frames and badges

  abbrev around_words : List (List ℕ)
  around_words = names_words sheet names plan ++ (axis_words sheet.rows ++ axis_words sheet.columns)

  abbrev before_frames : List ℕ
  before_frames = legend sheet plan ++ (tiles ++ around)

  abbrev before_words : List (List ℕ)
  before_words = (around_words ++ words_of (tile_words sheet names) plan.tiles) ++ legend_words plan

  before-reads : Reads before_frames before_words
  before-reads =
      reads-append (legend sheet plan) (tiles ++ around) (legend_words plan) (around_words ++ words_of (tile_words sheet names) plan.tiles) (legend-reads sheet plan)
      (reads-append tiles around (words_of (tile_words sheet names) plan.tiles) around_words (tiles-read plan.tiles) around-reads)

  frames-read : (plls : List PllMark) → Reads (flat_map (pll_mark sheet) plls) (words_of (pll_words sheet) plls)
  frames-read plls = reads-each (pll_mark sheet) (pll_words sheet) (λ pll. pll-reads sheet pll) plls

  badges-read : (globals : List GlobalMark) → Reads (flat_map (global_mark sheet) globals) (words_of badge_words globals)
  badges-read globals = reads-each (global_mark sheet) badge_words (λ global. global-reads sheet global) globals

  alone : (more element last : List ℕ) (words : List (List ℕ)) → Reads more words → bytes ≡ (beginning sheet plan ++ more) ++ element ++ last → StandsAlone element bytes
  alone more element last words reads text =
      record { first = beginning sheet plan ++ more; last = last; classes = words ++ begun_words; text = text; in_picture = in-picture more words reads }

  -- what isn't left out
  framed : (is : Bool) (element : List ℕ) → is ≡ true → (if is then element else []) ≡ element
  framed is element on = rw on refl

  frame-stands : (front : List PllMark) (pll : PllMark) (back : List PllMark) → plan.plls ≡ front ++ pll ∷ back → is_framed sheet pll ≡ true → StandsAlone (pll_frame sheet pll) bytes
  frame-stands front pll back are on =
      let front_text = flat_map (pll_mark sheet) front in
      let back_text = flat_map (pll_mark sheet) back in
      let last = back_text ++ (badges ++ ending) in
      let shown = framed (is_framed sheet pll) (pll_frame sheet pll) on in
      alone (before_frames ++ front_text) (pll_frame sheet pll) last (words_of (pll_words sheet) front ++ before_words)
      (reads-append before_frames front_text before_words (words_of (pll_words sheet) front) before-reads (frames-read front))
      (deeper bytes to_frames frames (badges ++ ending) front_text (pll_mark sheet pll) back_text to-frames (split-each (pll_mark sheet) plan.plls front pll back are)
      ∙ ap (λ element. (to_frames ++ front_text) ++ element ++ last) shown ∙ simp append_assoc)

  badge-stands : (front : List GlobalMark) (global : GlobalMark) (back : List GlobalMark) → plan.globals ≡ front ++ global ∷ back → StandsAlone (global_mark sheet global) bytes
  badge-stands front global back are =
      let front_text = flat_map (global_mark sheet) front in
      let back_text = flat_map (global_mark sheet) back in
      let frame_words = words_of (pll_words sheet) plan.plls in
      alone ((before_frames ++ frames) ++ front_text) (global_mark sheet global) (back_text ++ ending) (words_of badge_words front ++ (frame_words ++ before_words))
      (reads-append (before_frames ++ frames) front_text (frame_words ++ before_words) (words_of badge_words front)
      (reads-append before_frames frames before_words frame_words before-reads (frames-read plan.plls)) (badges-read front))
      (deeper bytes to_badges badges ending front_text (global_mark sheet global) back_text to-badges (split-each (global_mark sheet) plan.globals front global back are) ∙ simp append_assoc)

  placed : Places sheet plan bytes
  placed = record { tiles = has-group; frames = frame-stands; badges = badge-stands }

-- the picture of a plan has each element at its place
pub places : (names : Names) (plan : Plan) → PlacesMarks names plan
unfolding plan_svg
places names plan = placed (sheet_of plan.device (is_some names)) names plan
