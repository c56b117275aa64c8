-- A text that can be read, with its RAMs replaced line by line.
use Rattle.std.proofs.Common.{◌≡◌, ℕ, ◌+◌, ◌-◌, ◌^◌, ◌<◌, ◌≤◌, true, false, List, [], ◌∷◌, ◌++◌, length, get_or, drop, replicate, refl, sym, ap, ap₂, ◌∙◌, subst, inl, inr, arith, append-nil, length-append, drop-drop}
use Rattle.std.specs.Prelude.{Option, Some, None, if◌then◌else◌}
use Rattle.std.proofs.lemmas.Bool.{cases_lt}
use Rattle.std.proofs.lemmas.List.{get_or-drop, get_or_past, get_or-replicate, length-replicate}
use Rattle.std.proofs.lemmas.List.FromFn.{fill_by_all}
use Rattle.shared_lemmas.proofs.Cuts.{drop_cons}
use Rattle.index_search.specs.Places.{gathered_below}
use Rattle.index_search.proofs.Places.{gathered_below-more, gathered_below-none, gathered_below-same, gathered_below-sum}
use Rattle.text_lines.specs.Lines.{lines_of, whole_lines_of, line_at}
use Rattle.layout_file.specs.Layouts.{standard_layouts}
use Rattle.plane_map.specs.Layout.{kind_of}
use Rattle.plane_map.specs.declared.tile.TileKind.TheVariants.{RamB}
use Rattle.ice_image.specs.Configuration.{Configuration}
use Rattle.asc_text.specs.declared.file.Symbol.{Symbol}
use Rattle.asc_text.specs.Meaning.{AscMeans}
use Rattle.asc_text.specs.Statements.{statement_in}
use Rattle.asc_text.specs.declared.fault.TileXy.{TileXy}
use Rattle.asc_text.specs.Blocks.{depth_at, opened_before, statement_at, statement_over}
use Rattle.asc_text.specs.Faults.{asc_fault_of, tile_named}
use Rattle.bram_replace.specs.HexText.{Contents}
use Rattle.bram_replace.specs.ReadModes.{Modes, by_columns, mode_for}
use Rattle.bram_replace.specs.Columns.{column_count}
use Rattle.bram_replace.specs.Replaced.{ram_bits, bits_after, columns_found, memory_line_with, line_after, replaced, found_at, count_before, found_in}
use Rattle.asc_text.specs.Rams.{BeginsWithRam, below_statement, is_ram_data, is_in_ram, is_ram_line}
use Rattle.bram_replace.proofs.HexLines.{cut-end}
use Rattle.asc_text.proofs.RamLines.{ram-begins, ram-not, ram-not-at, outside-more, at-flat, row-of, row-end, row-in, row-below, row-none, rows-within, begins}
use Rattle.bram_replace.proofs.Rams.{count-few}
use Rattle.bram_replace.proofs.Statements.{lower-there}

-- a number of lines were taken, and no line of a RAM comes next
pub record Progress (from to : Contents) (modes : Modes) (text left out found : List ℕ) : Type 0 where
  pub n : ℕ
  pub within : n ≤ length (lines_of text)
  pub lines : lines_of left ≡ drop n (lines_of text)
  pub wholes : whole_lines_of left ≡ drop n (whole_lines_of text)
  pub outside : is_in_ram (lines_of text) n ≡ false
  pub written : out ≡ gathered_below n (line_after from to modes text)
  pub size : length found ≡ column_count from
  pub counted : (column : ℕ) → column < column_count from → get_or found column 0 ≡ count_before from modes (lines_of text) n column

-- ---- before the first line

outside-first : (lines : List (List ℕ)) → is_in_ram lines 0 ≡ false
unfolding depth_at opened_before
outside-first lines = refl

pub Progress-none : (from to : Contents) (modes : Modes) (text found : List ℕ) → found ≡ replicate (column_count from) 0 → Progress from to modes text text [] found
Progress-none from to modes text found zeros = record {
  n = 0;
  within = omega arith;
  lines = refl;
  wholes = refl;
  outside = outside-first (lines_of text);
  written = sym (gathered_below-none 0 (line_after from to modes text) (λ k below. absurd (omega arith)));
  size = ap length zeros ∙ length-replicate (column_count from) 0;
  counted = λ column few.
      ap (λ xs. get_or xs column 0) zeros ∙ get_or-replicate (column_count from) column 0 0 few
      ∙ sym (ap length (gathered_below-none 0 (found_at from modes (lines_of text) column) (λ k below. absurd (omega arith))));
}

-- ---- a line that is no statement of a RAM

line_after-outside : (from to : Contents) (modes : Modes) (text : List ℕ) (n : ℕ) → is_in_ram (lines_of text) n ≡ false → line_after from to modes text n ≡ line_at (whole_lines_of text) n
unfolding line_after
line_after-outside from to modes text n outside = rw outside refl

count-same : (from : Contents) (modes : Modes) (lines : List (List ℕ)) (n column : ℕ) → is_ram_data (statement_at lines n) ≡ false → count_before from modes lines (n + 1) column ≡ count_before from modes lines n column
count-same from modes lines n column never =
    let none : found_at from modes lines column n ≡ [] = rw never refl in
    ap length (gathered_below-more n (found_at from modes lines column) ∙ ap (λ xs. gathered_below n (found_at from modes lines column) ++ xs) none ∙ append-nil (gathered_below n (found_at from modes lines column)))

-- what the first line of those that are left is
pub record FirstLine (text left content whole rest : List ℕ) (n : ℕ) : Type 0 where
  pub there : n < length (lines_of text)
  pub content_is : line_at (lines_of text) n ≡ content
  pub whole_is : line_at (whole_lines_of text) n ≡ whole
  pub lines : lines_of rest ≡ drop (n + 1) (lines_of text)
  pub wholes : whole_lines_of rest ≡ drop (n + 1) (whole_lines_of text)

pub first : (from to : Contents) (modes : Modes) (text left out found content whole rest : List ℕ) → (p : Progress from to modes text left out found)
    → lines_of left ≡ content ∷ lines_of rest → whole_lines_of left ≡ whole ∷ whole_lines_of rest → FirstLine text left content whole rest p.n
first from to modes text left out found content whole rest p lines wholes =
    let at = drop_cons (lines_of text) p.n [] content (lines_of rest) (sym p.lines ∙ lines) in
    let whole_at = drop_cons (whole_lines_of text) p.n [] whole (whole_lines_of rest) (sym p.wholes ∙ wholes) in
    record { there = at.0; content_is = at.1; whole_is = whole_at.1; lines = at.2; wholes = whole_at.2 }

pub Progress-line : (from to : Contents) (modes : Modes) (text left out found content whole rest new : List ℕ) → Progress from to modes text left out found
    → lines_of left ≡ content ∷ lines_of rest → whole_lines_of left ≡ whole ∷ whole_lines_of rest → is_ram_line content ≡ false → new ≡ out ++ whole
    → Progress from to modes text rest new found
Progress-line from to modes text left out found content whole rest new p lines wholes never is =
    let line = first from to modes text left out found content whole rest p lines wholes in
    let other = ram-not (lines_of text) p.n (subst (λ l. is_ram_line l ≡ false) (sym line.content_is) never) in
    record {
      n = p.n + 1;
      within = omega (arith, line.there);
      lines = line.lines;
      wholes = line.wholes;
      outside = outside-more (lines_of text) p.n p.outside other;
      written = is ∙ ap₂ (λ xs ys. xs ++ ys) p.written (sym (line_after-outside from to modes text p.n p.outside ∙ line.whole_is)) ∙ sym (gathered_below-more p.n (line_after from to modes text));
      size = p.size;
      counted = λ column few. p.counted column few ∙ sym (count-same from modes (lines_of text) p.n column (ram-not-at (lines_of text) p.n other));
    }

-- ---- a RAM

-- the statement of a RAM, in a text that can be read
record IsRamAt (text rest : List ℕ) (n : ℕ) : Type 0 where
  flat : depth_at (lines_of text) n ≡ 0
  is : is_ram_data (statement_in (line_at (lines_of text) n)) ≡ true

ram-at : (from to : Contents) (modes : Modes) (text left out found content whole rest : List ℕ) → asc_fault_of standard_layouts text ≡ None → (p : Progress from to modes text left out found)
    → lines_of left ≡ content ∷ lines_of rest → whole_lines_of left ≡ whole ∷ whole_lines_of rest → is_ram_line content ≡ true → IsRamAt text rest p.n
ram-at from to modes text left out found content whole rest none p lines wholes holds_so =
    let line = first from to modes text left out found content whole rest p lines wholes in
    let found = ram-begins standard_layouts text p.n none line.there p.outside (subst (λ l. is_ram_line l ≡ true) (sym line.content_is) holds_so) in
    record { flat = found.0; is = found.1 }

-- its lines follow
pub ram-begins-next : (from to : Contents) (modes : Modes) (text left out found content whole rest : List ℕ) → asc_fault_of standard_layouts text ≡ None → Progress from to modes text left out found
    → lines_of left ≡ content ∷ lines_of rest → whole_lines_of left ≡ whole ∷ whole_lines_of rest → is_ram_line content ≡ true → BeginsWithRam (lines_of rest)
ram-begins-next from to modes text left out found content whole rest none p lines wholes holds_so =
    let line = first from to modes text left out found content whole rest p lines wholes in
    let ram = ram-at from to modes text left out found content whole rest none p lines wholes holds_so in
    subst BeginsWithRam (sym line.lines) (begins standard_layouts text p.n none line.there ram.flat ram.is)

-- it names a RAM
pub ram-here : (from to : Contents) (modes : Modes) (text left out found content whole rest : List ℕ) → asc_fault_of standard_layouts text ≡ None → Progress from to modes text left out found
    → lines_of left ≡ content ∷ lines_of rest → whole_lines_of left ≡ whole ∷ whole_lines_of rest → is_ram_line content ≡ true → is_ram_data (statement_in content) ≡ true
ram-here from to modes text left out found content whole rest none p lines wholes holds_so =
    let line = first from to modes text left out found content whole rest p lines wholes in
    let ram = ram-at from to modes text left out found content whole rest none p lines wholes holds_so in
    subst (λ l. is_ram_data (statement_in l) ≡ true) line.content_is ram.is

-- whose lower tile the device has
pub lower-here : (from to : Contents) (modes : Modes) (text left out found content whole rest : List ℕ) (image : Configuration) (symbols : List Symbol) (named : TileXy) → AscMeans standard_layouts text image symbols
    → Progress from to modes text left out found → lines_of left ≡ content ∷ lines_of rest → whole_lines_of left ≡ whole ∷ whole_lines_of rest → is_ram_line content ≡ true
    → tile_named (statement_in content) ≡ Some named → kind_of image.layout.device named.x named.y ≡ Some RamB
lower-here from to modes text left out found content whole rest image symbols named means p lines wholes holds_so is =
    let line = first from to modes text left out found content whole rest p lines wholes in
    let ram = ram-at from to modes text left out found content whole rest means.accepted p lines wholes holds_so in
    lower-there text image symbols p.n named means line.there ram.flat ram.is (ap (λ l. tile_named (statement_in l)) line.content_is ∙ is)

-- and each count has room for it
pub room : (from to : Contents) (modes : Modes) (text left out found : List ℕ) → asc_fault_of standard_layouts text ≡ None → Progress from to modes text left out found → (column : ℕ) → get_or found column 0 < 2 ^ 31
room from to modes text left out found none p column =
    elim (cases_lt column (column_count from)) [
      | inl few ↦ omega (arith, p.counted column few, count-few from modes text p.n column none p.within)
      | inr past ↦ omega (arith, get_or_past found column 0 (omega (arith, p.size)))
    ]

-- a line of a RAM, from the lines below its statement and its place among them
line_after-inside : (from to : Contents) (modes : Modes) (text : List ℕ) (n row : ℕ) (below : List (List ℕ)) (ram : Option TileXy) → is_in_ram (lines_of text) n ≡ true → below_statement (lines_of text) n ≡ below
    → tile_named (statement_over (lines_of text) n) ≡ ram → depth_at (lines_of text) n - 1 ≡ row
    → line_after from to modes text n ≡ memory_line_with (ram_bits below) (bits_after from to (mode_for modes ram) (ram_bits below)) row (line_at (whole_lines_of text) n)
unfolding line_after
line_after-inside from to modes text n row below ram inside is over place =
    let whole = line_at (whole_lines_of text) n in
    let before = ram_bits (below_statement (lines_of text) n) in
    let mode = mode_for modes (tile_named (statement_over (lines_of text) n)) in
    ap (λ inside. if inside then memory_line_with before (bits_after from to mode before) (depth_at (lines_of text) n - 1) whole else whole) inside
    ∙ ap₂ (λ below row. memory_line_with (ram_bits below) (bits_after from to mode (ram_bits below)) row whole) is place
    ∙ ap (λ r. memory_line_with (ram_bits below) (bits_after from to (mode_for modes r) (ram_bits below)) row whole) over

line_after-row : (from to : Contents) (modes : Modes) (text : List ℕ) (n row : ℕ) → depth_at (lines_of text) n ≡ 0 → is_ram_data (statement_in (line_at (lines_of text) n)) ≡ true → row < 16
    → line_after from to modes text (n + 1 + row)
    ≡ memory_line_with (ram_bits (drop (n + 1) (lines_of text)))
    (bits_after from to (mode_for modes (tile_named (statement_in (line_at (lines_of text) n)))) (ram_bits (drop (n + 1) (lines_of text)))) row (line_at (whole_lines_of text) (n + 1 + row))
line_after-row from to modes text n row flat is few =
    let lines = lines_of text in
    let here = row-of lines n row flat is few in
    let depth : depth_at lines (n + 1 + row) - 1 ≡ row = omega (arith, here.depth) in
    line_after-inside from to modes text (n + 1 + row) row (drop (n + 1) lines) (tile_named (statement_in (line_at lines n))) (row-in lines n row flat is few) (row-below lines n row flat is few) (ap tile_named here.over) depth

count-ram : (from : Contents) (modes : Modes) (lines : List (List ℕ)) (n column : ℕ) → depth_at lines n ≡ 0 → is_ram_data (statement_in (line_at lines n)) ≡ true
    → count_before from modes lines (n + 1 + 16) column
    ≡ count_before from modes lines n column + length (columns_found from (by_columns (mode_for modes (tile_named (statement_in (line_at lines n)))) (ram_bits (drop (n + 1) lines))) column)
count-ram from modes lines n column flat is =
    let given = found_at from modes lines column in
    let own = by_columns (mode_for modes (tile_named (statement_in (line_at lines n)))) (ram_bits (drop (n + 1) lines)) in
    let here : given n ≡ columns_found from own column = rw (at-flat lines n flat, is) refl in
    let none : gathered_below 16 (λ row. given (n + 1 + row)) ≡ [] = gathered_below-none 16 (λ row. given (n + 1 + row)) (λ row few. rw (row-none lines n row flat is few) refl) in
    ap length (gathered_below-sum (n + 1) 16 given ∙ ap (λ xs. gathered_below (n + 1) given ++ xs) none ∙ append-nil (gathered_below (n + 1) given)
    ∙ gathered_below-more n given ∙ ap (λ xs. gathered_below n given ++ xs) here)
    ∙ length-append (gathered_below n given) (columns_found from own column)

pub Progress-ram : (from to : Contents) (modes : Modes) (text left out found content whole rest middle after new counts : List ℕ) (mode : ℕ) → asc_fault_of standard_layouts text ≡ None → Progress from to modes text left out found
    → lines_of left ≡ content ∷ lines_of rest → whole_lines_of left ≡ whole ∷ whole_lines_of rest → is_ram_line content ≡ true → mode ≡ mode_for modes (tile_named (statement_in content)) → middle ≡ out ++ whole
    → new ≡ middle ++ gathered_below 16 (λ row. memory_line_with (ram_bits (lines_of rest)) (bits_after from to mode (ram_bits (lines_of rest))) row (line_at (whole_lines_of rest) row))
    → ((column : ℕ) → column < column_count from → get_or counts column 0 ≡ get_or found column 0 + length (columns_found from (by_columns mode (ram_bits (lines_of rest))) column))
    → length counts ≡ length found → lines_of after ≡ drop 16 (lines_of rest) → whole_lines_of after ≡ drop 16 (whole_lines_of rest)
    → Progress from to modes text after new counts
Progress-ram from to modes text left out found content whole rest middle after new counts mode none p lines wholes holds_so mode_is is appended counted size next next_wholes =
    let n = p.n in
    let all = lines_of text in
    let line = first from to modes text left out found content whole rest p lines wholes in
    let ram = ram-at from to modes text left out found content whole rest none p lines wholes holds_so in
    let given = line_after from to modes text in
    let own : mode_for modes (tile_named (statement_in (line_at all n))) ≡ mode = ap (λ l. mode_for modes (tile_named (statement_in l))) line.content_is ∙ sym mode_is in
    let rows : gathered_below 16 (λ row. given (n + 1 + row))
    ≡ gathered_below 16 (λ row. memory_line_with (ram_bits (lines_of rest)) (bits_after from to mode (ram_bits (lines_of rest))) row (line_at (whole_lines_of rest) row)) =
    gathered_below-same 16 (λ row. given (n + 1 + row)) (λ row. memory_line_with (ram_bits (lines_of rest)) (bits_after from to mode (ram_bits (lines_of rest))) row (line_at (whole_lines_of rest) row))
    (λ row few. line_after-row from to modes text n row ram.flat ram.is few
    ∙ ap (λ m. memory_line_with (ram_bits (drop (n + 1) all)) (bits_after from to m (ram_bits (drop (n + 1) all))) row (line_at (whole_lines_of text) (n + 1 + row))) own
    ∙ ap₂ (λ ls ws. memory_line_with (ram_bits ls) (bits_after from to mode (ram_bits ls)) row ws) (sym line.lines)
    (sym (ap (λ ws. line_at ws row) line.wholes ∙ get_or-drop (n + 1) (whole_lines_of text) row []))) in
    let end : n + 17 ≡ n + 1 + 16 = omega arith in
    record {
      n = n + 1 + 16;
      within = omega (arith, rows-within standard_layouts text n none line.there ram.flat ram.is);
      lines = next ∙ ap (drop 16) line.lines ∙ drop-drop 16 (n + 1) all;
      wholes = next_wholes ∙ ap (drop 16) line.wholes ∙ drop-drop 16 (n + 1) (whole_lines_of text);
      outside = subst (λ k. is_in_ram all k ≡ false) end (row-end all n ram.flat ram.is);
      written =
          appended ∙ ap₂ (λ xs ys. xs ++ ys)
          (is ∙ ap₂ (λ xs ys. xs ++ ys) p.written (sym (line_after-outside from to modes text n p.outside ∙ line.whole_is)) ∙ sym (gathered_below-more n given))
          (sym rows) ∙ sym (gathered_below-sum (n + 1) 16 given);
      size = size ∙ p.size;
      counted = λ column few.
          counted column few ∙ ap₂ (λ a ls. a + length (columns_found from (by_columns mode (ram_bits ls)) column)) (p.counted column few) line.lines
          ∙ ap (λ m. count_before from modes all n column + length (columns_found from (by_columns m (ram_bits (drop (n + 1) all))) column)) (sym own) ∙ sym (count-ram from modes all n column ram.flat ram.is);
    }

-- ---- after the last line

ended : (from to : Contents) (modes : Modes) (text left out found : List ℕ) → (p : Progress from to modes text left out found) → left ≡ [] → p.n ≡ length (lines_of text)
ended from to modes text left out found p end = cut-end text left p.n p.lines end p.within

pub all-replaced : (from to : Contents) (modes : Modes) (text left out found : List ℕ) → Progress from to modes text left out found → left ≡ [] → out ≡ replaced text from to modes
unfolding replaced
all-replaced from to modes text left out found p end = p.written ∙ ap (λ n. gathered_below n (line_after from to modes text)) (ended from to modes text left out found p end)

pub all-found : (from to : Contents) (modes : Modes) (text left out found : List ℕ) → Progress from to modes text left out found → left ≡ [] → found ≡ found_in text from modes
unfolding found_in
all-found from to modes text left out found p end =
    fill_by_all (count_before from modes (lines_of text) (length (lines_of text))) found (column_count from) 0 p.size
    (λ column few. p.counted column few ∙ ap (λ n. count_before from modes (lines_of text) n column) (ended from to modes text left out found p end))
