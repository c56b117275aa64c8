-- Which lines of a text that can be read are the statements of RAMs, and which lines stand below them.
use Rattle.std.proofs.Common.{◌≡◌, ◌≢◌, ℕ, zero, suc, ◌+◌, ◌-◌, ◌<◌, ◌≤◌, Bool, true, false, ◌==◌, List, [], ◌∷◌, length, drop, refl, sym, ap, ◌∙◌, inl, inr, arith, add-one}
use Rattle.std.specs.Prelude.{Option, Some, None, bytes_eq, nat_lt, if◌then◌else◌}
use Rattle.std.proofs.lemmas.Bool.{cases_lt, cases_Bool, and_parts, false≢true, lt-ltb, le-ltb, lt-leb, ne_eqb}
use Rattle.std.proofs.lemmas.Slice.Eq.{bytes_eq-Decides}
use Rattle.std.proofs.lemmas.List.{get_or-drop, get_or_past}
use Rattle.text_lines.specs.Lines.{lines_of, line_at, trimmed}
use Rattle.text_lines.specs.Words.{first_word, after_word, words_of, number_of, numbers_of}
use Rattle.text_lines.specs.declared.words.Separators.TheVariants.{Spaces}
use Rattle.layout_file.specs.declared.layouts.Layouts.{Layouts}
use Rattle.plane_map.specs.declared.tile.TileKind.{TileKind}
use Rattle.plane_map.specs.declared.tile.TileKind.TheVariants.{Io, Logic, RamB, RamT}
use Rattle.asc_text.specs.declared.statement.Statement.{Statement}
use Rattle.asc_text.specs.declared.statement.Statement.TheVariants.{Comment, Device, WarmBoot, FrequencyRange, NoSleep, Tile, RamData, ExtraBit, Symbol}
use Rattle.asc_text.specs.declared.fault.TileXy.{TileXy}
use Rattle.asc_text.specs.declared.fault.AscCause.{AscCause}
use Rattle.asc_text.specs.declared.fault.AscCause.TheVariants.{Hex}
use Rattle.asc_text.specs.Statements.{begins_with_dot, statement_in, spelled, comment_keyword, device_keyword, warm_boot_keyword, range_keyword, no_sleep_keyword, tile_keyword, ram_data_keyword, extra_bit_keyword, symbol_keyword, device_of_words, warm_boot_of_words, range_of_words, no_sleep_of_words, tile_of_numbers, ram_data_of_numbers, extra_bit_of_numbers, symbol_of_parts, name_after}
use Rattle.asc_text.specs.Rows.{is_memory_line}
use Rattle.asc_text.specs.Blocks.{has_rows, depth_at, statement_over, statement_at}
use Rattle.asc_text.specs.Faults.{asc_fault_of, fault_at, fault_with, cause_at, row_cause, statement_cause, tile_named}
use Rattle.asc_text.specs.Rams.{is_ram_data, is_in_ram, below_statement, is_ram_line, BeginsWithRam}
use Rattle.index_search.proofs.Found.{first_below-clear}
use Rattle.asc_text.proofs.Depths.{depth-first, depth-step, depth_after-next}
use Rattle.asc_text.proofs.Dotted.{dotless-below, passes}

-- ---- the words of a statement

-- one of two is a RAM's: the second, if the first isn't
not_first : (test : Bool) (first other : Option Statement) → is_ram_data first ≡ false → is_ram_data (if test then first else other) ≡ true → is_ram_data other ≡ true
not_first true first other never is = absurd (false≢true (sym never ∙ is))
not_first false first other never is = is

not_other : (test : Bool) (first other : Option Statement) → is_ram_data other ≡ false → is_ram_data (if test then first else other) ≡ true → test ≡ true
not_other true first other never is = refl
not_other false first other never is = absurd (false≢true (sym never ∙ is))

neither : (test : Bool) (first other : Option Statement) → is_ram_data first ≡ false → is_ram_data other ≡ false → is_ram_data (if test then first else other) ≡ false
neither true first other never none = never
neither false first other never none = none

no_device : (words : List (List ℕ)) → is_ram_data (device_of_words words) ≡ false
no_device [] = refl
no_device (word ∷ []) = refl
no_device (word ∷ other ∷ words) = refl

no_warm_boot : (words : List (List ℕ)) → is_ram_data (warm_boot_of_words words) ≡ false
no_warm_boot [] = refl
no_warm_boot (word ∷ []) = refl
no_warm_boot (word ∷ other ∷ words) = refl

no_range : (words : List (List ℕ)) → is_ram_data (range_of_words words) ≡ false
no_range [] = refl
no_range (word ∷ []) = refl
no_range (word ∷ other ∷ words) = refl

no_no_sleep : (words : List (List ℕ)) → is_ram_data (no_sleep_of_words words) ≡ false
no_no_sleep [] = refl
no_no_sleep (word ∷ []) = refl
no_no_sleep (word ∷ other ∷ words) = refl

no_tile : (kind : TileKind) (numbers : Option (List ℕ)) → is_ram_data (tile_of_numbers kind numbers) ≡ false
no_tile kind None = refl
no_tile kind (Some []) = refl
no_tile kind (Some (x ∷ [])) = refl
no_tile kind (Some (x ∷ y ∷ [])) = refl
no_tile kind (Some (x ∷ y ∷ z ∷ rest)) = refl

no_extra_bit : (numbers : Option (List ℕ)) → is_ram_data (extra_bit_of_numbers numbers) ≡ false
no_extra_bit None = refl
no_extra_bit (Some []) = refl
no_extra_bit (Some (x ∷ [])) = refl
no_extra_bit (Some (x ∷ y ∷ [])) = refl
no_extra_bit (Some (x ∷ y ∷ z ∷ [])) = refl
no_extra_bit (Some (x ∷ y ∷ z ∷ w ∷ rest)) = refl

no_symbol : (number : Option ℕ) (name : List ℕ) → is_ram_data (symbol_of_parts number name) ≡ false
no_symbol None name = refl
no_symbol (Some net) [] = refl
no_symbol (Some net) (byte ∷ bytes) = refl

-- a RAM's statement has the keyword of one
spelled-keyword : (word following : List ℕ) → is_ram_data (spelled word following) ≡ true → bytes_eq word ram_data_keyword ≡ true
spelled-keyword word following is =
    let words = words_of Spaces following in
    let numbers = numbers_of words in
    let last = neither (bytes_eq word extra_bit_keyword) (extra_bit_of_numbers numbers) _ (no_extra_bit numbers)
    (neither (bytes_eq word symbol_keyword) (symbol_of_parts (number_of (first_word Spaces following)) (name_after following)) None (no_symbol (number_of (first_word Spaces following)) (name_after following)) refl) in
    not_other (bytes_eq word ram_data_keyword) (ram_data_of_numbers numbers) _ last
    (not_first (bytes_eq word (tile_keyword RamT)) (tile_of_numbers RamT numbers) _ (no_tile RamT numbers)
    (not_first (bytes_eq word (tile_keyword RamB)) (tile_of_numbers RamB numbers) _ (no_tile RamB numbers)
    (not_first (bytes_eq word (tile_keyword Logic)) (tile_of_numbers Logic numbers) _ (no_tile Logic numbers)
    (not_first (bytes_eq word (tile_keyword Io)) (tile_of_numbers Io numbers) _ (no_tile Io numbers)
    (not_first (bytes_eq word no_sleep_keyword) (no_sleep_of_words words) _ (no_no_sleep words)
    (not_first (bytes_eq word range_keyword) (range_of_words words) _ (no_range words)
    (not_first (bytes_eq word warm_boot_keyword) (warm_boot_of_words words) _ (no_warm_boot words)
    (not_first (bytes_eq word device_keyword) (device_of_words words) _ (no_device words)
    (not_first (bytes_eq word comment_keyword) (Some Comment) _ refl is)))))))))

-- so the line of a RAM's statement is seen by its first word
pub ram_line-from : (line : List ℕ) → is_ram_data (statement_in line) ≡ true → is_ram_line line ≡ true
unfolding statement_in
ram_line-from line is =
    elim (cases_Bool (begins_with_dot line)) [
      | inl dot ↦
          let spelled_so : is_ram_data (spelled (first_word Spaces (trimmed line)) (after_word Spaces (trimmed line))) ≡ true = rw dot at is in
          rw (dot, spelled-keyword (first_word Spaces (trimmed line)) (after_word Spaces (trimmed line)) spelled_so) refl
      | inr other ↦ absurd (false≢true (rw other at is))
    ]

ram_or_none : (numbers : Option (List ℕ)) → ram_data_of_numbers numbers ≢ None → is_ram_data (ram_data_of_numbers numbers) ≡ true
ram_or_none None some = absurd (some refl)
ram_or_none (Some []) some = absurd (some refl)
ram_or_none (Some (x ∷ [])) some = absurd (some refl)
ram_or_none (Some (x ∷ y ∷ [])) some = refl
ram_or_none (Some (x ∷ y ∷ z ∷ rest)) some = absurd (some refl)

-- and a line with this first word that has the form of a statement is one
pub ram_line-is : (line : List ℕ) → is_ram_line line ≡ true → statement_in line ≢ None → is_ram_data (statement_in line) ≡ true
unfolding statement_in
ram_line-is line is some =
    let parts = and_parts (begins_with_dot line) (bytes_eq (first_word Spaces (trimmed line)) ram_data_keyword) is in
    let word = (bytes_eq-Decides (first_word Spaces (trimmed line)) ram_data_keyword).0 parts.1 in
    let spelled_so : statement_in line ≡ ram_data_of_numbers (numbers_of (words_of Spaces (after_word Spaces (trimmed line)))) =
    rw parts.0 (ap (λ w. spelled w (after_word Spaces (trimmed line))) word) in
    rw spelled_so (ram_or_none (numbers_of (words_of Spaces (after_word Spaces (trimmed line)))) (λ none. some (spelled_so ∙ none)))

-- ---- lines of a text without a fault

fault-none : (cause : Option AscCause) (line : ℕ) (tile : Option TileXy) → fault_with cause line tile ≡ None → cause ≡ None
fault-none (Some cause) line tile none = absurd cc
fault-none None line tile none = refl

-- nothing is wrong with any line
pub fine : (layouts : Layouts) (text : List ℕ) (n : ℕ) → asc_fault_of layouts text ≡ None → n ≤ length (lines_of text) → cause_at layouts (lines_of text) n ≡ None
unfolding asc_fault_of
fine layouts text n none within =
    fault-none (cause_at layouts (lines_of text) n) (n + 1) (tile_named (statement_over (lines_of text) n))
    (first_below-clear (length (lines_of text) + 1) n (fault_at layouts (lines_of text)) none (omega arith))

-- a line below a statement is as it should be
fine-row : (layouts : Layouts) (lines : List (List ℕ)) (n : ℕ) → cause_at layouts lines n ≡ None → 0 < depth_at lines n → row_cause (statement_over lines n) (trimmed (line_at lines n)) ≡ None
unfolding cause_at
fine-row layouts lines n none deep = rw (lt-ltb 0 (depth_at lines n) deep) at none

-- a line that begins with a dot has the form of a statement
fine-statement : (layouts : Layouts) (lines : List (List ℕ)) (n : ℕ) → cause_at layouts lines n ≡ None → depth_at lines n ≡ 0 → n < length lines → begins_with_dot (line_at lines n) ≡ true
    → statement_in (line_at lines n) ≢ None
unfolding cause_at
fine-statement layouts lines n none flat within dot missing =
    let outside : nat_lt 0 (depth_at lines n) ≡ false = rw flat refl in
    let told : statement_cause layouts lines n (statement_in (line_at lines n)) ≡ None = rw (outside, lt-leb (length lines) n within, dot) at none in
    let clash = rw missing at told in
    absurd cc

-- ---- depths

after-flat : (lines : List (List ℕ)) (n : ℕ) → depth_at lines n ≡ 0 → depth_at lines (suc n) ≡ (if has_rows (statement_in (line_at lines n)) then 1 else 0)
after-flat lines n flat = depth-step lines n ∙ rw flat refl

after-last : (lines : List (List ℕ)) (n : ℕ) → depth_at lines n ≡ 16 → depth_at lines (suc n) ≡ 0
after-last lines n last = depth-step lines n ∙ rw last refl

after-inner : (lines : List (List ℕ)) (n : ℕ) → 0 < depth_at lines n → depth_at lines n < 16 → depth_at lines (suc n) ≡ depth_at lines n + 1
after-inner lines n deep inner = depth-step lines n ∙ depth_after-next (depth_at lines n) _ deep inner

over-flat : (lines : List (List ℕ)) (n : ℕ) → depth_at lines (suc n) ≡ 1 → statement_over lines (suc n) ≡ statement_in (line_at lines n)
unfolding statement_over
over-flat lines n one = let e : suc n - 1 ≡ n = omega arith in rw (one, e) refl

over-inner : (lines : List (List ℕ)) (n : ℕ) → depth_at lines (suc n) ≡ depth_at lines n + 1 → statement_over lines (suc n) ≡ statement_over lines n
unfolding statement_over
over-inner lines n one = let e : suc n - (depth_at lines n + 1) ≡ n - depth_at lines n = omega arith in rw (one, e) refl

over-itself : (lines : List (List ℕ)) (n : ℕ) → depth_at lines n ≡ 0 → statement_over lines n ≡ statement_in (line_at lines n)
unfolding statement_over
over-itself lines n flat = let e : n - 0 ≡ n = omega arith in rw (flat, e) refl

pub at-flat : (lines : List (List ℕ)) (n : ℕ) → depth_at lines n ≡ 0 → statement_at lines n ≡ statement_in (line_at lines n)
unfolding statement_at
at-flat lines n flat = rw flat refl

pub at-deep : (lines : List (List ℕ)) (n : ℕ) → 0 < depth_at lines n → statement_at lines n ≡ None
unfolding statement_at
at-deep lines n deep = rw (ne_eqb (depth_at lines n) 0 (λ e. omega arith)) refl

opened-inner : (opens : Bool) (depth : ℕ) → depth ≡ (if opens then 1 else 0) → 0 < depth → depth ≡ 1
opened-inner true depth is deep = is
opened-inner false depth is deep = absurd (omega arith)

-- a first line below a statement
opened : (lines : List (List ℕ)) (n : ℕ) → depth_at lines n ≡ 0 → 0 < depth_at lines (suc n) → depth_at lines (suc n) ≡ 1
opened lines n flat deep = opened-inner (has_rows (statement_in (line_at lines n))) (depth_at lines (suc n)) (after-flat lines n flat) deep

-- a line below a statement: that one has lines below it, and stands at most sixteen lines before
pub record IsBelow (lines : List (List ℕ)) (n : ℕ) : Type 0 where
  pub rows : has_rows (statement_over lines n) ≡ true
  pub within : depth_at lines n ≤ n
  pub few : depth_at lines n ≤ 16

below-opened : (lines : List (List ℕ)) (n : ℕ) (opens : Bool) → has_rows (statement_in (line_at lines n)) ≡ opens → depth_at lines (suc n) ≡ (if opens then 1 else 0)
    → 0 < depth_at lines (suc n) → IsBelow lines (suc n)
below-opened lines n true is one deep = record {
  rows = ap has_rows (over-flat lines n one) ∙ is;
  within = omega arith;
  few = omega arith;
}
below-opened lines n false is none deep = absurd (omega arith)

pub below : (lines : List (List ℕ)) (n : ℕ) → 0 < depth_at lines n → IsBelow lines n
below lines zero deep = absurd (omega (arith, depth-first lines))
below lines (suc n) deep =
    elim (cases_lt 0 (depth_at lines n)) [
      | inl inside ↦
          let before = below lines n inside in
          elim (cases_lt (depth_at lines n) 16) [
            | inl inner ↦
                let more = after-inner lines n inside inner in
                record {
                  rows = ap has_rows (over-inner lines n more) ∙ before.rows;
                  within = omega (arith, before.within);
                  few = omega arith;
                }
            | inr over ↦
                let last : depth_at lines n ≡ 16 = omega (arith, before.few) in
                absurd (omega (arith, after-last lines n last))
          ]
      | inr outside ↦
          let flat : depth_at lines n ≡ 0 = omega arith in
          below-opened lines n (has_rows (statement_in (line_at lines n))) refl (after-flat lines n flat) deep
    ]

-- ---- a RAM's statement

-- of a text that can be read no line below a statement begins with a dot
pub dotless-deep : (layouts : Layouts) (text : List ℕ) (n : ℕ) → asc_fault_of layouts text ≡ None → n < length (lines_of text) → 0 < depth_at (lines_of text) n → begins_with_dot (line_at (lines_of text) n) ≡ false
dotless-deep layouts text n none within deep =
    let lines = lines_of text in
    dotless-below (statement_over lines n) (line_at lines n) (below lines n deep).rows (fine-row layouts lines n (fine layouts text n none (omega arith)) deep)

-- a line outside of RAMs that looks like the statement of one is one
pub ram-begins : (layouts : Layouts) (text : List ℕ) (n : ℕ) → asc_fault_of layouts text ≡ None → n < length (lines_of text) → is_in_ram (lines_of text) n ≡ false → is_ram_line (line_at (lines_of text) n) ≡ true
    → (depth_at (lines_of text) n ≡ 0) × (is_ram_data (statement_in (line_at (lines_of text) n)) ≡ true)
ram-begins layouts text n none within outside is =
    let lines = lines_of text in
    let line = line_at lines n in
    let right = fine layouts text n none (omega arith) in
    let parts = and_parts (begins_with_dot line) (bytes_eq (first_word Spaces (trimmed line)) ram_data_keyword) is in
    elim (cases_lt 0 (depth_at lines n)) [
      | inl deep ↦ absurd (false≢true (sym (dotless-deep layouts text n none within deep) ∙ parts.0))
      | inr flat ↦
          let zero_depth : depth_at lines n ≡ 0 = omega arith in
          (zero_depth, ram_line-is line is (fine-statement layouts lines n right zero_depth within parts.0))
    ]

-- a line that doesn't look like one isn't
pub ram-not : (lines : List (List ℕ)) (n : ℕ) → is_ram_line (line_at lines n) ≡ false → is_ram_data (statement_in (line_at lines n)) ≡ false
ram-not lines n never =
    elim (cases_Bool (is_ram_data (statement_in (line_at lines n)))) [
      | inl is ↦ absurd (false≢true (sym never ∙ ram_line-from (line_at lines n) is))
      | inr other ↦ other
    ]

pub ram-not-at : (lines : List (List ℕ)) (n : ℕ) → is_ram_data (statement_in (line_at lines n)) ≡ false → is_ram_data (statement_at lines n) ≡ false
unfolding statement_at
ram-not-at lines n never =
    elim (cases_Bool (depth_at lines n == 0)) [
      | inl flat ↦ rw flat never
      | inr deep ↦ rw deep refl
    ]

-- after a line outside of RAMs that is no statement of one, the next is outside too
pub outside-more : (lines : List (List ℕ)) (n : ℕ) → is_in_ram lines n ≡ false → is_ram_data (statement_in (line_at lines n)) ≡ false → is_in_ram lines (n + 1) ≡ false
outside-more lines n outside other = rw add-one (elim (cases_lt 0 (depth_at lines (suc n))) [
  | inl deep ↦ rw (lt-ltb 0 (depth_at lines (suc n)) deep) (elim (cases_lt 0 (depth_at lines n)) [
    | inl inside ↦
        let before : is_ram_data (statement_over lines n) ≡ false = rw (lt-ltb 0 (depth_at lines n) inside) at outside in
        elim (cases_lt (depth_at lines n) 16) [
          | inl inner ↦ ap is_ram_data (over-inner lines n (after-inner lines n inside inner)) ∙ before
          | inr over ↦
              let last : depth_at lines n ≡ 16 = omega (arith, (below lines n inside).few) in
              absurd (omega (arith, after-last lines n last))
        ]
    | inr flat ↦
        let zero_depth : depth_at lines n ≡ 0 = omega arith in
        ap is_ram_data (over-flat lines n (opened lines n zero_depth deep)) ∙ other
  ])
  | inr flat ↦ rw (le-ltb 0 (depth_at lines (suc n)) flat) refl
])

-- ---- the sixteen lines of a RAM

rows-of : (statement : Option Statement) → is_ram_data statement ≡ true → has_rows statement ≡ true
rows-of None is = absurd (false≢true is)
rows-of (Some Comment) is = absurd (false≢true is)
rows-of (Some (Device device)) is = absurd (false≢true is)
rows-of (Some (WarmBoot setting)) is = absurd (false≢true is)
rows-of (Some (FrequencyRange setting)) is = absurd (false≢true is)
rows-of (Some (NoSleep setting)) is = absurd (false≢true is)
rows-of (Some (Tile kind x y)) is = absurd (false≢true is)
rows-of (Some (RamData x y)) is = refl
rows-of (Some (ExtraBit bank x y)) is = absurd (false≢true is)
rows-of (Some (Symbol net)) is = absurd (false≢true is)

-- a line of a RAM, counted from the statement's line
pub record IsRow (lines : List (List ℕ)) (n row : ℕ) : Type 0 where
  pub depth : depth_at lines (n + 1 + row) ≡ row + 1
  pub over : statement_over lines (n + 1 + row) ≡ statement_in (line_at lines n)

pub row-of : (lines : List (List ℕ)) (n row : ℕ) → depth_at lines n ≡ 0 → is_ram_data (statement_in (line_at lines n)) ≡ true → row < 16 → IsRow lines n row
row-of lines n zero flat is few =
    let here : n + 1 + 0 ≡ suc n = omega arith in
    let one : depth_at lines (suc n) ≡ 1 = after-flat lines n flat ∙ rw (rows-of (statement_in (line_at lines n)) is) refl in
    record { depth = rw here one; over = rw here (over-flat lines n one) }
row-of lines n (suc row) flat is few =
    let here : n + 1 + suc row ≡ suc (n + 1 + row) = omega arith in
    let before = row-of lines n row flat is (omega arith) in
    let deep : 0 < depth_at lines (n + 1 + row) = omega (arith, before.depth) in
    let inner : depth_at lines (n + 1 + row) < 16 = omega (arith, before.depth) in
    let more = after-inner lines (n + 1 + row) deep inner in
    let next : depth_at lines (suc (n + 1 + row)) ≡ suc row + 1 = omega (arith, more, before.depth) in
    record { depth = rw here next; over = rw here (over-inner lines (n + 1 + row) more ∙ before.over) }

-- the lines after it are outside
pub row-end : (lines : List (List ℕ)) (n : ℕ) → depth_at lines n ≡ 0 → is_ram_data (statement_in (line_at lines n)) ≡ true → is_in_ram lines (n + 17) ≡ false
row-end lines n flat is =
    let last = row-of lines n 15 flat is (omega arith) in
    let here : n + 17 ≡ suc (n + 1 + 15) = omega arith in
    let none : depth_at lines (suc (n + 1 + 15)) ≡ 0 = after-last lines (n + 1 + 15) last.depth in
    rw (here, none) refl

-- a line of a RAM is one, and its statement's lines are those below
pub row-in : (lines : List (List ℕ)) (n row : ℕ) → depth_at lines n ≡ 0 → is_ram_data (statement_in (line_at lines n)) ≡ true → row < 16 → is_in_ram lines (n + 1 + row) ≡ true
row-in lines n row flat is few =
    let r = row-of lines n row flat is few in
    rw (lt-ltb 0 (depth_at lines (n + 1 + row)) (omega (arith, r.depth)), r.over) is

pub row-below : (lines : List (List ℕ)) (n row : ℕ) → depth_at lines n ≡ 0 → is_ram_data (statement_in (line_at lines n)) ≡ true → row < 16
    → below_statement lines (n + 1 + row) ≡ drop (n + 1) lines
row-below lines n row flat is few =
    let r = row-of lines n row flat is few in
    let here : n + 1 + row - (row + 1) + 1 ≡ n + 1 = omega arith in
    rw (r.depth, here) refl

pub row-none : (lines : List (List ℕ)) (n row : ℕ) → depth_at lines n ≡ 0 → is_ram_data (statement_in (line_at lines n)) ≡ true → row < 16 → statement_at lines (n + 1 + row) ≡ None
row-none lines n row flat is few = at-deep lines (n + 1 + row) (omega (arith, (row-of lines n row flat is few).depth))

ram_row : (statement : Option Statement) (line : List ℕ) → is_ram_data statement ≡ true → row_cause statement line ≡ None → is_memory_line line ≡ true
ram_row None line is none = absurd (false≢true is)
ram_row (Some Comment) line is none = absurd (false≢true is)
ram_row (Some (Device device)) line is none = absurd (false≢true is)
ram_row (Some (WarmBoot setting)) line is none = absurd (false≢true is)
ram_row (Some (FrequencyRange setting)) line is none = absurd (false≢true is)
ram_row (Some (NoSleep setting)) line is none = absurd (false≢true is)
ram_row (Some (Tile kind x y)) line is none = absurd (false≢true is)
ram_row (Some (RamData x y)) line is none = passes (is_memory_line line) Hex none
ram_row (Some (ExtraBit bank x y)) line is none = absurd (false≢true is)
ram_row (Some (Symbol net)) line is none = absurd (false≢true is)

-- an empty line is no line of a RAM
pub no_empty : is_memory_line (trimmed []) ≡ false
unfolding is_memory_line trimmed
no_empty = refl

row-line : (layouts : Layouts) (text : List ℕ) (n row : ℕ) → asc_fault_of layouts text ≡ None → depth_at (lines_of text) n ≡ 0 → is_ram_data (statement_in (line_at (lines_of text) n)) ≡ true → row < 16
    → n + 1 + row ≤ length (lines_of text) → is_memory_line (trimmed (line_at (lines_of text) (n + 1 + row))) ≡ true
row-line layouts text n row none flat is few within =
    let lines = lines_of text in
    let r = row-of lines n row flat is few in
    let right = fine-row layouts lines (n + 1 + row) (fine layouts text (n + 1 + row) none within) (omega (arith, r.depth)) in
    let told : row_cause (statement_in (line_at lines n)) (trimmed (line_at lines (n + 1 + row))) ≡ None = rw r.over at right in
    ram_row (statement_in (line_at lines n)) (trimmed (line_at lines (n + 1 + row))) is told

-- all sixteen lines are there
pub rows-within : (layouts : Layouts) (text : List ℕ) (n : ℕ) → asc_fault_of layouts text ≡ None → n < length (lines_of text) → depth_at (lines_of text) n ≡ 0 → is_ram_data (statement_in (line_at (lines_of text) n)) ≡ true
    → n + 17 ≤ length (lines_of text)
rows-within layouts text n none within flat is =
    let size = length (lines_of text) in
    elim (cases_lt size (n + 17)) [
      | inl short ↦
          let row = size - (n + 1) in
          let end : n + 1 + row ≡ size = omega arith in
          let line = row-line layouts text n row none flat is (omega arith) (omega arith) in
          let empty : line_at (lines_of text) (n + 1 + row) ≡ [] = get_or_past (lines_of text) (n + 1 + row) [] (omega arith) in
          let clash : is_memory_line (trimmed []) ≡ true = rw empty at line in
          absurd (false≢true (sym no_empty ∙ clash))
      | inr enough ↦ omega arith
    ]

-- and they are those of a RAM
pub begins : (layouts : Layouts) (text : List ℕ) (n : ℕ) → asc_fault_of layouts text ≡ None → n < length (lines_of text) → depth_at (lines_of text) n ≡ 0 → is_ram_data (statement_in (line_at (lines_of text) n)) ≡ true
    → BeginsWithRam (drop (n + 1) (lines_of text))
begins layouts text n none within flat is row few =
    rw (get_or-drop (n + 1) (lines_of text) row []) (row-line layouts text n row none flat is few (omega (arith, rows-within layouts text n none within flat is)))
