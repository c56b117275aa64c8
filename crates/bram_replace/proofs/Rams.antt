-- How often a column is found: there is room for the count of each.
use Rattle.std.proofs.Common.{◌≡◌, ℕ, zero, suc, ◌+◌, ◌*◌, ◌≤◌, true, false, List, [], ◌∷◌, length, drop, arith, inl, inr, length-append}
use Rattle.std.specs.Prelude.{None, if◌then◌else◌}
use Rattle.std.proofs.lemmas.Bool.{cases_Bool}
use Rattle.index_search.specs.Places.{gathered_below}
use Rattle.index_search.proofs.Gathered.{length-gathered_below}
use Rattle.text_lines.specs.Lines.{lines_of}
use Rattle.layout_file.specs.Layouts.{standard_layouts}
use Rattle.asc_text.specs.Blocks.{statement_at}
use Rattle.asc_text.specs.Faults.{asc_fault_of, tile_named}
use Rattle.asc_text.specs.Rams.{is_ram_data}
use Rattle.asc_text.proofs.RamPlaces.{ram_place, ram_places, ram_place-one, few-rams}
use Rattle.bram_replace.specs.HexText.{Contents}
use Rattle.bram_replace.specs.Columns.{column_at, is_same}
use Rattle.bram_replace.specs.Replaced.{columns_found, column_found, found_at, count_before, ram_bits, ram_column}
use Rattle.bram_replace.specs.ReadModes.{RamBits, Modes, by_columns, mode_for}

few-found : (from : Contents) (bits : RamBits) (column : ℕ) → length (columns_found from bits column) ≤ 16
few-found from bits column =
    let few : (bit : ℕ) → length (column_found from bits column bit) ≤ 1 = λ bit.
    elim (is_same (column_at from column) (ram_column bits bit)) as (λ is. length (if is then bit ∷ [] else []) ≤ 1) [ true ↦ omega arith | false ↦ omega arith ] in
    omega (arith, length-gathered_below 16 1 (column_found from bits column) few)

found-line : (from : Contents) (modes : Modes) (lines : List (List ℕ)) (n column : ℕ) → length (found_at from modes lines column n) ≤ 16 * length (ram_place (statement_at lines n))
found-line from modes lines n column =
    elim (cases_Bool (is_ram_data (statement_at lines n))) [
      | inl is ↦ rw is (omega (arith, few-found from (by_columns (mode_for modes (tile_named (statement_at lines n))) (ram_bits (drop (n + 1) lines))) column, ram_place-one (statement_at lines n) is))
      | inr other ↦ rw other (omega arith)
    ]

count-rams : (from : Contents) (modes : Modes) (lines : List (List ℕ)) (n column : ℕ) → count_before from modes lines n column ≤ 16 * length (ram_places lines n)
unfolding gathered_below
count-rams from modes lines zero column = omega arith
count-rams from modes lines (suc n) column =
    omega (
      arith,
      count-rams from modes lines n column,
      found-line from modes lines n column,
      length-append (gathered_below n (found_at from modes lines column)) (found_at from modes lines column n),
      length-append (ram_places lines n) (ram_place (statement_at lines n)),
    )

-- a count has room for another RAM
pub count-few : (from : Contents) (modes : Modes) (text : List ℕ) (n column : ℕ) → asc_fault_of standard_layouts text ≡ None → n ≤ length (lines_of text) → count_before from modes (lines_of text) n column ≤ 18496
count-few from modes text n column none within = omega (arith, count-rams from modes (lines_of text) n column, few-rams standard_layouts text n none within)
