-- The legend: what each shape means and how many there are, the global networks, and the PLLs. Its words are in `src/literals.rt`.
use Rattle.std.specs.Prelude.{ℕ, ◌-◌, List, [], ◌∷◌, ◌++◌, length, map, flat_map, decimal, codes}
use Rattle.std.specs.List.{concat}
use Rattle.plan_svg.specs.declared.literals.TheConstants.{CELL_ROWS, RAM_ROWS, PIN_ROWS, LINK_ROWS, PLL_HEAD}
use Rattle.plan_svg.specs.declared.sheet.Sheet.{Sheet}
use Rattle.plan_marks.specs.Plans.{Plan, count_of, all_cells, all_rams, all_pins, used_cells, used_rams, used_pins}
use Rattle.plan_svg.specs.Sheet.{legend_left}
use Rattle.plan_svg.specs.Sources.{global_row, pll_rows}

-- each text with a number after it, as long as there are numbers
abbrev pub with_numbers : List (List ℕ) → List ℕ → List ℕ
with_numbers [] numbers = []
with_numbers (text ∷ texts) [] = text ++ with_numbers texts []
with_numbers (text ∷ texts) (number ∷ numbers) = text ++ (decimal number ++ with_numbers texts numbers)

-- unused cells, and the used ones by their classes
unfoldable pub cell_numbers : Plan → List ℕ
cell_numbers plan = (all_cells plan - used_cells plan) ∷ count_of (codes "l") plan ∷ count_of (codes "f") plan ∷ count_of (codes "c") plan ∷ count_of (codes "d") plan ∷ []

unfoldable pub ram_numbers : Plan → List ℕ
ram_numbers plan = (all_rams plan - used_rams plan) ∷ used_rams plan ∷ []

-- pins that are no ports, and the ports by their classes
unfoldable pub pin_numbers : Plan → List ℕ
pin_numbers plan =
    (all_pins plan - used_pins plan) ∷ count_of (codes "i") plan ∷ count_of (codes "j") plan ∷ count_of (codes "o") plan ∷ count_of (codes "p") plan
    ∷ count_of (codes "b") plan ∷ count_of (codes "q") plan ∷ []

unfoldable pub legend : Sheet → Plan → List ℕ
legend sheet plan =
    concat (codes "<g transform=\"translate(" ∷ decimal (legend_left sheet) ∷ codes " 0)\">\n" ∷ [])
    ++ with_numbers (map (λ text. text.now) CELL_ROWS) (cell_numbers plan)
    ++ with_numbers (map (λ text. text.now) RAM_ROWS) (ram_numbers plan)
    ++ with_numbers (map (λ text. text.now) PIN_ROWS) (pin_numbers plan)
    ++ LINK_ROWS.now
    ++ flat_map global_row plan.globals
    ++ concat (PLL_HEAD.now ∷ decimal (length plan.plls) ∷ codes "</text>\n" ∷ [])
    ++ pll_rows 850 plan.plls
    ++ codes "</g>\n"
