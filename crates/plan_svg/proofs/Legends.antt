-- How a reader goes through the legend.
use Rattle.std.proofs.Common.{◌≡◌, ℕ, ◌+◌, ◌-◌, ◌*◌, Bool, true, false, List, [], ◌∷◌, ◌++◌, append_assoc, length, map, refl, sym, ap, ◌∙◌}
use Rattle.std.specs.Prelude.{codes, decimal, flat_map}
use Rattle.std.specs.List.{concat}
use Rattle.plan_svg.specs.declared.literals.TheConstants.{CELL_ROWS, RAM_ROWS, PIN_ROWS, LINK_ROWS, PLL_HEAD}
use Rattle.plan_marks.specs.declared.plan.GlobalMark.{GlobalMark}
use Rattle.plan_marks.specs.declared.plan.GlobalSource.{GlobalSource}
use Rattle.plan_marks.specs.declared.plan.GlobalSource.TheVariants as source
use Rattle.plan_marks.specs.declared.plan.PllMark.{PllMark}
use Rattle.plan_svg.specs.declared.sheet.Sheet.{Sheet}
use Rattle.plan_svg.specs.Legend.{cell_numbers, legend, pin_numbers, ram_numbers, with_numbers}
use Rattle.plan_marks.specs.Plans.{Plan, all_cells, all_pins, all_rams, count_of, used_cells, used_pins, used_rams}
use Rattle.plan_svg.specs.Reader.{content, read, reading}
use Rattle.plan_svg.specs.Sheet.{legend_left}
use Rattle.plan_svg.specs.Sources.{global_badge, global_row, global_shape, output_words, outputs_words, pll_row, pll_rows, read_words, source_words}
use Rattle.plan_svg.proofs.Drawn.{badge-shapes, calm-concat, group, group-ends, read_letter, words}
use Rattle.plan_svg.proofs.Rows.{cell0-read, cell0_text, cell0_words, cell1-read, cell1_text, cell1_words, cell2-read, cell2_text, cell2_words, cell3-read, cell3_text, cell3_words, cell4-read, cell4_text, cell4_words, ram0-read, ram0_text, ram0_words, ram1-read, ram1_text, ram1_words, pin0-read, pin0_text, pin0_words, pin1-read, pin1_text, pin1_words, pin2-read, pin2_text, pin2_words, pin3-read, pin3_text, pin3_words, pin4-read, pin4_text, pin4_words, pin5-read, pin5_text, pin5_words, pin6-read, pin6_text, pin6_words, links-read, links_words}
use Rattle.plan_svg.proofs.Reading.{Goes, goes-none, goes-row, Bit, IsCalm, Reads, calm-number, evaluated, evaluates, read-then, reads-append, reads-each, reads-none, words_of, lit, num}

-- ---- rows of global networks

row_bits : ℕ → ℕ → ℕ → ℕ → List Bit
row_bits class form y g =
    lit (codes "<use class=\"k") ∷ lit (class ∷ []) ∷ lit (codes "\" xlink:href=\"#") ∷ lit (form ∷ []) ∷ lit (codes "\" x=\"16\" y=\"") ∷ num (y - 5)
    ∷ lit (codes "\"/><text class=\"gt\" x=\"16\" y=\"") ∷ num (y - 2) ∷ lit (codes "\">") ∷ num g ∷ lit (codes "</text><text class=\"k\" x=\"48\" y=\"") ∷ num y ∷ lit (codes "\">") ∷ []

-- the classes of the end of a row
abbrev pub end_words : Bool → List (List ℕ)
end_words true = []
end_words false = codes "v" ∷ []

module _ (element : List ℕ) (elements classes : List (List ℕ)) where
  badge-read : (y : ℕ) (global : GlobalMark)
      → read (reading content (element ∷ elements) classes) (global_badge y global) ≡ reading content (words ∷ element ∷ elements) (codes "k" ∷ codes "tg" ∷ (read_letter global.is_read ∷ codes "k") ∷ classes)
  unfolding global_badge row_bits read
  badge-read y global =
      let now = reading content (element ∷ elements) classes in
      evaluates now (row_bits (read_letter global.is_read) (global_shape global.source) y global.g)
      ∙ badge-shapes (λ form. evaluated now (row_bits (read_letter global.is_read) form y global.g) ≡ reading content (words ∷ element ∷ elements) (codes "k" ∷ codes "tg" ∷ (read_letter global.is_read ∷ codes "k") ∷ classes))
      (by 67 refl refl global.is_read) (by 70 refl refl global.is_read) global.source
    where
      by : (form : ℕ)
          → evaluated (reading content (element ∷ elements) classes) (row_bits 103 form y global.g) ≡ reading content (words ∷ element ∷ elements) (codes "k" ∷ codes "tg" ∷ codes "gk" ∷ classes)
          → evaluated (reading content (element ∷ elements) classes) (row_bits 122 form y global.g) ≡ reading content (words ∷ element ∷ elements) (codes "k" ∷ codes "tg" ∷ codes "zk" ∷ classes)
          → (is_read : Bool) → evaluated (reading content (element ∷ elements) classes) (row_bits (read_letter is_read) form y global.g)
          ≡ reading content (words ∷ element ∷ elements) (codes "k" ∷ codes "tg" ∷ (read_letter is_read ∷ codes "k") ∷ classes)
      by form g z true = g
      by form g z false = z

  end-read : (y : ℕ) (is_read : Bool) → read (reading content (words ∷ element ∷ elements) classes) (read_words y is_read) ≡ reading content (element ∷ elements) (end_words is_read ++ classes)
  unfolding read_words read
  end-read y true = refl
  end-read y false = evaluates (reading content (words ∷ element ∷ elements) classes)
      (lit (codes "</text><text class=\"v\" x=\"284\" y=\"") ∷ num y ∷ lit (codes "\">not read</text>\n") ∷ [])

calm-output : (is_b : Bool) → IsCalm (output_words is_b)
unfolding read
calm-output true elements classes = refl
calm-output false elements classes = refl

calm-source : (x y : ℕ) (from : GlobalSource) → IsCalm (source_words x y from)
unfolding source_words read
calm-source x y (source.Pin n) = calm-concat (codes "pin " ∷ decimal x ∷ codes " " ∷ decimal y ∷ codes " " ∷ decimal n ∷ []) (λ elements classes. refl, (calm-number x, (λ elements classes. refl, (calm-number y, (λ elements classes. refl, (calm-number n, tt))))))
calm-source x y (source.Pll n pll_x pll_y is_b) = calm-concat (codes "PLL " ∷ decimal pll_x ∷ codes " " ∷ decimal pll_y ∷ output_words is_b ∷ []) (λ elements classes. refl, (calm-number pll_x, (λ elements classes. refl, (calm-number pll_y, (calm-output is_b, tt)))))
calm-source x y source.Fabric = calm-concat (codes "fabric " ∷ decimal x ∷ codes " " ∷ decimal y ∷ []) (λ elements classes. refl, (calm-number x, (λ elements classes. refl, (calm-number y, tt))))

-- the classes of a row
abbrev pub row_words : GlobalMark → List (List ℕ)
row_words global = end_words global.is_read ++ codes "k" ∷ codes "tg" ∷ (read_letter global.is_read ∷ codes "k") ∷ []

row-reads : (global : GlobalMark) → Reads (global_row global) (row_words global)
unfolding global_row
row-reads global element elements classes =
    let y = 654 + 20 * global.g in
    let from = source_words global.x global.y global.source in
    let now = reading content (element ∷ elements) classes in
    let found = codes "k" ∷ codes "tg" ∷ (read_letter global.is_read ∷ codes "k") ∷ [] in
    read-then now (global_badge y global ++ from) (read_words y global.is_read)
    (read-then now (global_badge y global) from (badge-read element elements classes y global) (calm-source global.x global.y global.source (words ∷ element ∷ elements) (found ++ classes)))
    (end-read element elements (found ++ classes) y global.is_read
    ∙ ap (reading content (element ∷ elements)) (sym (append_assoc (end_words global.is_read) found classes)))

-- ---- rows of PLLs

abbrev pub pll_row_words : PllMark → List (List ℕ)
pll_row_words pll = codes "k" ∷ codes "yk" ∷ []

pll_bits : ℕ → ℕ → ℕ → List ℕ → List Bit
pll_bits x y row outputs =
    lit (codes "<rect class=\"ky\" x=\"4\" y=\"") ∷ num (row - 12) ∷ lit (codes "\" width=\"24\" height=\"13\"/><text class=\"k\" x=\"48\" y=\"") ∷ num row
    ∷ lit (codes "\">PLL ") ∷ num x ∷ lit (codes " ") ∷ num y ∷ lit outputs ∷ []

pll_row-reads : (row : ℕ) (pll : PllMark) → Reads (pll_row row pll) (pll_row_words pll)
unfolding pll_row pll_bits read
pll_row-reads row pll element elements classes = evaluates (reading content (element ∷ elements) classes) (pll_bits pll.x pll.y row (outputs_words pll.has_b)) ∙ by pll.has_b
  where
    by : (has_b : Bool) → evaluated (reading content (element ∷ elements) classes) (pll_bits pll.x pll.y row (outputs_words has_b)) ≡ reading content (element ∷ elements) (codes "k" ∷ codes "yk" ∷ classes)
    by true = refl
    by false = refl

pll_rows-read : (row : ℕ) (plls : List PllMark) → Reads (pll_rows row plls) (words_of pll_row_words plls)
unfolding pll_rows
pll_rows-read row [] = reads-none
pll_rows-read row (pll ∷ plls) =
    reads-append (pll_row row pll) (pll_rows (row + 20) plls) (pll_row_words pll) (words_of pll_row_words plls) (pll_row-reads row pll) (pll_rows-read (row + 20) plls)

-- ---- rows of cells, RAMs and pins

abbrev cell_texts : List (List ℕ)
cell_texts = map (λ text. text.now) CELL_ROWS

abbrev ram_texts : List (List ℕ)
ram_texts = map (λ text. text.now) RAM_ROWS

abbrev pin_texts : List (List ℕ)
pin_texts = map (λ text. text.now) PIN_ROWS

-- the classes of these texts
abbrev pub cell_words : List (List ℕ)
cell_words = cell4_words ++ (cell3_words ++ (cell2_words ++ (cell1_words ++ cell0_words)))

abbrev pub ram_words : List (List ℕ)
ram_words = ram1_words ++ ram0_words

abbrev pub pin_words : List (List ℕ)
pin_words = pin6_words ++ (pin5_words ++ (pin4_words ++ (pin3_words ++ (pin2_words ++ (pin1_words ++ pin0_words)))))

abbrev pub rows_words : List (List ℕ)
rows_words = links_words ++ (pin_words ++ (ram_words ++ cell_words))

abbrev inner : List (List ℕ)
inner = words ∷ group ∷ []

cells-read : (a b c d e : ℕ) → Goes (group ∷ []) inner (with_numbers cell_texts (a ∷ b ∷ c ∷ d ∷ e ∷ [])) cell_words
cells-read a b c d e =
    let t4 : List ℕ = cell4_text ++ (decimal e ++ []) in
    let w4 : List (List ℕ) = ([] ++ []) ++ cell4_words in
    let r4 : Goes inner inner t4 w4 = goes-row inner inner inner cell4_text e [] cell4_words [] cell4-read (goes-none inner) in
    let t3 : List ℕ = cell3_text ++ (decimal d ++ t4) in
    let w3 : List (List ℕ) = (w4 ++ []) ++ cell3_words in
    let r3 : Goes inner inner t3 w3 = goes-row inner inner inner cell3_text d t4 cell3_words w4 cell3-read r4 in
    let t2 : List ℕ = cell2_text ++ (decimal c ++ t3) in
    let w2 : List (List ℕ) = (w3 ++ []) ++ cell2_words in
    let r2 : Goes inner inner t2 w2 = goes-row inner inner inner cell2_text c t3 cell2_words w3 cell2-read r3 in
    let t1 : List ℕ = cell1_text ++ (decimal b ++ t2) in
    let w1 : List (List ℕ) = (w2 ++ []) ++ cell1_words in
    let r1 : Goes inner inner t1 w1 = goes-row inner inner inner cell1_text b t2 cell1_words w2 cell1-read r2 in
    goes-row (group ∷ []) inner inner cell0_text a t1 cell0_words w1 cell0-read r1

rams-read : (a b : ℕ) → Goes inner inner (with_numbers ram_texts (a ∷ b ∷ [])) ram_words
rams-read a b =
    let t1 : List ℕ = ram1_text ++ (decimal b ++ []) in
    let w1 : List (List ℕ) = ([] ++ []) ++ ram1_words in
    let r1 : Goes inner inner t1 w1 = goes-row inner inner inner ram1_text b [] ram1_words [] ram1-read (goes-none inner) in
    goes-row inner inner inner ram0_text a t1 ram0_words w1 ram0-read r1

pins-read : (a b c d e f g : ℕ) → Goes inner inner (with_numbers pin_texts (a ∷ b ∷ c ∷ d ∷ e ∷ f ∷ g ∷ [])) pin_words
pins-read a b c d e f g =
    let t6 : List ℕ = pin6_text ++ (decimal g ++ []) in
    let w6 : List (List ℕ) = ([] ++ []) ++ pin6_words in
    let r6 : Goes inner inner t6 w6 = goes-row inner inner inner pin6_text g [] pin6_words [] pin6-read (goes-none inner) in
    let t5 : List ℕ = pin5_text ++ (decimal f ++ t6) in
    let w5 : List (List ℕ) = (w6 ++ []) ++ pin5_words in
    let r5 : Goes inner inner t5 w5 = goes-row inner inner inner pin5_text f t6 pin5_words w6 pin5-read r6 in
    let t4 : List ℕ = pin4_text ++ (decimal e ++ t5) in
    let w4 : List (List ℕ) = (w5 ++ []) ++ pin4_words in
    let r4 : Goes inner inner t4 w4 = goes-row inner inner inner pin4_text e t5 pin4_words w5 pin4-read r5 in
    let t3 : List ℕ = pin3_text ++ (decimal d ++ t4) in
    let w3 : List (List ℕ) = (w4 ++ []) ++ pin3_words in
    let r3 : Goes inner inner t3 w3 = goes-row inner inner inner pin3_text d t4 pin3_words w4 pin3-read r4 in
    let t2 : List ℕ = pin2_text ++ (decimal c ++ t3) in
    let w2 : List (List ℕ) = (w3 ++ []) ++ pin2_words in
    let r2 : Goes inner inner t2 w2 = goes-row inner inner inner pin2_text c t3 pin2_words w3 pin2-read r3 in
    let t1 : List ℕ = pin1_text ++ (decimal b ++ t2) in
    let w1 : List (List ℕ) = (w2 ++ []) ++ pin1_words in
    let r1 : Goes inner inner t1 w1 = goes-row inner inner inner pin1_text b t2 pin1_words w2 pin1-read r2 in
    goes-row inner inner inner pin0_text a t1 pin0_words w1 pin0-read r1

module _ (element : List ℕ) (elements classes : List (List ℕ)) where
  begin-read : (sheet : Sheet)
      → read (reading content (element ∷ elements) classes) (concat (codes "<g transform=\"translate(" ∷ decimal (legend_left sheet) ∷ codes " 0)\">\n" ∷ [])) ≡ reading content (group ∷ element ∷ elements) classes
  unfolding read
  begin-read sheet = evaluates (reading content (element ∷ elements) classes) (lit (codes "<g transform=\"translate(") ∷ num (legend_left sheet) ∷ lit (codes " 0)\">\n") ∷ [])

head-reads : (n : ℕ) → Reads (concat (PLL_HEAD.now ∷ decimal n ∷ codes "</text>\n" ∷ [])) (codes "v" ∷ codes "t" ∷ [])
unfolding read
head-reads n element elements classes = evaluates (reading content (element ∷ elements) classes) (lit PLL_HEAD.now ∷ num n ∷ lit (codes "</text>\n") ∷ [])

-- ---- the whole

-- the classes of the legend
abbrev pub legend_words : Plan → List (List ℕ)
legend_words plan = words_of pll_row_words plan.plls ++ (codes "v" ∷ codes "t" ∷ (words_of row_words plan.globals ++ rows_words))

joined : (plls globals link pin ram cell classes : List (List ℕ))
    → plls ++ (codes "v" ∷ codes "t" ∷ (globals ++ (link ++ (pin ++ (ram ++ (cell ++ classes))))))
    ≡ (plls ++ (codes "v" ∷ codes "t" ∷ (globals ++ (link ++ (pin ++ (ram ++ cell)))))) ++ classes
joined plls globals link pin ram cell classes = simp append_assoc

pub legend-reads : (sheet : Sheet) (plan : Plan) → Reads (legend sheet plan) (legend_words plan)
unfolding legend cell_numbers ram_numbers pin_numbers
legend-reads sheet plan element elements classes =
    let now = reading content (element ∷ elements) classes in
    let begin = concat (codes "<g transform=\"translate(" ∷ decimal (legend_left sheet) ∷ codes " 0)\">\n" ∷ []) in
    let cells = with_numbers cell_texts (cell_numbers plan) in
    let rams = with_numbers ram_texts (ram_numbers plan) in
    let pins = with_numbers pin_texts (pin_numbers plan) in
    let rows = flat_map global_row plan.globals in
    let head = concat (PLL_HEAD.now ∷ decimal (length plan.plls) ∷ codes "</text>\n" ∷ []) in
    let plls = pll_rows 850 plan.plls in
    let one = cell_words ++ classes in
    let two = ram_words ++ one in
    let three = pin_words ++ two in
    let four = links_words ++ three in
    let five = words_of row_words plan.globals ++ four in
    let six = codes "v" ∷ codes "t" ∷ five in
    let to_cells = read-then now begin cells (begin-read element elements classes sheet)
    (cells-read (all_cells plan - used_cells plan) (count_of (codes "l") plan) (count_of (codes "f") plan) (count_of (codes "c") plan) (count_of (codes "d") plan) element elements classes) in
    let to_rams = read-then now (begin ++ cells) rams to_cells (rams-read (all_rams plan - used_rams plan) (used_rams plan) element elements one) in
    let to_pins = read-then now (begin ++ cells ++ rams) pins to_rams
    (pins-read (all_pins plan - used_pins plan) (count_of (codes "i") plan) (count_of (codes "j") plan) (count_of (codes "o") plan) (count_of (codes "p") plan) (count_of (codes "b") plan) (count_of (codes "q") plan) element elements two) in
    let to_links = read-then now (begin ++ cells ++ rams ++ pins) LINK_ROWS.now to_pins (links-read element elements three) in
    let to_rows = read-then now (begin ++ cells ++ rams ++ pins ++ LINK_ROWS.now) rows to_links (reads-each global_row row_words row-reads plan.globals group (element ∷ elements) four) in
    let to_head = read-then now (begin ++ cells ++ rams ++ pins ++ LINK_ROWS.now ++ rows) head to_rows (head-reads (length plan.plls) group (element ∷ elements) five) in
    let to_plls = read-then now (begin ++ cells ++ rams ++ pins ++ LINK_ROWS.now ++ rows ++ head) plls to_head (pll_rows-read 850 plan.plls group (element ∷ elements) six) in
    read-then now (begin ++ cells ++ rams ++ pins ++ LINK_ROWS.now ++ rows ++ head ++ plls) (codes "</g>\n") to_plls
    (group-ends element elements (words_of pll_row_words plan.plls ++ six)
    ∙ ap (reading content (element ∷ elements)) (joined (words_of pll_row_words plan.plls) (words_of row_words plan.globals) links_words pin_words ram_words cell_words classes))
