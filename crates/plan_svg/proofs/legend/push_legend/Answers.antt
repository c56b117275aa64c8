use Rattle.std.proofs.Common.{◌≡◌, ◌++◌, ◌∷◌, ℕ, List, [], length, map, ap, ◌∙◌, arith}
use Rattle.std.specs.Prelude.{codes, decimal, flat_map}
use Rattle.std.specs.List.{concat}
use Rattle.std.proofs.lemmas.Result.{on_ok_weaker}
use Rattle.plan_marks.specs.declared.plan.GlobalMark.{GlobalMark}
use Rattle.plan_marks.specs.declared.plan.PllMark.{PllMark}
use Rattle.plan_marks.specs.Plans.{plan_in}
use Rattle.plan_svg.specs.declared.literals.TheConstants.{CELL_ROWS, RAM_ROWS, PIN_ROWS, LINK_ROWS, PLL_HEAD}
use Rattle.plan_svg.specs.Legend.{cell_numbers, legend, pin_numbers, ram_numbers, with_numbers}
use Rattle.plan_svg.specs.Sheet.{legend_left}
use Rattle.plan_svg.specs.Sources.{global_row, pll_rows}
use Rattle.plan_svg.proofs.Said.{ended-ok, written-more}
use Rattle.plan_svg.proofs.legend.push_legend.Goals as goal

pub returns : goal.returns
unfolding legend
returns c =
    let plan = plan_in c.args.plan.now in
    let text = c.args.text.now.items in
    let place = concat (codes "<g transform=\"translate(" ∷ decimal (legend_left c.args.sheet) ∷ codes " 0)\">\n" ∷ []) in
    let cells = with_numbers (map (λ text. text.now) CELL_ROWS) (cell_numbers plan) in
    let rams = with_numbers (map (λ text. text.now) RAM_ROWS) (ram_numbers plan) in
    let pins = with_numbers (map (λ text. text.now) PIN_ROWS) (pin_numbers plan) in
    let rows = flat_map global_row plan.globals in
    let head = concat (PLL_HEAD.now ∷ decimal (length plan.plls) ∷ codes "</text>\n" ∷ []) in
    let plls = pll_rows 850 plan.plls in
    let count : c.len.result ≡ length c.args.plan.now.plls.items = omega (arith, c.len.ensures, c.args.plan.now.plls.ok.0) in
    let to_cells = written-more text place _ cells _ c.in_ok-push_legend_place.ensures
    (c.in_ok-push_with_numbers.ensures ∙ ap (λ (numbers : List ℕ). c.push_legend_place.new.text.items ++ with_numbers (map (λ text. text.now) CELL_ROWS) numbers) c.in_ok-cell_numbers.ensures) in
    let to_rams = written-more text (place ++ cells) _ rams _ to_cells
    (c.in_ok-push_with_numbers-2.ensures ∙ ap (λ (numbers : List ℕ). c.push_with_numbers.new.text.items ++ with_numbers (map (λ text. text.now) RAM_ROWS) numbers) c.in_ok-ram_numbers.ensures) in
    let to_pins = written-more text (place ++ cells ++ rams) _ pins _ to_rams
    (c.in_ok-push_with_numbers-3.ensures ∙ ap (λ (numbers : List ℕ). c.push_with_numbers-2.new.text.items ++ with_numbers (map (λ text. text.now) PIN_ROWS) numbers) c.in_ok-pin_numbers.ensures) in
    let to_links = written-more text (place ++ cells ++ rams ++ pins) _ LINK_ROWS.now _ to_pins
    (c.in_ok-extend_from_slice.ensures.items ∙ ap (λ (bytes : List ℕ). c.push_with_numbers-3.new.text.items ++ bytes) c.as_bytes.ensures.value) in
    let to_rows = written-more text (place ++ cells ++ rams ++ pins ++ LINK_ROWS.now) _ rows _ to_links
    (c.in_ok-push_global_rows.ensures ∙ ap (λ (globals : List GlobalMark). c.extend_from_slice.new.self.items ++ flat_map global_row globals) c.deref.ensures.value) in
    let to_head = written-more text (place ++ cells ++ rams ++ pins ++ LINK_ROWS.now ++ rows) _ head _ to_rows
    (c.in_ok-push_pll_head.ensures ∙ ap (λ (n : ℕ). c.push_global_rows.new.text.items ++ concat (PLL_HEAD.now ∷ decimal n ∷ codes "</text>\n" ∷ [])) count) in
    let to_plls = written-more text (place ++ cells ++ rams ++ pins ++ LINK_ROWS.now ++ rows ++ head) _ plls _ to_head
    (c.in_ok-push_pll_rows.ensures ∙ ap (λ (plls : List PllMark). c.push_pll_head.new.text.items ++ pll_rows 850 plls) c.deref-2.ensures.value) in
    on_ok_weaker c.extend_from_slice-2.result
    (λ ended. written-more text (place ++ cells ++ rams ++ pins ++ LINK_ROWS.now ++ rows ++ head ++ plls) _ (codes "</g>\n") _ to_plls ended)
    (ended-ok c.extend_from_slice-2.result _ _ _ c.extend_from_slice-2.ensures.items)
