use Rattle.std.proofs.Common.{◌≡◌, ℕ, ◌<◌, ap, sym, ◌∙◌, subst, slice_index, arith}
use Rattle.plane_map.specs.declared.tile.Run.{Run}
use Rattle.plane_map.specs.Layout.{bram_width, bram_height, quarter_of, word_place_of}
use Rattle.plane_map.specs.Runs.{IsRunIn, run_place}
use Rattle.plane_map.proofs.RowRuns.{word_run-parts, word_run-place, word_run-in}
use Rattle.plane_map.proofs.Words.{lower-odd, lower-third}
use Rattle.plane_map.proofs.runs.run_of_word.Goals as goal

pub ram_at-requires-clause-inner : goal.ram_at-requires-clause-inner
ram_at-requires-clause-inner c = omega (arith, lower-odd c.args.layout.now.device c.args.x c.args.y c.requires)

pub ram_at-requires-clause-inside : goal.ram_at-requires-clause-inside
ram_at-requires-clause-inside c = lower-third c.args.layout.now.device c.args.x c.args.y c.requires

pub returns-clause-in_planes : goal.returns-clause-in_planes
returns-clause-in_planes c =
    let args = c.args in
    let layout = args.layout.now in
    let bank = c.bank.ensures.value ∙ ap (λ n. slice_index layout.banks n) (c.quarter_at-quarter.ensures ∙ ap (λ d. quarter_of d args.x args.y) c.device.ensures.device) in
    let run = word_run-parts layout args.x args.y args.word c.bank.result c.ram_at.result bank c.ram_at.ensures in
    subst (IsRunIn (bram_width layout.device) (bram_height layout.device) 16) (sym run) (word_run-in layout c.device.ensures.layout args.x args.y args.word c.requires (omega arith))

pub returns-clause-places : goal.returns-clause-places
returns-clause-places c =
    let args = c.args in
    let layout = args.layout.now in
    let bank = c.bank.ensures.value ∙ ap (λ n. slice_index layout.banks n) (c.quarter_at-quarter.ensures ∙ ap (λ d. quarter_of d args.x args.y) c.device.ensures.device) in
    let run = word_run-parts layout args.x args.y args.word c.bank.result c.ram_at.result bank c.ram_at.ensures in
    subst (λ (run : Run). (bit : ℕ) → bit < 16 → word_place_of layout (record { x = args.x; y = args.y; word = args.word; bit = bit }) ≡ run_place run 16 bit) (sym run) (word_run-place layout c.device.ensures.layout args.x args.y args.word c.requires (omega arith))
