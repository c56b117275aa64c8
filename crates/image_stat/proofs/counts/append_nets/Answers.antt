use Rattle.std.proofs.Common.{[], ◌∷◌}
use Rattle.std.specs.Prelude.{codes}
use Rattle.std.proofs.lemmas.Result.{on_ok_weaker}
use Rattle.asc_text.proofs.Pieces.{lines-joined}
use Rattle.image_stat.specs.Counts.{count_line}
use Rattle.image_stat.proofs.counts.append_nets.Goals as goal

pub returns : goal.returns
returns c =
    let old = c.args.text.now.items in
    let counts = c.args.counts.now in
    let pins = count_line (codes "pins") counts.pins in
    let globals = count_line (codes "globals") counts.globals in
    let buffers = count_line (codes "buffers") counts.buffers in
    let routings = count_line (codes "routings") counts.routings in
    let bits = count_line (codes "bits") counts.bits in
    let extra = count_line (codes "extra") counts.extra in
    on_ok_weaker c.append_line-6.result (λ last. lines-joined old _ _ (pins ∷ globals ∷ buffers ∷ routings ∷ bits ∷ []) (extra ∷ []) (lines-joined old _ _ (pins ∷ globals ∷ buffers ∷ routings ∷ []) (bits ∷ []) (lines-joined old _ _ (pins ∷ globals ∷ buffers ∷ []) (routings ∷ []) (lines-joined old _ _ (pins ∷ globals ∷ []) (buffers ∷ []) (lines-joined old _ _ (pins ∷ []) (globals ∷ []) c.in_ok-append_line.ensures c.in_ok-append_line-2.ensures) c.in_ok-append_line-3.ensures) c.in_ok-append_line-4.ensures) c.in_ok-append_line-5.ensures) last) c.append_line-6.ensures
