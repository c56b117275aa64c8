use Rattle.std.proofs.Common.{[], ◌∷◌}
use Rattle.std.specs.Prelude.{codes}
use Rattle.std.proofs.lemmas.Result.{on_ok_weaker}
use Rattle.asc_text.proofs.Pieces.{lines-joined}
use Rattle.image_stat.specs.Counts.{count_line}
use Rattle.image_stat.proofs.counts.append_cells.Goals as goal

pub returns : goal.returns
returns c =
    let old = c.args.text.now.items in
    let counts = c.args.counts.now in
    let luts = count_line (codes "luts") counts.luts in
    let flops = count_line (codes "flops") counts.flops in
    let carries = count_line (codes "carries") counts.carries in
    let rams = count_line (codes "rams") counts.rams in
    on_ok_weaker c.append_line-4.result (λ last. lines-joined old _ _ (luts ∷ flops ∷ carries ∷ []) (rams ∷ []) (lines-joined old _ _ (luts ∷ flops ∷ []) (carries ∷ []) (lines-joined old _ _ (luts ∷ []) (flops ∷ []) c.in_ok-append_line.ensures c.in_ok-append_line-2.ensures) c.in_ok-append_line-3.ensures) last) c.append_line-4.ensures
