use Rattle.std.proofs.Common.{[], ◌∷◌}
use Rattle.std.specs.Prelude.{codes}
use Rattle.std.proofs.lemmas.Result.{on_ok_weaker}
use Rattle.asc_text.specs.Canonical.{with_word}
use Rattle.plane_map.specs.DeviceWords.{device_word}
use Rattle.asc_text.proofs.Pieces.{lines-joined}
use Rattle.selfrun_tool.specs.Counted.{number_line}
use Rattle.selfrun_tool.proofs.counts.append_design.Goals as goal

pub returns : goal.returns
returns c =
    let old = c.args.text.now.items in
    let counts = c.args.counts.now in
    let device = with_word (codes "device") (device_word c.args.device) in
    let bin = number_line (codes "bin") counts.bin in
    let nets = number_line (codes "nets") counts.nets in
    let cells = number_line (codes "cells") counts.cells in
    let rams = number_line (codes "rams") counts.rams in
    let wires = number_line (codes "wires") counts.wires in
    on_ok_weaker c.append_line-5.result (λ last. lines-joined old _ _ (device ∷ bin ∷ nets ∷ cells ∷ rams ∷ []) (wires ∷ []) (lines-joined old _ _ (device ∷ bin ∷ nets ∷ cells ∷ []) (rams ∷ []) (lines-joined old _ _ (device ∷ bin ∷ nets ∷ []) (cells ∷ []) (lines-joined old _ _ (device ∷ bin ∷ []) (nets ∷ []) (lines-joined old _ _ (device ∷ []) (bin ∷ []) c.in_ok-append_device.ensures c.in_ok-append_line.ensures) c.in_ok-append_line-2.ensures) c.in_ok-append_line-3.ensures) c.in_ok-append_line-4.ensures) last) c.append_line-5.ensures
