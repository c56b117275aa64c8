use Rattle.std.proofs.Common.{[], ◌∷◌, ◌+◌}
use Rattle.std.specs.Prelude.{codes}
use Rattle.std.proofs.lemmas.Result.{on_ok_weaker}
use Rattle.asc_text.proofs.Pieces.{lines-joined}
use Rattle.selfrun_tool.specs.Counted.{number_line}
use Rattle.selfrun_tool.proofs.counts.append_run.Goals as goal

pub returns : goal.returns
returns c =
    let old = c.args.text.now.items in
    let counts = c.args.counts.now in
    let events = number_line (codes "events") counts.events in
    let all = number_line (codes "lines") (counts.events + 1) in
    let explained = number_line (codes "explain") counts.explained in
    let ones = number_line (codes "ones") counts.ones in
    on_ok_weaker c.append_line-4.result (λ last. lines-joined old _ _ (events ∷ all ∷ explained ∷ []) (ones ∷ []) (lines-joined old _ _ (events ∷ all ∷ []) (explained ∷ []) (lines-joined old _ _ (events ∷ []) (all ∷ []) c.in_ok-append_line.ensures c.in_ok-append_line-2.ensures) c.in_ok-append_line-3.ensures) last) c.append_line-4.ensures
