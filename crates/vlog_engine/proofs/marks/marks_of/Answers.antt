use Rattle.std.proofs.Common.{◌+◌, ◌/◌, ℕ, List, ap, arith, length, ◌∙◌}
use Rattle.std.proofs.lemmas.List.{length-replicate}
use Rattle.vlog_engine.specs.Marks.{is_marked}
use Rattle.vlog_engine.proofs.Bits.{bit-ones}
use Rattle.vlog_engine.proofs.Marked.{marked-full}
use Rattle.vlog_engine.proofs.marks.marks_of.Goals as goal

pub returns-clause-marks : goal.returns-clause-marks
returns-clause-marks c place within =
    let count : ℕ = c.args.count / 64 + 1 in
    let word : ℕ = 18446744073709551615 in
    let items = c.in_ok-marks.ensures.items_if_clones_equal (λ y same. same) in
    ap (λ marks. is_marked marks place) items ∙ marked-full count word bit-ones place (omega (arith, within, ap (λ (list : List ℕ). length list) items, length-replicate count word))
