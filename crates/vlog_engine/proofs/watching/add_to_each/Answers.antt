use Rattle.std.proofs.Common.{◌∷◌, [], get_or, subst, sym, take}
use Rattle.std.proofs.lemmas.List.{take_more}
use Rattle.vlog_engine.specs.Watching.{AddsReader}
use Rattle.vlog_engine.proofs.Placed.{reader-more}
use Rattle.vlog_engine.proofs.watching.add_to_each.Goals as goal

pub loop-cell-preserved : goal.loop-cell-preserved
loop-cell-preserved c =
    let place = c.args.place in
    let cells = c.args.cells.now in
    let i = c.loop-cell.cell-index in
    let old = c.args.readers.now.items in
    let new = c.add_once.new.readers.items in
    subst (λ known. AddsReader place known old new) (sym (take_more cells i 0 c.loop-cell-test.true))
    (reader-more place (take i cells) (get_or cells i 0 ∷ []) old c.loop-cell.readers.items new c.loop-cell.invariant c.in_ok-add_once.ensures)
