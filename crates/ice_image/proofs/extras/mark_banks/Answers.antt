use Rattle.ice_image.proofs.Marked.{marked-more}
use Rattle.ice_image.proofs.extras.mark_banks.Goals as goal

pub loop-bank-preserved : goal.loop-bank-preserved
loop-bank-preserved g c =
    let end = c.mark_row in
    let inner = c.mark_row-in-loop-bank in
    (marked-more c.args.layout.now c.loop-bank.bank c.loop-bank.owned end.new.owned inner.new.owned c.loop-bank.invariant.0 end.ensures.kept end.ensures.marked inner.ensures.marks inner.ensures.kept inner.ensures.marked, inner.ensures.whole)
