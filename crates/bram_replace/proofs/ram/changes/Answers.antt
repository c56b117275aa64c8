use Rattle.std.proofs.Common.{false, get_or, sym, arith}
use Rattle.bram_replace.proofs.Rows.{changes-yes, changes-no, differ}
use Rattle.bram_replace.proofs.ram.changes.Goals as goal

pub returns-then-old-place : goal.returns-then-old-place
returns-then-old-place c =
    let place = c.loop-place.place in
    sym (changes-yes c.args.old.now c.args.new.now c.args.row place (omega arith) (omega arith) (differ (get_or c.args.old.now place false) (get_or c.args.new.now place false) c.if-old-place.true))

pub returns : goal.returns
returns c = sym (changes-no c.args.old.now c.args.new.now c.args.row (λ place from to. c.loop-place.invariant place from (omega arith)))
