use Rattle.std.proofs.Common.{◌≡◌, ◌+◌, ◌-◌, ◌++◌, ◌∙◌, length, drop, ap, sym, rules, arith}
use Rattle.std.proofs.lemmas.Result.{err_from_is_err_and}
use Rattle.bin_stream.proofs.Stages.{pending-grown, nothing-before, cut-pending}
use Rattle.bin_stream.proofs.reading.stage.pending_after.Goals as goal

pub returns-then-is_empty-clause-stands : goal.returns-then-is_empty-clause-stands
returns-then-is_empty-clause-stands c = λ bytes fed_is read.
    let m = c.args.machine in
    let pending = c.args.pending.items in
    let piece = c.args.piece.now in
    let nothing : length pending ≡ 0 = search rules in
    c.commands_after.ensures.stands (bytes ++ piece)
    (pending-grown m.layouts bytes piece c.args.comment m.registers m.image c.args.fed pending read c.args.fed piece (omega (arith, nothing)) (nothing-before pending piece nothing))

pub returns-in_err-taken-clause-stands : goal.returns-in_err-taken-clause-stands
returns-in_err-taken-clause-stands c = λ bytes fed_is read.
    let m = c.args.machine in
    let piece = c.args.piece.now in
    let p = err_from_is_err_and c.from_residual-in_err-taken.result c.from_residual-in_err-taken.ensures.1 in
    rw (p.1, p.2)
    (c.in_err-taken.ensures.refused (bytes ++ piece) c.args.comment
    (pending-grown m.layouts bytes piece c.args.comment m.registers m.image c.args.fed c.args.pending.items read (c.args.fed - c.len.result) c.deref.result.now (omega (arith, c.len.ensures)) (c.deref.ensures.value ∙ c.in_ok-extend_from_slice.ensures.items)))

pub returns-clause-stands : goal.returns-clause-stands
returns-clause-stands c = λ bytes fed_is read.
    let m = c.args.machine in
    let piece = c.args.piece.now in
    let all = bytes ++ piece in
    let w = c.in_ok-taken in
    let reading = pending-grown m.layouts bytes piece c.args.comment m.registers m.image c.args.fed c.args.pending.items read (c.args.fed - c.len.result) c.deref.result.now (omega (arith, c.len.ensures)) (c.deref.ensures.value ∙ c.in_ok-extend_from_slice.ensures.items) in
    c.stage_after.ensures.stands m.layouts all
    (λ last. w.ensures.woken last all c.args.comment reading)
    (λ goes. cut-pending m.layouts all c.args.comment w.taken.machine.registers w.taken.machine.image (c.args.fed - c.len.result + w.taken.end) _ c.in_ok-left.left.items (w.ensures.cut goes all c.args.comment reading) (c.in_ok-left.ensures.left goes ∙ ap (drop w.taken.end) (sym c.deref.ensures.value)))
