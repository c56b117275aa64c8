use Rattle.std.proofs.Common.{◌∙◌, sym, ap, Some}
use Rattle.ice_io.proofs.Stored.{find_here, find_past}
use Rattle.ice_io.proofs.mem_files.find_file.Goals as goal

pub returns-then-eq : goal.returns-then-eq
returns-then-eq c =
    let same = rw c.as_str.ensures.value at (sym c.eq.ensures ∙ c.if-eq.true) in
    ap Some c.deref.ensures.value ∙ sym (c.loop-file.invariant ∙ find_here _ _ _ _ c.loop-file-test.true c.file-item.is same)

pub loop-file-preserved : goal.loop-file-preserved
loop-file-preserved c =
    let other = rw c.as_str.ensures.value at (sym c.eq.ensures ∙ c.if-eq.false) in
    c.loop-file.invariant ∙ find_past _ _ _ _ c.loop-file-test.true c.file-item.is other
