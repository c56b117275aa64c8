use Rattle.std.proofs.Common.{◌≡◌, ◌+◌, ◌≤◌, ◌∙◌, List, ℕ, length, drop, sym, subst, arith, length-drop, drop-drop}
use Rattle.std.proofs.lemmas.Result.{err_from_is_err_and}
use Rattle.bin_stream.proofs.Stages.{taken-refused, taken-cut, taken-more, taken-woken, reading-at}
use Rattle.bin_stream.proofs.reading.taking.take_commands.Goals as goal

pub returns-in_err-entered-clause-refused : goal.returns-in_err-entered-clause-refused
returns-in_err-entered-clause-refused c =
    let l = c.loop-machine in
    let at = c.args.at in
    let following = c.following in
    let p = err_from_is_err_and c.from_residual.result c.from_residual.ensures.1 in
    rw (p.1, p.2) (λ all comment read.
    taken-refused c.args.machine.layouts l.machine.layouts l.invariant.layouts all comment l.machine.registers l.machine.image (at.offset + l.end) following.result.offset (drop l.end at.bytes.now) following.result.bytes.now following.ensures.offset following.ensures.bytes (l.invariant.read all comment read) c.in_err-entered.field-0.0 c.in_err-entered.ensures.refused c.in_err-entered.ensures.settled)

pub returns-then-entered-eq0-clause-cut : goal.returns-then-entered-eq0-clause-cut
returns-then-entered-eq0-clause-cut c = λ _ all comment read.
    let l = c.loop-machine in
    let at = c.args.at in
    let following = c.following in
    let e = c.in_ok-entered.ensures in
    let none = c.if-entered-eq0.true in
    taken-cut c.args.machine.layouts l.machine.layouts l.invariant.layouts all comment l.machine.registers l.machine.image (at.offset + l.end) following.result.offset (drop l.end at.bytes.now) following.result.bytes.now following.ensures.offset following.ensures.bytes (l.invariant.read all comment read) c.enter_whole.new.machine.registers c.enter_whole.new.machine.image (e.registers none) (e.image none) (e.cut none)

pub returns-then-entered-clause-woken : goal.returns-then-entered-clause-woken
returns-then-entered-clause-woken c = λ _ all comment read.
    let l = c.loop-machine in
    let at = c.args.at in
    let following = c.following in
    taken-woken c.args.machine.layouts l.machine.layouts l.invariant.layouts all comment l.machine.registers l.machine.image (at.offset + l.end) following.result.offset (drop l.end at.bytes.now) following.result.bytes.now following.ensures.offset following.ensures.bytes (l.invariant.read all comment read) c.in_ok-entered.entered.size c.in_ok-entered.entered.is_last c.enter_whole.new.machine.registers c.enter_whole.new.machine.image (c.in_ok-entered.ensures.entered (omega arith)) c.if-entered.true

pub loop-machine-preserved : goal.loop-machine-preserved
loop-machine-preserved c =
    let l = c.loop-machine in
    let at = c.args.at in
    let following = c.following in
    let size = c.in_ok-entered.entered.size in
    let fits : size ≤ length (drop l.end at.bytes.now) = subst (λ (rest : List ℕ). size ≤ length rest) following.ensures.bytes c.in_ok-entered.ensures.within in
    let within = l.invariant.within in
    let there : at.offset + (l.end + size) ≡ at.offset + l.end + size = omega arith in
    record {
      layouts = c.enter_whole.ensures.layouts ∙ l.invariant.layouts;
      within = omega (arith, length-drop l.end at.bytes.now);
      read = λ all comment read.
          reading-at c.args.machine.layouts all comment c.enter_whole.new.machine.registers c.enter_whole.new.machine.image (at.offset + l.end + size) (at.offset + (l.end + size)) (drop size (drop l.end at.bytes.now)) (drop (l.end + size) at.bytes.now) there (sym (drop-drop size l.end at.bytes.now))
          (taken-more c.args.machine.layouts l.machine.layouts l.invariant.layouts all comment l.machine.registers l.machine.image (at.offset + l.end) following.result.offset (drop l.end at.bytes.now) following.result.bytes.now following.ensures.offset following.ensures.bytes (l.invariant.read all comment read) size c.in_ok-entered.entered.is_last c.enter_whole.new.machine.registers c.enter_whole.new.machine.image (c.in_ok-entered.ensures.entered (omega arith)) c.if-entered.false);
    }
