use Rattle.std.proofs.Common.{◌-◌, ap, arith, sym, ◌∙◌}
use Rattle.vlog_semantics.specs.Values.{bit_of}
use Rattle.vlog_engine.proofs.Bits.{bit-moved, bit-zero, first-moved}
use Rattle.vlog_engine.proofs.marks.next_one.Goals as goal
use Rattle.vlog_engine.proofs.marks.next_one.Goals.{else-from-lt64, then-from-lt64}

pub returns-then-left-eq0-clause-none : goal.returns-then-left-eq0-clause-none
returns-then-left-eq0-clause-none c k low high =
    elim c.if-from-lt64.branch [
      | then-from-lt64 w ↦
          sym (bit-moved c.args.word c.args.from k low) ∙ ap (λ left. bit_of left (k - c.args.from)) (sym w.left-is ∙ c.if-left-eq0.true) ∙ bit-zero (k - c.args.from)
      | else-from-lt64 w ↦ absurd (omega (arith, low, high, w.if-from-lt64))
    ]

pub returns-else-left-eq0-clause-last : goal.returns-else-left-eq0-clause-last
returns-else-left-eq0-clause-last c =
    elim c.if-from-lt64.branch [
      | then-from-lt64 w ↦
          let found = first-moved c.args.word c.args.from c.if-from-lt64.left (omega arith) w.left-is (omega (arith, c.if-left-eq0.false)) (omega (arith, w.left-is)) in
          omega (arith, found.0)
      | else-from-lt64 w ↦ absurd (omega (arith, w.left-is, c.if-left-eq0.false))
    ]

pub returns-else-left-eq0-clause-found : goal.returns-else-left-eq0-clause-found
returns-else-left-eq0-clause-found c inside =
    elim c.if-from-lt64.branch [
      | then-from-lt64 w ↦
          (first-moved c.args.word c.args.from c.if-from-lt64.left (omega arith) w.left-is (omega (arith, c.if-left-eq0.false)) (omega (arith, w.left-is))).1
      | else-from-lt64 w ↦ absurd (omega (arith, w.left-is, c.if-left-eq0.false))
    ]

pub returns-else-left-eq0-clause-none : goal.returns-else-left-eq0-clause-none
returns-else-left-eq0-clause-none c =
    elim c.if-from-lt64.branch [
      | then-from-lt64 w ↦
          (first-moved c.args.word c.args.from c.if-from-lt64.left (omega arith) w.left-is (omega (arith, c.if-left-eq0.false)) (omega (arith, w.left-is))).2
      | else-from-lt64 w ↦ absurd (omega (arith, w.left-is, c.if-left-eq0.false))
    ]
