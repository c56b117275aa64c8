use Rattle.std.proofs.Common.{◌-◌, ap, ◌∙◌, sym, arith}
use Rattle.std.proofs.lemmas.Bool.{MatchBool-at_true, MatchBool-at_false}
use Rattle.std.specs.Prelude.{Some}
use Rattle.std.proofs.lemmas.Result.{err_from_is_err_and}
use Rattle.std.specs.Result.{result_err}
use Rattle.chipdb_lines.specs.Words.{words_in}
use Rattle.chipdb_lines.proofs.TableBits.{Added-exact, Added-push, Added-outside, Added-list, Added-many, told-unnamed}
use Rattle.chipdb_lines.proofs.bits.push_each.Goals as goal

pub returns-in_err-push_bit-clause-named : goal.returns-in_err-push_bit-clause-named
returns-in_err-push_bit-clause-named c =
    let p = err_from_is_err_and c.from_residual.result c.from_residual.ensures.1 in
    rw (p.1, p.2) (told-unnamed c.args.columns c.args.bits.now.items c.loop-next.bits.items (words_in c.args.words.now) (words_in c.loop-next.left.now) (words_in c.in-Some.next.rest.now) c.in-Some.ensures.words.word c.in_err-push_bit.field-0.0
    c.loop-next.invariant.added c.in-Some.ensures.words.words_are (c.in_err-push_bit.ensures.named c.in-Some.ensures.words.word c.in-Some.ensures.words.names))

pub returns-then-not-branch-clause-named : goal.returns-then-not-branch-clause-named
returns-then-not-branch-clause-named c =
    let outside = MatchBool-at_false _ _ c.if-not-branch.true (c.in_ok-push_bit.ensures.named c.in-Some.ensures.words.word c.in-Some.ensures.words.names) in
    ap result_err (Added-outside c.args.columns c.args.bits.now.items c.loop-next.bits.items (words_in c.args.words.now) (words_in c.loop-next.left.now) (words_in c.in-Some.next.rest.now) c.in-Some.ensures.words.word outside.0
    c.loop-next.invariant.added c.in-Some.ensures.words.words_are outside.1 outside.2) ∙ ap (λ cause. Some cause) (sym c.cause_before.ensures)

pub returns-then-not-branch-clause-grown : goal.returns-then-not-branch-clause-grown
returns-then-not-branch-clause-grown c =
    let outside = MatchBool-at_false _ _ c.if-not-branch.true (c.in_ok-push_bit.ensures.named c.in-Some.ensures.words.word c.in-Some.ensures.words.names) in
    (c.loop-next.invariant.added.more, outside.3 ∙ c.loop-next.invariant.added.table)

pub loop-next-preserved : goal.loop-next-preserved
loop-next-preserved c =
    let there = MatchBool-at_true _ _ c.if-not-branch.false (c.in_ok-push_bit.ensures.named c.in-Some.ensures.words.word c.in-Some.ensures.words.names) in
    record {
      added = Added-push c.args.columns c.args.bits.now.items c.loop-next.bits.items c.push_bit.new.bits.items (words_in c.args.words.now) (words_in c.loop-next.left.now) (words_in c.in-Some.next.rest.now) c.in-Some.ensures.words.word there.0
          c.loop-next.invariant.added c.in-Some.ensures.words.words_are there.1 there.2 there.3;
      start_is = c.loop-next.invariant.start_is;
    }

pub returns-then-count-le64-clause-named : goal.returns-then-count-le64-clause-named
returns-then-count-le64-clause-named c =
    Added-list c.args.columns c.len-start.result (c.len.result - c.len-start.result) c.args.bits.now.items c.loop-next.bits.items (words_in c.args.words.now) (words_in c.loop-next.left.now)
    c.loop-next.invariant.added c.in_default.ensures.words c.loop-next.invariant.start_is (omega (arith, c.len.ensures, c.loop-next.bits.ok.0)) c.if-count-le64.true

pub returns-else-count-le64-clause-named : goal.returns-else-count-le64-clause-named
returns-else-count-le64-clause-named c =
    Added-many c.args.columns c.len-start.result (c.len.result - c.len-start.result) c.args.bits.now.items c.loop-next.bits.items (words_in c.args.words.now) (words_in c.loop-next.left.now)
    c.loop-next.invariant.added c.in_default.ensures.words c.loop-next.invariant.start_is (omega (arith, c.len.ensures, c.loop-next.bits.ok.0)) c.if-count-le64.false

pub returns-then-count-le64-clause-added : goal.returns-then-count-le64-clause-added
returns-then-count-le64-clause-added c =
    Added-exact c.args.columns c.len-start.result (c.len.result - c.len-start.result) c.args.bits.now.items c.loop-next.bits.items (words_in c.args.words.now) (words_in c.loop-next.left.now)
    c.loop-next.invariant.added c.loop-next.invariant.start_is (omega (arith, c.len.ensures, c.loop-next.bits.ok.0)) c.if-count-le64.true
