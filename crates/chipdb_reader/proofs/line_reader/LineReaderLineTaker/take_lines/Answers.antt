use Rattle.std.proofs.Common.{◌≡◌, [], length, sym, ◌∙◌, arith}
use Rattle.std.proofs.lemmas.Bool.{eqb-false, eqb-true}
use Rattle.std.proofs.lemmas.Result.{err_from_is_err_and}
use Rattle.text_lines.proofs.Spaced.{empty}
use Rattle.chipdb_reader.proofs.Feeding.{Going-all, Going-first, Going-nothing, Going-on, Going-told, in_order}
use Rattle.chipdb_reader.proofs.line_reader.LineReaderLineTaker.take_lines.Goals as goal

pub loop-left-init : goal.loop-left-init
loop-left-init c = Going-nothing c.args.text.now c.args.self.now

pub loop-left-preserved : goal.loop-left-preserved
loop-left-preserved c =
    Going-first c.args.text.now c.loop-left.left.now c.in_ok-left.left.now c.args.self.now c.loop-left.self c.take_first.new.self c.loop-left.invariant c.in_ok-left.ensures.taken c.in_ok-left.ensures.counted

pub take_first-requires-clause-ready : goal.take_first-requires-clause-ready
take_first-requires-clause-ready c = (in_order c.loop-left.self (Going-on c.args.text.now c.loop-left.left.now c.args.self.now c.loop-left.self c.loop-left.invariant c.requires.ready)).ready

pub take_first-requires-clause-texts : goal.take_first-requires-clause-texts
take_first-requires-clause-texts c = (in_order c.loop-left.self (Going-on c.args.text.now c.loop-left.left.now c.args.self.now c.loop-left.self c.loop-left.invariant c.requires.ready)).texts

pub take_first-requires-clause-lists : goal.take_first-requires-clause-lists
take_first-requires-clause-lists c = (in_order c.loop-left.self (Going-on c.args.text.now c.loop-left.left.now c.args.self.now c.loop-left.self c.loop-left.invariant c.requires.ready)).lists

pub take_first-requires-clause-room : goal.take_first-requires-clause-room
take_first-requires-clause-room c =
    let some : length c.loop-left.left.now ≡ 0 → ⊥ = eqb-false (length c.loop-left.left.now) 0 (sym c.is_empty.ensures ∙ c.loop-left-test.true) in
    omega (arith, c.loop-left.invariant.counted, c.loop-left.invariant.short, c.requires.room, some)

pub returns-in_err-left-clause-refused : goal.returns-in_err-left-clause-refused
returns-in_err-left-clause-refused c =
    let p = err_from_is_err_and c.from_residual.result c.from_residual.ensures.1 in
    rw (p.1, p.2) (Going-told c.args.text.now c.loop-left.left.now c.args.self.now c.loop-left.self c.in_err-left.field-0.0 c.loop-left.invariant c.in_err-left.ensures.refused)

pub returns-clause-ready : goal.returns-clause-ready
returns-clause-ready c = Going-on c.args.text.now c.loop-left.left.now c.args.self.now c.loop-left.self c.loop-left.invariant c.requires.ready

pub returns-clause-bound : goal.returns-clause-bound
returns-clause-bound c = omega (arith, c.loop-left.invariant.counted, c.loop-left.invariant.short)

pub returns-clause-taken : goal.returns-clause-taken
returns-clause-taken c =
    let none : c.loop-left.left.now ≡ [] = empty c.loop-left.left.now (eqb-true (length c.loop-left.left.now) 0 (sym c.is_empty.ensures ∙ c.loop-left-test.false)) in
    Going-all c.args.text.now c.loop-left.left.now c.args.self.now c.loop-left.self c.loop-left.invariant none
