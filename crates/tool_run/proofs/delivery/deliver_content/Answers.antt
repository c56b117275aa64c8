use Rattle.std.proofs.Common.{◌≡◌, ℕ, List, refl, subst}
use Rattle.std.specs.Prelude.{Option, Some, None}
use Rattle.std.specs.Borrow.{Bor}
use Rattle.ice_io.specs.Files.{CountsStore, LeavesContent}
use Rattle.ice_io.specs.Put.{written_before}
use Rattle.tool_run.specs.Counts.{counts}
use Rattle.tool_run.specs.Effects.{FailsToTake}
use Rattle.tool_run.specs.Lines.{write_failed}
use Rattle.tool_run.specs.Needs.{text_of}
use Rattle.tool_run.proofs.Deliveries.{failed_at, store_fails, write_fails}
use Rattle.tool_run.proofs.delivery.deliver_content.Goals as goal

pub returns-in-Err-Store-clause-failed : goal.returns-in-Err-Store-clause-failed
returns-in-Err-Store-clause-failed g c = λ at is.
    let F = g.F.Files in
    let O = g.O.Sink in
    let old = c.args.files.now in
    let new = c.store_content.new.self in
    let output = c.args.output.now in
    let bytes = g.C.Content.bytes c.args.content in
    let name = c.in-Some.name.now in
    let fails : Option (Bor (List ℕ)) → Type 0 = λ named. FailsToTake F.contents (counts F.store_faults F.stores) O.held O.faults old new output output (λ said. said ≡ write_failed (text_of named)) (F.contents old) (text_of c.args.target) bytes in
    let leaves = subst (LeavesContent (F.contents old) (F.contents new) name bytes) c.in-Err-Store.field-0-is c.in-Err-Store.ensures.part in
    let rose = subst (CountsStore (F.store_faults old) (F.store_faults new)) c.in-Err-Store.field-0-is c.in-Err-Store.ensures.failed in
    subst fails (failed_at c.args.target at is)
    (rw c.in-Some.is (store_fails F.contents (counts F.store_faults F.stores) O.held O.faults old new output (λ said. said ≡ write_failed (Some name)) name bytes c.in-Err-Store.field-0-0 leaves rose refl))

pub returns-in-Err-clause-failed : goal.returns-in-Err-clause-failed
returns-in-Err-clause-failed g c = λ at is.
    let F = g.F.Files in
    let O = g.O.Sink in
    let files = c.args.files.now in
    let output = c.args.output.now in
    let new = c.write_to.new.sink in
    let bytes = g.C.Content.bytes c.args.content in
    let fails : Option (Bor (List ℕ)) → Type 0 = λ named. FailsToTake F.contents (counts F.store_faults F.stores) O.held O.faults files files output new (λ said. said ≡ write_failed (text_of named)) (F.contents files) (text_of c.args.target) bytes in
    subst fails (failed_at c.args.target at is)
    (rw c.in-None.is (write_fails F.contents (counts F.store_faults F.stores) O.held O.faults files files output new (λ said. said ≡ write_failed None) (F.contents files) bytes (written_before c.in-Err.field-0) refl c.in-Err.ensures.part c.in-Err.ensures.failed refl))
