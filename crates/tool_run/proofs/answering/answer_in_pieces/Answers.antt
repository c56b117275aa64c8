use Rattle.std.proofs.Common.{[], ◌∷◌, ℕ, List, ap, subst, sym}
use Rattle.std.specs.Prelude.{map}
use Rattle.tool_run.specs.Counts.{counts}
use Rattle.tool_run.specs.Loads.{IsTextOf, StopsLoading}
use Rattle.tool_run.specs.Needs.{Need, is_stream, layout_need, need_of}
use Rattle.tool_run.specs.Tasks.{Both}
use Rattle.tool_run.proofs.AfterLayout.{answers_after, answers_stopped}
use Rattle.tool_run.proofs.answering.answer_in_pieces.Goals as goal

pub returns-in-None : goal.returns-in-None
returns-in-None g c = rw c.in-None.is c.answer_taken.ensures

pub returns-in-Ok : goal.returns-in-Ok
returns-in-Ok g c =
    let F = g.F.Files in
    let I = g.I.Source in
    let e = c.in-Ok.ensures in
    let need_is = c.layout_load.ensures in
    let text = subst (λ (need : Need). IsTextOf (F.contents c.args.files.now) (I.left c.args.input.now) need c.in-Ok.bytes.items) need_is e.text in
    let known = subst (λ (bytes : List ℕ). IsTextOf (F.contents c.args.files.now) (I.left c.args.input.now) (layout_need c.in-Some.name.now) bytes) (sym c.deref.ensures.value) text in
    rw c.in-Some.is
    (answers_after F.contents F.steady (counts F.load_faults F.bytes_read) (counts F.store_faults F.stores) I.left (counts I.faults I.bytes_read) c.in-Some.name.now (map need_of c.args.loads.now) (g.T.PieceTool.answer_of c.args.tool.now) (λ made. Both (g.T.Made.Product.bytes made) (g.T.Made.Product.beside made))
    c.args.files.now c.load_one.new.files c.args.input.now c.load_one.new.input c.deref.result.now known e.same_contents (e.unread (ap (λ (need : Need). is_stream need.name) need_is))
    _ _ _ e.same_steady e.loads e.same_stores c.answer_taken-in-Ok.ensures)

pub returns-in-Err : goal.returns-in-Err
returns-in-Err g c =
    let F = g.F.Files in
    let I = g.I.Source in
    let e = c.in-Err.ensures in
    let need_is = c.layout_load.ensures in
    let new = c.load_one.new in
    let stops = subst (λ (need : Need). StopsLoading (F.contents c.args.files.now) (F.steady c.args.files.now) I.left (counts I.faults I.bytes_read) (need ∷ []) (counts F.load_faults F.bytes_read c.args.files.now) (counts F.load_faults F.bytes_read new.files) c.args.input.now new.input c.in-Err.stop)
    need_is e.stops in
    rw c.in-Some.is
    (answers_stopped F.contents F.steady (counts F.load_faults F.bytes_read) (counts F.store_faults F.stores) I.left (counts I.faults I.bytes_read) c.in-Some.name.now (map need_of c.args.loads.now) (g.T.PieceTool.answer_of c.args.tool.now) (λ made. Both (g.T.Made.Product.bytes made) (g.T.Made.Product.beside made))
    c.args.files.now new.files c.args.input.now new.input c.in-Err.stop stops e.same_contents e.same_stores (e.unread (ap (λ (need : Need). is_stream need.name) need_is)))
