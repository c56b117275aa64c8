use Rattle.std.proofs.Common.{◌≡◌, ℕ, List, ◌++◌, Ok, Err, ap, ◌∙◌, subst, OnOk, arith}
use Rattle.index_search.specs.Places.{gathered_below}
use Rattle.text_lines.specs.Written.{text_of}
use Rattle.plane_map.specs.Layout.{kind_of, grid_width, grid_height}
use Rattle.ice_image.specs.Either.{configuration_of}
use Rattle.asc_text.specs.Canonical.{lines_of_tile_at, all_tile_lines}
use Rattle.ice_io.specs.Put.{Sends}
use Rattle.ice_io.proofs.Sent.{passed-on}
use Rattle.asc_text.proofs.RowsSent.{rows-begun, rows-next, rows-failed}
use Rattle.asc_text.proofs.writing.canonical.write_tiles.Goals as goal

pub loop-y-init : goal.loop-y-init
loop-y-init g c = record {
  sends = rows-begun (g.K.Sink.held c.args.sink.now) c.args.before (λ y. gathered_below (grid_width (configuration_of c.args.image.now).layout.device) (λ x. lines_of_tile_at (configuration_of c.args.image.now) x y (kind_of (configuration_of c.args.image.now).layout.device x y)));
  most = omega arith;
  room = c.requires.room;
  faults = omega arith;
}

pub returns-in_err-sent-clause-sends : goal.returns-in_err-sent-clause-sends
returns-in_err-sent-clause-sends g c =
    let given : ℕ → List (List ℕ) = λ y. gathered_below (grid_width (configuration_of c.args.image.now).layout.device) (λ x. lines_of_tile_at (configuration_of c.args.image.now) x y (kind_of (configuration_of c.args.image.now).layout.device x y)) in
    let all = grid_height (configuration_of c.args.image.now).layout.device in
    let fault = c.in_err-sent.field-0.0 in
    let row : c.deref.result.now ≡ text_of (given c.loop-y.y) = c.deref.ensures.value ∙ subst (λ result. OnOk result (c.append_grid_row.new.text.items ≡ c.clear.new.self.items ++ text_of (given c.loop-y.y))) c.unwrap.ensures c.append_grid_row.ensures.text ∙ ap (λ front. front ++ text_of (given c.loop-y.y)) c.clear.ensures.items in
    passed-on (Sends (g.K.Sink.held c.args.sink.now) (g.K.Sink.held c.write_piece.new.sink) c.args.before (text_of (all_tile_lines (configuration_of c.args.image.now)))) c.from_residual.result fault c.from_residual.ensures.1
    (rows-failed (g.K.Sink.held c.args.sink.now) (g.K.Sink.held c.write_piece.new.sink) c.args.before c.loop-y.y all given fault (omega (arith, ap grid_height c.device.ensures.device))
    (rows-next (g.K.Sink.held c.args.sink.now) (g.K.Sink.held c.loop-y.sink) (g.K.Sink.held c.write_piece.new.sink) c.args.before c.loop-y.sent c.loop-y.y given c.deref.result.now (Err fault) row c.loop-y.invariant.sends c.in_err-sent.ensures.sends))

pub loop-y-preserved : goal.loop-y-preserved
loop-y-preserved g c =
    let given : ℕ → List (List ℕ) = λ y. gathered_below (grid_width (configuration_of c.args.image.now).layout.device) (λ x. lines_of_tile_at (configuration_of c.args.image.now) x y (kind_of (configuration_of c.args.image.now).layout.device x y)) in
    let row : c.deref.result.now ≡ text_of (given c.loop-y.y) = c.deref.ensures.value ∙ subst (λ result. OnOk result (c.append_grid_row.new.text.items ≡ c.clear.new.self.items ++ text_of (given c.loop-y.y))) c.unwrap.ensures c.append_grid_row.ensures.text ∙ ap (λ front. front ++ text_of (given c.loop-y.y)) c.clear.ensures.items in
    record {
      sends = rows-next (g.K.Sink.held c.args.sink.now) (g.K.Sink.held c.loop-y.sink) (g.K.Sink.held c.write_piece.new.sink) c.args.before c.loop-y.sent c.loop-y.y given c.deref.result.now (Ok c.in_ok-sent.sent) row c.loop-y.invariant.sends c.in_ok-sent.ensures.sends;
      most = omega (arith, c.in_ok-sent.ensures.sends.1, c.deref.ensures.len, c.append_grid_row.ensures.most, c.clear.ensures.len, c.loop-y.invariant.most);
      room = omega (arith, c.append_grid_row.ensures.room, c.clear.ensures.capacity, c.loop-y.invariant.room);
      faults = omega (arith, c.loop-y.invariant.faults, c.in_ok-sent.ensures.never_falls);
    }
