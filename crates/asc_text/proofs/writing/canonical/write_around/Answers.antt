use Rattle.std.proofs.Common.{ℕ, List, ◌++◌, Ok, Err}
use Rattle.text_lines.specs.Written.{text_of}
use Rattle.ice_image.specs.Either.{configuration_of}
use Rattle.asc_text.specs.Canonical.{all_tile_lines}
use Rattle.ice_io.specs.Put.{Sends}
use Rattle.ice_io.proofs.Sent.{passed-on, Sends-next, Sends-front}
use Rattle.asc_text.proofs.writing.canonical.write_around.Goals as goal

pub returns-in_err-start-clause-sends : goal.returns-in_err-start-clause-sends
returns-in_err-start-clause-sends g c =
    let tiles : List ℕ = text_of (all_tile_lines (configuration_of c.args.image.now)) in
    let fault = c.in_err-start.field-0.0 in
    passed-on (Sends (g.K.Sink.held c.args.sink.now) (g.K.Sink.held c.write_piece.new.sink) 0 (c.args.before.now ++ tiles ++ c.args.following.now)) c.from_residual.result fault c.from_residual.ensures.1
    (Sends-front (g.K.Sink.held c.args.sink.now) (g.K.Sink.held c.write_piece.new.sink) 0 (c.args.before.now ++ tiles) c.args.following.now fault
    (Sends-front (g.K.Sink.held c.args.sink.now) (g.K.Sink.held c.write_piece.new.sink) 0 c.args.before.now tiles fault c.in_err-start.ensures.sends))

pub returns-in_err-end-clause-sends : goal.returns-in_err-end-clause-sends
returns-in_err-end-clause-sends g c =
    let tiles : List ℕ = text_of (all_tile_lines (configuration_of c.args.image.now)) in
    let fault = c.in_err-end.field-0.0 in
    passed-on (Sends (g.K.Sink.held c.args.sink.now) (g.K.Sink.held c.write_tiles.new.sink) 0 (c.args.before.now ++ tiles ++ c.args.following.now)) c.from_residual-in_err-end.result fault c.from_residual-in_err-end.ensures.1
    (Sends-front (g.K.Sink.held c.args.sink.now) (g.K.Sink.held c.write_tiles.new.sink) 0 (c.args.before.now ++ tiles) c.args.following.now fault
    (Sends-next (g.K.Sink.held c.args.sink.now) (g.K.Sink.held c.write_piece.new.sink) (g.K.Sink.held c.write_tiles.new.sink) 0 c.in_ok-start.start c.args.before.now tiles (Err fault) c.in_ok-start.ensures.sends c.in_err-end.ensures.sends))

pub returns-clause-sends : goal.returns-clause-sends
returns-clause-sends g c =
    let tiles : List ℕ = text_of (all_tile_lines (configuration_of c.args.image.now)) in
    Sends-next (g.K.Sink.held c.args.sink.now) (g.K.Sink.held c.write_tiles.new.sink) (g.K.Sink.held c.write_piece-2.new.sink) 0 c.in_ok-end.end (c.args.before.now ++ tiles) c.args.following.now c.write_piece-2.result
    (Sends-next (g.K.Sink.held c.args.sink.now) (g.K.Sink.held c.write_piece.new.sink) (g.K.Sink.held c.write_tiles.new.sink) 0 c.in_ok-start.start c.args.before.now tiles (Ok c.in_ok-end.end) c.in_ok-start.ensures.sends c.in_ok-end.ensures.sends)
    c.write_piece-2.ensures.sends
