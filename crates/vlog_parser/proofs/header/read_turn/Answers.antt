use Rattle.std.proofs.Common.{length, ap, sym, ◌∙◌}
use Rattle.vlog_tokens.specs.Tokens.{seen, spots_at}
use Rattle.vlog_forms.specs.Outcome.{port_names}
use Rattle.vlog_forms.specs.Outcome.Turn.{Named}
use Rattle.vlog_form_parser.specs.Found.{all_found}
use Rattle.vlog_parser.specs.Headers.{turn_of}
use Rattle.vlog_parser.proofs.Turns.{turn-none, turn-step}
use Rattle.vlog_parser.proofs.header.read_turn.Goals as goal

pub returns-in-None-clause-reads : goal.returns-in-None-clause-reads
returns-in-None-clause-reads c =
    turn-none (length c.args.bytes.now) (turn_of c.args.turn) (all_found c.args.names.now.items) (spots_at c.args.bytes.now c.args.from) c.in-None.ensures.spots

pub returns-in-Ok-clause-reads : goal.returns-in-Ok-clause-reads
returns-in-Ok-clause-reads c =
    turn-step (length c.args.bytes.now) (turn_of c.args.turn) (all_found c.args.names.now.items) (spots_at c.args.bytes.now c.args.from) c.in-Some.spot.at (seen c.in-Some.spot.token) (spots_at c.args.bytes.now c.in-Some.spot.end) _
    c.in-Some.ensures.spots c.in-TakesName.ensures
    ∙ ap (λ found. port_names (length c.args.bytes.now) Named found (spots_at c.args.bytes.now c.in-Some.spot.end)) (sym c.in-Ok.ensures)

pub returns-in-Parts-clause-reads : goal.returns-in-Parts-clause-reads
returns-in-Parts-clause-reads c =
    turn-step (length c.args.bytes.now) (turn_of c.args.turn) (all_found c.args.names.now.items) (spots_at c.args.bytes.now c.args.from) c.in-Some.spot.at (seen c.in-Some.spot.token) (spots_at c.args.bytes.now c.in-Some.spot.end) _
    c.in-Some.ensures.spots c.in-Parts.ensures

pub returns-in-Closes-clause-reads : goal.returns-in-Closes-clause-reads
returns-in-Closes-clause-reads c =
    turn-step (length c.args.bytes.now) (turn_of c.args.turn) (all_found c.args.names.now.items) (spots_at c.args.bytes.now c.args.from) c.in-Some.spot.at (seen c.in-Some.spot.token) (spots_at c.args.bytes.now c.in-Some.spot.end) _
    c.in-Some.ensures.spots c.in-Closes.ensures

pub returns-in-Stops-clause-reads : goal.returns-in-Stops-clause-reads
returns-in-Stops-clause-reads c =
    turn-step (length c.args.bytes.now) (turn_of c.args.turn) (all_found c.args.names.now.items) (spots_at c.args.bytes.now c.args.from) c.in-Some.spot.at (seen c.in-Some.spot.token) (spots_at c.args.bytes.now c.in-Some.spot.end) _
    c.in-Some.ensures.spots c.in-Stops.ensures
