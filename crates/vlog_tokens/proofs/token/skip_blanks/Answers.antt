use Rattle.vlog_tokens.proofs.Cuts.{spots_at-blanks, unblank_after}
use Rattle.vlog_tokens.proofs.token.skip_blanks.Goals as goal

pub returns-clause-same : goal.returns-clause-same
returns-clause-same c =
    rw (c.blank_length.ensures.place, c.rest_from.ensures.rest) (spots_at-blanks c.args.bytes.now c.args.from)

pub returns-clause-stops : goal.returns-clause-stops
returns-clause-stops c =
    rw (c.blank_length.ensures.place, c.rest_from.ensures.rest) (unblank_after c.args.bytes.now c.args.from)
