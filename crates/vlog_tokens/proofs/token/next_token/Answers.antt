use Rattle.std.proofs.Common.{◌≡◌, ◌∙◌, ap, ◌+◌, ◌≤◌, ◌<◌, ◌-◌, length, length-drop, drop, arith}
use Rattle.vlog_tokens.specs.Tokens.{front_length, front_token}
use Rattle.vlog_tokens.proofs.Cuts.{spots_at-end, spots_at-token}
use Rattle.vlog_tokens.proofs.Longest.{front-longest}
use Rattle.vlog_tokens.proofs.token.next_token.Goals as goal

pub returns-then-at-bytes-clause-spots : goal.returns-then-at-bytes-clause-spots
returns-then-at-bytes-clause-spots c =
    let past : length c.args.bytes.now ≤ c.skip_blanks-at.result = omega arith in
    c.skip_blanks-at.ensures.same ∙ spots_at-end c.args.bytes.now c.skip_blanks-at.result past

pub returns-clause-spots : goal.returns-clause-spots
returns-clause-spots c =
    let inside : c.skip_blanks-at.result < length c.args.bytes.now = omega arith in
    c.skip_blanks-at.ensures.same
    ∙ (rw (c.front_token-length.ensures.token, c.front_token-length.ensures.length, c.rest_from.ensures.rest)
    (spots_at-token c.args.bytes.now c.skip_blanks-at.result inside (c.skip_blanks-at.ensures.stops inside)))

pub returns-clause-longest : goal.returns-clause-longest
returns-clause-longest c =
    let bytes = c.args.bytes.now in
    let at = c.skip_blanks-at.result in
    let some : 0 < length (drop at bytes) = omega (arith, length-drop at bytes) in
    let token = c.front_token-length.ensures.token ∙ ap front_token c.rest_from.ensures.rest in
    let long = c.front_token-length.ensures.length ∙ ap front_length c.rest_from.ensures.rest in
    let count : (at + c.front_token-length.result.1) - at ≡ front_length (drop at bytes) = omega (arith, long) in
    rw (token, count) (front-longest (drop at bytes) some)
