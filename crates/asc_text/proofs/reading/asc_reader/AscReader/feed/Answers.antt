use Rattle.std.proofs.Common.{◌++◌}
use Rattle.std.proofs.lemmas.Result.{on_ok_weaker}
use Rattle.asc_text.proofs.Feeding.{front-of, taken-faultless}
use Rattle.asc_text.proofs.reading.asc_reader.AscReader.feed.Goals as goal

pub returns-clause-goes_on : goal.returns-clause-goes_on
returns-clause-goes_on c =
    let new = c.feed.new.self in
    on_ok_weaker c.feed.result (λ clear layouts text stands.
    let whole = text ++ c.args.piece.now in
    taken-faultless layouts whole new.taker new.kept.items (front-of layouts whole new.refusal new.taker new.kept.items (c.feed.ensures.stands layouts text stands.has) clear)) c.feed.ensures.clear
