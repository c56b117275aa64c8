use Rattle.std.proofs.Common.{[], refl}
use Rattle.text_lines.proofs.Fronts.{front-none}
use Rattle.text_lines.proofs.feed.LineFeed+T+T+Refusal.new.Goals as goal

pub returns-clause-stands : goal.returns-clause-stands
returns-clause-stands g c = λ setting taken. front-none g.T.LineTaker.has_taken setting c.args.taker [] _ refl c.new.ensures.items taken
