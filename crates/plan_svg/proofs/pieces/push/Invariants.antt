use Rattle.std.proofs.Common.{◌≡◌, ◌++◌, take}
use Rattle.plan_svg.specs.Pieces.{joined}
use Rattle.plan_svg.proofs.pieces.push.Given as goal

abbrev pub invariant-loop-piece : goal.invariant-loop-piece
invariant-loop-piece l = l.text.items ≡ l.initial.text.items ++ joined (take l.piece-index l.pieces)
