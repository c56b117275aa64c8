use Rattle.std.proofs.Common.{sym, ◌∙◌}
use Rattle.fabric_wiring.proofs.Sooner.{sooner, no-sooner}
use Rattle.fabric_wiring.proofs.users.or_sooner.Goals.{else-on_grid-via-then-on_grid+else-goes_before, else-on_grid-via-else-on_grid}
use Rattle.fabric_wiring.proofs.users.or_sooner.Goals as goal

pub returns-then-goes_before : goal.returns-then-goes_before
returns-then-goes_before c = λ before is.
    sooner c.args.device before c.args.next c.args.found (sym c.on_grid.ensures ∙ c.if-on_grid.true) (sym c.goes_before.ensures ∙ c.if-goes_before.true) is

pub returns-else-on_grid : goal.returns-else-on_grid
returns-else-on_grid c = λ before is.
    no-sooner c.args.device before c.args.next c.args.found (λ grid sooner.
    elim c.else-on_grid.branch [
      | else-on_grid-via-then-on_grid+else-goes_before w ↦ absurd (cc (w.goes_before.ensures, w.if-goes_before.false, sooner))
      | else-on_grid-via-else-on_grid w ↦ absurd (cc (c.on_grid.ensures, w.if-on_grid.false, grid))
    ]) is
