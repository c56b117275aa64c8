use Rattle.std.proofs.Common.{◌≡◌, ◌&&◌, Bool, true, false, refl}
use Rattle.clap.specs.Words.{app_of, built, is_simple}
use Rattle.clap.specs.Faults.{is_free_app}
use Rattle.tool_inputs.proofs.commands.parse.Goals as goal

first_true : (b c : Bool) → (b && c) ≡ true → b ≡ true
first_true true c e = refl
first_true false c e = e

pub returns-in-Ok-clause-rows : goal.returns-in-Ok-clause-rows
returns-in-Ok-clause-rows c =
    (c.in-Ok.ensures.matches (first_true (is_simple (app_of c.args.command)) (is_free_app (built (app_of c.args.command))) c.requires)).0
