use Rattle.std.proofs.Common.{◌≡◌, arith, sym}
use Rattle.std.proofs.lemmas.Bool.{eq-eqb}
use Rattle.vlog_engine.proofs.value.BoolValue.only.Goals as goal

pub returns : goal.returns
returns c other within =
    let same : other ≡ c.args._lane = omega (arith, within, c.requires) in
    sym (eq-eqb other c.args._lane same)
