use Rattle.std.specs.Cmp.{booleans_Decides}
use Rattle.std.proofs.lemmas.Slice.Eq.{slice_eq-Decides}
use Rattle.long_runs.proofs.seen.are_same_bits.Goals as goal

pub returns : goal.returns
returns c = slice_eq-Decides booleans_Decides c.args.some.now c.args.others.now c.eq.result c.eq.ensures
