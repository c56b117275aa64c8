use Rattle.std.proofs.Common.{sym}
use Rattle.std.specs.List.{before_first}
use Rattle.text_lines.specs.Words.{number_of}
use Rattle.chipdb_lines.specs.Words.{is_bracket}
use Rattle.chipdb_lines.proofs.Heads.{bit-without_bracket}
use Rattle.chipdb_lines.proofs.bits.bit_in.Goals as goal

pub returns-in_err-place : goal.returns-in_err-place
returns-in_err-place c =
    rw c.from_residual.ensures
    (bit-without_bracket c.args.inside.now (number_of (before_first is_bracket c.args.inside.now)) (sym c.in_err-place.ensures))
