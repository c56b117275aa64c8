use Rattle.asc_text.specs.Feeding.{StandsFor}
use Rattle.bitstream_tools.proofs.FirstText.{first_closed}
use Rattle.bitstream_tools.proofs.pack.PackPieceTool.close.Goals as goal

pub returns-clause-closed : goal.returns-clause-closed
returns-clause-closed c = λ layout texts bytes taken.
    (taken.0, taken.1, first_closed StandsFor taken.0 texts bytes c.args.intake.now.reader c.args.intake.now.is_open taken.2)
