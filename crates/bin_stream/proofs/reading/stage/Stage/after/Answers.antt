use Rattle.std.proofs.Common.{subst}
use Rattle.bin_stream.specs.inside.Stages.{IsStage}
use Rattle.bin_stream.specs.declared.reading.stage.Stage.{Stage}
use Rattle.bin_stream.proofs.Stages.{read-image_stays, settles-grown}
use Rattle.ice_image.specs.Either.{configuration_of}
use Rattle.bin_stream.proofs.reading.stage.Stage.after.Goals as goal

pub returns-in-Image-clause-stands : goal.returns-in-Image-clause-stands
returns-in-Image-clause-stands c = λ bytes _ is.
    read-image_stays c.args.layouts c.requires.layouts bytes c.args.piece.now (configuration_of c.in-Image.image) (subst (λ (stage : Stage). IsStage c.args.layouts bytes stage) c.in-Image.is is)

pub returns-in-Refused-clause-stands : goal.returns-in-Refused-clause-stands
returns-in-Refused-clause-stands c = λ bytes _ is.
    settles-grown c.args.layouts c.requires.layouts bytes c.args.piece.now c.in-Refused.fault (subst (λ (stage : Stage). IsStage c.args.layouts bytes stage) c.in-Refused.is is)
