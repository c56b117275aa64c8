use Rattle.asc_text.specs.InPieces.{canonical_in}
use Rattle.bitstream_tools.proofs.Packed.{unpacked_is}
use Rattle.bitstream_tools.proofs.unpacking.unpacked_text.Goals as goal

pub returns-in-Ok-clause-text : goal.returns-in-Ok-clause-text
returns-in-Ok-clause-text c = λ layouts bytes stands.
    unpacked_is layouts bytes (canonical_in c.in-Ok.text) (c.in-Ok.ensures.unpacked layouts bytes stands)

pub returns-in-Err-clause-stops : goal.returns-in-Err-clause-stops
returns-in-Err-clause-stops c = λ layouts bytes stands. c.stop_of.ensures _ (c.in-Err.ensures.refused layouts bytes stands)
