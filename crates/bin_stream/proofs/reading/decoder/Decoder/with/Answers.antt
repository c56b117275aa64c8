use Rattle.std.proofs.Common.{refl}
use Rattle.bin_stream.proofs.FrontGrown.{keeps-nothing}
use Rattle.bin_stream.proofs.reading.decoder.Decoder.with.Goals as goal

pub returns-clause-stands : goal.returns-clause-stands
returns-clause-stands c = record { fed = refl; layouts_are = refl; stage = keeps-nothing c.new.result.items c.new.ensures.items }
