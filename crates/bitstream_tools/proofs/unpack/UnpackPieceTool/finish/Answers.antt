use Rattle.std.specs.Prelude.{[], get_or}
use Rattle.std.proofs.lemmas.Result.{IfOk-weaker, IfErr-weaker}
use Rattle.bin_stream.specs.Decoding.{StandsFor}
use Rattle.bitstream_tools.specs.Unpack.{unpacked_under}
use Rattle.bitstream_tools.proofs.FirstText.{answer_is, answer_stops, first_read}
use Rattle.bitstream_tools.proofs.unpack.UnpackPieceTool.finish.Goals as goal

pub returns-clause-bytes : goal.returns-clause-bytes
returns-clause-bytes c =
    IfOk-weaker c.unpacked_text.result _ _ (λ made is layout texts taken.
    answer_is unpacked_under layout texts taken.0 _ taken.1 (is taken.0 (get_or texts 0 []) (first_read StandsFor taken.0 texts _ _ taken.2))) c.unpacked_text.ensures.text

pub returns-clause-stops : goal.returns-clause-stops
returns-clause-stops c =
    IfErr-weaker c.unpacked_text.result _ _ (λ stop stops layout texts taken.
    answer_stops unpacked_under layout texts taken.0 stop taken.1 (stops taken.0 (get_or texts 0 []) (first_read StandsFor taken.0 texts _ _ taken.2))) c.unpacked_text.ensures.stops
