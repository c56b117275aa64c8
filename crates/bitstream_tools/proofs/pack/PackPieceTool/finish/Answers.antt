use Rattle.std.specs.Prelude.{[], get_or}
use Rattle.std.proofs.lemmas.Result.{IfOk-weaker, IfErr-weaker}
use Rattle.asc_text.specs.Feeding.{StandsFor}
use Rattle.bitstream_tools.specs.Pack.{packed_under}
use Rattle.bitstream_tools.proofs.FirstText.{answer_is, answer_stops, first_read}
use Rattle.bitstream_tools.proofs.pack.PackPieceTool.finish.Goals as goal

pub returns-clause-bytes : goal.returns-clause-bytes
returns-clause-bytes c =
    IfOk-weaker c.packed.result _ _ (λ made is layout texts taken.
    answer_is (packed_under c.args.self.now.no_sleep) layout texts taken.0 _ taken.1 (is taken.0 (get_or texts 0 []) (first_read StandsFor taken.0 texts _ _ taken.2))) c.packed.ensures.bytes

pub returns-clause-stops : goal.returns-clause-stops
returns-clause-stops c =
    IfErr-weaker c.packed.result _ _ (λ stop stops layout texts taken.
    answer_stops (packed_under c.args.self.now.no_sleep) layout texts taken.0 stop taken.1 (stops taken.0 (get_or texts 0 []) (first_read StandsFor taken.0 texts _ _ taken.2))) c.packed.ensures.stops
