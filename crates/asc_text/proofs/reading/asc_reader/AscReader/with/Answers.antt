use Rattle.std.proofs.Common.{◌≡◌, ap, ◌∙◌, arith}
use Rattle.text_lines.specs.Feeding.{taker_of}
use Rattle.asc_text.specs.declared.reading.asc_lines.AscLines.{AscLines}
use Rattle.asc_text.specs.inside.Reading.{begun, state_of}
use Rattle.asc_text.proofs.LinesRead.{IsReached-none}
use Rattle.asc_text.proofs.reading.asc_reader.AscReader.with.Goals as goal

pub invariant_of-result : goal.invariant_of-result
invariant_of-result c =
    let state : state_of (taker_of c.new.result).reader ≡ begun c.args.layouts =
    ap (λ (taker : AscLines). state_of taker.reader) c.new.ensures.taker ∙ c.new-reader.ensures in
    record {
      reached = λ none. IsReached-none c.args.layouts (state_of (taker_of c.new.result).reader) c.requires state;
      room = λ none. omega (arith, c.new.ensures.fed);
      limit = omega arith;
    }
