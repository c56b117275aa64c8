use Rattle.std.proofs.Common.{◌≤◌, ◌<◌, [], ◌∷◌, ◌++◌, length, length-set, take_all, slice_index_or, sym, ap, ◌∙◌, arith}
use Rattle.std.proofs.lemmas.List.{take_more, take_more_set}
use Rattle.layout_file.proofs.narrow.bytes.Goals as goal

pub loop-place-preserved : goal.loop-place-preserved
loop-place-preserved g c =
    let k = c.loop-place.place in
    let value = slice_index_or c.args.numbers.now k 0 in
    let inside : k < length c.loop-place.bytes = omega (arith, c.loop-place.invariant.size) in
    let given : k < length c.args.numbers.now = omega (arith, c.requires.count) in
    record {
      size = length-set _ _ _ ∙ c.loop-place.invariant.size;
      filled = take_more_set c.loop-place.bytes k value inside
          ∙ ap (λ before. before ++ value ∷ []) c.loop-place.invariant.filled
          ∙ sym (take_more c.args.numbers.now k 0 given);
    }

pub returns : goal.returns
returns g c =
    let k = c.loop-place.place in
    let whole : length c.loop-place.bytes ≤ k = omega (arith, c.loop-place.invariant.size) in
    let all : length c.args.numbers.now ≤ k = omega (arith, c.requires.count) in
    sym (take_all k c.loop-place.bytes whole) ∙ c.loop-place.invariant.filled ∙ take_all k c.args.numbers.now all
