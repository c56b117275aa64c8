use Rattle.std.proofs.Common.{refl, arith}
use Rattle.plane_map.specs.Runs.{run_place}
use Rattle.ice_image.specs.Contents.{word_bit_place}
use Rattle.ice_image.specs.Written.{bit_of_word}
use Rattle.ice_image.proofs.RunBits.{written-at}
use Rattle.ice_image.proofs.Written.{word-all}
use Rattle.ice_image.proofs.words.write_word.Goals as goal

pub returns-clause-value : goal.returns-clause-value
returns-clause-value g c =
    let args = c.args in
    let places = word_bit_place args.layout.now args.x args.y args.word in
    let written = written-at (run_place c.word_run.result 16) places (bit_of_word 16 args.value) 16 args.bram.now c.write_run.new.planes c.word_run.ensures.places c.write_run.ensures.written in
    (word-all args.layout.now args.x args.y args.word args.value 16 args.bram.now c.write_run.new.planes refl (omega arith) written).0
