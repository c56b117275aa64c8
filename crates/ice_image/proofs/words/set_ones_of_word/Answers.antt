use Rattle.plane_map.specs.Runs.{run_place}
use Rattle.ice_image.specs.Contents.{word_bit_place}
use Rattle.ice_image.proofs.RunBits.{gained-at}
use Rattle.ice_image.proofs.words.set_ones_of_word.Goals as goal

pub returns-clause-written : goal.returns-clause-written
returns-clause-written g c =
    let args = c.args in
    gained-at (run_place c.word_run.result 16) (word_bit_place args.layout.now args.x args.y args.word) args.ones 16 args.bram.now c.set_run_ones.new.planes c.word_run.ensures.places c.set_run_ones.ensures.written
